-- When a pattern matches a line, and which letters it then gives. Assumes nothing.
use Rattle.std.specs.Prelude.{ℕ, ◌+◌, ◌*◌, ◌≤◌, Bool, if◌then◌else◌, List, [], ◌∷◌, Some, None, Option, unwrap_or, option_and_then, ◌==◌, nat_le, slice_index_or, slice_set}
use Rattle.std.specs.List.{list_all}
use Rattle.feed.specs.Lines.{value}
use Rattle.feed.specs.declared.lines.Line.{Line}
use Rattle.book.specs.Letters.{letter_index}
use Rattle.book.specs.Rules.{Pattern, never, lines}
use Rattle.book.specs.Sizes.{pattern_number}
use Rattle.book.specs.declared.terms.Letter.{Letter}
use Rattle.book.specs.declared.terms.Operand.{Operand}
use Rattle.book.specs.declared.terms.Operand.TheVariants as operand
use Rattle.book.specs.declared.terms.Binder.{Binder}
use Rattle.book.specs.declared.terms.Part.{Part}
use Rattle.book.specs.declared.terms.Part.TheVariants as part
use Rattle.book.specs.declared.terms.Sum.{Sum}
use Rattle.book.specs.declared.terms.Sum.TheVariants.{One, Two, Three}
use Rattle.book.specs.declared.terms.Sign.{Sign}
use Rattle.book.specs.declared.terms.Sign.TheVariants.{AtMost, AtLeast, Equal}
use Rattle.book.specs.declared.terms.Condition.{Condition}
use Rattle.duty.specs.declared.matching.Effect.{Effect}
use Rattle.duty.specs.declared.matching.Effect.TheVariants.{Ends, Acts, Passes}

-- bindings give numbers to some of the eight letters
abbrev pub Bindings : Type 0
Bindings = List (Option ℕ)

-- no letter bound
abbrev pub unbound : Bindings
unbound = None ∷ None ∷ None ∷ None ∷ None ∷ None ∷ None ∷ None ∷ []

-- what a letter is bound to
abbrev pub bound : Bindings → Letter → Option ℕ
bound f a = slice_index_or f (letter_index a) None

-- a condition of a book speaks of bound letters alone
abbrev pub part_value : Bindings → Part → ℕ
part_value f (part.Number x) = x
part_value f (part.Bound a) = unwrap_or (bound f a) 0
part_value f (part.Product x a) = x * unwrap_or (bound f a) 0

abbrev pub sum_value : Bindings → Sum → ℕ
sum_value f (One x) = part_value f x
sum_value f (Two x y) = part_value f x + part_value f y
sum_value f (Three x y z) = part_value f x + part_value f y + part_value f z

abbrev pub compared : Sign → ℕ → ℕ → Bool
compared AtMost x y = nat_le x y
compared AtLeast x y = nat_le y x
compared Equal x y = x == y

abbrev pub holds : Bindings → Condition → Bool
holds f c = compared c.sign (sum_value f c.left) (sum_value f c.right)

abbrev pub all_hold : Bindings → List Condition → Bool
all_hold f cs = list_all (holds f) cs

-- a bound letter needs its number in the line; an unbound one is bound to what the line has
abbrev pub agreed : Option ℕ → Letter → ℕ → Bindings → Option Bindings
agreed (Some x) a y f = (if x == y then Some f else None)
agreed None a y f = Some (slice_set f (letter_index a) (Some y))

-- so does a number
abbrev pub agrees : Operand → ℕ → Bindings → Option Bindings
agrees (operand.Number x) y f = (if x == y then Some f else None)
agrees (operand.Bound a) y f = agreed (bound f a) a y f

-- every binder agrees
abbrev pub bind : List Binder → Line → Bindings → Option Bindings
bind [] l f = Some f
bind (b ∷ bs) l f = option_and_then (bind bs l) (agrees b.operand (value l b.field) f)

-- none where the pattern does not match; else the bindings enlarged by the new letters
unfoldable pub matches : Pattern → Line → Bindings → Option Bindings
matches never l f = None
matches (lines bs cs) l f = option_and_then (λ g. if all_hold g cs then Some g else None) (bind bs l f)

abbrev pub acting : Option Bindings → Effect
acting None = Passes
acting (Some g) = Acts g

abbrev pub ending : Option Bindings → Effect → Effect
ending None e = e
ending (Some g) e = Ends

-- what a line does to a rule `.. p .. q ..`: q, its deadline or end, is tested first
unfoldable pub effect : Pattern → Pattern → Bindings → Line → Effect
effect p q f l = ending (matches q l f) (acting (matches p l f))

-- the numbers of a book's patterns are at most 9,999,999
abbrev pub Limited : Pattern → Type 0
Limited p = pattern_number p ≤ 9999999
