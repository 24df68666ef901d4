-- The grammar: each tree, and the tokens that it is written in, with what each token does there.
use Rattle.std.specs.Prelude.{ℕ, ◌+◌, List, [], ◌∷◌, ◌++◌, map}
use Rattle.feed.specs.declared.fields.Field.{Field}
use Rattle.book.specs.declared.terms.Letter.{Letter}
use Rattle.book.specs.declared.terms.Binder.{Binder}
use Rattle.book.specs.declared.terms.Operand.{Operand}
use Rattle.book.specs.declared.terms.Operand.TheVariants as operand
use Rattle.book.specs.declared.terms.Part.{Part}
use Rattle.book.specs.declared.terms.Part.TheVariants as part
use Rattle.book.specs.declared.terms.Sum.{Sum}
use Rattle.book.specs.declared.terms.Sum.TheVariants.{One, Two, Three}
use Rattle.book.specs.declared.terms.Condition.{Condition}
use Rattle.book.specs.declared.terminals.Terminal.{Terminal}
use Rattle.book.specs.declared.terminals.Terminal.TheVariants.{Duty, Before, Trigger, Until, Then, Joint, Never, If, Named, Lettered, Numeral, Compare, Plus, Times, Comma, Semicolon, Open, Close, OpenSquare, CloseSquare, End}
use Rattle.book.specs.Rules.{Pattern, never, lines, Rule, duty, trigger, bracket}
use Rattle.book.specs.Sizes.{nodes as size}
use Rattle.book.specs.Sets.{Fields, Letters, no_letters, no_fields, with_field, with_operand, with_binders, with_pattern}

-- What a token does where it stands.
pub data Role : Type 0 where
  -- nothing that a limit or a scope speaks of
  plain : Role
  -- it begins a node: the number of its rule in the book, of the nodes begun with this one, of the nodes inside one another with this one
  starts : ℕ → ℕ → ℕ → Role
  -- it names a field, after those of the same list
  names : Fields → Field → Role
  -- it binds a letter, after those of the same list
  binds : Letters → Letter → Role
  -- it is a number in the k-th condition of a pattern; a condition begins with a number or a letter
  counts : ℕ → Role
  -- it is a letter in the k-th condition of a pattern, where these are bound
  uses : ℕ → Letters → Letter → Role

pub record Item : Type 0 where
  pub token : Terminal
  pub role : Role

abbrev pub item : Terminal → Role → Item
item t r = record { token = t; role = r }

abbrev pub mark : Terminal → Item
mark t = item t plain

-- what an operand is written as, after the letters of the same list
abbrev pub operand_item : Letters → Operand → Item
operand_item ls (operand.Number n) = mark (Numeral n)
operand_item ls (operand.Bound l) = item (Lettered l) (binds ls l)

-- the binders after the first, each behind a comma
abbrev pub more_binders : Fields → Letters → List Binder → List Item
more_binders fs ls [] = []
more_binders fs ls (b ∷ bs) =
    mark Comma ∷ item (Named b.field) (names fs b.field) ∷ operand_item ls b.operand ∷ more_binders (with_field fs b.field) (with_operand ls b.operand) bs

abbrev pub binder_items : List Binder → List Item
binder_items [] = []
binder_items (b ∷ bs) =
    item (Named b.field) (names no_fields b.field) ∷ operand_item no_letters b.operand ∷ more_binders (with_field no_fields b.field) (with_operand no_letters b.operand) bs

-- a part in the k-th condition, where the letters s are bound
abbrev pub part_items : ℕ → Letters → Part → List Item
part_items k s (part.Number n) = item (Numeral n) (counts k) ∷ []
part_items k s (part.Bound l) = item (Lettered l) (uses k s l) ∷ []
part_items k s (part.Product n l) = item (Numeral n) (counts k) ∷ mark Times ∷ item (Lettered l) (uses k s l) ∷ []

abbrev pub sum_items : ℕ → Letters → Sum → List Item
sum_items k s (One p) = part_items k s p
sum_items k s (Two p q) = part_items k s p ++ (mark Plus ∷ part_items k s q)
sum_items k s (Three p q r) = part_items k s p ++ (mark Plus ∷ (part_items k s q ++ (mark Plus ∷ part_items k s r)))

abbrev pub condition_items : ℕ → Letters → Condition → List Item
condition_items k s c = sum_items k s c.left ++ (mark (Compare c.sign) ∷ sum_items k s c.right)

-- the conditions from the k-th on, up to the `]`
abbrev pub conditions_items : ℕ → Letters → Condition → List Condition → List Item
conditions_items k s c [] = condition_items k s c ++ (mark CloseSquare ∷ [])
conditions_items k s c (d ∷ ds) = condition_items k s c ++ (mark Comma ∷ conditions_items (k + 1) s d ds)

-- what follows the binders
abbrev pub if_items : Letters → List Condition → List Item
if_items s [] = mark CloseSquare ∷ []
if_items s (c ∷ cs) = mark If ∷ conditions_items 1 s c cs

-- a pattern where the letters s are bound from outside
abbrev pub pattern_items : Letters → Pattern → List Item
pattern_items s never = mark Never ∷ []
pattern_items s (lines bs cs) = mark OpenSquare ∷ (binder_items bs ++ if_items (with_binders s bs) cs)

-- Where a rule stands: the number of the book's rule that it is in, the nodes begun before it, those around it, the letters bound.
pub record Spot : Type 0 where
  pub rule : ℕ
  pub nodes : ℕ
  pub around : ℕ
  pub bound : Letters

abbrev pub spot : ℕ → ℕ → ℕ → Letters → Spot
spot k n d ls = record { rule = k; nodes = n; around = d; bound = ls }

-- a node begins here
abbrev pub started : Spot → Role
started s = starts s.rule (s.nodes + 1) (s.around + 1)

-- inside the node that stands at s
abbrev pub deeper : Spot → Letters → Spot
deeper s ls = spot s.rule (s.nodes + 1) (s.around + 1) ls

-- after k nodes more
abbrev pub later : Spot → ℕ → Spot
later s k = spot s.rule (s.nodes + k) s.around s.bound

-- The letters that a trigger's first pattern binds hold in its duty alone.
abbrev pub rule_items : Spot → Rule → List Item
rule_items s (duty k p q) = item (Duty k) (started s) ∷ (pattern_items s.bound p ++ (mark Before ∷ pattern_items s.bound q))
rule_items s (trigger k p q r) =
    item (Trigger k) (started s) ∷ (pattern_items s.bound p ++ (mark Until ∷ (pattern_items s.bound q ++ (mark Then ∷ rule_items (deeper s (with_pattern s.bound p)) r))))
rule_items s (bracket k r t) =
    item Open (started s) ∷ (rule_items (deeper s s.bound) r ++ (mark (Joint k) ∷ (rule_items (later (deeper s s.bound) (size r)) t ++ (mark Close ∷ []))))

-- the outermost place in the k-th rule, after n nodes
abbrev pub top : ℕ → ℕ → Spot
top k n = spot k n 0 no_letters

-- the rules after k rules with n nodes
abbrev pub book_items : ℕ → ℕ → List Rule → List Item
book_items k n [] = mark End ∷ []
book_items k n (r ∷ rs) = rule_items (top (k + 1) n) r ++ (mark Semicolon ∷ book_items (k + 1) (n + size r) rs)

abbrev pub items : List Rule → List Item
items = book_items 0 0

abbrev pub tokens_of : List Item → List Terminal
tokens_of = map (λ i. i.token)
