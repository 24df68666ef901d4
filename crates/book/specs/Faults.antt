-- When a text is a book, and which fault it has else.
use Rattle.std.specs.Prelude.{◌≡◌, ℕ, ◌<◌, ◌≤◌, if◌then◌else◌, ◌||◌, List, [], ◌∷◌, ◌++◌, map, length, Some, None, Option, ◌≢◌, nat_lt, Ok, Err}
use Rattle.book.specs.declared.refusals.Reason.{Reason}
use Rattle.book.specs.declared.refusals.Reason.TheVariants.{TooLong, NotAllowed, PastLimit, Twice, Unbound}
use Rattle.book.specs.declared.terminals.Terminal.{Terminal}
use Rattle.book.specs.Rules.{Rule}
use Rattle.book.specs.Sets.{has, has_field}
use Rattle.book.specs.Grammar.{Role, plain, starts, names, binds, counts, uses, Item, items, tokens_of}
use Rattle.book.specs.Text.{Got, Lexeme, lexemes}

-- The fault of a token in its role, the one with the smallest number where there are several. A book has at most 16 rules and 64 nodes,
-- 8 of them inside one another, and a pattern at most 4 conditions.
abbrev pub role_fault : Role → Option Reason
role_fault plain = None
role_fault (starts k n d) = if nat_lt 16 k || nat_lt 64 n || nat_lt 8 d then Some PastLimit else None
role_fault (names fs f) = if has_field fs f then Some Twice else None
role_fault (binds ls l) = if has ls l then Some Twice else None
role_fault (counts k) = if nat_lt 4 k then Some PastLimit else None
role_fault (uses k s l) = if nat_lt 4 k then Some PastLimit else (if has s l then None else Some Unbound)

-- after n nodes and inside d of them, one node more may begin
pub record HasRoom (n d : ℕ) : Type 0 where
  pub few : n < 64
  pub shallow : d < 8

abbrev pub fault : Item → Option Reason
fault i = role_fault i.role

abbrev pub AllSound : List Item → Type 0
AllSound [] = Unit {0}
AllSound (i ∷ is) = (fault i ≡ None) × AllSound is

abbrev pub gots : List Lexeme → List Got
gots = map (λ l. l.got)

abbrev pub meant : List Item → List Got
meant = map (λ i. Ok i.token)

-- The text is the book b: its tokens are those of b, and none is at fault there.
pub record Accepted (text : List ℕ) (b : List Rule) : Type 0 where
  pub short : length text ≤ 8192
  pub written : gots (lexemes text) ≡ meant (items b)
  pub sound : AllSound (items b)

-- The fault of what stands after the tokens of pre.
pub data FaultAt (pre : List Item) : Got → Reason → Type 0 where
  -- it is no token, or a bad number
  unread : {r : Reason} → FaultAt pre (Err r) r
  -- no book goes on with it
  strange : {t : Terminal} → ((b : List Rule) (more : List Terminal) → tokens_of (items b) ≢ tokens_of pre ++ t ∷ more) → FaultAt pre (Ok t) NotAllowed
  -- books go on with it, and there it is at fault
  past : {r : Reason} (b : List Rule) (i : Item) (more : List Item) → items b ≡ pre ++ i ∷ more → fault i ≡ Some r → FaultAt pre (Ok i.token) r

-- The first token at fault stands at place p, for the reason r.
pub record FirstFault (text : List ℕ) (r : Reason) (p : ℕ) : Type 0 where
  pub before : List Lexeme
  pub here : Lexeme
  pub after : List Lexeme
  pub split : lexemes text ≡ before ++ here ∷ after
  pub place : here.place ≡ p
  -- the tokens before are those of the beginning of a book, and none is at fault there
  pub pre : List Item
  pub read : gots before ≡ meant pre
  pub sound : AllSound pre
  pub book : List Rule
  pub rest : List Item
  pub begins : items book ≡ pre ++ rest
  pub fault : FaultAt pre here.got r

pub data Refused (text : List ℕ) : Reason → ℕ → Type 0 where
  long : 8192 < length text → Refused text TooLong 0
  first : {r : Reason} {p : ℕ} → length text ≤ 8192 → FirstFault text r p → Refused text r p
