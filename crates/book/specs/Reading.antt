-- What one reader of the code did: it read a tree, or it found the first fault.
use Rattle.std.specs.Prelude.{◌≡◌, ℕ, List, ◌∷◌, ◌++◌, Some, ◌≢◌, Ok, Err}
use Rattle.book.specs.declared.refusals.Reason.{Reason}
use Rattle.book.specs.declared.refusals.Reason.TheVariants.{NotAllowed}
use Rattle.book.specs.declared.terminals.Terminal.{Terminal}
use Rattle.book.specs.Grammar.{Item, tokens_of}
use Rattle.book.specs.Text.{Got, Lexeme}
use Rattle.book.specs.Faults.{fault, AllSound, gots, meant}

-- The lexemes from are those of the sound items is, and then to.
pub record Reads (from : List Lexeme) (is : List Item) (to : List Lexeme) : Type 0 where
  pub before : List Lexeme
  pub split : from ≡ before ++ to
  pub read : gots before ≡ meant is
  pub sound : AllSound is

-- The tokens u may follow the tree x, where S says of a token whether x stops before it.
abbrev pub Fits : {X : Type 0} → (X → Terminal → Type 0) → X → List Terminal → Type 0
Fits S x u = (t : Terminal) (v : List Terminal) → u ≡ t ∷ v → S x t

-- of a tree that shows its own end
abbrev pub any : (X : Type 0) → X → Terminal → Type 0
any X x t = Unit {0}

-- The fault of what stands after pre, where a tree is wanted that is written as P says and stops as S says.
pub data FaultIn (X : Type 0) (P : X → List Item) (S : X → Terminal → Type 0) (pre : List Item) : Got → Reason → Type 0 where
  unread : {r : Reason} → FaultIn X P S pre (Err r) r
  strange : {t : Terminal} → ((x : X) (u more : List Terminal) → Fits S x u → tokens_of (P x) ++ u ≢ tokens_of pre ++ t ∷ more) → FaultIn X P S pre (Ok t) NotAllowed
  past : {r : Reason} (x : X) (i : Item) (more : List Item) → P x ≡ pre ++ i ∷ more → fault i ≡ Some r → FaultIn X P S pre (Ok i.token) r

-- Where such a tree is wanted, the first fault is r at place p.
pub record Fails (X : Type 0) (P : X → List Item) (S : X → Terminal → Type 0) (from : List Lexeme) (r : Reason) (p : ℕ) : Type 0 where
  pub before : List Lexeme
  pub here : Lexeme
  pub after : List Lexeme
  pub split : from ≡ before ++ here ∷ after
  pub place : here.place ≡ p
  pub pre : List Item
  pub read : gots before ≡ meant pre
  pub sound : AllSound pre
  pub tree : X
  pub rest : List Item
  pub begins : P tree ≡ pre ++ rest
  pub fault : FaultIn X P S pre here.got r
