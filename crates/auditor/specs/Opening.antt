-- What is answered to a book text, told by the text alone. Assumes nothing.
use Rattle.std.specs.Prelude.{◌≡◌, ℕ, List, [], Ok, Err, Result}
use Rattle.book.specs.Faults.{Accepted, Refused}
use Rattle.book.specs.Rules.{Rule}
use Rattle.book.specs.declared.refusals.Reason.{Reason}
use Rattle.book.specs.declared.refusals.Refusal.{Refusal}
use Rattle.book.specs.declared.refusals.Refusal.TheVariants.{Faulty, NoMemory}
use Rattle.auditor.specs.Holds.{Holds}
use Rattle.auditor.specs.declared.auditors.Auditor.{Auditor}

-- P holds of the book that the text is and of the answer; or the text's first fault was told, and N holds
abbrev pub Told : {A : Type 0} → (List Rule → A → Type 0) → Type 0 → List ℕ → Result A Refusal → Type 0
Told P N text (Ok x) = (rs : List Rule) × Accepted text rs × P rs x
Told P N text (Err (Faulty f)) = Refused text f.reason f.place × N
Told P N text (Err NoMemory) = N

-- the answer to a text that is the book rs
abbrev pub OnBook : {A : Type 0} → (List Rule → A → Type 0) → List Rule → Result A Refusal → Type 0
OnBook P rs (Ok x) = P rs x
OnBook P rs (Err (Faulty f)) = ⊥
OnBook P rs (Err NoMemory) = Unit {0}

-- the answer to a text whose first fault is n at place p
abbrev pub OnFault : {A : Type 0} → Reason → ℕ → Result A Refusal → Type 0
OnFault n p (Ok x) = ⊥
OnFault n p (Err (Faulty f)) = (f.reason ≡ n) × (f.place ≡ p)
OnFault n p (Err NoMemory) = Unit {0}

-- A text is accepted exactly when it is a book, and P holds of that book and of the answer; else its first fault is told,
-- and N holds. Want of memory is the one exception, and N holds then too.
pub record OnText {A : Type 0} (P : List Rule → A → Type 0) (N : Type 0) (text : List ℕ) (r : Result A Refusal) : Type 0 where
  pub told : Told P N text r
  pub book : (rs : List Rule) → Accepted text rs → OnBook P rs r
  pub refusal : (n : Reason) (p : ℕ) → Refused text n p → OnFault n p r

-- an opening replaces the auditor a by one that has the book and an empty log, a'; or nothing changes
abbrev pub Opens : List ℕ → Result (Unit {0}) Refusal → Auditor → Auditor → Type 0
Opens text r a a' = OnText (λ rs u. Holds rs [] a') (a' ≡ a) text r
