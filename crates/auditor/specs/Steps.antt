-- What the steps inside a take do, of use to the code of a take alone. Assumes nothing.
use Rattle.std.specs.Prelude.{◌≡◌, List, [], ◌∷◌, ◌++◌, Some, None, Ok, Err, Result}
use Rattle.feed.specs.declared.faults.Item.{Item}
use Rattle.feed.specs.declared.faults.Item.TheVariants.{Sound, Faulty}
use Rattle.feed.specs.declared.lines.Line.{Line}
use Rattle.book.specs.Rules.{Rule}
use Rattle.auditor.specs.Account.{item_refusal, refusal, stop_at}
use Rattle.auditor.specs.Holds.{Holds}
use Rattle.auditor.specs.declared.answers.Refusal.{Refusal}
use Rattle.auditor.specs.declared.answers.Stop.{Stop}
use Rattle.auditor.specs.declared.auditors.Auditor.{Auditor}

-- the log has grown by the line, exactly where nothing refuses it; else the log is held as before
abbrev pub AdmitsLine : List Rule → List Line → Line → Result (Unit {0}) Refusal → Auditor → Type 0
AdmitsLine rs log l (Ok u) a = (item_refusal rs log (Sound l) ≡ None) × Holds rs (log ++ (l ∷ [])) a
AdmitsLine rs log l (Err x) a = (item_refusal rs log (Sound l) ≡ Some x) × Holds rs log a

-- the same of any item, of which only a sound line can be taken
abbrev pub Grown : List Rule → List Line → Item → Auditor → Type 0
Grown rs log (Sound l) a = Holds rs (log ++ (l ∷ [])) a
Grown rs log (Faulty x) a = ⊥

abbrev pub Admits : List Rule → List Line → Item → Result (Unit {0}) Refusal → Auditor → Type 0
Admits rs log x (Ok u) a = (refusal rs log x ≡ None) × Grown rs log x a
Admits rs log x (Err y) a = (refusal rs log x ≡ Some y) × Holds rs log a

-- a line has gone from the front of what waits, w, to the log's end
pub record Moved (rs : List Rule) (log : List Line) (w : List Item) (a : Auditor) (w' : List Item) : Type 0 where
  pub line : Line
  pub front : w ≡ Sound line ∷ w'
  pub free : refusal rs log (Sound line) ≡ None
  pub holds : Holds rs (log ++ (line ∷ [])) a

abbrev pub TakesOne : List Rule → List Line → List Item → Result (Unit {0}) Stop → Auditor → List Item → Type 0
TakesOne rs log w (Ok u) a w' = Moved rs log w a w'
TakesOne rs log w (Err s) a w' = (stop_at rs log w ≡ Some s) × Holds rs log a × (w' ≡ w)
