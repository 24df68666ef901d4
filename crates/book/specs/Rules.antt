-- Rules as the meaning is defined on them. Assumes nothing.
use Rattle.std.specs.Prelude.{List}
use Rattle.book.specs.declared.terms.Binder.{Binder}
use Rattle.book.specs.declared.terms.Condition.{Condition}
use Rattle.book.specs.declared.terms.DutyKind.{DutyKind}
use Rattle.book.specs.declared.terms.TriggerKind.{TriggerKind}
use Rattle.book.specs.declared.terms.BracketKind.{BracketKind}

-- a pattern of lines
pub data Pattern : Type 0 where
  never : Pattern
  lines : List Binder → List Condition → Pattern

-- `must act before deadline` and `mustnot act before deadline`; `each start until end then duty` and
-- `once start until end then duty`; `(first else second)` and `(left and right)`
pub data Rule : Type 0 where
  duty : DutyKind → Pattern → Pattern → Rule
  trigger : TriggerKind → Pattern → Pattern → Rule → Rule
  bracket : BracketKind → Rule → Rule → Rule
