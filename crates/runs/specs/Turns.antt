-- Turns: the calls at two auditors, in the order in which they are made, and what is seen after each. Assumes nothing.
use Rattle.std.specs.Prelude.{ℕ, Bool, true, false, if◌then◌else◌, List, [], ◌∷◌, vec_items}
use Rattle.feed.specs.declared.faults.Item.{Item}
use Rattle.pages.specs.Pages.{verdict_page, sheet_page}
use Rattle.auditor.specs.Showing.{verdicts_shown, sheet_shown}
use Rattle.auditor.specs.declared.auditors.Auditor.{Auditor}
use Rattle.runs.specs.Calls.{Account, Asked, Said, next}
use Rattle.runs.specs.declared.calls.Call.{Call}
use Rattle.runs.specs.declared.calls.Side.{Side}
use Rattle.runs.specs.declared.calls.Side.TheVariants.{First, Second}
use Rattle.runs.specs.declared.calls.Turn.{Turn}

abbrev pub same_side : Side → Side → Bool
same_side First First = true
same_side First Second = false
same_side Second First = false
same_side Second Second = true

-- the turns of one side, in their order
abbrev pub turns_of : Side → List Turn → List Turn
turns_of x [] = []
turns_of x (t ∷ ts) = if same_side x t.side then t ∷ turns_of x ts else turns_of x ts

-- a turn as the call that is asked, and as what is said to it
abbrev pub asked : Turn → Asked
asked t = record { call = t.call; buffer = vec_items t.buffer }

abbrev pub said : Turn → Said
said t = record { answer = t.answer; buffer = vec_items t.buffer }

-- whose call a turn is, and which
pub record Called : Type 0 where
  pub side : Side
  pub call : Call

abbrev pub called : Turn → Called
called t = record { side = t.side; call = t.call }

-- the accounts of both auditors, each kept by its own calls alone
pub record Both : Type 0 where
  pub first : Account
  pub second : Account

abbrev pub side : Side → Both → Account
side First b = b.first
side Second b = b.second

abbrev pub on_side : Side → Both → Account → Both
on_side First b s = record { first = s; second = b.second }
on_side Second b s = record { first = b.first; second = s }

-- the accounts after a turn, and after all turns
abbrev pub after_turn : Both → Turn → Both
after_turn b t = on_side t.side b (next (side t.side b) t.call)

abbrev pub after_turns : Both → List Turn → Both
after_turns b [] = b
after_turns b (t ∷ ts) = after_turns (after_turn b t) ts

-- what can be seen of an auditor: the pages that it would write now, and what waits in its feeds
pub record Seen : Type 0 where
  pub verdicts : List ℕ
  pub sheet : List ℕ
  pub lists : List (List Item)

-- by its account, and at the auditor itself
abbrev pub accounted : Account → Seen
accounted s = record { verdicts = verdict_page s.book s.log; sheet = sheet_page s.book s.log; lists = s.lists }

abbrev pub shown_by : Auditor → List (List Item) → Seen
shown_by a ws = record { verdicts = verdicts_shown a; sheet = sheet_shown a; lists = ws }

-- what can be seen after a turn: whose it was, and both auditors
pub record Moment : Type 0 where
  pub whose : Side
  pub first : Seen
  pub second : Seen

abbrev pub moment : Side → Seen → Seen → Moment
moment x p q = record { whose = x; first = p; second = q }

-- the moments after each turn, by the accounts
abbrev pub moments : Both → List Turn → List Moment
moments b [] = []
moments b (t ∷ ts) = moment t.side (accounted (after_turn b t).first) (accounted (after_turn b t).second) ∷ moments (after_turn b t) ts
