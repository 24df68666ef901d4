-- What the steps inside a run do, of use to the code of a run alone. Assumes nothing.
use Rattle.std.specs.Prelude.{◌≡◌, ℕ, List, [], ◌∷◌, ◌++◌, map, vec_items}
use Rattle.feed.specs.declared.faults.Item.{Item}
use Rattle.auditor.specs.Holds.{Holds}
use Rattle.auditor.specs.declared.auditors.Auditor.{Auditor}
use Rattle.runs.specs.Calls.{Account, Said, saying, next, reply}
use Rattle.runs.specs.Turns.{called, said, Both, side, after_turn, after_turns, accounted, Moment, moment, moments}
use Rattle.runs.specs.declared.calls.Answer.{Answer}
use Rattle.runs.specs.declared.calls.Call.{Call}
use Rattle.runs.specs.declared.calls.Turn.{Turn}
use Rattle.runs.specs.declared.posts.Post.{Post}

-- the feeds that an auditor draws on are the same ones, whatever was taken from them
abbrev pub SameFeeds : {R : Type 0} → Post R → Post R → Type 0
SameFeeds p q = q.feeds.ghost_name ≡ p.feeds.ghost_name

-- an auditor, and what waits in the feeds that it draws on
pub record Seat : Type 0 where
  pub auditor : Auditor
  pub lists : List (List Item)

abbrev pub seat : {R : Type 0} → (R → List (List Item)) → Post R → Seat
seat lists p = record { auditor = p.auditor; lists = lists p.feeds.now }

-- the auditor holds the account's log, and the lists of its feeds are the account's
pub record Agrees (s : Account) (p : Seat) : Type 0 where
  pub holds : Holds s.book s.log p.auditor
  pub lists : p.lists ≡ s.lists

pub record BothAgree (b : Both) (p q : Seat) : Type 0 where
  pub first : Agrees b.first p
  pub second : Agrees b.second q

-- a call with the buffer b, made where the account stands at s, was answered by r with the buffer then b'
pub record Made (s : Account) (q : Call) (b : List ℕ) (r : Answer) (b' : List ℕ) (p : Seat) : Type 0 where
  pub told : saying r b' ≡ reply s q b
  pub agrees : Agrees (next s q) p

-- the same of a turn, which stays that side's call
pub record TurnMade (s : Account) (t t' : Turn) (p : Seat) : Type 0 where
  pub kept : called t' ≡ called t
  pub told : said t' ≡ reply s t.call (vec_items t.buffer)
  pub agrees : Agrees (next s t.call) p

-- the same at its side, where the other side stays
pub record SideMade (b : Both) (t t' : Turn) (p q : Seat) : Type 0 where
  pub kept : called t' ≡ called t
  pub told : said t' ≡ reply (side t.side b) t.call (vec_items t.buffer)
  pub agree : BothAgree (after_turn b t) p q

-- the same, and an observer that may have been shown some moments before (saw) may have been shown this one behind them (saw')
pub record NotedTurn (b : Both) (t t' : Turn) (p q : Seat) (saw saw' : List Moment → Type 0) : Type 0 where
  pub made : SideMade b t t' p q
  pub seen : (ms : List Moment) → saw ms → saw' (ms ++ (moment t.side (accounted (after_turn b t).first) (accounted (after_turn b t).second) ∷ []))

-- what is said to each turn
abbrev pub told_turns : Both → List Turn → List Said
told_turns b [] = []
told_turns b (t ∷ ts) = reply (side t.side b) t.call (vec_items t.buffer) ∷ told_turns (after_turn b t) ts

-- the same of all turns ts, which are ts' now
pub record TurnsMade (b : Both) (ts ts' : List Turn) (p q : Seat) (saw saw' : List Moment → Type 0) : Type 0 where
  pub kept : map called ts' ≡ map called ts
  pub told : map said ts' ≡ told_turns b ts
  pub agree : BothAgree (after_turns b ts) p q
  pub seen : (ms : List Moment) → saw ms → saw' (ms ++ moments b ts)
