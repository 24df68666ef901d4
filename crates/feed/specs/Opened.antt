-- What an opening answers. Assumes nothing.
use Rattle.std.specs.Prelude.{◌≡◌, ℕ, List, length, Some, None, Ok, Err, Result}
use Rattle.feed.specs.Inputs.{Pieces, cut, piece_count, items_of}
use Rattle.feed.specs.Opening.{refusal}
use Rattle.feed.specs.declared.cursors.InputFeed.{InputFeed}
use Rattle.feed.specs.declared.faults.FaultKind.{FaultKind}
use Rattle.feed.specs.declared.faults.Item.{Item}
use Rattle.feed.specs.declared.inputs.OpenRefusal.{OpenRefusal}
use Rattle.feed.specs.declared.lines.Line.{Line}

-- the items that wait in a feed over an input
abbrev pub waiting_in : {E X : Type 0} → (List X → Result Line FaultKind) → ℕ → InputFeed E X → List Item
waiting_in reads w s = items_of reads w s.station s.next s.rest.now

-- an opening within the limits: the feed's list is the items that the input is cut into
pub record Holds {E X : Type 0} (reads : List X → Result Line FaultKind) (w most station first : ℕ) (input : List X) (s : InputFeed E X) : Type 0 where
  pub within : refusal most station first (length input) ≡ None
  pub items : waiting_in reads w s ≡ items_of reads w station first input
  pub pieces : Pieces w input (cut w input)
  pub count : length (waiting_in reads w s) ≡ piece_count w (length input)

-- a feed is opened exactly within the limits
abbrev pub Opened : {E X : Type 0} → (List X → Result Line FaultKind) → (w most station first : ℕ) → List X → Result (InputFeed E X) OpenRefusal → Type 0
Opened reads w most station first input (Ok s) = Holds reads w most station first input s
Opened reads w most station first input (Err e) = refusal most station first (length input) ≡ Some e
