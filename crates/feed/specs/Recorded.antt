-- A recording as a feed. Assumes nothing.
use Rattle.std.specs.Prelude.{◌≡◌, ℕ, true, false, List, [], ◌∷◌, ◌++◌, Ok, Err, Result}
use Rattle.feed.specs.Inputs.{items_of}
use Rattle.feed.specs.Opened.{waiting_in}
use Rattle.feed.specs.Opening.{outside}
use Rattle.feed.specs.declared.faults.FaultKind.{FaultKind}
use Rattle.feed.specs.declared.faults.Item.{Item}
use Rattle.feed.specs.declared.inputs.OpenRefusal.{OpenRefusal}
use Rattle.feed.specs.declared.inputs.OpenRefusal.TheVariants.{Station}
use Rattle.feed.specs.declared.lines.Line.{Line}
use Rattle.feed.specs.declared.recordings.Recording.{Recording}

-- the items of the feed that is drawn on now, and then those behind it; nothing waits once it is empty
abbrev pub followed : List Item → List Item → List Item
followed [] ys = []
followed (x ∷ xs) ys = x ∷ (xs ++ ys)

abbrev pub waiting_of : {E X : Type 0} → (List X → Result Line FaultKind) → ℕ → Recording E X → List Item
waiting_of reads w r = followed (waiting_in reads w r.current) (items_of reads w r.station r.next r.after.now)

-- a recording of any length is opened exactly under a station of 1 to 9,999, and its list is the items
-- that the whole input is cut into, numbered from 1
abbrev pub RecordingOpened : {E X : Type 0} → (List X → Result Line FaultKind) → (w station : ℕ) → List X → Result (Recording E X) OpenRefusal → Type 0
RecordingOpened reads w station input (Ok r) = (outside 1 9999 station ≡ false) × (waiting_of reads w r ≡ items_of reads w station 1 input)
RecordingOpened reads w station input (Err e) = (outside 1 9999 station ≡ true) × (e ≡ Station)
