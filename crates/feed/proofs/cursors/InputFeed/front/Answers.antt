use Rattle.std.proofs.Common.{◌≡◌, min, length, take, ap, ◌∙◌}
use native.Mathlib.Nat.{sub-zero}
use Rattle.feed.specs.Inputs.{item_of}
use Rattle.feed.proofs.Cuts.{some_left_lem, shown-first}
use Rattle.feed.proofs.cursors.InputFeed.front.Goals as goal

pub returns : goal.returns
returns g c =
    let self = c.args.self.now in
    let xs = self.rest.now in
    let e = g.E.Encoding in
    let n : c.min-n.result ≡ min e.width (length xs) = c.min-n.ensures ∙ ap (λ w. min w (length xs)) c.width.ensures in
    let read = c.item_of.ensures ∙ ap (item_of self.station self.next) c.read-read.ensures ∙ ap (λ k. item_of self.station self.next (e.reads (take k xs))) (sub-zero c.min-n.result) in
    shown-first e.reads e.width self.station self.next xs g.met.E.Encoding.some (some_left_lem e.reads e.width self.station self.next xs c.requires) c.min-n.result c.item_of.result n read
