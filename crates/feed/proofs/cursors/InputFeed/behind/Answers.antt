use Rattle.std.proofs.Common.{◌≡◌, min, length, ap, ◌∙◌}
use Rattle.std.proofs.lemmas.List.{take_rest}
use Rattle.feed.proofs.Cuts.{some_left_lem, left-some}
use Rattle.feed.proofs.cursors.InputFeed.behind.Goals as goal

pub returns : goal.returns
returns g c =
    let self = c.args.self.now in
    let xs = self.rest.now in
    let e = g.E.Encoding in
    let n : c.min-n.result ≡ min e.width (length xs) = c.min-n.ensures ∙ ap (λ w. min w (length xs)) c.width.ensures in
    rw c.saturating_add.ensures (left-some e.reads e.width self.station self.next xs g.met.E.Encoding.some (some_left_lem e.reads e.width self.station self.next xs c.requires) c.min-n.result _ n (take_rest xs c.min-n.result))
