use Rattle.std.proofs.Common.{◌≡◌, ◌+◌, ◌/◌, ◌<◌, min, length, ap, ◌∙◌, arith, rules}
use Rattle.std.proofs.lemmas.Nat.{le-div}
use Rattle.feed.specs.Inputs.{counted}
use Rattle.feed.proofs.Stretches.{next_in_turn}
use Rattle.feed.proofs.recordings.Recording.refill.Goals as goal

pub returns : goal.returns
returns g c =
    let e = g.E.Encoding in
    let law = g.met.E.Encoding in
    let self = c.args.self.now in
    let xs = self.after.now in
    let m = c.min-n.result in
    let told : self.next ≡ counted self.next = search rules in
    let some : 0 < e.most / e.width = le-div 1 e.most e.width law.some (omega (arith, g.met.E.Fitting.fits)) in
    next_in_turn e.reads e.width (e.most / e.width) self.station self.next xs law.some some told m _ _ _ _
    (c.min-n.ensures ∙ ap (min (length xs)) c.stretch.ensures)
    c.split_at.ensures.front
    c.split_at.ensures.back
    c.begin-self.ensures.items
    (c.saturating_add-self.ensures ∙ ap (λ w. counted (self.next + m / w)) c.width.ensures)
