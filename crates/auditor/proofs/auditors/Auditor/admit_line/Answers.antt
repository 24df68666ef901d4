use Rattle.std.proofs.Common.{◌≡◌, suc, ◌+◌, [], ◌∷◌, ◌++◌, length, ◌∙◌, subst, arith}
use mathlib.Core.Logic.{∥∥₁_map}
use Rattle.duty.specs.Sheet.{book_sheet, Fits}
use Rattle.auditor.proofs.Grows.{held_more, held-still, not_full}
use Rattle.auditor.proofs.auditors.Auditor.admit_line.Goals as goal

pub invariant_of-self : goal.invariant_of-self
invariant_of-self c =
    let e = c.in_err-step.ensures in
    record { some = ∥∥₁_map c.args.self.now.some (λ s. (s.0, held-still _ _ _ _ s.0 s.1 e.rules e.kept)) }

pub invariant_of-self-2 : goal.invariant_of-self-2
invariant_of-self-2 c = record {
  some = ∥∥₁_map c.args.self.now.some (λ s.
      let number : suc (length s.0) ≡ c.args.self.now.lines + 1 = omega (arith, s.1.counted) in
      (s.0 ++ (c.args.line ∷ []), held_more _ _ _ _ s.0 c.args.line s.1 c.requires (c.in_ok-step.ensures.taken s.0 number s.1.stands).0));
}

pub returns : goal.returns
returns c = λ rs log h.
    let e = c.in_ok-step.ensures in
    let number : suc (length log) ≡ c.args.self.now.lines + 1 = omega (arith, h.held.counted) in
    let longer = log ++ (c.args.line ∷ []) in
    let t = e.taken log number h.held.stands in
    let fit : Fits (book_sheet rs longer) = subst (λ x. Fits (book_sheet x longer)) (e.rules ∙ h.book) t.1 in (
      not_full rs log c.args.line (omega (arith, h.held.timed, c.if-line-self.false)) fit,
      record { book = e.rules ∙ h.book; held = held_more _ _ _ _ log c.args.line h.held c.requires t.0 },
    )
