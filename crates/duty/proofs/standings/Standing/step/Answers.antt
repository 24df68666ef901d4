use Rattle.std.proofs.Common.{◌≤◌, [], ◌∷◌, ◌++◌, length, vec_items, sym, refl, ap, ◌∙◌, arith, take_all}
use Rattle.duty.specs.Verdicts.{verdicts}
use Rattle.duty.specs.Sheet.{book_sheet}
use Rattle.duty.specs.Standings.{rules_of}
use Rattle.duty.proofs.Written.{counted}
use Rattle.duty.proofs.Sets.{covered_all}
use Rattle.duty.proofs.Unchanged.{verdicts-same, book-same}
use Rattle.duty.proofs.standings.Standing.step.Goals as goal

pub returns : goal.returns
returns c =
    record {
      rules = refl;
      taken = λ log n h.
          let longer = log ++ (c.args.line.now ∷ []) in
          let es = book_sheet (rules_of c.args.self.now) longer in
          let j = c.judge.ensures.all log n h.judged h.listed in
          let w = j.written [] c.clear.ensures.blank.empty in
          let fits : length es ≤ 256 = omega (arith, counted c.judge.new.next.sheet es w, c.count.ensures, c.if-count-gt-PLACES.false) in (
            record {
              judged = ap (λ f. vec_items f.verdicts) c.swap.ensures.x_after ∙ (j.judged ∙ ap (λ vs. vs ++ verdicts (rules_of c.args.self.now) longer) c.clear.ensures.blank.none);
              listed = ap (λ f. vec_items f.sheet.entries) c.swap.ensures.x_after ∙ (w ∙ take_all 257 es (omega arith));
            },
            fits,
          );
      kept = tt;
    }

pub returns-then-not-has : goal.returns-then-not-has
returns-then-not-has c =
    record {
      rules = refl;
      taken = λ log n h.
          let self = c.args.self.now in
          let line = c.args.line.now in
          let rs = rules_of self in
          let idle = covered_all self.state.kinds rs self.state.covered line (sym c.if-not-has.ensures) in
          let same = h.listed ∙ sym (book-same rs line idle log) in
          let fits : length (book_sheet rs (log ++ (line ∷ []))) ≤ 256 = omega (arith, ap length same, self.state.fits) in
          (record { judged = h.judged ∙ sym (verdicts-same rs line idle log); listed = same }, fits);
      kept = tt;
    }

pub returns-then-count-gt-PLACES-clause-taken : goal.returns-then-count-gt-PLACES-clause-taken
returns-then-count-gt-PLACES-clause-taken c log n h fits =
    let w = (c.judge.ensures.all log n h.judged h.listed).written [] c.clear.ensures.blank.empty in
    omega (arith, counted c.judge.new.next.sheet _ w, c.count.ensures, c.if-count-gt-PLACES.true)
