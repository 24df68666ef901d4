use Rattle.std.proofs.Common.{◌≤◌, [], ◌++◌, length, vec_items, refl, ap, ◌∙◌, subst, arith}
use Rattle.book.specs.Sizes.{all_nodes}
use Rattle.book.specs.Trees.{pure_rules}
use Rattle.duty.specs.Verdicts.{verdicts}
use Rattle.duty.specs.Judging.{JudgedRules}
use Rattle.duty.specs.Kinds.{CoversAll, CoversEach}
use Rattle.duty.specs.Standings.{book_rules}
use Rattle.duty.proofs.Books.{opens_whole}
use Rattle.duty.proofs.standings.Standing.open.Goals as goal

pub returns : goal.returns
returns c =
    let rs = book_rules c.args.book in
    let is = c.rules-rules.ensures.items in
    let blank = c.in_ok-findings.ensures.1 in
    let old = c.in_ok-findings.findings in
    let new = c.open_rules.new.found in
    let j = subst (λ x. JudgedRules (pure_rules x) [] (vec_items old.verdicts) (vec_items new.verdicts) old.sheet new.sheet) is c.open_rules.ensures.all in
    let size : all_nodes rs ≤ 64 = subst (λ x. all_nodes (pure_rules x) ≤ 64) is c.rules-rules.ensures.within.size in
    let whole = opens_whole rs _ _ old.sheet new.sheet size j blank.empty in
    record {
      rules = refl;
      stands = record { judged = j.judged ∙ ap (λ vs. vs ++ verdicts rs []) blank.none; listed = whole.listed };
    }

pub invariant_of-state : goal.invariant_of-state
invariant_of-state c =
    let is = c.rules-rules.ensures.items in
    let blank = c.in_ok-findings.ensures.1 in
    let covers = subst (λ x. CoversAll c.of_rules-kinds.result (pure_rules x)) is c.of_rules-kinds.ensures in
    let each = subst (λ x. CoversEach (vec_items c.in_ok-each.each) (pure_rules x)) is c.in_ok-each.ensures in
    let whole = opens_whole (pure_rules c.rules-rules.result.now) _ _ c.in_ok-findings.findings.sheet c.open_rules.new.found.sheet c.rules-rules.ensures.within.size c.open_rules.ensures.all blank.empty in
    record {
      covered = ∣ covers ∣₁;
      each_covered = ∣ each ∣₁;
      judged = omega (arith, c.open_rules.ensures.len, ap length blank.none, c.in_ok-findings.findings.verdicts.ok.0, c.rules-rules.ensures.len);
      room = omega (arith, c.open_rules.ensures.capacity, c.in_ok-findings.ensures.0, c.rules-rules.ensures.len);
      fits = whole.fits;
    }
