use Rattle.std.proofs.Common.{vec_items, sym, subst, rules}
use Rattle.book.specs.Trees.{pure_rules}
use Rattle.duty.specs.Kinds.{CoversEach}
use Rattle.duty.specs.Standings.{book_rules}
use Rattle.duty.proofs.Sets.{covered_each}
use Rattle.duty.proofs.standings.State.judge.Goals as goal

pub judge_rules-requires : goal.judge_rules-requires
judge_rules-requires c =
    let self = c.args.self.now in
    let each = covered_each (vec_items self.each) (book_rules self.book) self.each_covered in
    record {
      within = c.rules-rules.ensures.within;
      covered = subst (λ x. CoversEach x (pure_rules c.rules-rules.result.now)) (sym c.deref.ensures.value) (subst (λ x. CoversEach (vec_items self.each) (pure_rules x)) (sym c.rules-rules.ensures.items) each);
      judged = search rules;
      room = search rules;
    }
