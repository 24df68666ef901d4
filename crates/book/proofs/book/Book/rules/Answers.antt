use Rattle.std.proofs.Common.{vec_items, sym, subst}
use Rattle.book.specs.Sizes.{WithinLimits}
use Rattle.book.specs.Trees.{pure_rules}
use Rattle.book.proofs.Bounds.{keeps_limits}
use Rattle.book.proofs.book.Book.rules.Goals as goal

pub returns : goal.returns
returns c =
    let b = c.args.self.now in
    let same = c.as_slice.ensures.value in
    record {
      items = same;
      len = c.as_slice.ensures.len;
      within = subst (λ rs. WithinLimits (pure_rules rs)) (sym same) (keeps_limits (pure_rules (vec_items b.rules)) b.written);
    }
