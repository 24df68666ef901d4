use Rattle.book.proofs.rules.Rule.TheLaws.{the_size}
use Rattle.book_cases.proofs.+nodes.Given as goal

abbrev pub decreases-nodes : goal.decreases-nodes
decreases-nodes l = the_size l.rule.now
