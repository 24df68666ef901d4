use Rattle.std.proofs.Common.{◌-◌, ◌≤◌, List, [], Result, vec_len, vec_items}
use Rattle.book.specs.declared.refusals.Refusal.{Refusal}
use Rattle.book.specs.declared.rules.Rule as held
use Rattle.book.specs.Readers.{coming}
use Rattle.book.proofs.Texts.{ToldRest}
use Rattle.book.proofs.reader.Reader.read_rules.Given as goal

-- What is made of the rest is made of the whole.
abbrev pub invariant-loop-nodes : goal.invariant-loop-nodes
invariant-loop-nodes l = record {
  few : vec_len l.rules ≤ 16;
  whole : (r : Result (Unit {0}) Refusal) (ys : List held.Rule) → ToldRest (vec_len l.rules) l.nodes.begun (coming l.self) r (vec_items l.rules) ys → ToldRest 0 0 (coming l.fn.self) r [] ys;
}

abbrev pub decreases-loop-nodes : goal.decreases-loop-nodes
decreases-loop-nodes l = 17 - vec_len l.rules
