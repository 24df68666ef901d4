use Rattle.std.proofs.Common.{◌≤◌, ◌++◌, append-nil, arith}
use Rattle.std.proofs.lemmas.Grind.{common_steps}
use Rattle.auditor.proofs.Takings.{all_taken, stopped, grown}
use Rattle.auditor.proofs.auditors.Auditor.take.Goals as goal

pub returns-then-not-contains-clause-taken : goal.returns-then-not-contains-clause-taken
returns-then-not-contains-clause-taken g c = λ rs log h. grind (arith, common_steps, append-nil log, h)

pub returns-in-Err-clause-taken : goal.returns-in-Err-clause-taken
returns-in-Err-clause-taken g c = λ rs log h.
    let so = c.loop-lines.invariant rs log h in
    let e = c.in-Err.ensures rs (log ++ so.lines) so.holds in
    let within : (1 ≤ c.args.count) × (c.args.count ≤ 4096) = grind (arith, common_steps, c.if-not-contains.ensures.cases) in
    stopped rs c.args.count log _ c.loop-lines.lines c.loop-lines.self _ so c.in-Err.stop c.take_one.new.self _ within.0 within.1 (omega arith) e.0 e.1 e.2

pub loop-lines-preserved : goal.loop-lines-preserved
loop-lines-preserved g c = λ rs log h.
    let so = c.loop-lines.invariant rs log h in
    grown rs c.args.count log _ c.loop-lines.lines c.loop-lines.self _ so c.take_one.new.self _ (c.in_default.ensures rs (log ++ so.lines) so.holds)

pub returns-clause-taken : goal.returns-clause-taken
returns-clause-taken g c = λ rs log h.
    let within : (1 ≤ c.args.count) × (c.args.count ≤ 4096) = grind (arith, common_steps, c.if-not-contains.ensures.cases) in
    all_taken rs c.args.count log _ _ _ _ (c.loop-lines.invariant rs log h) within.0 within.1 (omega arith)
