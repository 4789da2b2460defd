use Rattle.bind_run.proofs.BindLemmas.{line_fails, line_taken}
use Rattle.bind_run.proofs.circuit.Circuit.bound_by.Goals as goal

pub returns-in-Err : goal.returns-in-Err
returns-in-Err c =
    line_fails c.args.self.now.flat c.args.self.now.clock c.lines.rest.now c.in-Some.more.now c.in-Some.line.now c.lines.bound _ c.in-Err.fault
    c.in-Some.ensures c.lines.invariant c.in-Err.ensures

pub lines-preserved : goal.lines-preserved
lines-preserved c =
    line_taken c.args.self.now.flat c.args.self.now.clock c.lines.rest.now c.in-Some.more.now c.in-Some.line.now c.lines.bound _ _
    c.in-Some.ensures c.lines.invariant c.in-Ok.ensures
