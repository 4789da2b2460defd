use Rattle.std.proofs.Common.{sym, arith}
use Rattle.bind_run.proofs.PortLemmas.{later_port}
use Rattle.bind_run.proofs.WordLemmas.{behind_first, length_first}
use Rattle.bind_run.proofs.widening.place_for.Goals as goal

pub ports-preserved : goal.ports-preserved
ports-preserved c = record {
  size = let l = length_first c.ports.rest.now c.in-Some.more.now c.in-Some.port.now c.in-Some.ensures in let s = c.ports.invariant.size in omega arith;
  rest = sym (behind_first c.args.ports.now c.ports.rest.now c.in-Some.more.now c.in-Some.port.now c.ports.place c.ports.invariant.rest c.in-Some.ensures);
  ports = λ p e.
      later_port p c.in-Some.port.now c.in-Some.more.now c.ports.rest.now c.args.ports.now c.ports.place c.args.name.now c.as_str.result.now e
      c.as_str.ensures c.if-goes_before.ensures c.in-Some.ensures c.ports.invariant.rest (c.ports.invariant.ports p e);
}
