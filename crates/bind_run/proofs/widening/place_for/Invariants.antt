use Rattle.std.proofs.Common.{◌≡◌, ◌+◌, ◌++◌, take, drop, length}
use Rattle.coco_base.specs.declared.netlist.FlatPort.{FlatPort}
use Rattle.bind_run.specs.Widened.{with_port}
use Rattle.bind_run.proofs.widening.place_for.Given as goal

abbrev pub invariant-ports : goal.invariant-ports
invariant-ports l = record {
  size : l.place + length l.rest ≡ length l.ports;
  rest : l.rest ≡ drop l.place l.ports;
  ports : (p : FlatPort) → p.name ≡ l.name → with_port p l.ports ≡ take l.place l.ports ++ with_port p l.rest;
}

abbrev pub decreases-ports : goal.decreases-ports
decreases-ports l = length l.rest
