use Rattle.std.proofs.Common.{◌≡◌, ◌++◌, drop}
use Rattle.gate_graph.specs.Drivers.{port_drivings}
use Rattle.gate_graph.proofs.places.add_ports.Given as goal

abbrev pub invariant-ports : goal.invariant-ports
invariant-ports l = l.places.items ++ port_drivings l.number (drop l.number l.ports) ≡ l.initial.places.items ++ port_drivings 0 l.ports
