use Rattle.std.proofs.Common.{◌≡◌, ◌++◌, drop}
use Rattle.gate_graph.specs.Drivers.{flop_drivings}
use Rattle.gate_graph.proofs.places.add_flops.Given as goal

abbrev pub invariant-flops : goal.invariant-flops
invariant-flops l = l.places.items ++ flop_drivings l.number (drop l.number l.flops) ≡ l.initial.places.items ++ flop_drivings 0 l.flops
