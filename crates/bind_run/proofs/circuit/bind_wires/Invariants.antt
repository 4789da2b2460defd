use Rattle.std.proofs.Common.{◌≡◌, length}
use Rattle.bind_run.specs.Binding.{after_wires}
use Rattle.bind_run.proofs.circuit.bind_wires.Given as goal

abbrev pub invariant-wires : goal.invariant-wires
invariant-wires l = after_wires l.bound l.word l.rest ≡ after_wires l.initial.bound l.word l.wires

abbrev pub decreases-wires : goal.decreases-wires
decreases-wires l = length l.rest
