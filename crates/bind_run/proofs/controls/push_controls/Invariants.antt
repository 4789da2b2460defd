use Rattle.std.proofs.Common.{◌≡◌, ◌+◌, ◌++◌, length}
use Rattle.bind_run.specs.Controls.{controls_from}
use Rattle.bind_run.proofs.controls.push_controls.Given as goal

abbrev pub invariant-wires : goal.invariant-wires
invariant-wires l = record {
  plans : l.plans.items ++ controls_from l.word (length l.wires) l.when l.place l.rest ≡ l.initial.plans.items ++ controls_from l.word (length l.wires) l.when 0 l.wires;
  size : l.place + length l.rest ≡ length l.wires;
}

abbrev pub decreases-wires : goal.decreases-wires
decreases-wires l = length l.rest
