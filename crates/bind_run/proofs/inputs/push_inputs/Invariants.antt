use Rattle.std.proofs.Common.{◌≡◌, ◌+◌, ◌++◌, length}
use Rattle.bind_run.specs.Inputs.{input_plan, starts_at}
use Rattle.bind_run.specs.Values.{at_bits}
use Rattle.bind_run.proofs.inputs.push_inputs.Given as goal

abbrev pub invariant-wires : goal.invariant-wires
invariant-wires l = record {
  plans : l.plans.items ++ at_bits (λ k b. input_plan b (starts_at l.values k)) l.place l.rest ≡ l.initial.plans.items ++ at_bits (λ k b. input_plan b (starts_at l.values k)) 0 l.wires;
  size : l.place + length l.rest ≡ length l.wires;
}

abbrev pub decreases-wires : goal.decreases-wires
decreases-wires l = length l.rest
