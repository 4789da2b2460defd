use Rattle.std.proofs.Common.{◌≡◌, ◌+◌, ◌++◌, length}
use Rattle.bind_run.specs.Memories.{echo_plan, wire_of}
use Rattle.bind_run.specs.Values.{at_bits}
use Rattle.bind_run.proofs.memories.push_echoes.Given as goal

abbrev pub invariant-wires : goal.invariant-wires
invariant-wires l = record {
  plans : l.plans.items ++ at_bits (λ k b. echo_plan b (wire_of l.sources k)) l.place l.rest ≡ l.initial.plans.items ++ at_bits (λ k b. echo_plan b (wire_of l.sources k)) 0 l.wires;
  size : l.place + length l.rest ≡ length l.wires;
}

abbrev pub decreases-wires : goal.decreases-wires
decreases-wires l = length l.rest
