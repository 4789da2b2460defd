use Rattle.std.proofs.Common.{ℕ, ◌<◌}
use Rattle.bind_run.specs.Binding.{IsUnbound}
use Rattle.bind_run.proofs.circuit.Circuit.first_unbound.Given as goal

abbrev pub invariant-bits : goal.invariant-bits
invariant-bits l = (b : ℕ) → b < l.bit → IsUnbound l.self.flat l.bound b → ⊥
