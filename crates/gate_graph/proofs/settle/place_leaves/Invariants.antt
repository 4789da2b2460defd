use Rattle.std.proofs.Common.{◌≡◌, ℕ, ◌<◌, false, get_or}
use Rattle.gate_graph.specs.declared.driver.Driver.TheVariants.{Nothing}
use Rattle.gate_graph.specs.Settled.{leaf_value}
use Rattle.gate_graph.proofs.settle.place_leaves.Given as goal

abbrev pub invariant-bits : goal.invariant-bits
invariant-bits l = (b : ℕ) → b < l.bit → get_or l.row b false ≡ leaf_value (get_or l.drivers b Nothing) (get_or l.leaves b false)
