use Rattle.std.proofs.Common.{◌≡◌, ℕ, ◌<◌, length, get_or}
use Rattle.gate_graph.proofs.ranks.by_rank.Given as goal

abbrev pub invariant-bits : goal.invariant-bits
invariant-bits l = (length l.bits.items ≡ l.bit) × ((k : ℕ) → k < l.bit → get_or l.bits.items k 0 ≡ k)
