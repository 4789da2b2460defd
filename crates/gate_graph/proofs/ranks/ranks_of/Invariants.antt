use Rattle.std.proofs.Common.{◌≡◌, ℕ, ◌<◌, length, get_or}
use Rattle.gate_graph.proofs.ranks.ranks_of.Given as goal

abbrev pub invariant-places : goal.invariant-places
invariant-places l =
    (length l.ranks.items ≡ length l.bits) × ((k : ℕ) → k < l.place → get_or l.ranks.items (get_or l.bits k 0) 0 ≡ k)
