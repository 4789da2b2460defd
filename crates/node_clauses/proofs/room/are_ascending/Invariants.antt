use Rattle.std.proofs.Common.{ℕ, ◌+◌, ◌<◌, length, slice_index}
use Rattle.node_clauses.proofs.room.are_ascending.Given as goal

abbrev pub invariant-labels : goal.invariant-labels
invariant-labels l = (k : ℕ) → k + 1 < l.place → k + 1 < length l.labels → slice_index l.labels k < slice_index l.labels (k + 1)
