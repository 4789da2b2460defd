use Rattle.std.proofs.Common.{◌≡◌, ℕ, ◌<◌}
use Rattle.unroll.specs.NodeRows.{leaf_root, nodes_of, roots_of}
use Rattle.unroll.proofs.origin.write_roots.Given as goal

abbrev pub invariant-bits : goal.invariant-bits
invariant-bits l = (b : ℕ) → b < l.bit → roots_of l.roots b ≡ leaf_root (roots_of l.origins) (nodes_of l.nodes b)
