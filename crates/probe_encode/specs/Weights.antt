-- Which nodes the chosen pairs have.
use Rattle.std.specs.Prelude.{ℕ, false, List, [], ◌∷◌, length, replicate, slice_set}
use Rattle.circuit_clauses.specs.declared.signal.Signal.{Signal}
use Rattle.circuit_clauses.specs.declared.signal.Signal.TheVariants.{Constant}
use Rattle.probe_clauses.specs.RunViews.{RunView}
use Rattle.probe_clauses.specs.Probings.{probing_of, all_bits, all_cycles}
use Rattle.probe_clauses.specs.Rows.{at}
use Rattle.probe_encode.specs.Labels.{node_of}

-- the nodes of bits in a cycle have the signals of the pairs of these bits
abbrev pub with_bits : RunView → List (List Signal) → ℕ → List ℕ → List Signal → List Signal
with_bits view pairs t [] weights = weights
with_bits view pairs t (b ∷ bs) weights =
    with_bits view pairs t bs (slice_set weights (node_of view t b) (at pairs t b))

-- the same for cycles
abbrev pub with_cycles : RunView → List (List Signal) → List ℕ → List Signal → List Signal
with_cycles view pairs [] weights = weights
with_cycles view pairs (t ∷ ts) weights =
    with_cycles view pairs ts (with_bits view pairs t (all_bits (probing_of view)) weights)

-- by node: whether the pair of the node is chosen; false where the node has no pair
abbrev pub pair_weights : RunView → List (List Signal) → List Signal
pair_weights view pairs =
    with_cycles view pairs (all_cycles (probing_of view)) (replicate (length view.nodes) (Constant false))
