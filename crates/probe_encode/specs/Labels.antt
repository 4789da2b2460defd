-- Which labels have variables: those in the cones of the nodes of pairs that some probe shows.
use Rattle.std.specs.Prelude.{ℕ, ◌+◌, ◌*◌, Bool, ◌&&◌, List, get_or, filter}
use Rattle.std.specs.List.{list_any, range_with_len}
use Rattle.coco_model.specs.Goals.{is_among}
use Rattle.label_cone.specs.NodeCones.{cone_at}
use Rattle.probe_clauses.specs.RunViews.{RunView}
use Rattle.probe_clauses.specs.Probings.{probing_of, all_bits, all_cycles, is_pair}

-- the number of the node of a bit in a cycle
abbrev pub node_of : RunView → ℕ → ℕ → ℕ
node_of view t b = t * view.gates.flat.bits + get_or view.ranks b 0

-- a pair has a label in its cone
abbrev pub has_label_at : RunView → List (List ℕ) → ℕ → ℕ → ℕ → Bool
has_label_at view cones l t b = is_pair (probing_of view) t b && is_among (cone_at cones (node_of view t b)) l

-- a pair of a cycle has one, and a pair of any cycle
abbrev pub has_label_in : RunView → List (List ℕ) → ℕ → ℕ → Bool
has_label_in view cones l t = list_any (has_label_at view cones l t) (all_bits (probing_of view))

abbrev pub has_label : RunView → List (List ℕ) → ℕ → Bool
has_label view cones l = list_any (has_label_in view cones l) (all_cycles (probing_of view))

-- the labels that pairs have in their cones, of so many labels, in ascending order
abbrev pub pair_labels : RunView → List (List ℕ) → ℕ → List ℕ
pair_labels view cones count = filter (has_label view cones) (range_with_len 0 count)
