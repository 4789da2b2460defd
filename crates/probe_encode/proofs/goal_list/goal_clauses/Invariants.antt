use Rattle.std.proofs.Common.{◌≡◌, ◌++◌, ◌∷◌, [], take, map, filter, flat_map, not, false}
use Rattle.coco_model.specs.Goals.{is_share_of, same_pairs}
use Rattle.probe_encode.specs.Goals.{label_signal}
use Rattle.probe_encode.proofs.goal_list.goal_clauses.Given as goal

abbrev pub invariant-bits : goal.invariant-bits
invariant-bits l =
    let literal = label_signal l.labelled.variables.now l.labelled.labels.now in
    l.all ≡ map (λ k. literal k false ∷ []) (filter (λ k. not (is_share_of l.bits k)) l.labelled.labels.now)
    ++ flat_map (same_pairs literal) (take l.bit-index l.bits)
