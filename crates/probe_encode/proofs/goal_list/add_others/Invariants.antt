use Rattle.std.proofs.Common.{◌≡◌, ◌++◌, ◌∷◌, [], take, map, filter, not, false}
use Rattle.coco_model.specs.Goals.{is_share_of}
use Rattle.probe_encode.specs.Goals.{label_signal}
use Rattle.probe_encode.proofs.goal_list.add_others.Given as goal

abbrev pub invariant-labels : goal.invariant-labels
invariant-labels l =
    let literal = label_signal l.labelled.variables.now l.labelled.labels.now in
    l.all ≡ l.fn.all ++ map (λ k. literal k false ∷ []) (filter (λ k. not (is_share_of l.bits k)) (take l.label-index l.labelled.labels.now))
