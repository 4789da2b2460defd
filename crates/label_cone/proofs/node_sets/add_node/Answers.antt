use Rattle.std.proofs.Common.{sym, subst}
use Rattle.label_cone.specs.NodeCones.{HasLiveLabels, IsNodeCone, cones_in}
use Rattle.label_cone.proofs.SetLemmas.{ok_more}
use Rattle.label_cone.proofs.node_sets.add_node.Goals as goal

pub returns-in_ok-set-in-Gate-clause-cone : goal.returns-in_ok-set-in-Gate-clause-cone
returns-in_ok-set-in-Gate-clause-cone c =
    let labels = subst (λ ps. HasLiveLabels (cones_in c.args.sets.now ps) c.in-Gate.kind c.in-Gate.parts c.in-Gate.operands 4 c.in_ok-set-in-Gate.set) c.as_slice-in-Gate.ensures.value
    (subst (λ ss. HasLiveLabels (cones_in ss c.as_slice-in-Gate.result.now) c.in-Gate.kind c.in-Gate.parts c.in-Gate.operands 4 c.in_ok-set-in-Gate.set) c.as_slice.ensures c.in_ok-set-in-Gate.ensures) in
    ok_more c.add_set-in-Gate.result _ _
    (λ e. record {
      cone = c.in_ok-set-in-Gate.set;
      added = e;
      is_cone = subst (λ n. IsNodeCone (cones_in c.args.sets.now c.args.places.now.items) n c.in_ok-set-in-Gate.set) (sym c.in-Gate.is) labels;
    }) c.add_set-in-Gate.ensures.cone
