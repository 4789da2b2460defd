use Rattle.std.proofs.Common.{◌≡◌, ◌+◌, sym, ◌∙◌, subst, true, false}
use Rattle.coco_base.specs.LabelSets.{IsUnion}
use Rattle.label_cone.specs.NodeCones.{HasLiveLabels, cones_in}
use Rattle.label_cone.proofs.SetLemmas.{live_more, live_less}
use Rattle.label_cone.proofs.node_sets.gate_set.Goals as goal
use Rattle.label_cone.proofs.node_sets.gate_set.Goals.{then-live+in_ok-set, else-live}

pub inputs-preserved : goal.inputs-preserved
inputs-preserved c = elim c.if-live.branch [
  | then-live+in_ok-set w ↦
      subst (HasLiveLabels (cones_in c.args.sets.now c.args.places.now) c.args.gate.kind c.args.gate.parts c.args.gate.operands (c.inputs.place + 1)) (sym w.set-is)
      (live_more (cones_in c.args.sets.now c.args.places.now) c.args.gate.kind c.args.gate.parts c.args.gate.operands c.inputs.set w.in_ok-set.set c.inputs.place
      c.inputs.invariant (c.live.ensures.0 w.if-live.true)
      (subst (λ s. IsUnion c.inputs.set s w.in_ok-set.set) w.set_of.ensures w.in_ok-set.ensures))
  | else-live w ↦
      subst (HasLiveLabels (cones_in c.args.sets.now c.args.places.now) c.args.gate.kind c.args.gate.parts c.args.gate.operands (c.inputs.place + 1)) (sym w.set-is)
      (live_less (cones_in c.args.sets.now c.args.places.now) c.args.gate.kind c.args.gate.parts c.args.gate.operands c.inputs.set c.inputs.place
      c.inputs.invariant (λ live. let f : false ≡ true = sym w.if-live.false ∙ c.live.ensures.1 live in cc))
]
