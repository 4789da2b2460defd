use Rattle.std.proofs.Common.{◌∙◌, ap, cond, false}
use Rattle.std.proofs.lemmas.List.{get_or_default}
use Rattle.coco_base.specs.declared.unrolled.Node.TheVariants.{Nothing}
use Rattle.label_cone.specs.NodeCones.{cone_at, cones_in}
use Rattle.label_cone.specs.Weights.{weighs}
use Rattle.label_cone.proofs.WeightLemmas.{sums_more, first_above}
use Rattle.label_cone.proofs.weight.need.Goals as goal

pub returns-then-limit-sum-clause-above : goal.returns-then-limit-sum-clause-above
returns-then-limit-sum-clause-above c =
    first_above c.args.base c.args.nodes.now c.args.marks.now (cone_at (cones_in c.args.cones.now.sets c.args.cones.now.places.items)) c.args.limit
    c.nodes.place c.nodes.sum c.nodes.need c.size-size.result c.part-need.result c.part-sum.result c.nodes-test.true c.requires.weighing
    c.size-size.ensures.size
    (c.part-need.ensures ∙ ap (λ m. cond m c.size-size.result 0) (get_or_default c.args.marks.now c.nodes.place _ false (rw c.requires.marks c.nodes-test.true)))
    (c.part-sum.ensures ∙ ap (λ w. cond w c.size-size.result 0) (c.weighs.ensures ∙ ap weighs (get_or_default c.args.nodes.now c.nodes.place _ Nothing c.nodes-test.true)))
    c.nodes.invariant c.if-limit-sum.true

pub nodes-preserved : goal.nodes-preserved
nodes-preserved c =
    sums_more c.args.base c.args.nodes.now c.args.marks.now (cone_at (cones_in c.args.cones.now.sets c.args.cones.now.places.items)) c.args.limit
    c.nodes.place c.nodes.sum c.nodes.need c.size-size.result c.part-need.result c.part-sum.result c.nodes-test.true c.requires.weighing
    c.size-size.ensures.size
    (c.part-need.ensures ∙ ap (λ m. cond m c.size-size.result 0) (get_or_default c.args.marks.now c.nodes.place _ false (rw c.requires.marks c.nodes-test.true)))
    (c.part-sum.ensures ∙ ap (λ w. cond w c.size-size.result 0) (c.weighs.ensures ∙ ap weighs (get_or_default c.args.nodes.now c.nodes.place _ Nothing c.nodes-test.true)))
    c.nodes.invariant c.if-limit-sum.false
