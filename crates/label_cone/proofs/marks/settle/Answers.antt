use Rattle.std.proofs.Common.{◌∙◌, subst}
use Rattle.std.proofs.lemmas.List.{get_or_default}
use Rattle.coco_base.specs.declared.unrolled.Node.TheVariants.{Nothing}
use Rattle.label_cone.specs.NodeCones.{ReadsEarlier}
use Rattle.label_cone.proofs.MarkLemmas.{settle_nothing, settle_label, settle_copy, settle_gate, settle_idle_gate}
use Rattle.label_cone.proofs.marks.settle.Goals as goal

pub returns-in-Nothing : goal.returns-in-Nothing
returns-in-Nothing c =
    settle_nothing c.args.nodes.now c.args.place c.args.marks.now c.requires.place
    (get_or_default c.args.nodes.now c.args.place Nothing _ c.requires.place ∙ c.in-Nothing.is) c.requires.later

pub returns-in-Label : goal.returns-in-Label
returns-in-Label c =
    settle_label c.args.nodes.now c.args.place c.in-Label.field-0 c.args.marks.now c.requires.place
    (get_or_default c.args.nodes.now c.args.place Nothing _ c.requires.place ∙ c.in-Label.is) c.requires.later

pub returns-in-Copy : goal.returns-in-Copy
returns-in-Copy c =
    let is = get_or_default c.args.nodes.now c.args.place Nothing _ c.requires.place ∙ c.in-Copy.is in
    settle_copy c.args.nodes.now c.args.place c.in-Copy.origin c.args.marks.now c.requires.place
    (subst (ReadsEarlier c.args.place) is (c.requires.ordered c.args.place c.requires.place)) is c.requires.later

pub returns-then-marks-place : goal.returns-then-marks-place
returns-then-marks-place c =
    settle_gate c.args.nodes.now c.args.place c.in-Gate.kind c.in-Gate.parts c.in-Gate.operands c.args.marks.now c.mark_operands.new.marks
    c.requires.ordered c.requires.place (get_or_default c.args.nodes.now c.args.place Nothing _ c.requires.place ∙ c.in-Gate.is)
    c.if-marks-place.true c.mark_operands.ensures c.requires.later

pub returns-else-marks-place : goal.returns-else-marks-place
returns-else-marks-place c =
    settle_idle_gate c.args.nodes.now c.args.place c.in-Gate.kind c.in-Gate.parts c.in-Gate.operands c.args.marks.now
    c.requires.ordered c.requires.place (get_or_default c.args.nodes.now c.args.place Nothing _ c.requires.place ∙ c.in-Gate.is)
    c.if-marks-place.false c.requires.later
