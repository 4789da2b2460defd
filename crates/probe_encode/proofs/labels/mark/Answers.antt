use Rattle.std.proofs.Common.{◌∙◌, sym, subst}
use Rattle.std.proofs.lemmas.List.{map-id}
use Rattle.std.proofs.lemmas.Iterator.Consumers.{YieldsList-end, YieldsList-from_copied, YieldsList-from_rest}
use Rattle.coco_model.specs.Goals.{is_among}
use Rattle.probe_encode.specs.Marks.{AreMarked}
use Rattle.probe_encode.proofs.Marked.{marked_item}
use Rattle.probe_encode.proofs.labels.mark.Goals as goal

pub labels-preserved : goal.labels-preserved
labels-preserved c = marked_item c.labels.yielded c.in-Some.label c.labels.invariant c.set_mark.ensures

pub returns : goal.returns
returns c =
    let started = c.iter.ensures in
    let source = c.copied-label-items.ensures.source in
    let same = c.into_iter-label-iterator.ensures.into_iter_gives in
    let end = YieldsList-end (YieldsList-from_copied (YieldsList-from_rest c.args.set.now cc)) c.labels.yielded _ c.labels.yielded_by _ _ c.in-None.is c.next.ensures.steps in
    subst (λ ls. AreMarked c.args.marks.now c.labels.marks (λ l. is_among ls l)) (sym (map-id c.labels.yielded) ∙ end.0) c.labels.invariant
