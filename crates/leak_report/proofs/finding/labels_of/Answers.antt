use Rattle.std.proofs.Common.{◌≡◌, ◌∙◌}
use Rattle.std.proofs.lemmas.Iterator.Consumers.{YieldsList-end, YieldsList-from_rest}
use Rattle.leak_report.proofs.finding.labels_of.Goals as goal

-- the iterator is at its end, so what it yielded is all that the set has
pub returns : goal.returns
returns c =
    let started = c.iter-label-items.ensures in
    let same = c.into_iter-label-iterator.ensures.into_iter_gives in
    let end = YieldsList-end (YieldsList-from_rest c.args.set.now cc) c.labels.yielded _ c.labels.yielded_by _ _ c.in-None.is c.next.ensures.steps in
    c.labels.invariant ∙ end.0
