use Rattle.std.proofs.Common.{◌∙◌, sym, subst}
use Rattle.std.specs.Prelude.{◌↔◌, IsTrue}
use Rattle.std.proofs.lemmas.List.{map-id}
use Rattle.std.proofs.lemmas.Iterator.Consumers.{YieldsList-end, YieldsList-from_copied, YieldsList-from_rest}
use Rattle.stable_sets.specs.Shares.{AllShares}
use Rattle.stable_sets.proofs.ShareLemmas.{shares_more}
use Rattle.stable_sets.proofs.whole.are_shares.Goals as goal

pub labels-preserved : goal.labels-preserved
labels-preserved c =
    shares_more c.args.secrets.now c.labels.yielded c.in-Some.label c.labels.all
    (c.is_some_share.ensures.0 c.if-not-is_some_share.false) c.labels.invariant

pub returns : goal.returns
returns c =
    let started = c.iter.ensures in
    let source = c.copied-label-items.ensures.source in
    let same = c.into_iter-label-iterator.ensures.into_iter_gives in
    let end = YieldsList-end (YieldsList-from_copied (YieldsList-from_rest c.args.set.now cc)) c.labels.yielded _ c.labels.yielded_by _ _ c.in-None.is c.next.ensures.steps in
    subst (λ ls. IsTrue c.labels.all ↔ AllShares c.args.secrets.now ls) (sym (map-id c.labels.yielded) ∙ end.0) c.labels.invariant
