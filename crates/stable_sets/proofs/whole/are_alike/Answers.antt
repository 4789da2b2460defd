use Rattle.gate_graph.proofs.Items.{each_more, read_at}
use Rattle.model_laws.proofs.Lists.{member_of_place}
use Rattle.coco_base.specs.declared.labels.SecretPlan.{SecretPlan}
use Rattle.coco_base.specs.LabelSets.{has}
use Rattle.stable_sets.specs.Shares.{AllAlike}
use Rattle.stable_sets.proofs.OrderLemmas.{all_members, some_member}
use Rattle.stable_sets.proofs.whole.are_alike.Goals as goal

pub is_alike-requires : goal.is_alike-requires
is_alike-requires c =
    c.requires c.index-secrets-place.result (member_of_place c.args.secrets.now c.secrets.place c.index-secrets-place.result
    (read_at c.args.secrets.now c.secrets.place c.index-secrets-place.result c.secrets-test.true c.index-secrets-place.is))

pub returns-then-not-is_alike : goal.returns-then-not-is_alike
returns-then-not-is_alike c =
    some_member (λ (s : SecretPlan). AllAlike s (has c.args.set.now)) c.args.secrets.now c.secrets.place c.index-secrets-place.result c.is_alike.result
    (read_at c.args.secrets.now c.secrets.place c.index-secrets-place.result c.secrets-test.true c.index-secrets-place.is)
    c.if-not-is_alike.true c.is_alike.ensures.1

pub secrets-preserved : goal.secrets-preserved
secrets-preserved c =
    each_more (λ (s : SecretPlan). AllAlike s (has c.args.set.now)) c.args.secrets.now c.secrets.place c.index-secrets-place.result
    (read_at c.args.secrets.now c.secrets.place c.index-secrets-place.result c.secrets-test.true c.index-secrets-place.is)
    (c.is_alike.ensures.0 c.if-not-is_alike.false) c.secrets.invariant

pub returns : goal.returns
returns c =
    all_members (λ (s : SecretPlan). AllAlike s (has c.args.set.now)) c.args.secrets.now c.secrets.place c.secrets-test.false c.secrets.invariant
