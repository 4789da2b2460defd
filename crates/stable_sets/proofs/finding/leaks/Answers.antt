use Rattle.std.proofs.Common.{◌≡◌, ℕ, subst}
use Rattle.std.specs.Prelude.{◌↔◌, Contains, IsTrue}
use Rattle.coco_base.specs.LabelSets.{has}
use Rattle.coco_model.specs.UnrolledRuns.{index_of}
use Rattle.coco_model.specs.WrittenFindings.{IsLeakingSet, set_of_nodes}
use Rattle.calm_reach.proofs.WalkLemmas.{one_ok}
use Rattle.stable_sets.specs.Chosen.{sets_in}
use Rattle.stable_sets.specs.Shown.{AreSameLabels, HasLeakingSet}
use Rattle.stable_sets.proofs.FindingLemmas.{leak_is}
use Rattle.stable_sets.proofs.finding.leaks.Goals as goal

pub set_of-requires-clause-inside : goal.set_of-requires-clause-inside
set_of-requires-clause-inside c p h = c.requires.inside p (subst (λ ps. Contains ps p) c.as_slice-2.ensures h)

pub returns : goal.returns
returns c =
    let u = c.args.unrolled.now in
    let finding = c.args.finding.now in
    let set = c.in_ok-set.set in
    let is_set =
    subst (λ ps. (l : ℕ) → has set l ≡ set_of_nodes (index_of u) (sets_in c.in_ok-sets.sets) ps l) c.as_slice-2.ensures
    (subst (λ ss. (l : ℕ) → has set l ≡ set_of_nodes (index_of u) (sets_in ss) c.as_slice-2.result.now l) c.as_slice.ensures c.in_ok-set.ensures) in
    one_ok c.shows_leak.result (λ b. IsTrue b ↔ (AreSameLabels set finding.set × IsLeakingSet u.table (has set)))
    (λ b. IsTrue b ↔ HasLeakingSet u finding)
    (λ b told. leak_is u finding c.in_ok-sets.sets set c.requires.unrolled c.requires.allowed c.requires.inside c.in_ok-sets.ensures is_set b told)
    c.shows_leak.ensures
