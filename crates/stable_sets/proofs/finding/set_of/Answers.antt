use Rattle.std.proofs.Common.{◌<◌, sym, subst}
use Rattle.gate_graph.proofs.Items.{some_at}
use Rattle.model_laws.proofs.Lists.{member_of_place}
use Rattle.coco_model.specs.UnrolledRuns.{index_of}
use Rattle.stable_sets.proofs.FindingLemmas.{set_more}
use Rattle.stable_sets.proofs.finding.set_of.Goals as goal

pub index-requires-clause-inside : goal.index-requires-clause-inside
index-requires-clause-inside c =
    c.requires.inside _ (member_of_place c.args.pairs.now c.pairs.place _
    (some_at c.args.pairs.now c.pairs.place (record { bit = 0; cycle = 0 }) c.pairs-test.true))

pub pairs-preserved : goal.pairs-preserved
pairs-preserved c =
    let h = c.in_ok-set.ensures in let k = c.index-sets-index.is in let m = c.index.ensures in
    set_more (index_of c.args.unrolled.now) c.args.sets.now c.args.pairs.now c.pairs.place (record { bit = 0; cycle = 0 }) c.index.result
    c.pairs.set c.index-sets-index.result c.in_ok-set.set c.pairs-test.true c.index.ensures.number
    (subst (λ n. c.index.result < n) (sym c.requires.sets) c.index.ensures.below) c.index-sets-index.is c.in_ok-set.ensures c.pairs.invariant
