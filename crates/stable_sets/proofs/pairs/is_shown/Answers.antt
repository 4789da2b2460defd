use Rattle.std.proofs.Common.{◌≡◌, true, false, sym, ◌∙◌}
use Rattle.coco_base.specs.declared.finding.Probe.{Probe}
use Rattle.gate_graph.proofs.Items.{each_more, some_at}
use Rattle.model_laws.proofs.Lists.{member_of_place}
use Rattle.stable_sets.specs.Shown.{IsShownBy}
use Rattle.stable_sets.proofs.PairLemmas.{none_shows}
use Rattle.stable_sets.proofs.pairs.is_shown.Goals as goal

pub shows-requires-clause-probe : goal.shows-requires-clause-probe
shows-requires-clause-probe c =
    c.requires.probes _ (member_of_place c.args.probes.now c.probes.place _
    (some_at c.args.probes.now c.probes.place (record { bit = 0; cycle = 0 }) c.probes-test.true))

pub probes-preserved : goal.probes-preserved
probes-preserved c =
    let look = c.args.look.now in
    each_more (λ (p : Probe). IsShownBy look.graph.now.flat look.unrolled.now.cycles look.window look.rows.now p c.args.pair → ⊥)
    c.args.probes.now c.probes.place _ (some_at c.args.probes.now c.probes.place (record { bit = 0; cycle = 0 }) c.probes-test.true)
    (λ s. let f : false ≡ true = sym c.if-branch.false ∙ c.in_ok-shows.ensures.1 s in cc) c.probes.invariant

pub returns : goal.returns
returns c =
    let look = c.args.look.now in
    none_shows look.graph.now.flat look.unrolled.now.cycles look.window look.rows.now c.args.probes.now c.args.pair c.probes.place
    c.probes-test.false c.probes.invariant
