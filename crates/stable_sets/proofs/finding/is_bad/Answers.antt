use Rattle.std.proofs.Common.{◌≡◌, true, false, sym, ◌∙◌, subst}
use Rattle.std.specs.Prelude.{◌↔◌, Contains, IsTrue}
use Rattle.calm_reach.proofs.WalkLemmas.{one_ok}
use Rattle.stable_sets.specs.Reached.{TellsCalmFinding, TellsFinding}
use Rattle.stable_sets.specs.Shown.{HasLeakingSet}
use Rattle.stable_sets.proofs.TellsLemmas.{calm_tells, leak_tells, reach_of_calm, seen_of, seen_same}
use Rattle.stable_sets.proofs.finding.is_bad.Goals as goal

pub are_seen-requires-clause-probes : goal.are_seen-requires-clause-probes
are_seen-requires-clause-probes c p h =
    let listed = c.are_listed.ensures.0 c.if-not-are_listed.false in
    let is = listed.probes_listed.each p (subst (λ ps. Contains ps p) c.as_slice-2.ensures h) in
    record { bit = is.bit; cycle = is.cycle }

pub returns-then-not-branch-clause-finding : goal.returns-then-not-branch-clause-finding
returns-then-not-branch-clause-finding c reach is_reach =
    let graph = c.args.graph.now in let u = c.args.unrolled.now in let finding = c.args.finding.now in
    let listed = c.are_listed.ensures.0 c.if-not-are_listed.false in (
      (λ h. absurd (let f : false ≡ true = h in cc)),
      (λ is. sym c.if-not-branch.true ∙ c.in_ok-are_seen.ensures.1
          (seen_same graph.flat c.args.window u _ _ _ _ _ _ (sym c.as_slice.ensures) (sym c.as_slice-2.ensures) (sym c.as_slice-3.ensures)
          (seen_of graph.flat u c.args.rows.now c.args.clock c.args.window c.args.order finding reach c.requires.bits
          c.requires.rows is_reach listed is))),
    )

pub returns-then-not-branch-clause-calm : goal.returns-then-not-branch-clause-calm
returns-then-not-branch-clause-calm c reach calm =
    returns-then-not-branch-clause-finding c reach (reach_of_calm c.args.graph.now.flat c.args.rows.now reach calm)

pub leaks-requires-clause-inside : goal.leaks-requires-clause-inside
leaks-requires-clause-inside c p h =
    let seen = seen_same c.args.graph.now.flat c.args.window c.args.unrolled.now _ _ _ _ _ _ c.as_slice.ensures c.as_slice-2.ensures
    c.as_slice-3.ensures (c.in_ok-are_seen.ensures.0 c.if-not-branch.false) in
    (seen p h).0.inside

pub returns-clause-finding : goal.returns-clause-finding
returns-clause-finding c =
    let graph = c.args.graph.now in let u = c.args.unrolled.now in let finding = c.args.finding.now in
    let listed = c.are_listed.ensures.0 c.if-not-are_listed.false in
    let seen = seen_same graph.flat c.args.window u _ _ _ _ _ _ c.as_slice.ensures c.as_slice-2.ensures c.as_slice-3.ensures
    (c.in_ok-are_seen.ensures.0 c.if-not-branch.false) in
    one_ok c.leaks.result (λ b. IsTrue b ↔ HasLeakingSet u finding)
    (TellsFinding graph.flat u c.args.rows.now c.args.clock c.args.window c.args.order finding)
    (λ b told. leak_tells graph.flat u c.args.rows.now c.args.clock c.args.window c.args.order finding b c.requires.bits c.requires.rows
    listed seen told)
    c.leaks.ensures

pub returns-clause-calm : goal.returns-clause-calm
returns-clause-calm c =
    let graph = c.args.graph.now in let u = c.args.unrolled.now in let finding = c.args.finding.now in
    one_ok c.leaks.result (TellsFinding graph.flat u c.args.rows.now c.args.clock c.args.window c.args.order finding)
    (TellsCalmFinding graph.flat u c.args.rows.now c.args.clock c.args.window c.args.order finding)
    (λ b told. calm_tells graph.flat u c.args.rows.now c.args.clock c.args.window c.args.order finding b told)
    (returns-clause-finding c)
