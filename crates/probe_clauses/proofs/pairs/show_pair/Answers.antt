use Rattle.std.proofs.Common.{◌+◌, [], ◌∷◌}
use Rattle.circuit_clauses.specs.Signals.{negated}
use Rattle.clause_builds.specs.Rows.{signal_at}
use Rattle.probe_clauses.specs.Rows.{at}
use Rattle.probe_clauses.proofs.Demanding.{first_demand, second_demand, third_demand, all_demands}
use Rattle.probe_clauses.proofs.pairs.show_pair.Goals as goal

pub demand-requires : goal.demand-requires
demand-requires c =
    let shown = c.args.shown.now in
    let t = c.args.cycle in
    let b = c.args.bit in
    let not = negated c.args.pair in
    let reached = not ∷ at shown.reached t b ∷ at shown.reached (t + 1) b ∷ [] in
    let near = not ∷ signal_at shown.near b ∷ [] in
    let hot = not ∷ signal_at shown.hot t ∷ signal_at shown.hot (t + 1) ∷ [] in
    rw (c.negated-not.ensures, c.at.ensures, c.at-2.ensures, c.as_slice-reached.ensures) (first_demand c.args.form.now reached near hot c.requires.fits)

pub demand-requires-2 : goal.demand-requires-2
demand-requires-2 c =
    let shown = c.args.shown.now in
    let t = c.args.cycle in
    let b = c.args.bit in
    let not = negated c.args.pair in
    let reached = not ∷ at shown.reached t b ∷ at shown.reached (t + 1) b ∷ [] in
    let near = not ∷ signal_at shown.near b ∷ [] in
    let hot = not ∷ signal_at shown.hot t ∷ signal_at shown.hot (t + 1) ∷ [] in
    rw (c.negated-not.ensures, c.signal_at.ensures, c.as_slice.ensures) (second_demand c.args.form.now c.demand.new.self reached near hot (rw (c.negated-not.ensures, c.at.ensures, c.at-2.ensures, c.as_slice-reached.ensures) at c.in_ok-demand.ensures.ok) c.requires.fits)

pub demand-requires-3 : goal.demand-requires-3
demand-requires-3 c =
    let shown = c.args.shown.now in
    let t = c.args.cycle in
    let b = c.args.bit in
    let not = negated c.args.pair in
    let reached = not ∷ at shown.reached t b ∷ at shown.reached (t + 1) b ∷ [] in
    let near = not ∷ signal_at shown.near b ∷ [] in
    let hot = not ∷ signal_at shown.hot t ∷ signal_at shown.hot (t + 1) ∷ [] in
    rw (c.negated-not.ensures, c.signal_at-2.ensures, c.signal_at-3.ensures, c.as_slice-hot.ensures) (third_demand c.args.form.now c.demand.new.self c.demand-2.new.self reached near hot (rw (c.negated-not.ensures, c.at.ensures, c.at-2.ensures, c.as_slice-reached.ensures) at c.in_ok-demand.ensures.ok) (rw (c.negated-not.ensures, c.signal_at.ensures, c.as_slice.ensures) at c.in_ok-demand-2.ensures.ok) c.requires.fits)

pub returns : goal.returns
returns c =
    let shown = c.args.shown.now in
    let t = c.args.cycle in
    let b = c.args.bit in
    let not = negated c.args.pair in
    let reached = not ∷ at shown.reached t b ∷ at shown.reached (t + 1) b ∷ [] in
    let near = not ∷ signal_at shown.near b ∷ [] in
    let hot = not ∷ signal_at shown.hot t ∷ signal_at shown.hot (t + 1) ∷ [] in
    record { formula = all_demands c.args.form.now c.demand.new.self c.demand-2.new.self c.demand-3.new.self reached near hot (rw (c.negated-not.ensures, c.at.ensures, c.at-2.ensures, c.as_slice-reached.ensures) at c.in_ok-demand.ensures.ok) (rw (c.negated-not.ensures, c.signal_at.ensures, c.as_slice.ensures) at c.in_ok-demand-2.ensures.ok) (rw (c.negated-not.ensures, c.signal_at-2.ensures, c.signal_at-3.ensures, c.as_slice-hot.ensures) at c.in_ok-demand-3.ensures.ok) }
