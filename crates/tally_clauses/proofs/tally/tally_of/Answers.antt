use Rattle.std.proofs.Common.{◌≡◌, [], OnOk, sym, ◌∙◌, subst}
use Rattle.circuit_clauses.specs.Formulas.{Formula, extended, Fits}
use Rattle.circuit_clauses.proofs.Sequences.{extended-append}
use Rattle.tally_clauses.specs.Tallies.{levels, add_up}
use Rattle.tally_clauses.proofs.Turns.{levels_turn, levels_fits, levels_ended, tree_fits, top_fits}
use Rattle.tally_clauses.proofs.tally.tally_of.Goals as goal

pub pair_up-requires : goal.pair_up-requires
pair_up-requires c =
    rw c.as_slice.ensures (levels_fits c.rising.form c.args.limit c.rising.tallies 32 c.rising._level c.rising-test.true (subst Fits (sym c.rising.invariant.formula) (tree_fits c.args.form.now c.args.limit c.args.parts c.requires)))

pub rising-preserved : goal.rising-preserved
rising-preserved c =
    let inv = c.rising.invariant in
    let t = levels_turn c.rising.form c.pair_up.new.form c.args.limit c.rising.tallies c.in_ok-tallies.tallies 32 c.rising._level c.rising-test.true (rw c.as_slice.ensures at c.in_ok-tallies.ensures.formula) (rw c.as_slice.ensures at c.in_ok-tallies.ensures.tallies) in
    record { tallies = t.0 ∙ inv.tallies; formula = t.1 ∙ inv.formula }

pub add_up-requires : goal.add_up-requires
add_up-requires c =
    let all = levels 32 c.args.limit c.args.form.now.vars c.args.parts in
    let e = levels_ended c.rising.form (extended c.args.form.now all.steps) c.args.limit c.rising.tallies all.tallies 32 c.rising._level c.rising-test.false c.rising.invariant.tallies c.rising.invariant.formula in
    rw c.as_slice-2.ensures (top_fits c.args.form.now c.rising.form c.args.limit c.args.parts c.rising.tallies e.0 e.1 c.requires)

pub returns-clause-tally : goal.returns-clause-tally
returns-clause-tally c =
    let all = levels 32 c.args.limit c.args.form.now.vars c.args.parts in
    let e = levels_ended c.rising.form (extended c.args.form.now all.steps) c.args.limit c.rising.tallies all.tallies 32 c.rising._level c.rising-test.false c.rising.invariant.tallies c.rising.invariant.formula in
    rw (c.as_slice-2.ensures, e.0, e.1) at c.add_up.ensures.tally

pub returns-clause-formula : goal.returns-clause-formula
returns-clause-formula c =
    let f = c.args.form.now in
    let all = levels 32 c.args.limit f.vars c.args.parts in
    let e = levels_ended c.rising.form (extended f all.steps) c.args.limit c.rising.tallies all.tallies 32 c.rising._level c.rising-test.false c.rising.invariant.tallies c.rising.invariant.formula in
    let top = add_up c.args.limit (extended f all.steps).vars [] all.tallies in
    subst (λ (k : Formula). OnOk c.add_up.result (c.add_up.new.form ≡ k)) (sym (extended-append f all.steps top.steps)) (rw (c.as_slice-2.ensures, e.0, e.1) at c.add_up.ensures.formula)
