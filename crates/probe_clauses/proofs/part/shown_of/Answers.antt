use Rattle.std.proofs.Common.{refl}
use Rattle.clause_builds.proofs.Leaving.{all_left, first_fits, next_left, none_left}
use Rattle.probe_clauses.specs.Probings.{probing_of}
use Rattle.probe_clauses.specs.Parts.{shown_by, shown_of}
use Rattle.probe_clauses.proofs.part.shown_of.Goals as goal

pub activities-requires : goal.activities-requires
activities-requires c =
    let run = probing_of c.args.run.now in
    let l0 = all_left c.args.form.now (shown_of run c.args.groups c.args.cycles.now) in
    (first_fits _ _ l0 c.requires)

pub hot_cycles-requires : goal.hot_cycles-requires
hot_cycles-requires c =
    let run = probing_of c.args.run.now in
    let l0 = all_left c.args.form.now (shown_of run c.args.groups c.args.cycles.now) in
    let l1 = next_left _ _ c.activities.new.form c.in_ok-active.active l0 c.in_ok-active.ensures.formula c.in_ok-active.ensures.rows in
    (first_fits _ _ l1 c.requires)

pub links-requires : goal.links-requires
links-requires c =
    let run = probing_of c.args.run.now in
    let l0 = all_left c.args.form.now (shown_of run c.args.groups c.args.cycles.now) in
    let l1 = next_left _ _ c.activities.new.form c.in_ok-active.active l0 c.in_ok-active.ensures.formula c.in_ok-active.ensures.rows in
    let l2 = next_left _ _ c.hot_cycles.new.form c.in_ok-hot.hot l1 c.in_ok-hot.ensures.formula c.in_ok-hot.ensures.row in
    rw (c.as_slice.ensures, c.as_slice-2.ensures) (first_fits _ _ l2 c.requires)

pub reached-requires : goal.reached-requires
reached-requires c =
    let run = probing_of c.args.run.now in
    let l0 = all_left c.args.form.now (shown_of run c.args.groups c.args.cycles.now) in
    let l1 = next_left _ _ c.activities.new.form c.in_ok-active.active l0 c.in_ok-active.ensures.formula c.in_ok-active.ensures.rows in
    let l2 = next_left _ _ c.hot_cycles.new.form c.in_ok-hot.hot l1 c.in_ok-hot.ensures.formula c.in_ok-hot.ensures.row in
    let l3 = next_left _ _ c.links.new.form tt l2 (rw (c.as_slice.ensures, c.as_slice-2.ensures) at c.in_ok-links.ensures.formula) refl in
    rw c.as_slice-3.ensures (first_fits _ _ l3 c.requires)

pub returns-clause-shown : goal.returns-clause-shown
returns-clause-shown c =
    let run = probing_of c.args.run.now in
    let l0 = all_left c.args.form.now (shown_of run c.args.groups c.args.cycles.now) in
    let l1 = next_left _ _ c.activities.new.form c.in_ok-active.active l0 c.in_ok-active.ensures.formula c.in_ok-active.ensures.rows in
    let l2 = next_left _ _ c.hot_cycles.new.form c.in_ok-hot.hot l1 c.in_ok-hot.ensures.formula c.in_ok-hot.ensures.row in
    let l3 = next_left _ _ c.links.new.form tt l2 (rw (c.as_slice.ensures, c.as_slice-2.ensures) at c.in_ok-links.ensures.formula) refl in
    let l4 = next_left _ _ c.reached.new.form c.in_ok-reached.reached l3 (rw c.as_slice-3.ensures at c.in_ok-reached.ensures.formula) (rw c.as_slice-3.ensures at c.in_ok-reached.ensures.rows) in
    (none_left (shown_by c.in_ok-reached.reached c.args.groups.near c.in_ok-hot.hot) l4).0

pub returns-clause-formula : goal.returns-clause-formula
returns-clause-formula c =
    let run = probing_of c.args.run.now in
    let l0 = all_left c.args.form.now (shown_of run c.args.groups c.args.cycles.now) in
    let l1 = next_left _ _ c.activities.new.form c.in_ok-active.active l0 c.in_ok-active.ensures.formula c.in_ok-active.ensures.rows in
    let l2 = next_left _ _ c.hot_cycles.new.form c.in_ok-hot.hot l1 c.in_ok-hot.ensures.formula c.in_ok-hot.ensures.row in
    let l3 = next_left _ _ c.links.new.form tt l2 (rw (c.as_slice.ensures, c.as_slice-2.ensures) at c.in_ok-links.ensures.formula) refl in
    let l4 = next_left _ _ c.reached.new.form c.in_ok-reached.reached l3 (rw c.as_slice-3.ensures at c.in_ok-reached.ensures.formula) (rw c.as_slice-3.ensures at c.in_ok-reached.ensures.rows) in
    (none_left (shown_by c.in_ok-reached.reached c.args.groups.near c.in_ok-hot.hot) l4).1
