use Rattle.clause_builds.proofs.Leaving.{all_left, first_fits}
use Rattle.probe_clauses.specs.Windows.{windowed}
use Rattle.probe_clauses.proofs.Lasting.{heads_fits, windowed_ends}
use Rattle.probe_clauses.proofs.windows.windowed.Goals as goal

pub tails-requires-clause-fits : goal.tails-requires-clause-fits
tails-requires-clause-fits c = first_fits _ _ (all_left c.args.form.now (windowed c.args.window c.args.row.now)) c.requires.fits

pub heads-requires-clause-fits : goal.heads-requires-clause-fits
heads-requires-clause-fits c =
    rw c.as_slice.ensures.value (heads_fits c.args.form.now c.tails.new.form c.args.window c.args.row.now c.in_ok-tails.tails.items c.in_ok-tails.ensures.formula c.in_ok-tails.ensures.row c.requires.fits)

pub returns-clause-row : goal.returns-clause-row
returns-clause-row c =
    (windowed_ends c.args.form.now c.tails.new.form c.heads.new.form c.args.window c.args.row.now c.in_ok-tails.tails.items c.in_ok-list.list c.in_ok-tails.ensures.formula c.in_ok-tails.ensures.row
    (rw c.as_slice.ensures.value at c.in_ok-list.ensures.formula) (rw c.as_slice.ensures.value at c.in_ok-list.ensures.row)).0

pub returns-clause-formula : goal.returns-clause-formula
returns-clause-formula c =
    (windowed_ends c.args.form.now c.tails.new.form c.heads.new.form c.args.window c.args.row.now c.in_ok-tails.tails.items c.in_ok-list.list c.in_ok-tails.ensures.formula c.in_ok-tails.ensures.row
    (rw c.as_slice.ensures.value at c.in_ok-list.ensures.formula) (rw c.as_slice.ensures.value at c.in_ok-list.ensures.row)).1
