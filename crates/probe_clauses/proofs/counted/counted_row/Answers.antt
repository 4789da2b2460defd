use Rattle.std.proofs.Common.{List}
use Rattle.circuit_clauses.specs.declared.signal.Signal.{Signal}
use Rattle.clause_builds.specs.Rows.{fresh_row, count_up}
use Rattle.clause_builds.proofs.Leaving.{all_left, first_fits, second_fits, two_ends}
use Rattle.probe_clauses.specs.Rows.{picked, counted, counted_row}
use Rattle.probe_clauses.proofs.counted.counted_row.Goals as goal

pub fresh_row-requires : goal.fresh_row-requires
fresh_row-requires c = first_fits _ _ (all_left c.args.form.now (counted_row c.args.limit c.args.wanted.now)) c.requires

pub count_up-requires : goal.count_up-requires
count_up-requires c =
    rw (c.as_slice-2.ensures, c.in_ok-signals.ensures, c.as_slice.ensures) (second_fits c.args.form.now (fresh_row c.args.wanted.now) (λ (row : List Signal). count_up c.args.limit (picked c.args.wanted.now row)) counted
    c.fresh_row.new.form c.in_ok-row.row c.in_ok-row.ensures.formula c.in_ok-row.ensures.signals c.requires)

pub returns-clause-counted : goal.returns-clause-counted
returns-clause-counted c =
    (two_ends c.args.form.now (fresh_row c.args.wanted.now) (λ (row : List Signal). count_up c.args.limit (picked c.args.wanted.now row)) counted
    c.fresh_row.new.form c.in_ok-row.row c.count_up.new.form c.in_ok-count.count c.in_ok-row.ensures.formula c.in_ok-row.ensures.signals
    (rw (c.as_slice-2.ensures, c.in_ok-signals.ensures, c.as_slice.ensures) at c.in_ok-count.ensures.formula)
    (rw (c.as_slice-2.ensures, c.in_ok-signals.ensures, c.as_slice.ensures) at c.in_ok-count.ensures.tally)).0

pub returns-clause-formula : goal.returns-clause-formula
returns-clause-formula c =
    (two_ends c.args.form.now (fresh_row c.args.wanted.now) (λ (row : List Signal). count_up c.args.limit (picked c.args.wanted.now row)) counted
    c.fresh_row.new.form c.in_ok-row.row c.count_up.new.form c.in_ok-count.count c.in_ok-row.ensures.formula c.in_ok-row.ensures.signals
    (rw (c.as_slice-2.ensures, c.in_ok-signals.ensures, c.as_slice.ensures) at c.in_ok-count.ensures.formula)
    (rw (c.as_slice-2.ensures, c.in_ok-signals.ensures, c.as_slice.ensures) at c.in_ok-count.ensures.tally)).1
