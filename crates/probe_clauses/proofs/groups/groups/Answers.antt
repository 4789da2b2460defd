use Rattle.std.proofs.Common.{map}
use Rattle.clause_builds.proofs.Leaving.{all_left, first_fits, then_done}
use Rattle.probe_clauses.specs.declared.counted.Counted.{Counted}
use Rattle.probe_clauses.specs.Probings.{probing_of, is_moving, all_bits}
use Rattle.probe_clauses.specs.Rows.{counted_row}
use Rattle.probe_clauses.specs.Passes.{groups}
use Rattle.probe_clauses.proofs.groups.groups.Goals as goal

pub counted_row-requires : goal.counted_row-requires
counted_row-requires c =
    rw (c.order.ensures, c.as_slice.ensures, c.in_ok-moving.ensures) (first_fits _ _ (all_left c.args.form.now (groups (probing_of c.args.run.now))) c.requires)

pub returns-clause-groups : goal.returns-clause-groups
returns-clause-groups c =
    let run = probing_of c.args.run.now in
    (then_done c.args.form.now (counted_row run.order (map (is_moving run) (all_bits run))) (λ (all : Counted). all.row) c.counted_row.new.form c.in_ok-row.field-0
    (rw (c.order.ensures, c.as_slice.ensures, c.in_ok-moving.ensures) at c.in_ok-row.ensures.formula)
    (rw (c.order.ensures, c.as_slice.ensures, c.in_ok-moving.ensures) at c.in_ok-row.ensures.counted)).0

pub returns-clause-formula : goal.returns-clause-formula
returns-clause-formula c =
    let run = probing_of c.args.run.now in
    (then_done c.args.form.now (counted_row run.order (map (is_moving run) (all_bits run))) (λ (all : Counted). all.row) c.counted_row.new.form c.in_ok-row.field-0
    (rw (c.order.ensures, c.as_slice.ensures, c.in_ok-moving.ensures) at c.in_ok-row.ensures.formula)
    (rw (c.order.ensures, c.as_slice.ensures, c.in_ok-moving.ensures) at c.in_ok-row.ensures.counted)).1
