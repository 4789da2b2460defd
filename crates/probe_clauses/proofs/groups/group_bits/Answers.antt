use Rattle.clause_builds.proofs.Leaving.{all_left, first_fits, second_fits, two_ends}
use Rattle.probe_clauses.specs.Probings.{probing_of}
use Rattle.probe_clauses.specs.Passes.{groups, near_groups, grouped_by, group_bits}
use Rattle.probe_clauses.proofs.groups.group_bits.Goals as goal

pub groups-requires : goal.groups-requires
groups-requires c = first_fits _ _ (all_left c.args.form.now (group_bits (probing_of c.args.run.now))) c.requires

pub near_groups-requires : goal.near_groups-requires
near_groups-requires c =
    let run = probing_of c.args.run.now in
    rw c.as_slice.ensures (second_fits c.args.form.now (groups run) (near_groups run) grouped_by c.groups.new.form c.in_ok-group.group c.in_ok-group.ensures.formula c.in_ok-group.ensures.groups c.requires)

pub returns-clause-groups : goal.returns-clause-groups
returns-clause-groups c =
    let run = probing_of c.args.run.now in
    (two_ends c.args.form.now (groups run) (near_groups run) grouped_by c.groups.new.form c.in_ok-group.group c.near_groups.new.form c.in_ok-near.near c.in_ok-group.ensures.formula c.in_ok-group.ensures.groups
    (rw c.as_slice.ensures at c.in_ok-near.ensures.formula) (rw c.as_slice.ensures at c.in_ok-near.ensures.near)).0

pub returns-clause-formula : goal.returns-clause-formula
returns-clause-formula c =
    let run = probing_of c.args.run.now in
    (two_ends c.args.form.now (groups run) (near_groups run) grouped_by c.groups.new.form c.in_ok-group.group c.near_groups.new.form c.in_ok-near.near c.in_ok-group.ensures.formula c.in_ok-group.ensures.groups
    (rw c.as_slice.ensures at c.in_ok-near.ensures.formula) (rw c.as_slice.ensures at c.in_ok-near.ensures.near)).1
