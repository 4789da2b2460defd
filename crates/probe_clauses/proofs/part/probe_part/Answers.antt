use Rattle.clause_builds.proofs.Leaving.{all_left, first_fits, next_left, none_left}
use Rattle.probe_clauses.specs.Probings.{probing_of}
use Rattle.probe_clauses.specs.Parts.{part_of, probe_part}
use Rattle.probe_clauses.proofs.part.probe_part.Goals as goal

pub group_bits-requires : goal.group_bits-requires
group_bits-requires c =
    let run = probing_of c.args.run.now in
    let l0 = all_left c.args.form.now (probe_part run) in
    (first_fits _ _ l0 c.requires)

pub probes-requires : goal.probes-requires
probes-requires c =
    let run = probing_of c.args.run.now in
    let l0 = all_left c.args.form.now (probe_part run) in
    let l1 = next_left _ _ c.group_bits.new.form c.in_ok-groups.groups l0 c.in_ok-groups.ensures.formula c.in_ok-groups.ensures.groups in
    (first_fits _ _ l1 c.requires)

pub shown_of-requires : goal.shown_of-requires
shown_of-requires c =
    let run = probing_of c.args.run.now in
    let l0 = all_left c.args.form.now (probe_part run) in
    let l1 = next_left _ _ c.group_bits.new.form c.in_ok-groups.groups l0 c.in_ok-groups.ensures.formula c.in_ok-groups.ensures.groups in
    let l2 = next_left _ _ c.probes.new.form c.in_ok-cycles.cycles l1 c.in_ok-cycles.ensures.formula c.in_ok-cycles.ensures.probes in
    rw c.as_slice.ensures (first_fits _ _ l2 c.requires)

pub pairs-requires : goal.pairs-requires
pairs-requires c =
    let run = probing_of c.args.run.now in
    let l0 = all_left c.args.form.now (probe_part run) in
    let l1 = next_left _ _ c.group_bits.new.form c.in_ok-groups.groups l0 c.in_ok-groups.ensures.formula c.in_ok-groups.ensures.groups in
    let l2 = next_left _ _ c.probes.new.form c.in_ok-cycles.cycles l1 c.in_ok-cycles.ensures.formula c.in_ok-cycles.ensures.probes in
    let l3 = next_left _ _ c.shown_of.new.form c.in_ok-shown.shown l2 (rw c.as_slice.ensures at c.in_ok-shown.ensures.formula) (rw c.as_slice.ensures at c.in_ok-shown.ensures.shown) in
    (first_fits _ _ l3 c.requires)

pub returns-clause-part : goal.returns-clause-part
returns-clause-part c =
    let run = probing_of c.args.run.now in
    let l0 = all_left c.args.form.now (probe_part run) in
    let l1 = next_left _ _ c.group_bits.new.form c.in_ok-groups.groups l0 c.in_ok-groups.ensures.formula c.in_ok-groups.ensures.groups in
    let l2 = next_left _ _ c.probes.new.form c.in_ok-cycles.cycles l1 c.in_ok-cycles.ensures.formula c.in_ok-cycles.ensures.probes in
    let l3 = next_left _ _ c.shown_of.new.form c.in_ok-shown.shown l2 (rw c.as_slice.ensures at c.in_ok-shown.ensures.formula) (rw c.as_slice.ensures at c.in_ok-shown.ensures.shown) in
    let l4 = next_left _ _ c.pairs.new.form c.in_ok-pairs.pairs l3 c.in_ok-pairs.ensures.formula c.in_ok-pairs.ensures.rows in
    rw (c.in_ok-probes.ensures, c.as_slice-2.ensures) (none_left (part_of c.in_ok-cycles.cycles c.in_ok-pairs.pairs) l4).0

pub returns-clause-formula : goal.returns-clause-formula
returns-clause-formula c =
    let run = probing_of c.args.run.now in
    let l0 = all_left c.args.form.now (probe_part run) in
    let l1 = next_left _ _ c.group_bits.new.form c.in_ok-groups.groups l0 c.in_ok-groups.ensures.formula c.in_ok-groups.ensures.groups in
    let l2 = next_left _ _ c.probes.new.form c.in_ok-cycles.cycles l1 c.in_ok-cycles.ensures.formula c.in_ok-cycles.ensures.probes in
    let l3 = next_left _ _ c.shown_of.new.form c.in_ok-shown.shown l2 (rw c.as_slice.ensures at c.in_ok-shown.ensures.formula) (rw c.as_slice.ensures at c.in_ok-shown.ensures.shown) in
    let l4 = next_left _ _ c.pairs.new.form c.in_ok-pairs.pairs l3 c.in_ok-pairs.ensures.formula c.in_ok-pairs.ensures.rows in
    (none_left (part_of c.in_ok-cycles.cycles c.in_ok-pairs.pairs) l4).1
