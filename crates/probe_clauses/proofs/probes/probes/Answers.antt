use Rattle.std.proofs.Common.{List, refl}
use Rattle.clause_builds.proofs.Leaving.{all_left, first_fits, second_fits, two_ends}
use Rattle.probe_clauses.specs.declared.counted.Counted.{Counted}
use Rattle.probe_clauses.specs.Probings.{probing_of}
use Rattle.probe_clauses.specs.Passes.{probe_rows, bound_probes, probes}
use Rattle.probe_clauses.proofs.probes.probes.Goals as goal

pub probe_rows-requires : goal.probe_rows-requires
probe_rows-requires c = first_fits _ _ (all_left c.args.form.now (probes (probing_of c.args.run.now))) c.requires

pub bound_probes-requires : goal.bound_probes-requires
bound_probes-requires c =
    let run = probing_of c.args.run.now in
    rw c.as_slice.ensures (second_fits c.args.form.now (probe_rows run) (bound_probes run) (λ (cycles : List Counted) (none : Unit {0}). cycles) c.probe_rows.new.form c.in_ok-cycles.cycles c.in_ok-cycles.ensures.formula c.in_ok-cycles.ensures.probes c.requires)

pub returns-clause-probes : goal.returns-clause-probes
returns-clause-probes c =
    let run = probing_of c.args.run.now in
    (two_ends c.args.form.now (probe_rows run) (bound_probes run) (λ (cycles : List Counted) (none : Unit {0}). cycles) c.probe_rows.new.form c.in_ok-cycles.cycles c.bound_probes.new.form tt
    c.in_ok-cycles.ensures.formula c.in_ok-cycles.ensures.probes (rw c.as_slice.ensures at c.in_ok-bound_probes.ensures.formula) refl).0

pub returns-clause-formula : goal.returns-clause-formula
returns-clause-formula c =
    let run = probing_of c.args.run.now in
    (two_ends c.args.form.now (probe_rows run) (bound_probes run) (λ (cycles : List Counted) (none : Unit {0}). cycles) c.probe_rows.new.form c.in_ok-cycles.cycles c.bound_probes.new.form tt
    c.in_ok-cycles.ensures.formula c.in_ok-cycles.ensures.probes (rw c.as_slice.ensures at c.in_ok-bound_probes.ensures.formula) refl).1
