use Rattle.std.proofs.Common.{arith, slice_set, true}
use Rattle.circuit_clauses.specs.declared.signal.Signal.{Signal}
use Rattle.circuit_clauses.specs.declared.signal.Signal.TheVariants.{Constant}
use Rattle.clause_builds.specs.Builds.{done, or_gate}
use Rattle.clause_builds.specs.Rows.{or_into, signal_at}
use Rattle.clause_builds.proofs.Leaving.{all_left, first_fits, next_left, none_left}
use Rattle.clause_builds.proofs.Past.{past_result, past_formula}
use Rattle.clause_builds.proofs.rows.or_into.Goals as goal

pub or_and-requires : goal.or_and-requires
or_and-requires c =
    first_fits _ _ (all_left c.args.form.now (or_into c.args.signals.now c.args.place c.args.other)) c.requires

pub returns-in_ok-signals-clause-signals : goal.returns-in_ok-signals-clause-signals
returns-in_ok-signals-clause-signals c =
    let row = c.args.signals.now in
    let place = c.args.place in
    (none_left (slice_set row place c.in_ok-signals.field-0)
    (next_left (or_gate (signal_at row place) c.args.other (Constant true)) (λ (s : Signal). done (slice_set row place s)) c.or_and.new.self c.in_ok-signals.field-0
    (all_left c.args.form.now (or_into row place c.args.other)) c.in_ok-signals.ensures.formula c.in_ok-signals.ensures.signal)).0

pub returns-in_ok-signals-clause-formula : goal.returns-in_ok-signals-clause-formula
returns-in_ok-signals-clause-formula c =
    let row = c.args.signals.now in
    let place = c.args.place in
    (none_left (slice_set row place c.in_ok-signals.field-0)
    (next_left (or_gate (signal_at row place) c.args.other (Constant true)) (λ (s : Signal). done (slice_set row place s)) c.or_and.new.self c.in_ok-signals.field-0
    (all_left c.args.form.now (or_into row place c.args.other)) c.in_ok-signals.ensures.formula c.in_ok-signals.ensures.signal)).1

pub returns-else-place-signals-clause-signals : goal.returns-else-place-signals-clause-signals
returns-else-place-signals-clause-signals c = past_result c.args.form.now c.args.signals.now c.args.place c.args.other (omega arith)

pub returns-else-place-signals-clause-formula : goal.returns-else-place-signals-clause-formula
returns-else-place-signals-clause-formula c = past_formula c.args.form.now c.args.signals.now c.args.place c.args.other (omega arith)
