use Rattle.std.proofs.Common.{ℕ, true, get_or, arith}
use Rattle.clause_builds.specs.Builds.{fresh}
use Rattle.clause_builds.proofs.Leaving.{all_left}
use Rattle.clause_builds.proofs.Lists.{each_start, each_fits, each_turn, each_ended, item}
use Rattle.probe_encode.specs.Goals.{label_variables}
use Rattle.probe_encode.proofs.goal.label_variables.Goals as goal

pub labels-init : goal.labels-init
labels-init c =
    rw c.new-variables.ensures (each_start (λ (k : ℕ). fresh true) c.args.labels.now (all_left c.args.form.now (label_variables c.args.labels.now)))

pub input-variable-requires : goal.input-variable-requires
input-variable-requires c =
    let labels = c.args.labels.now in
    let i = c.labels._label-index in
    each_fits (λ (k : ℕ). fresh true) labels c.labels.variables i (get_or labels i 0) c.labels.invariant (omega arith) (item labels i 0 (omega arith)) c.requires

pub labels-preserved : goal.labels-preserved
labels-preserved c =
    let labels = c.args.labels.now in
    let i = c.labels._label-index in
    rw c.in_ok-push.ensures.ok (each_turn (λ (k : ℕ). fresh true) labels c.labels.variables i (get_or labels i 0) c.input-variable.new.self c.input-variable.result c.labels.invariant
    (omega arith) (item labels i 0 (omega arith)) c.input-variable.ensures.formula c.input-variable.ensures.signal)

pub returns-clause-signals : goal.returns-clause-signals
returns-clause-signals c = (each_ended (λ (k : ℕ). fresh true) c.args.labels.now c.labels.variables c.labels._label-index c.labels.invariant (omega arith)).0

pub returns-clause-formula : goal.returns-clause-formula
returns-clause-formula c = (each_ended (λ (k : ℕ). fresh true) c.args.labels.now c.labels.variables c.labels._label-index c.labels.invariant (omega arith)).1
