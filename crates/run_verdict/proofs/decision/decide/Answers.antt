use Rattle.clause_solver.specs.declared.outcome.Outcome.TheVariants.{Satisfied, Derived, Spent}
use Rattle.std.proofs.Common.{refl, subst}
use Rattle.run_verdict.proofs.Answers.{accepted, outcome_at, rejected, spent_at, undecided}
use Rattle.run_verdict.proofs.Refuted.{derived_valid, trimmed_refutes}
use Rattle.run_verdict.specs.Verdicts.{Refutes}
use Rattle.run_verdict.proofs.decision.decide.Goals as goal

pub returns-in_ok-finding-in-Satisfied : goal.returns-in_ok-finding-in-Satisfied
returns-in_ok-finding-in-Satisfied g c =
    let form = c.args.encoded.now in
    let solution = outcome_at c.store-store.result.now form.formula.clauses c.vars.result form.formula.vars c.args.search.steps
    c.in_ok-model.field-0 (Satisfied c.in-Satisfied.model) c.store-store.ensures c.vars.ensures c.in-Satisfied.is c.in_ok-model.ensures.outcome in
    record {
      verdict = λ gates setup asked limits run.
          rejected c.meaning_law.ensures gates setup asked limits form run c.in-Satisfied.model c.as_slice.result.now
          c.in_ok-finding-in-Satisfied.field-0 solution c.as_slice.ensures c.in_ok-finding-in-Satisfied.ensures;
    }

pub trimmed-requires-clause-valid : goal.trimmed-requires-clause-valid
trimmed-requires-clause-valid g c =
    let found = outcome_at c.store-store.result.now c.store-store.result.now c.vars.result c.vars.result c.args.search.steps
    c.in_ok-model.field-0 (Derived c.in-Derived.derivation) refl refl c.in-Derived.is c.in_ok-model.ensures.outcome in
    derived_valid c.store-store.result.now c.in-Derived.derivation.lines found.1

pub returns-in_ok-trimmed-in-Derived : goal.returns-in_ok-trimmed-in-Derived
returns-in_ok-trimmed-in-Derived g c =
    let form = c.args.encoded.now in
    let store = c.store-store.result.now in
    let kept = c.in_ok-trimmed-in-Derived.field-0.lines in
    let found = outcome_at store store c.vars.result c.vars.result c.args.search.steps
    c.in_ok-model.field-0 (Derived c.in-Derived.derivation) refl refl c.in-Derived.is c.in_ok-model.ensures.outcome in
    let refutes = trimmed_refutes store c.args.search.steps c.in-Derived.derivation.lines kept found.0 found.1
    c.in_ok-trimmed-in-Derived.ensures.fewer c.in_ok-trimmed-in-Derived.ensures.ends c.in_ok-trimmed-in-Derived.ensures.valid
    c.in_ok-trimmed-in-Derived.ensures.fresh c.in_ok-trimmed-in-Derived.ensures.named in
    record {
      verdict = λ gates setup asked limits run.
          accepted c.meaning_law.ensures gates setup asked limits form run c.refutations_are_sound.ensures c.args.search.steps kept
          (subst (λ clauses. Refutes clauses c.args.search.steps kept) c.store-store.ensures refutes);
    }

pub returns-in-Spent : goal.returns-in-Spent
returns-in-Spent g c =
    let form = c.args.encoded.now in
    let progress = outcome_at c.store-store.result.now form.formula.clauses c.vars.result form.formula.vars c.args.search.steps
    c.in_ok-model.field-0 (Spent c.in-Spent.derivation) c.store-store.ensures c.vars.ensures c.in-Spent.is c.in_ok-model.ensures.outcome in
    let few = spent_at c.store-store.result.now form.formula.clauses c.vars.result form.formula.vars c.args.search.steps
    c.in_ok-model.field-0 (Spent c.in-Spent.derivation) c.store-store.ensures c.vars.ensures c.in-Spent.is c.in_ok-model.ensures.spent in
    record {
      verdict = λ gates setup asked limits run.
          undecided c.meaning_law.ensures gates setup asked limits form run c.args.search.steps c.in-Spent.derivation.lines
          progress.0 progress.1 few.0 few.1;
    }
