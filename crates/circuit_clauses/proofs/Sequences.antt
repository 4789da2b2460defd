-- Steps one after the other.
use Rattle.std.proofs.Common.{◌≡◌, ℕ, ◌+◌, ◌≤◌, ◌^◌, Bool, List, [], ◌∷◌, ◌++◌, length, refl, sym, ap, ◌∙◌, subst, append_assoc, length-append, arith}
use Rattle.std.proofs.lemmas.List.{append-nil}
use Rattle.clause_store.specs.declared.lit.Lit.{Lit}
use Rattle.circuit_clauses.specs.Steps.{Step, step_clauses, next_variable, variables_after, clauses_of_steps}
use Rattle.circuit_clauses.specs.Steps.Step.{input, or_and_gate, xor_and_gate, demand}
use Rattle.circuit_clauses.specs.Formulas.{Formula, extended, Fits}
use Rattle.circuit_clauses.specs.Meanings.{IsDefined, AreDefined, Holds, AllHold}

pub variables_after-append : (var : ℕ) (steps more : List Step) → variables_after var (steps ++ more) ≡ variables_after (variables_after var steps) more
variables_after-append var [] more = refl
variables_after-append var (step ∷ steps) more = variables_after-append (next_variable var step) steps more

pub clauses_of_steps-append : (var : ℕ) (steps more : List Step) → clauses_of_steps var (steps ++ more) ≡ clauses_of_steps var steps ++ clauses_of_steps (variables_after var steps) more
clauses_of_steps-append var [] more = refl
clauses_of_steps-append var (step ∷ steps) more =
    ap (λ (cs : List (List Lit)). step_clauses var step ++ cs) (clauses_of_steps-append (next_variable var step) steps more)
    ∙ sym (append_assoc (step_clauses var step) (clauses_of_steps (next_variable var step) steps) (clauses_of_steps (variables_after (next_variable var step) steps) more))

formula_of : ℕ → List (List Lit) → Formula
formula_of vars clauses = record { vars = vars; clauses = clauses }

pub extended-append : (f : Formula) (steps more : List Step) → extended f (steps ++ more) ≡ extended (extended f steps) more
unfolding formula_of
extended-append f steps more =
    let v : variables_after f.vars (steps ++ more) ≡ variables_after (variables_after f.vars steps) more = variables_after-append f.vars steps more in
    let c : f.clauses ++ clauses_of_steps f.vars (steps ++ more) ≡ (f.clauses ++ clauses_of_steps f.vars steps) ++ clauses_of_steps (variables_after f.vars steps) more =
    ap (λ (cs : List (List Lit)). f.clauses ++ cs) (clauses_of_steps-append f.vars steps more)
    ∙ sym (append_assoc f.clauses (clauses_of_steps f.vars steps) (clauses_of_steps (variables_after f.vars steps) more)) in
    let e : formula_of (variables_after f.vars (steps ++ more)) (f.clauses ++ clauses_of_steps f.vars (steps ++ more)) ≡ formula_of (variables_after (variables_after f.vars steps) more) ((f.clauses ++ clauses_of_steps f.vars steps) ++ clauses_of_steps (variables_after f.vars steps) more) = cc in
    e

pub extended-nil : (f : Formula) → extended f [] ≡ f
unfolding formula_of
extended-nil f =
    let e : formula_of f.vars (f.clauses ++ []) ≡ formula_of f.vars f.clauses = ap (formula_of f.vars) (append-nil f.clauses) in e

next_above : (var : ℕ) (step : Step) → var ≤ next_variable var step
next_above var input = omega arith
next_above var (or_and_gate a p b) = omega arith
next_above var (xor_and_gate a p b) = omega arith
next_above var (demand signals) = omega arith

pub variables_above : (var : ℕ) (steps : List Step) → var ≤ variables_after var steps
variables_above var [] = omega arith
variables_above var (step ∷ steps) =
    let first = next_above var step in
    let rest = variables_above (next_variable var step) steps in
    omega arith

-- a formula that fits after more steps fits after the first of them
pub fits_before : (f : Formula) (steps : List Step) → Fits (extended f steps) → Fits f
fits_before f steps h =
    let v : f.vars ≤ variables_after f.vars steps = variables_above f.vars steps in
    let c : length (f.clauses ++ clauses_of_steps f.vars steps) ≡ length f.clauses + length (clauses_of_steps f.vars steps) = length-append f.clauses (clauses_of_steps f.vars steps) in
    let hv : variables_after f.vars steps ≤ 2 ^ 30 = h.vars in
    let hc : length (f.clauses ++ clauses_of_steps f.vars steps) ≤ 2 ^ 31 = h.clauses in
    record { vars = omega arith; clauses = omega arith }

pub fits_front : (f : Formula) (steps more : List Step) → Fits (extended f (steps ++ more)) → Fits (extended f steps)
fits_front f steps more h = fits_before (extended f steps) more (subst Fits (extended-append f steps more) h)

pub fits_rest : (f : Formula) (steps more : List Step) → Fits (extended f (steps ++ more)) → Fits (extended (extended f steps) more)
fits_rest f steps more h = subst Fits (extended-append f steps more) h

pub defined_front : (values : ℕ → Bool) (var : ℕ) (steps more : List Step) → AreDefined values var (steps ++ more) → AreDefined values var steps
defined_front values var [] more h = tt
defined_front values var (step ∷ steps) more h = (h.0, defined_front values (next_variable var step) steps more h.1)

pub defined_rest : (values : ℕ → Bool) (var : ℕ) (steps more : List Step) → AreDefined values var (steps ++ more) → AreDefined values (variables_after var steps) more
defined_rest values var [] more h = h
defined_rest values var (step ∷ steps) more h = defined_rest values (next_variable var step) steps more h.1

pub hold_front : (values : ℕ → Bool) (var : ℕ) (steps more : List Step) → AllHold values var (steps ++ more) → AllHold values var steps
hold_front values var [] more h = tt
hold_front values var (step ∷ steps) more h = (h.0, hold_front values (next_variable var step) steps more h.1)

pub hold_rest : (values : ℕ → Bool) (var : ℕ) (steps more : List Step) → AllHold values var (steps ++ more) → AllHold values (variables_after var steps) more
hold_rest values var [] more h = h
hold_rest values var (step ∷ steps) more h = hold_rest values (next_variable var step) steps more h.1

pub hold-append : (values : ℕ → Bool) (var : ℕ) (steps more : List Step) → AllHold values var steps → AllHold values (variables_after var steps) more → AllHold values var (steps ++ more)
hold-append values var [] more h k = k
hold-append values var (step ∷ steps) more h k = (h.0, hold-append values (next_variable var step) steps more h.1 k)

pub defined_step : (values : ℕ → Bool) (var : ℕ) (step : Step) → Holds values var step → IsDefined values var step
defined_step values var input h = tt
defined_step values var (or_and_gate a p b) h = h
defined_step values var (xor_and_gate a p b) h = h
defined_step values var (demand signals) h = tt

-- where all steps hold, the gates have their values
pub defined_from_hold : (values : ℕ → Bool) (var : ℕ) (steps : List Step) → AllHold values var steps → AreDefined values var steps
defined_from_hold values var [] h = tt
defined_from_hold values var (step ∷ steps) h = (defined_step values var step h.0, defined_from_hold values (next_variable var step) steps h.1)
