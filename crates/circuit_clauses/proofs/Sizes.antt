-- How much a step adds.
use Rattle.std.proofs.Common.{ℕ, ◌+◌, ◌*◌, ◌≤◌, ◌^◌, List, [], ◌∷◌, length, Option, Some, None, option_to_list, arith, length-append}
use Rattle.std.specs.List.{flat_map}
use Rattle.clause_store.specs.declared.lit.Lit.{Lit}
use Rattle.circuit_clauses.specs.declared.signal.Signal.{Signal}
use Rattle.circuit_clauses.specs.Signals.{joined, disjunction}
use Rattle.circuit_clauses.specs.Steps.{Step, gate_signal, or_and_disjunctions, xor_and_disjunctions, step_clauses, next_variable, variables_after, clauses_of_steps}
use Rattle.circuit_clauses.specs.Steps.Step.{input, or_and_gate, xor_and_gate, demand}
use Rattle.circuit_clauses.specs.Gates.{made_by, known_or_and, known_xor_and}
use Rattle.circuit_clauses.specs.Formulas.{Formula, extended, Fits, CanStep}

at_most_one : (o : Option (List Lit)) → length (option_to_list o) ≤ 1
at_most_one None = omega arith
at_most_one (Some c) = omega arith

pub length-disjunctions : (lists : List (List Signal)) → length (flat_map disjunction lists) ≤ length lists
length-disjunctions [] = omega arith
length-disjunctions (signals ∷ lists) =
    let one : length (disjunction signals) ≤ 1 = at_most_one (joined [] signals) in
    let rest = length-disjunctions lists in
    let both = length-append (disjunction signals) (flat_map disjunction lists) in
    omega arith

pub length-step : (var : ℕ) (step : Step) → length (step_clauses var step) ≤ 6
length-step var input = omega arith
length-step var (or_and_gate a p b) =
    let h = length-disjunctions (or_and_disjunctions a p b (gate_signal var)) in omega arith
length-step var (xor_and_gate a p b) =
    let h = length-disjunctions (xor_and_disjunctions a p b (gate_signal var)) in omega arith
length-step var (demand signals) =
    let h = length-disjunctions (signals ∷ []) in omega arith

next_after : (var : ℕ) (step : Step) → next_variable var step ≤ var + 1
next_after var input = omega arith
next_after var (or_and_gate a p b) = omega arith
next_after var (xor_and_gate a p b) = omega arith
next_after var (demand signals) = omega arith

pub variables_within : (var : ℕ) (steps : List Step) → variables_after var steps ≤ var + length steps
variables_within var [] = omega arith
variables_within var (step ∷ steps) =
    let first = next_after var step in
    let rest = variables_within (next_variable var step) steps in
    omega arith

pub clauses_within : (var : ℕ) (steps : List Step) → length (clauses_of_steps var steps) ≤ 6 * length steps
clauses_within var [] = omega arith
clauses_within var (step ∷ steps) =
    let first = length-step var step in
    let rest = clauses_within (next_variable var step) steps in
    let both = length-append (step_clauses var step) (clauses_of_steps (next_variable var step) steps) in
    omega arith

fits_few : (f : Formula) (steps : List Step) → length steps ≤ 1 → f.vars + 1 ≤ 2 ^ 30 → length f.clauses + 6 ≤ 2 ^ 31 → Fits (extended f steps)
fits_few f steps few v c =
    let vars = variables_within f.vars steps in
    let clauses = clauses_within f.vars steps in
    let both = length-append f.clauses (clauses_of_steps f.vars steps) in
    record { vars = omega arith; clauses = omega arith }

made_few : (o : Option Signal) (var : ℕ) (step : Step) → length (made_by o var step).steps ≤ 1
made_few None var step = omega arith
made_few (Some s) var step = omega arith

pub can_step : (f : Formula) → f.vars + 1 ≤ 2 ^ 30 → length f.clauses + 6 ≤ 2 ^ 31 → CanStep f
can_step f v c =
    record {
      to_input = fits_few f (input ∷ []) (omega arith) v c;
      to_demand = λ signals. fits_few f (demand signals ∷ []) (omega arith) v c;
      to_or_and = λ a p b. fits_few f (made_by (known_or_and a p b) f.vars (or_and_gate a p b)).steps (made_few (known_or_and a p b) f.vars (or_and_gate a p b)) v c;
      to_xor_and = λ a p b. fits_few f (made_by (known_xor_and a p b) f.vars (xor_and_gate a p b)).steps (made_few (known_xor_and a p b) f.vars (xor_and_gate a p b)) v c;
    }
