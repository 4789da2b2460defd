-- The laws of steps, as facts that contracts name.
use Rattle.std.specs.Prelude.{◌≡◌, ℕ, ◌+◌, ◌*◌, ◌≤◌, Bool, List, length, All, ◌↔◌}
use Rattle.clause_store.specs.Assignments.{IsMet}
use Rattle.circuit_clauses.specs.declared.signal.Signal.{Signal}
use Rattle.circuit_clauses.specs.Signals.{value}
use Rattle.circuit_clauses.specs.Steps.{Step, clauses_of_steps, variables_after}
use Rattle.circuit_clauses.specs.Gates.{or_and, xor_and}
use Rattle.circuit_clauses.specs.Meanings.{AllHold, AreDefined, AllReadBelow, HasOneEvaluation, or_and_value, xor_and_value}

-- values meet the clauses of steps exactly where every step holds
abbrev pub ClausesLaw : Type 0
ClausesLaw =
    (values : ℕ → Bool) (var : ℕ) (steps : List Step) → All (IsMet values) (clauses_of_steps var steps) ↔ AllHold values var steps

-- the signal of a gate has the gate's value, whether a step made it or it was there already
abbrev pub GatesLaw : Type 0
GatesLaw =
    (values : ℕ → Bool) (var : ℕ) (a p b : Signal)
    → (AreDefined values var (or_and var a p b).steps → value values (or_and var a p b).signal ≡ or_and_value values a p b)
    × (AreDefined values var (xor_and var a p b).steps → value values (xor_and var a p b).signal ≡ xor_and_value values a p b)

-- steps that read earlier variables alone have one evaluation for any values of the first variables and the inputs
abbrev pub EvaluationLaw : Type 0
EvaluationLaw =
    (inputs : ℕ → Bool) (var : ℕ) (steps : List Step) → AllReadBelow var steps → HasOneEvaluation inputs var steps

-- a step adds at most one variable and at most 6 clauses
abbrev pub SizeLaw : Type 0
SizeLaw =
    (var : ℕ) (steps : List Step) → (variables_after var steps ≤ var + length steps)
    × (length (clauses_of_steps var steps) ≤ 6 * length steps)
