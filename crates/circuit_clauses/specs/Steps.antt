-- The steps in which a formula is built, and their clauses.
use Rattle.std.specs.Prelude.{ℕ, ◌+◌, false, List, [], ◌∷◌, ◌++◌}
use Rattle.std.specs.List.{flat_map}
use Rattle.clause_store.specs.declared.lit.Lit.{Lit}
use Rattle.circuit_clauses.specs.declared.signal.Signal.{Signal}
use Rattle.circuit_clauses.specs.declared.signal.Signal.TheVariants.{Literal}
use Rattle.circuit_clauses.specs.Signals.{negated, disjunction}

-- a variable without a clause; a variable that is a or (p and b); one that is the exclusive or of a with (p and b); or
-- the demand that some signal of a list is true
pub data Step : Type 0 where
  input : Step
  or_and_gate : (a p b : Signal) → Step
  xor_and_gate : (a p b : Signal) → Step
  demand : (signals : List Signal) → Step

-- the signal of a gate's variable. It is the negative literal: a solver that sets the variables it picks to false first
-- then decides that signals are true, and only so do conflicts stay few
abbrev pub gate_signal : ℕ → Signal
gate_signal var = Literal (record { var = var; positive = false })

-- that v is a or (p and b), as disjunctions
abbrev pub or_and_disjunctions : Signal → Signal → Signal → Signal → List (List Signal)
or_and_disjunctions a p b v =
    (negated a ∷ v ∷ []) ∷ (negated p ∷ negated b ∷ v ∷ []) ∷ (a ∷ p ∷ negated v ∷ []) ∷ (a ∷ b ∷ negated v ∷ []) ∷ []

-- that v is the exclusive or of a with (p and b), as disjunctions
abbrev pub xor_and_disjunctions : Signal → Signal → Signal → Signal → List (List Signal)
xor_and_disjunctions a p b v =
    (p ∷ negated a ∷ v ∷ []) ∷ (p ∷ a ∷ negated v ∷ [])
    ∷ (b ∷ negated a ∷ v ∷ []) ∷ (b ∷ a ∷ negated v ∷ [])
    ∷ (negated p ∷ negated b ∷ a ∷ v ∷ []) ∷ (negated p ∷ negated b ∷ negated a ∷ negated v ∷ []) ∷ []

-- what a step says, as disjunctions, where var is the next variable
abbrev pub disjunctions : ℕ → Step → List (List Signal)
disjunctions var input = []
disjunctions var (or_and_gate a p b) = or_and_disjunctions a p b (gate_signal var)
disjunctions var (xor_and_gate a p b) = xor_and_disjunctions a p b (gate_signal var)
disjunctions var (demand signals) = signals ∷ []

-- the next variable after a step
abbrev pub next_variable : ℕ → Step → ℕ
next_variable var input = var + 1
next_variable var (or_and_gate a p b) = var + 1
next_variable var (xor_and_gate a p b) = var + 1
next_variable var (demand signals) = var

-- the clauses of a step
abbrev pub step_clauses : ℕ → Step → List (List Lit)
step_clauses var step = flat_map disjunction (disjunctions var step)

-- the clauses of steps, one step after the other
abbrev pub clauses_of_steps : ℕ → List Step → List (List Lit)
clauses_of_steps var [] = []
clauses_of_steps var (step ∷ steps) = step_clauses var step ++ clauses_of_steps (next_variable var step) steps

-- the next variable after steps
abbrev pub variables_after : ℕ → List Step → ℕ
variables_after var [] = var
variables_after var (step ∷ steps) = variables_after (next_variable var step) steps
