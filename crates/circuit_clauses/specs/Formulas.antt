-- Formulas that are being built.
use Rattle.std.specs.Prelude.{ℕ, ◌≤◌, ◌^◌, List, [], ◌∷◌, ◌++◌, length}
use Rattle.clause_store.specs.declared.lit.Lit.{Lit}
use Rattle.circuit_clauses.specs.declared.signal.Signal.{Signal}
use Rattle.circuit_clauses.specs.Steps.{Step, variables_after, clauses_of_steps}
use Rattle.circuit_clauses.specs.Steps.Step.{input, demand}
use Rattle.circuit_clauses.specs.Gates.{or_and, xor_and}

-- how many variables there are, numbered from 0, and the clauses
pub record Formula : Type 0 where
  pub vars : ℕ
  pub clauses : List (List Lit)

-- a formula after more steps
abbrev pub extended : Formula → List Step → Formula
extended formula steps =
    record {
      vars = variables_after formula.vars steps;
      clauses = formula.clauses ++ clauses_of_steps formula.vars steps;
    }

-- few enough variables and clauses for their numbers
pub record Fits (formula : Formula) : Type 0 where
  pub vars : formula.vars ≤ 2 ^ 30
  pub clauses : length formula.clauses ≤ 2 ^ 31

-- one more step fits, whichever it is
pub record CanStep (formula : Formula) : Type 0 where
  pub to_input : Fits (extended formula (input ∷ []))
  pub to_demand : (signals : List Signal) → Fits (extended formula (demand signals ∷ []))
  pub to_or_and : (a p b : Signal) → Fits (extended formula (or_and formula.vars a p b).steps)
  pub to_xor_and : (a p b : Signal) → Fits (extended formula (xor_and formula.vars a p b).steps)
