-- What a solver answers.
use Rattle.std.specs.Prelude.{◌≡◌, ◌≢◌, ℕ, ◌<◌, ◌≤◌, ◌^◌, ⊤, Bool, false, ◌⊎◌, List, [], ◌∷◌, ◌++◌, length, slice_index_or, All, Contains}
use Rattle.clause_store.specs.declared.lit.Lit.{Lit}
use Rattle.clause_store.specs.declared.line.Line.{Line}
use Rattle.clause_store.specs.Assignments.{IsMet}
use Rattle.clause_store.specs.Derivations.{AllValid, AllNew, clauses_of}
use Rattle.clause_solver.specs.Trails.{History}
use Rattle.clause_solver.specs.Propagation.{IsExplained}
use Rattle.clause_solver.specs.declared.outcome.Outcome.{Outcome}
use Rattle.clause_solver.specs.declared.outcome.Outcome.TheVariants.{Satisfied, Derived, Spent}

-- a value for each variable, and they meet every clause
pub record IsSolution (store : List (List Lit)) (vars : ℕ) (values : List Bool) : Type 0 where
  pub len : length values ≡ vars
  pub met : All (IsMet (λ v. slice_index_or values v false)) store

-- each line is valid and new, and none is empty
pub record IsProgress (store : List (List Lit)) (lines : List Line) : Type 0 where
  pub valid : AllValid store lines
  pub fresh : AllNew store lines
  pub filled : All (λ line. line.clause ≢ []) lines

-- each line is valid and new, and the last one is empty
pub record IsRefutation (store : List (List Lit)) (lines : List Line) : Type 0 where
  pub valid : AllValid store lines
  pub fresh : AllNew store lines
  pub before : List Line
  pub last : Line
  pub ends : lines ≡ before ++ last ∷ []
  pub empty : last.clause ≡ []

abbrev pub IsOutcome : List (List Lit) → ℕ → ℕ → Outcome → Type 0
IsOutcome store vars steps (Satisfied values) = IsSolution store vars values
IsOutcome store vars steps (Derived d) = (length d.lines ≤ steps) × (IsRefutation store d.lines ⊎ ((d.lines ≡ []) × Contains store []))
IsOutcome store vars steps (Spent d) = (length d.lines ≡ steps) × IsProgress store d.lines

-- steps are spent only where they are fewer than 3 to the number of variables and no clause is empty
abbrev pub CanBeSpent : List (List Lit) → ℕ → ℕ → Outcome → Type 0
CanBeSpent store vars steps (Satisfied values) = ⊤
CanBeSpent store vars steps (Derived d) = ⊤
CanBeSpent store vars steps (Spent d) = (steps < 3 ^ vars) × All (λ c. c ≢ []) store

-- what a solver has before each line: its trail is explained, no clause is empty, and no variable is marked
pub record IsReady (store : List (List Lit)) (lines : List Line) (h : History) (marks : List Bool) : Type 0 where
  pub explained : IsExplained (clauses_of store lines) h
  pub progress : IsProgress store lines
  pub no_empty : All (λ c. c ≢ []) (clauses_of store lines)
  pub len : length marks ≡ h.vars
  pub clear : All (λ b. b ≡ false) marks
