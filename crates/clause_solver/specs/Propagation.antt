-- How clauses stand under a trail, and what a search keeps of its trail and its clauses.
use Rattle.std.specs.Prelude.{◌≡◌, ℕ, ◌<◌, ◌≤◌, List, length, take, Option, Some, None, slice_get, slice_index, All, IsSome}
use Rattle.clause_store.specs.declared.lit.Lit.{Lit}
use Rattle.clause_store.specs.Signs.{Ascends, sign_of}
use Rattle.clause_store.specs.Assignments.{HasTrue, HasTwoOpen, IsClosed, IsFalsified, IsUnit}
use Rattle.clause_solver.specs.Trails.{History, IsCoherent}
use Rattle.clause_solver.specs.declared.standing.Standing.{Standing}
use Rattle.clause_solver.specs.declared.standing.Standing.TheVariants.{Met, Loose, Unit, Broken}

-- each variable of the clause is below a number
abbrev pub IsOver : ℕ → List Lit → Type 0
IsOver vars clause = All (λ l. l.var < vars) clause

-- a clause over variables below a number
pub record IsInRange (vars : ℕ) (clause : List Lit) : Type 0 where
  pub ascends : Ascends clause
  pub below : IsOver vars clause

-- all literals of the clause are false but this one, which is open
pub record IsUnitOpen (lits clause : List Lit) (lit : Lit) : Type 0 where
  pub unit : IsUnit lits clause lit.var lit.positive
  pub is_open : sign_of lits lit.var ≡ None

abbrev pub IsStanding : List Lit → List Lit → Standing → Type 0
IsStanding lits clause Met = HasTrue lits clause
IsStanding lits clause Loose = HasTwoOpen lits clause
IsStanding lits clause (Unit lit) = IsUnitOpen lits clause lit
IsStanding lits clause Broken = IsFalsified lits clause

-- the clause of the number forced the literal at the place: the literals before it make all its others false
pub record IsReason (clauses : List (List Lit)) (lits : List Lit) (place id : ℕ) : Type 0 where
  pub lit : Lit
  pub at_place : slice_get lits place ≡ Some lit
  pub clause : List Lit
  pub named : slice_get clauses id ≡ Some clause
  pub unit : IsUnit (take place lits) clause lit.var lit.positive

-- each literal was decided or forced by a clause, and before each decision propagation had nothing left to do
pub record IsExplained (clauses : List (List Lit)) (h : History) : Type 0 where
  pub coherent : IsCoherent h
  pub reasoned : (p id : ℕ) → slice_get h.reasons p ≡ Some (Some id) → IsReason clauses h.lits p id
  pub decided : (p : ℕ) → slice_get h.reasons p ≡ Some None → (k : ℕ) × (k < length h.starts) × (slice_index h.starts k ≡ p)
  pub ordered : (j k : ℕ) → j < k → k < length h.starts → slice_index h.starts j < slice_index h.starts k
  pub bounded : (k : ℕ) → k < length h.starts → slice_index h.starts k < length h.lits
  pub closed : (k : ℕ) → k < length h.starts → IsClosed (take (slice_index h.starts k) h.lits) clauses
  pub in_range : All (IsInRange h.vars) clauses

-- the clause of the number is false
pub record IsBrokenAt (clauses : List (List Lit)) (lits : List Lit) (id : ℕ) : Type 0 where
  pub clause : List Lit
  pub named : slice_get clauses id ≡ Some clause
  pub falsified : IsFalsified lits clause

-- more literals may be set after those that were, and the variables are the same
pub record Extends (old new : History) : Type 0 where
  pub vars : new.vars ≡ old.vars
  pub longer : length old.lits ≤ length new.lits
  pub front : take (length old.lits) new.lits ≡ old.lits

-- every variable is set
abbrev pub IsFull : History → Type 0
IsFull h = (v : ℕ) → v < h.vars → IsSome (sign_of h.lits v)

-- nothing is left to do and every variable is set
pub record IsModel (clauses : List (List Lit)) (h : History) : Type 0 where
  pub closed : IsClosed h.lits clauses
  pub full : IsFull h

abbrev pub IsSearched : List (List Lit) → History → Option ℕ → Type 0
IsSearched clauses h None = IsModel clauses h
IsSearched clauses h (Some id) = IsBrokenAt clauses h.lits id
