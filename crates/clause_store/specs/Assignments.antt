-- Assignments: which literals they make true, false or leave open, and when they are closed for a list of clauses.
use Rattle.std.specs.Prelude.{◌≡◌, ◌≢◌, ℕ, Bool, not, ◌⊎◌, List, Some, None, All}
use Rattle.std.specs.List.{AllPairs}
use Rattle.clause_store.specs.declared.lit.Lit.{Lit}
use Rattle.clause_store.specs.Signs.{sign_of}

-- literals of which no two have one variable with opposite signs: those in it are true, their opposites are
-- false, all others are open
abbrev pub IsAssignment : List Lit → Type 0
IsAssignment lits = AllPairs (λ l m. l.var ≡ m.var → l.positive ≡ m.positive) lits

-- some literal of the clause is true
pub record HasTrue (assignment clause : List Lit) : Type 0 where
  pub var : ℕ
  pub sign : Bool
  pub holds : sign_of clause var ≡ Some sign
  pub is_true : sign_of assignment var ≡ Some sign

-- two literals of the clause, of different variables, are open
pub record HasTwoOpen (assignment clause : List Lit) : Type 0 where
  pub one : ℕ
  pub other : ℕ
  pub differ : one ≢ other
  pub one_sign : Bool
  pub holds_one : sign_of clause one ≡ Some one_sign
  pub other_sign : Bool
  pub holds_other : sign_of clause other ≡ Some other_sign
  pub one_open : sign_of assignment one ≡ None
  pub other_open : sign_of assignment other ≡ None

abbrev pub IsClosedFor : List Lit → List Lit → Type 0
IsClosedFor assignment clause = HasTrue assignment clause ⊎ HasTwoOpen assignment clause

-- propagation has nothing left to do: each clause has a true literal or at least two open ones
abbrev pub IsClosed : List Lit → List (List Lit) → Type 0
IsClosed assignment clauses = All (IsClosedFor assignment) clauses

-- every literal of the clause is false
abbrev pub IsFalsified : List Lit → List Lit → Type 0
IsFalsified assignment clause = (v : ℕ) (sign : Bool) → sign_of clause v ≡ Some sign → sign_of assignment v ≡ Some (not sign)

-- the clause holds the literal of this variable and sign, and all its others are false
pub record IsUnit (assignment clause : List Lit) (var : ℕ) (sign : Bool) : Type 0 where
  pub holds : sign_of clause var ≡ Some sign
  pub others_false : (w : ℕ) (t : Bool) → w ≢ var → sign_of clause w ≡ Some t → sign_of assignment w ≡ Some (not t)

-- values of all variables make some literal of the clause true
pub record IsMet (values : ℕ → Bool) (clause : List Lit) : Type 0 where
  pub var : ℕ
  pub holds : sign_of clause var ≡ Some (values var)
