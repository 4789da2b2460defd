-- The analysis of a conflict: marks of variables stand for the clause that there is so far.
use Rattle.std.specs.Prelude.{◌≡◌, ◌≢◌, ℕ, ◌+◌, ◌<◌, ◌≤◌, Bool, true, false, not, List, [], ◌∷◌, length, take, drop, map, Some, None, is_some, option_map, slice_get, slice_index_or, cond, eqb, All}
use Rattle.clause_store.specs.declared.lit.Lit.{Lit}
use Rattle.clause_store.specs.declared.line.Cut.{Cut}
use Rattle.clause_store.specs.Signs.{Signs, sign_of}
use Rattle.clause_store.specs.Assignments.{IsUnit}
use Rattle.clause_store.specs.Resolvents.{LeadsTo}
use Rattle.clause_solver.specs.Trails.{History, level_start_of}

abbrev pub is_marked : List Bool → ℕ → Bool
is_marked marks v = slice_index_or marks v false

-- the clause that the marks stand for: the marked variables, with the signs that are false
abbrev pub marked_signs : List Lit → List Bool → Signs
marked_signs lits marks v = cond (is_marked marks v) (option_map not (sign_of lits v)) None

-- which places of the trail are marked
abbrev pub flags : List Bool → List Lit → List Bool
flags marks lits = map (λ l. is_marked marks l.var) lits

-- how many are true
abbrev pub trues : List Bool → ℕ
trues [] = 0
trues (true ∷ xs) = trues xs + 1
trues (false ∷ xs) = trues xs

-- how many places from the start on are marked
abbrev pub marked_from : List Bool → List Lit → ℕ → ℕ
marked_from marks lits start = trues (drop start (flags marks lits))

-- the literals set each variable of the clause
abbrev pub Covers : List Lit → List Lit → Type 0
Covers lits clause = (v : ℕ) (sign : Bool) → sign_of clause v ≡ Some sign → is_some (sign_of lits v) ≡ true

-- an analysis that has dealt with all places from the top on
pub record IsWalked (clauses : List (List Lit)) (lits conflict : List Lit) (cuts : List Cut) (marks : List Bool)
    (start top count : ℕ) : Type 0 where
  pub within : top ≤ length lits
  pub below : (v : ℕ) → is_marked marks v ≡ true → is_some (sign_of (take top lits) v) ≡ true
  pub counted : count ≡ marked_from marks lits start
  pub leads : LeadsTo clauses (sign_of conflict) cuts (marked_signs lits marks)

-- of all literals that were false, only one was not so before the last decision
pub record IsLearnt (lits : List Lit) (start : ℕ) (clause : List Lit) : Type 0 where
  pub var : ℕ
  pub sign : Bool
  pub unit : IsUnit (take start lits) clause var sign
  pub is_open : sign_of (take start lits) var ≡ None

-- what an analysis makes of a conflict: a clause that is false, empty where nothing was decided
pub record IsAnalyzed (h : History) (clause : List Lit) : Type 0 where
  pub below : All (λ l. l.var < h.vars) clause
  pub covered : Covers h.lits clause
  pub empty : h.starts ≡ [] → clause ≡ []
  pub learnt : h.starts ≢ [] → IsLearnt h.lits (level_start_of h) clause

-- as many marks from the last decision on as are left at the end: one where something was decided
abbrev pub least_of : History → ℕ
least_of h = cond (eqb (length h.starts) 0) 0 1

-- the same, from the clause of a number
pub record IsChained (clauses : List (List Lit)) (h : History) (first : ℕ) (cuts : List Cut) (marks : List Bool)
    (top count : ℕ) : Type 0 where
  pub conflict : List Lit
  pub named : slice_get clauses first ≡ Some conflict
  pub walked : IsWalked clauses h.lits conflict cuts marks (level_start_of h) top count
  pub least : least_of h ≤ count
