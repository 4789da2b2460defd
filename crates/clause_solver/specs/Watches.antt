-- Clauses that are watched by two of their literals.
use Rattle.std.specs.Prelude.{◌≡◌, ◌≢◌, ℕ, ◌+◌, ◌*◌, ◌<◌, ◌≤◌, cond, not, ◌⊎◌, List, [], ◌∷◌, ◌++◌, length, take, Option, Some, None, slice_get, slice_index, slice_index_or, slice_set}
use Rattle.std.specs.List.{swap_remove}
use Rattle.clause_store.specs.declared.lit.Lit.{Lit}
use Rattle.clause_store.specs.Signs.{sign_of}
use Rattle.clause_store.specs.Assignments.{HasTrue}
use Rattle.clause_solver.specs.Trails.{History}
use Rattle.clause_solver.specs.Propagation.{IsExplained}
use Rattle.clause_solver.specs.declared.watches.Pair.{Pair}

-- the place of a literal among all
abbrev pub code_of : Lit → ℕ
code_of l = 2 * l.var + cond l.positive 1 0

abbrev pub opposite_of : Lit → Lit
opposite_of l = record { var = l.var; positive = not l.positive }

abbrev pub pair_lits : Lit → Lit → Pair
pair_lits one other = record { one = one; other = other }

-- by literal the numbers of the clauses that are listed under it, and by clause the literals that it is watched by
pub record Watching : Type 0 where
  pub lists : List (List ℕ)
  pub pairs : List (Option Pair)

abbrev pub listed_under : Watching → Lit → List ℕ
listed_under w l = slice_index_or w.lists (code_of l) []

abbrev pub pair_of : Watching → ℕ → Option Pair
pair_of w id = slice_index_or w.pairs id None

-- with a clause listed under one more literal
abbrev pub listed : Watching → Lit → ℕ → Watching
listed w l id = record { lists = slice_set w.lists (code_of l) (listed_under w l ++ id ∷ []); pairs = w.pairs }

-- with one clause more, which is watched by two literals
abbrev pub paired : Watching → Pair → ℕ → Watching
paired w p id = record { lists = (listed (listed w p.one id) p.other id).lists; pairs = w.pairs ++ Some p ∷ [] }

-- with one clause more, which is not watched
abbrev pub unpaired : Watching → Watching
unpaired w = record { lists = w.lists; pairs = w.pairs ++ None ∷ [] }

-- with one clause more, which is watched by a literal and another one, if there is one
abbrev pub watched_by : Watching → Lit → Option Lit → ℕ → Watching
watched_by w l None id = unpaired w
watched_by w l (Some other) id = paired w (pair_lits l other) id

-- a clause is watched by a pair whose first literal is new
abbrev pub rewatched : Watching → Pair → ℕ → Watching
rewatched w p id = record { lists = (listed w p.one id).lists; pairs = slice_set w.pairs id (Some p) }

-- a clause no longer listed under a literal: the last one comes into its place
abbrev pub removed : Watching → Lit → ℕ → Watching
removed w l entry = record { lists = slice_set w.lists (code_of l) (swap_remove (listed_under w l) entry 0); pairs = w.pairs }

abbrev pub IsIn : Lit → Pair → Type 0
IsIn l p = (l ≡ p.one) ⊎ (l ≡ p.other)

-- the other literal of the pair, where it has this one
abbrev pub IsPartner : Option Pair → Lit → Option Lit → Type 0
IsPartner pair l None = (p : Pair) → pair ≡ Some p → IsIn l p → ⊥
IsPartner pair l (Some other) = (pair ≡ Some (pair_lits l other)) ⊎ (pair ≡ Some (pair_lits other l))

-- the list has the number at some place from the start on
pub record StandsFrom (list : List ℕ) (start id : ℕ) : Type 0 where
  pub place : ℕ
  pub past : start ≤ place
  pub at_place : slice_get list place ≡ Some id

-- the clause holds the literal
abbrev pub Holds : List Lit → Lit → Type 0
Holds clause l = sign_of clause l.var ≡ Some l.positive

abbrev pub IsFalse : List Lit → Lit → Type 0
IsFalse lits l = sign_of lits l.var ≡ Some (not l.positive)

-- two literals of the clause
pub record IsPairOf (clause : List Lit) (p : Pair) : Type 0 where
  pub one : Holds clause p.one
  pub other : Holds clause p.other
  pub differ : p.one.var ≢ p.other.var

-- each clause that is watched is so by two of its literals, and listed under both
pub record IsWatching (clauses : List (List Lit)) (vars : ℕ) (w : Watching) : Type 0 where
  pub lists_len : length w.lists ≡ 2 * vars
  pub pairs_len : length w.pairs ≡ length clauses
  pub held : (id : ℕ) (c : List Lit) (p : Pair) → slice_get clauses id ≡ Some c → pair_of w id ≡ Some p → IsPairOf c p
  pub listed : (id : ℕ) (p : Pair) (l : Lit) → pair_of w id ≡ Some p → IsIn l p → StandsFrom (listed_under w l) 0 id

-- neither of two literals is false
pub record IsAwake (front : List Lit) (pair : Option Pair) : Type 0 where
  pub lits : Pair
  pub is : pair ≡ Some lits
  pub awake : (l : Lit) → IsIn l lits → IsFalse front l → ⊥

-- the clause has a true literal, or those that it is watched by are not false before a place
abbrev pub IsSettledFor : List Lit → List Lit → List Lit → Option Pair → Type 0
IsSettledFor front lits c pair = HasTrue lits c ⊎ IsAwake front pair

abbrev pub IsSettled : List (List Lit) → Watching → List Lit → List Lit → Type 0
IsSettled clauses w front lits =
    (id : ℕ) (c : List Lit) → slice_get clauses id ≡ Some c → IsSettledFor front lits c (pair_of w id)

-- what holds of trail, clauses and watches at every time: before each decision each clause was settled
pub record IsGuarded (clauses : List (List Lit)) (h : History) (w : Watching) : Type 0 where
  pub explained : IsExplained clauses h
  pub watching : IsWatching clauses h.vars w
  pub fronts : (k : ℕ) → k < length h.starts →
      IsSettled clauses w (take (slice_index h.starts k) h.lits) (take (slice_index h.starts k) h.lits)

-- only what was set from the head on may still force something
pub record IsWatched (clauses : List (List Lit)) (h : History) (w : Watching) (head : ℕ) : Type 0 where
  pub guarded : IsGuarded clauses h w
  pub within : head ≤ length h.lits
  pub settled : IsSettled clauses w (take head h.lits) h.lits

-- the clauses listed under the opposite of the literal at a place, from an entry on, may not be settled for it yet
abbrev pub IsPending : List (List Lit) → History → Watching → Lit → ℕ → ℕ → Type 0
IsPending clauses h w l place entry =
    (id : ℕ) (c : List Lit) → slice_get clauses id ≡ Some c →
    IsSettledFor (take (place + 1) h.lits) h.lits c (pair_of w id)
    ⊎ (IsSettledFor (take place h.lits) h.lits c (pair_of w id) × StandsFrom (listed_under w l) entry id)
