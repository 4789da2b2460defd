-- What comes of a look at clauses that are listed under a literal which is false.
use Rattle.std.specs.Prelude.{◌≡◌, ◌≢◌, ℕ, ◌+◌, ◌-◌, ◌<◌, ◌≤◌, List, length, take, Option, Some, None, slice_get}
use Rattle.clause_store.specs.declared.lit.Lit.{Lit}
use Rattle.clause_solver.specs.Trails.{History}
use Rattle.clause_solver.specs.Propagation.{IsBrokenAt}
use Rattle.clause_solver.specs.Watches.{Watching, listed_under, IsFalse, IsPending, IsSettled}
use Rattle.clause_solver.specs.declared.propagate.Spot.{Spot}
use Rattle.clause_solver.specs.declared.propagate.Visit.{Visit}
use Rattle.clause_solver.specs.declared.propagate.Visit.TheVariants.{Stays, Gone, Failed}

-- the entries from one on are still to be looked at, of a list of this length
pub record IsLeft (clauses : List (List Lit)) (h : History) (w : Watching) (spot : Spot) (entry len : ℕ) : Type 0 where
  pub pending : IsPending clauses h w spot.lit spot.place entry
  pub count : length (listed_under w spot.lit) ≡ len

abbrev pub IsVisited : List (List Lit) → History → Watching → Watching → Spot → Visit → Type 0
IsVisited clauses h old w spot Stays = IsLeft clauses h w spot (spot.entry + 1) (length (listed_under old spot.lit))
IsVisited clauses h old w spot Gone = IsLeft clauses h w spot spot.entry (length (listed_under old spot.lit) - 1)
IsVisited clauses h old w spot (Failed id) = IsBrokenAt clauses h.lits id

-- some clause is false, or only what was set from the head on may still force something
abbrev pub IsSettledOr : List (List Lit) → History → Watching → ℕ → Option ℕ → Type 0
IsSettledOr clauses h w head None = IsSettled clauses w (take head h.lits) h.lits
IsSettledOr clauses h w head (Some id) = IsBrokenAt clauses h.lits id

-- the literals of a clause between two places are false, but for one of a variable
abbrev pub AreFalseBetween : List Lit → List Lit → ℕ → ℕ → ℕ → Type 0
AreFalseBetween lits clause var low high =
    (k : ℕ) (l : Lit) → low ≤ k → k < high → slice_get clause k ≡ Some l → l.var ≢ var → IsFalse lits l
