-- What a search keeps from line to line, and what a turn of it leaves.
use Rattle.std.specs.Prelude.{◌≡◌, ℕ, ◌+◌, ◌*◌, List, [], length, false, Option, Some, None, replicate}
use Rattle.clause_store.specs.declared.lit.Lit.{Lit}
use Rattle.clause_store.specs.Derivations.{clauses_of}
use Rattle.clause_solver.specs.Trails.{History, untouched}
use Rattle.clause_solver.specs.Propagation.{IsExplained, IsModel, IsBrokenAt}
use Rattle.clause_solver.specs.Watches.{Watching, IsWatched}
use Rattle.clause_solver.specs.Outcomes.{IsReady, IsRefutation}
use Rattle.clause_solver.specs.declared.turn.State.{State}
use Rattle.clause_solver.specs.declared.turn.Turn.{Turn}
use Rattle.clause_solver.specs.declared.turn.Turn.TheVariants.{Met, Refuted, Learnt}

-- nothing is set, no clause is watched, no variable is marked, and there are no lines
pub record IsUntouched (vars : ℕ) (s : State) : Type 0 where
  pub trail : s.trail ≡ untouched vars
  pub watches : s.watches ≡ record { lists = replicate (2 * vars) []; pairs = [] }
  pub head : s.head ≡ 0
  pub marks : s.marks.items ≡ replicate vars false
  pub lines : s.lines ≡ []

-- ready for the next line, and only what was set from the head on may still force something
pub record IsGoing (store : List (List Lit)) (s : State) : Type 0 where
  pub ready : IsReady store s.lines s.trail s.marks.items
  pub watched : IsWatched (clauses_of store s.lines) s.trail s.watches s.head

-- some clause is false before anything was decided
pub record IsBrokenFirst (store : List (List Lit)) (h : History) (id : ℕ) : Type 0 where
  pub explained : IsExplained store h
  pub broken : IsBrokenAt store h.lits id
  pub level : h.starts ≡ []

-- all clauses of the store are watched or have a true literal, or one is false
abbrev pub IsBegun : List (List Lit) → History → Watching → Option ℕ → Type 0
IsBegun store h w None = IsWatched store h w 0
IsBegun store h w (Some id) = IsBrokenFirst store h id

-- what is set meets all clauses
pub record IsMetBy (store : List (List Lit)) (s : State) : Type 0 where
  pub explained : IsExplained (clauses_of store s.lines) s.trail
  pub model : IsModel (clauses_of store s.lines) s.trail

pub record IsRefuted (store : List (List Lit)) (before : ℕ) (s : State) : Type 0 where
  pub refutation : IsRefutation store s.lines
  pub count : length s.lines ≡ before + 1

pub record HasLearnt (store : List (List Lit)) (before : ℕ) (s : State) : Type 0 where
  pub going : IsGoing store s
  pub count : length s.lines ≡ before + 1

-- after that many lines: nothing is left to do, or there is one line more, the empty one or another
abbrev pub IsTurned : List (List Lit) → ℕ → State → Turn → Type 0
IsTurned store before s Met = IsMetBy store s
IsTurned store before s Refuted = IsRefuted store before s
IsTurned store before s Learnt = HasLearnt store before s
