-- The demands of the goal, one for each of its clauses.
use Rattle.std.proofs.Common.{◌≡◌, ℕ, Bool, true, inl, inr, map, List, [], ◌∷◌, refl, sym, ap, subst}
use Rattle.circuit_clauses.specs.declared.signal.Signal.{Signal}
use Rattle.circuit_clauses.specs.Meanings.{AllHold, has_true}
use Rattle.circuit_clauses.specs.Signals.{value}
use Rattle.circuit_clauses.specs.Steps.{Step}
use Rattle.circuit_clauses.specs.Steps.Step.{demand}
use Rattle.clause_builds.specs.Builds.{done, through, ◌>>=◌}
use Rattle.probe_encode.specs.Goals.{some_holds}
use Rattle.coco_model.proofs.Basics.{Contains-here, Contains-later, Contains-cases, Contains-none}
use Rattle.formula_laws.proofs.GoalClauses.{AreTrue}

pub demand_steps : (clauses : List (List Signal)) (var : ℕ) → (through some_holds clauses tt var).steps ≡ map demand clauses
unfolding through ◌>>=◌ done
demand_steps [] var = refl
demand_steps (c ∷ cs) var = ap (λ (steps : List Step). demand c ∷ steps) (demand_steps cs var)

all_true : (values : ℕ → Bool) (clauses : List (List Signal)) (var : ℕ) → AllHold values var (map demand clauses)
    → AreTrue (value values) clauses
all_true values [] var h c i = absurd (Contains-none c i)
all_true values (d ∷ ds) var h c i = elim (Contains-cases d c ds i) [
  | inl e ↦ subst (λ k. has_true values k ≡ true) e h.0
  | inr j ↦ all_true values ds var h.1 c j
]

all_hold : (values : ℕ → Bool) (clauses : List (List Signal)) (var : ℕ) → AreTrue (value values) clauses
    → AllHold values var (map demand clauses)
all_hold values [] var all = tt
all_hold values (d ∷ ds) var all = (all d (Contains-here d ds), all_hold values ds var (λ c i. all c (Contains-later d c ds i)))

-- the demands hold where some signal of each clause is true
pub demands_true : (values : ℕ → Bool) (clauses : List (List Signal)) (var : ℕ) → AllHold values var (through some_holds clauses tt var).steps
    → AreTrue (value values) clauses
demands_true values clauses var h = all_true values clauses var (subst (AllHold values var) (demand_steps clauses var) h)

pub demands_hold : (values : ℕ → Bool) (clauses : List (List Signal)) (var : ℕ) → AreTrue (value values) clauses
    → AllHold values var (through some_holds clauses tt var).steps
demands_hold values clauses var all = subst (AllHold values var) (sym (demand_steps clauses var)) (all_hold values clauses var all)
