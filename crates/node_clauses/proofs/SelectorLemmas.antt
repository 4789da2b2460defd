-- The signals of a choice: what is left after the places are set.
use Rattle.std.proofs.Common.{◌≡◌, ℕ, List, refl}
use Rattle.circuit_clauses.specs.declared.signal.Signal.{Signal}
use Rattle.circuit_clauses.specs.Formulas.{Formula}
use Rattle.clause_builds.specs.Builds.{Build, made, after, done, ◌>>=◌}
use Rattle.clause_builds.proofs.Leaving.{IsLeft, all_left, next_left, none_left}
use Rattle.node_clauses.specs.Selectors.{selectors, add_places, others_differ, no_places}

abbrev others_left : List ℕ → List Signal → Build (List Signal)
others_left numbers selected = others_differ numbers selected >>= (λ all. done selected)

pub places_set : (f g : Formula) (numbers : List ℕ) (selected : List Signal)
    → g ≡ after f (add_places numbers no_places) → selected ≡ made f (add_places numbers no_places)
    → IsLeft f (selectors numbers) g (others_differ numbers selected >>= (λ all. done selected))
places_set f g numbers selected ef es =
    next_left (add_places numbers no_places) (others_left numbers) g selected (all_left f (selectors numbers)) ef es

pub selectors_made : (f g h : Formula) (numbers : List ℕ) (selected : List Signal)
    → g ≡ after f (add_places numbers no_places) → selected ≡ made f (add_places numbers no_places)
    → h ≡ after g (others_differ numbers selected) → (selected ≡ made f (selectors numbers)) × (h ≡ after f (selectors numbers))
selectors_made f g h numbers selected ef es eh =
    none_left selected (next_left (others_differ numbers selected) (λ all. done selected) h tt (places_set f g numbers selected ef es) eh refl)
