-- What is left of a gate's part while it is built, and which places a choice can have.
use Rattle.std.proofs.Common.{◌≡◌, ℕ, zero, suc, ◌-◌, ◌<◌, Bool, true, false, List, [], ◌∷◌, length, get_or, slice_set, Some, ◌⊎◌, inl, inr, refl, sym, ap, subst, ◌∙◌, arith}
use Rattle.circuit_clauses.specs.declared.signal.Signal.{Signal}
use Rattle.circuit_clauses.specs.declared.signal.Signal.TheVariants.{Constant}
use Rattle.circuit_clauses.specs.Formulas.{Formula}
use Rattle.clause_builds.specs.Builds.{Build, made, after, done, ◌>>=◌, through, xor_gate}
use Rattle.clause_builds.specs.Rows.{signal_at, xor_into}
use Rattle.std.proofs.lemmas.List.{length-set}
use Rattle.clause_builds.proofs.Leaving.{IsLeft, all_left, next_left, none_left, made-done, made-bind}
use Rattle.clause_builds.proofs.Lists.{through-nil, through-cons}
use Rattle.label_cone.specs.Coned.{mark_at}
use Rattle.node_clauses.specs.Choices.{four_places, choices}
use Rattle.node_clauses.specs.Selectors.{selectors, add_place, add_places, known_place, known_or_fresh, some_has, others_differ, no_places}
use Rattle.coco_base.specs.declared.cell.Kind.{Kind}
use Rattle.coco_base.specs.declared.cell.Part.{Part}
use Rattle.coco_base.specs.declared.unrolled.Node.TheVariants.{Nothing, Gate}
use Rattle.node_clauses.specs.Sums.{NodeRun, NodeSums, AreSized, AreAsLong, add_choice, add_node, add_nodes, add_operands, is_false, least_choice, set_least}

-- an exclusive or into a row leaves its length
pub length-xor_into : (f : Formula) (row : List Signal) (place : ℕ) (p b : Signal) → length (made f (xor_into row place p b)) ≡ length row
length-xor_into f row place p b =
    let gate = xor_gate (signal_at row place) p b in
    let s = made f gate in
    ap length (made-bind f gate (λ (t : Signal). done (slice_set row place t)) ∙ made-done (after f gate) (slice_set row place s)) ∙ length-set row place s

abbrev pub sums_of : List Signal → List Signal → List (List Signal) → NodeSums
sums_of weights totals selections = record { weights = weights; totals = totals; selections = selections }

abbrev chosen_sums : ℕ → NodeSums → List Signal → List Signal → NodeSums
chosen_sums i sums selected weights =
    record sums { weights = weights; selections = slice_set sums.selections i selected }

-- a build whose result is only laid elsewhere
pub laid : {X Y : Type 0} (f g : Formula) (first : Build X) (lay : X → Y) (x : X) → g ≡ after f first → x ≡ made f first
    → (lay x ≡ made f (first >>= (λ (y : X). done (lay y)))) × (g ≡ after f (first >>= (λ (y : X). done (lay y))))
laid {X = X} f g first lay x ef ex =
    none_left (lay x) (next_left first (λ (y : X). done (lay y)) g x (all_left f (first >>= (λ (y : X). done (lay y)))) ef ex)

abbrev operands_left : List ℕ → ℕ → NodeSums → List Signal → Build NodeSums
operands_left operands i sums selected =
    add_operands selected operands (signal_at sums.weights i) sums.weights >>= (λ (weights : List Signal). done (chosen_sums i sums selected weights))

pub selected_left : (f g : Formula) (numbers operands : List ℕ) (i : ℕ) (sums : NodeSums) (selected : List Signal)
    → g ≡ after f (selectors numbers) → selected ≡ made f (selectors numbers)
    → IsLeft f (add_choice numbers operands i sums) g
    (add_operands selected operands (signal_at sums.weights i) sums.weights >>= (λ (weights : List Signal). done (chosen_sums i sums selected weights)))
selected_left f g numbers operands i sums selected ef es =
    next_left (selectors numbers) (operands_left operands i sums) g selected (all_left f (add_choice numbers operands i sums)) ef es

pub choice_made : (f g h : Formula) (numbers operands : List ℕ) (i : ℕ) (sums : NodeSums) (selected weights : List Signal)
    → g ≡ after f (selectors numbers) → selected ≡ made f (selectors numbers)
    → h ≡ after g (add_operands selected operands (signal_at sums.weights i) sums.weights)
    → weights ≡ made g (add_operands selected operands (signal_at sums.weights i) sums.weights)
    → (chosen_sums i sums selected weights ≡ made f (add_choice numbers operands i sums)) × (h ≡ after f (add_choice numbers operands i sums))
choice_made f g h numbers operands i sums selected weights ef es eh ew =
    none_left (chosen_sums i sums selected weights)
    (next_left (add_operands selected operands (signal_at sums.weights i) sums.weights) (λ (w : List Signal). done (chosen_sums i sums selected w)) h weights
    (selected_left f g numbers operands i sums selected ef es) eh ew)

-- what each build of a list keeps, all of them keep
pub through_keeps : {X S : Type 0} (P : S → Type 0) (build : X → S → Build S)
    → ((g : Formula) (x : X) (s : S) → P s → P (made g (build x s)))
    → (xs : List X) (g : Formula) (s : S) → P s → P (made g (through build xs s))
through_keeps P build keeps [] g s p = subst (λ b. P (made g b)) (sym (through-nil build s)) (subst P (sym (made-done g s)) p)
through_keeps P build keeps (x ∷ xs) g s p =
    subst (λ b. P (made g b)) (sym (through-cons build x xs s))
    (subst P (sym (made-bind g (build x s) (through build xs)))
    (through_keeps P build keeps xs (after g (build x s)) (made g (build x s)) (keeps g x s p)))

set_cases : {X : Type 0} (xs : List X) (i j : ℕ) (y d : X) → ((j ≡ i) × (get_or (slice_set xs i y) j d ≡ y)) ⊎ (get_or (slice_set xs i y) j d ≡ get_or xs j d)
set_cases [] i j y d = inr refl
set_cases (x ∷ xs) zero zero y d = inl (refl, refl)
set_cases (x ∷ xs) zero (suc j) y d = inr refl
set_cases (x ∷ xs) (suc i) zero y d = inr refl
set_cases (x ∷ xs) (suc i) (suc j) y d = elim (set_cases xs i j y d) [ inl here ↦ inl (ap suc here.0, here.1) | inr there ↦ inr there ]

-- a place of no number is false
none_known : (numbers : List ℕ) (selected : List Signal) (p : ℕ) → some_has numbers p ≡ false → known_place numbers selected p ≡ Some (Constant false)
none_known numbers selected p e = rw e refl

none_false : (g : Formula) (numbers : List ℕ) (selected : List Signal) (p : ℕ) → some_has numbers p ≡ false
    → made g (known_or_fresh (known_place numbers selected p)) ≡ Constant false
none_false g numbers selected p e = rw (none_known numbers selected p e) (made-done g (Constant false))

place_made : (g : Formula) (numbers : List ℕ) (p : ℕ) (selected : List Signal)
    → made g (add_place numbers p selected) ≡ slice_set selected p (made g (known_or_fresh (known_place numbers selected p)))
place_made g numbers p selected =
    made-bind g (known_or_fresh (known_place numbers selected p)) (λ (s : Signal). done (slice_set selected p s))
    ∙ made-done (after g (known_or_fresh (known_place numbers selected p))) (slice_set selected p (made g (known_or_fresh (known_place numbers selected p))))

from_absent : (has false_there : Bool) → (has ≡ false → false_there ≡ true) → false_there ≡ false → has ≡ true
from_absent true b h e = refl
from_absent false b h e = let f = h refl in cc

abbrev AbsentFalse : List ℕ → List Signal → Type 0
AbsentFalse numbers selected = (j : ℕ) → some_has numbers j ≡ false → is_false (signal_at selected j) ≡ true

place_keeps : (numbers : List ℕ) (g : Formula) (p : ℕ) (selected : List Signal) → AbsentFalse numbers selected → AbsentFalse numbers (made g (add_place numbers p selected))
place_keeps numbers g p selected h j none =
    let s = made g (known_or_fresh (known_place numbers selected p)) in
    subst (λ (row : List Signal). is_false (signal_at row j) ≡ true) (sym (place_made g numbers p selected))
    (elim (set_cases selected p j s (Constant false)) [
      | inl here ↦ let e : s ≡ Constant false = none_false g numbers selected p (subst (λ k. some_has numbers k ≡ false) here.0 none) in
          ap is_false (here.1 ∙ e)
      | inr there ↦ ap is_false there ∙ h j none
    ])

none_at_first : (numbers : List ℕ) → AbsentFalse numbers no_places
none_at_first numbers zero e = refl
none_at_first numbers (suc zero) e = refl
none_at_first numbers (suc (suc zero)) e = refl
none_at_first numbers (suc (suc (suc zero))) e = refl
none_at_first numbers (suc (suc (suc (suc j)))) e = refl

selectors_are : (f : Formula) (numbers : List ℕ) → made f (selectors numbers) ≡ made f (add_places numbers no_places)
selectors_are f numbers =
    let selected = made f (add_places numbers no_places) in
    let g = after f (add_places numbers no_places) in
    made-bind f (add_places numbers no_places) (λ (s : List Signal). others_differ numbers s >>= (λ all. done s))
    ∙ (made-bind g (others_differ numbers selected) (λ all. done selected) ∙ made-done (after g (others_differ numbers selected)) selected)

-- a place of a choice that is not false is a place of some number
pub some_number_has : (f : Formula) (numbers : List ℕ) (selected : List Signal) (j : ℕ) → selected ≡ made f (selectors numbers)
    → is_false (signal_at selected j) ≡ false → some_has numbers j ≡ true
some_number_has f numbers selected j e there =
    from_absent (some_has numbers j) (is_false (signal_at selected j))
    (subst (λ (row : List Signal). some_has numbers j ≡ false → is_false (signal_at row j) ≡ true) (sym (e ∙ selectors_are f numbers))
    (through_keeps (AbsentFalse numbers) (add_place numbers) (place_keeps numbers) four_places f no_places (none_at_first numbers) j)) there

-- what a node hands on, by what it is
pub nothing_added : (run : NodeRun) (i : ℕ) (sums : NodeSums) → get_or run.nodes i Nothing ≡ Nothing → add_node run i sums ≡ done sums
nothing_added run i sums e = rw e refl

pub least_set : (run : NodeRun) (i : ℕ) (sums : NodeSums) (kind : Kind) (parts : List Part) (operands : List ℕ)
    → get_or run.nodes i Nothing ≡ Gate kind parts operands → mark_at run.matters i ≡ false
    → add_node run i sums ≡ done (set_least (choices kind parts) i sums)
least_set run i sums kind parts operands e m = rw (e, m) refl

pub choice_added : (run : NodeRun) (i : ℕ) (sums : NodeSums) (kind : Kind) (parts : List Part) (operands : List ℕ)
    → get_or run.nodes i Nothing ≡ Gate kind parts operands → mark_at run.matters i ≡ true
    → add_node run i sums ≡ add_choice (choices kind parts) operands i sums
choice_added run i sums kind parts operands e m = rw (e, m) refl

-- sums that are as long as sized ones are sized
pub sized_as : (run : NodeRun) (sums others : NodeSums) → AreSized run others → AreAsLong sums others → AreSized run sums
sized_as run sums others sized long = record {
  weights = long.weights ∙ sized.weights;
  totals = long.totals ∙ sized.totals;
  selections = long.selections ∙ sized.selections;
}

pub least_sized : (run : NodeRun) (i : ℕ) (numbers : List ℕ) (sums : NodeSums) → AreSized run sums → AreSized run (set_least numbers i sums)
least_sized run i numbers sums sized = record {
  weights = sized.weights;
  totals = sized.totals;
  selections = length-set sums.selections i (least_choice numbers) ∙ sized.selections;
}

-- the last of some nodes comes first
pub last_first : (run : NodeRun) (n : ℕ) (sums : NodeSums) → 0 < n → add_nodes run n sums ≡ (add_node run (n - 1) sums >>= add_nodes run (n - 1))
last_first run zero sums h = absurd (omega arith)
last_first run (suc n) sums h = let e : suc n - 1 ≡ n = omega arith in rw e refl
