-- Values that go on from given ones while nodes are added: choices that are read, and nodes that are no gates.
use Rattle.std.proofs.Common.{◌≡◌, ◌≢◌, ℕ, zero, suc, ◌<◌, ◌≤◌, ◌^◌, Bool, true, false, List, [], ◌∷◌, map, length, get_or, Option, Some, None, refl, sym, ap, ◌∙◌, subst, arith, inl, inr}
use Rattle.std.proofs.lemmas.Bool.{cases_eq}
use Rattle.coco_base.specs.declared.unrolled.Node.TheVariants.{Nothing, Label, Copy}
use Rattle.circuit_clauses.specs.declared.signal.Signal.{Signal}
use Rattle.circuit_clauses.specs.declared.signal.Signal.TheVariants.{Constant}
use Rattle.circuit_clauses.specs.Laws.{EvaluationLaw}
use Rattle.circuit_clauses.specs.Meanings.{IsBelow}
use Rattle.circuit_clauses.proofs.Evaluating.{value_below}
use Rattle.clause_builds.specs.Builds.{done}
use Rattle.clause_builds.specs.Rows.{signal_at, xor_into}
use Rattle.node_clauses.specs.Choices.{four_places, has_place}
use Rattle.node_clauses.specs.Selectors.{no_places}
use Rattle.node_clauses.specs.Sums.{NodeRun, NodeSums, AreSized, place_of, add_at, add_this}
use Rattle.node_clauses.specs.Chosen.{chosen_number}
use Rattle.node_laws.proofs.Numbers.{place_chosen, chosen-below, number_told}
use Rattle.node_laws.proofs.Extending.{Extends, AreSame, extends-done, extends-bind, extends-xor_into, Row, RowBelow, row_more}
use Rattle.node_laws.proofs.Selecting.{Told}

-- ---- a choice that is read

-- signals of earlier variables tell a number
pub record Reading (now : ℕ) (values : ℕ → Bool) (selected : List Signal) (number : ℕ) : Type 0 where
  pub below : RowBelow now selected
  pub reads : chosen_number values selected ≡ number

number_same : (values others : ℕ → Bool) (now : ℕ) (selected : List Signal) → RowBelow now selected → AreSame others values now
    → chosen_number others selected ≡ chosen_number values selected
number_same values others now [] low same = refl
number_same values others now (s ∷ ss) low same =
    let e = value_below others values now s (low 0) same in
    let f = number_same values others now ss (λ i. low (suc i)) same in
    rw (e, f) refl

reading_more : (now later : ℕ) (values others : ℕ → Bool) (selected : List Signal) (number : ℕ) → now ≤ later → AreSame others values now
    → Reading now values selected number → Reading later others selected number
reading_more now later values others selected number up same r =
    record { below = row_more now later selected up r.below; reads = number_same values others now selected r.below same ∙ r.reads }

pub told_reading : (number now : ℕ) (values : ℕ → Bool) (selected : List Signal) → number < 16 → Told number 4 now values selected → Reading now values selected number
told_reading number now values selected low t = record {
  below = t.below;
  reads = number_told (chosen_number values selected) number (subst (λ k. chosen_number values selected < 2 ^ k) t.four (chosen-below values selected)) low
      (at 0 (omega arith)) (at 1 (omega arith)) (at 2 (omega arith)) (at 3 (omega arith));
}
  where
    at : (p : ℕ) → p < 4 → has_place p (chosen_number values selected) ≡ has_place p number
    at p lt = place_chosen values selected p t.four lt ∙ t.told p lt

pub constants_below : (now : ℕ) (test : ℕ → Bool) (ps : List ℕ) → RowBelow now (map (λ p. Constant (test p)) ps)
constants_below now test [] i = tt
constants_below now test (p ∷ ps) zero = tt
constants_below now test (p ∷ ps) (suc i) = constants_below now test ps i

none_reading : (now : ℕ) (values : ℕ → Bool) (selected : List Signal) (number : ℕ) → selected ≡ no_places → number ≡ 0 → Reading now values selected number
none_reading now values selected number e z = record {
  below = subst (RowBelow now) (sym e) (constants_below now (λ p. false) four_places);
  reads = ap (chosen_number values) e ∙ sym z;
}

-- ---- sums while nodes are added

-- the signals of the sums are of earlier variables, and from node n on the choices are read
pub record Kept (run : NodeRun) (numbers : List ℕ) (n now : ℕ) (values : ℕ → Bool) (sums : NodeSums) : Type 0 where
  pub sized : AreSized run sums
  pub weights : RowBelow now sums.weights
  pub totals : RowBelow now sums.totals
  pub reads : (i : ℕ) → n ≤ i → i < length run.nodes → Reading now values (get_or sums.selections i []) (get_or numbers i 0)
  pub unset : (i : ℕ) → i < n → get_or sums.selections i [] ≡ no_places

-- one node more, with its choice
pub record NextOf (run : NodeRun) (n number now : ℕ) (values : ℕ → Bool) (sums next : NodeSums) : Type 0 where
  pub sized : AreSized run next
  pub weights : RowBelow now next.weights
  pub totals : RowBelow now next.totals
  pub others : (i : ℕ) → i ≢ n → get_or next.selections i [] ≡ get_or sums.selections i []
  pub here : Reading now values (get_or next.selections n []) number

pub kept_next : (run : NodeRun) (numbers : List ℕ) (n now later : ℕ) (values others : ℕ → Bool) (sums next : NodeSums) → now ≤ later → AreSame others values now
    → Kept run numbers (suc n) now values sums → NextOf run n (get_or numbers n 0) later others sums next → Kept run numbers n later others next
kept_next run numbers n now later values others sums next up same kept step = record {
  sized = step.sized;
  weights = step.weights;
  totals = step.totals;
  reads = λ i le lt. elim (cases_eq i n) [
    | inl here ↦ subst (λ k. Reading later others (get_or next.selections k []) (get_or numbers k 0)) (sym here) step.here
    | inr apart ↦ subst (λ selected. Reading later others selected (get_or numbers i 0)) (sym (step.others i apart))
        (reading_more now later values others (get_or sums.selections i []) (get_or numbers i 0) up same (kept.reads i (omega (arith, le, apart)) lt))
  ];
  unset = λ i lt. step.others i (λ e. omega (arith, lt, e)) ∙ kept.unset i (omega arith);
}

-- ---- nodes that are no gates

pub same_self : (values : ℕ → Bool) (now : ℕ) → AreSame values values now
same_self values now v lt = refl

pub nothing_extends : (run : NodeRun) (numbers : List ℕ) (n now : ℕ) (values : ℕ → Bool) (sums : NodeSums) → get_or numbers n 0 ≡ 0
    → Kept run numbers (suc n) now values sums → Extends values now (add_this run n Nothing sums) (Kept run numbers n)
nothing_extends run numbers n now values sums zero_there kept =
    extends-done values now (Kept run numbers n) sums (kept_next run numbers n now now values values sums sums (omega arith) (same_self values now) kept (record {
      sized = kept.sized;
      weights = kept.weights;
      totals = kept.totals;
      others = λ i ne. refl;
      here = none_reading now values (get_or sums.selections n []) (get_or numbers n 0) (kept.unset n (omega arith)) zero_there;
    }))

at_extends : EvaluationLaw → (now : ℕ) (values : ℕ → Bool) (total : Option ℕ) (weight : Signal) (totals : List Signal) → RowBelow now totals → IsBelow now weight
    → Extends values now (add_at total weight totals) (Row totals)
at_extends law now values None weight totals low h = extends-done values now (Row totals) totals (record { below = low; as_long = refl })
at_extends law now values (Some place) weight totals low h = extends-xor_into law values now totals place weight (Constant true) low h tt

pub label_extends : EvaluationLaw → (run : NodeRun) (numbers : List ℕ) (n now k : ℕ) (values : ℕ → Bool) (sums : NodeSums) → get_or numbers n 0 ≡ 0
    → Kept run numbers (suc n) now values sums → Extends values now (add_this run n (Label k) sums) (Kept run numbers n)
label_extends law run numbers n now k values sums zero_there kept =
    extends-bind values now (Kept run numbers n) (Row sums.totals) (add_at (place_of run.labels k) (signal_at sums.weights n) sums.totals)
    (λ (totals : List Signal). done (record sums { totals = totals }))
    (at_extends law now values (place_of run.labels k) (signal_at sums.weights n) sums.totals kept.totals (kept.weights n))
    (λ (totals : List Signal) later others up same r. extends-done others later (Kept run numbers n) (record sums { totals = totals })
    (kept_next run numbers n now later values others sums (record sums { totals = totals }) up same kept (record {
      sized = record { weights = kept.sized.weights; totals = r.as_long ∙ kept.sized.totals; selections = kept.sized.selections };
      weights = row_more now later sums.weights up kept.weights;
      totals = r.below;
      others = λ i ne. refl;
      here = none_reading later others (get_or sums.selections n []) (get_or numbers n 0) (kept.unset n (omega arith)) zero_there;
    })))

pub copy_extends : EvaluationLaw → (run : NodeRun) (numbers : List ℕ) (n now j : ℕ) (values : ℕ → Bool) (sums : NodeSums) → get_or numbers n 0 ≡ 0
    → Kept run numbers (suc n) now values sums → Extends values now (add_this run n (Copy j) sums) (Kept run numbers n)
copy_extends law run numbers n now j values sums zero_there kept =
    extends-bind values now (Kept run numbers n) (Row sums.weights) (xor_into sums.weights j (signal_at sums.weights n) (Constant true))
    (λ (weights : List Signal). done (record sums { weights = weights }))
    (extends-xor_into law values now sums.weights j (signal_at sums.weights n) (Constant true) kept.weights (kept.weights n) tt)
    (λ (weights : List Signal) later others up same r. extends-done others later (Kept run numbers n) (record sums { weights = weights })
    (kept_next run numbers n now later values others sums (record sums { weights = weights }) up same kept (record {
      sized = record { weights = r.as_long ∙ kept.sized.weights; totals = kept.sized.totals; selections = kept.sized.selections };
      weights = r.below;
      totals = row_more now later sums.totals up kept.totals;
      others = λ i ne. refl;
      here = none_reading later others (get_or sums.selections n []) (get_or numbers n 0) (kept.unset n (omega arith)) zero_there;
    })))
