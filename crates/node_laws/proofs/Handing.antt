-- What nodes that are no gates hand on, by values.
use Rattle.std.proofs.Common.{◌≡◌, ◌≢◌, ℕ, zero, suc, ◌<◌, Bool, true, false, cond, ◌&&◌, nat_eq, List, [], ◌∷◌, length, get_or, Some, None, refl, sym, ap, ◌∙◌, subst, arith, inl, inr, Contains}
use Rattle.std.proofs.lemmas.Bool.{cases_eq, eq-eqb, eqb-true, ne_eqb}
use Rattle.std.proofs.lemmas.List.{get_or_default}
use Rattle.coco_base.specs.declared.unrolled.Node.{Node}
use Rattle.coco_base.specs.declared.unrolled.Node.TheVariants.{Nothing, Label, Copy, Gate}
use Rattle.coco_base.specs.declared.cell.Kind.{Kind}
use Rattle.coco_base.specs.declared.cell.Part.{Part}
use Rattle.coco_model.specs.Cells.{xor}
use Rattle.coco_model.specs.Findings.{Labels}
use Rattle.coco_model.specs.Goals.{is_among, variable_of}
use Rattle.coco_model.specs.Matters.{Matters, AreMattering, IsLeastChoice}
use Rattle.coco_model.specs.Nodes.{IsAllowedChoice, node_set}
use Rattle.coco_model.specs.WrittenFindings.{IsNoGate}
use Rattle.label_cone.specs.Coned.{mark_at}
use Rattle.circuit_clauses.specs.declared.signal.Signal.{Signal}
use Rattle.circuit_clauses.specs.declared.signal.Signal.TheVariants.{Constant}
use Rattle.circuit_clauses.specs.Signals.{value}
use Rattle.circuit_clauses.specs.Laws.{GatesLaw}
use Rattle.clause_builds.specs.Builds.{done}
use Rattle.clause_builds.specs.Rows.{signal_at, xor_into}
use Rattle.node_clauses.specs.Selectors.{no_places}
use Rattle.node_clauses.specs.Sums.{NodeRun, NodeSums, AreSized, place_of, add_at, add_this}
use Rattle.node_clauses.specs.Chosen.{chosen_number}
use Rattle.node_laws.proofs.Meant.{Means, means-done, means-bind, value_at, Adds, means-xor_into}
use Rattle.node_laws.proofs.Parities.{sum_to, sum-adds, xor_false, xor_assoc, xor_last, and_false, and_true}

-- ---- the places of labels

pub record IsPlaced (labels : List ℕ) (l : ℕ) : Type 0 where
  pub within : variable_of labels l < length labels
  pub here : get_or labels (variable_of labels l) 0 ≡ l
  pub among : is_among labels l ≡ true

placed_at : (labels : List ℕ) (l k : ℕ) → k < length labels → get_or labels k 0 ≡ l → IsPlaced labels l
placed_at [] l k lt e = absurd (omega arith)
placed_at (m ∷ ms) l k lt e = elim (cases_eq m l) [
  | inl same ↦ record {
    within = rw (eq-eqb m l same) (omega arith);
    here = rw (eq-eqb m l same) same;
    among = rw (eq-eqb l m (sym same)) refl;
  }
  | inr other ↦ later other k lt e (placed_at ms l)
]
  where
    later : m ≢ l → (k : ℕ) → k < length (m ∷ ms) → get_or (m ∷ ms) k 0 ≡ l → ((j : ℕ) → j < length ms → get_or ms j 0 ≡ l → IsPlaced ms l) → IsPlaced (m ∷ ms) l
    later other zero lt e rest = absurd (other e)
    later other (suc k) lt e rest =
        let r = rest k (omega arith) e in
        record {
          within = rw (ne_eqb m l other) (let w = r.within in omega arith);
          here = rw (ne_eqb m l other) r.here;
          among = rw (ne_eqb l m (λ f. other (sym f))) r.among;
        }

pub placed : (labels : List ℕ) (l : ℕ) → Contains labels l → IsPlaced labels l
placed labels l (k, lt, e) = placed_at labels l k lt (get_or_default labels k 0 l lt ∙ e)

among_from : (labels : List ℕ) (k l : ℕ) → nat_eq k l ≡ true → IsPlaced labels l → is_among labels k ≡ true
among_from labels k l e here = ap (is_among labels) (eqb-true k l e) ∙ here.among

-- ---- sums while nodes hand on

-- a gate that does not matter is not in the sum
abbrev pub Quiet : (ℕ → Bool) → NodeRun → ℕ → List Signal → Type 0
Quiet values run n weights =
    (i : ℕ) → i < n → (kind : Kind) (parts : List Part) (operands : List ℕ) → get_or run.nodes i Nothing ≡ Gate kind parts operands
    → mark_at run.matters i ≡ false → value_at values weights i ≡ false

-- sums as they stand while the first n nodes have not handed on
pub record Stands (values : ℕ → Bool) (run : NodeRun) (n : ℕ) (sums : NodeSums) : Type 0 where
  pub sized : AreSized run sums
  pub quiet : Quiet values run n sums.weights
  pub unset : (i : ℕ) → i < n → get_or sums.selections i [] ≡ no_places

-- a number is a node's choice; it is the least where the node does not matter, and 0 where it is no gate
pub record IsNeededChoice (run : NodeRun) (i : ℕ) (node : Node) (number : ℕ) : Type 0 where
  pub allowed : IsAllowedChoice number node
  pub least : (Matters (λ j. get_or run.nodes j Nothing) i → ⊥) → IsLeastChoice number node
  pub zero : IsNoGate node → number ≡ 0

-- the number that values choose for a node
abbrev pub number_at : (ℕ → Bool) → NodeSums → ℕ → ℕ
number_at values sums i = chosen_number values (get_or sums.selections i [])

-- whether a label is in the total, or in what the first n nodes still have to hand on
abbrev pub potential : (ℕ → Bool) → NodeRun → NodeSums → (ℕ → Labels) → ℕ → ℕ → Bool
potential values run sums sets l n =
    xor (value_at values sums.totals (variable_of run.labels l)) (sum_to values sums.weights sets l n)

-- node n has handed on: it has its choice, and the potential is as it was
pub record Hands (values : ℕ → Bool) (run : NodeRun) (n : ℕ) (node : Node) (sums next : NodeSums) : Type 0 where
  pub stands : Stands values run n next
  pub others : (i : ℕ) → i ≢ n → get_or next.selections i [] ≡ get_or sums.selections i []
  pub needed : IsNeededChoice run n node (number_at values next n)
  pub keeps : (sets : ℕ → Labels) (l : ℕ) → Contains run.labels l → sets n l ≡ node_set sets (number_at values next n) node l
      → potential values run next sets l n ≡ potential values run sums sets l (suc n)

-- ---- nodes that choose nothing

abbrev ChoosesNone : Node → Type 0
ChoosesNone node = (number : ℕ) → IsAllowedChoice number node

none_needed : (values : ℕ → Bool) (run : NodeRun) (n : ℕ) (node : Node) (selected : List Signal) → ChoosesNone node → selected ≡ no_places
    → IsNeededChoice run n node (chosen_number values selected)
none_needed values run n node selected none e =
    let z : chosen_number values selected ≡ 0 = ap (chosen_number values) e in
    record {
      allowed = none (chosen_number values selected);
      least = λ m. record { allowed = none (chosen_number values selected); least = λ other low a. omega (arith, low, z) };
      zero = λ g. z;
    }

stands_on : (values : ℕ → Bool) (run : NodeRun) (n : ℕ) (sums : NodeSums) → Stands values run (suc n) sums → Stands values run n sums
stands_on values run n sums stands = record {
  sized = stands.sized;
  quiet = λ i lt. stands.quiet i (omega arith);
  unset = λ i lt. stands.unset i (omega arith);
}

nothing_hands : (values : ℕ → Bool) (run : NodeRun) (n : ℕ) (sums : NodeSums) → Stands values run (suc n) sums
    → Hands values run n Nothing sums sums
nothing_hands values run n sums stands = record {
  stands = stands_on values run n sums stands;
  others = λ i ne. refl;
  needed = none_needed values run n Nothing (get_or sums.selections n []) (λ number. tt) (stands.unset n (omega arith));
  keeps = λ sets l c e. ap (xor (value_at values sums.totals (variable_of run.labels l)))
      (sym (ap (λ b. xor (sum_to values sums.weights sets l n) (value_at values sums.weights n && b)) e
      ∙ ap (xor (sum_to values sums.weights sets l n)) (and_false (value_at values sums.weights n)) ∙ xor_false (sum_to values sums.weights sets l n)));
}

-- ---- labels

-- the totals have a label's weight more at its place
record Totals (values : ℕ → Bool) (labels : List ℕ) (k : ℕ) (weight : Bool) (totals next : List Signal) : Type 0 where
  pub as_long : length next ≡ length totals
  pub each : (l : ℕ) → IsPlaced labels l
      → value_at values next (variable_of labels l) ≡ xor (value_at values totals (variable_of labels l)) (weight && nat_eq k l)

label_adds : (values : ℕ → Bool) (labels : List ℕ) (k : ℕ) (weight : Bool) (totals next : List Signal) → length totals ≡ length labels
    → IsPlaced labels k → Adds values totals (variable_of labels k) (weight && true) next → Totals values labels k weight totals next
label_adds values labels k weight totals next long own adds = record { as_long = adds.as_long; each = each }
  where
    each : (l : ℕ) → IsPlaced labels l
        → value_at values next (variable_of labels l) ≡ xor (value_at values totals (variable_of labels l)) (weight && nat_eq k l)
    each l other = elim (cases_eq k l) [
      | inl same ↦ subst (λ m. value_at values next (variable_of labels m) ≡ xor (value_at values totals (variable_of labels m)) (weight && nat_eq k m)) same
          (rw (eq-eqb k k refl) (adds.here (let w = own.within in omega arith)))
      | inr apart ↦ rw (ne_eqb k l apart) (adds.elsewhere (variable_of labels l)
          (λ e. apart (sym own.here ∙ ap (λ p. get_or labels p 0) (sym e) ∙ other.here))
          ∙ sym (ap (xor (value_at values totals (variable_of labels l))) (and_false weight) ∙ xor_false (value_at values totals (variable_of labels l))))
    ]

label_misses : (values : ℕ → Bool) (labels : List ℕ) (k : ℕ) (weight : Bool) (totals : List Signal) → is_among labels k ≡ false
    → Totals values labels k weight totals totals
label_misses values labels k weight totals missing = record { as_long = refl; each = each }
  where
    each : (l : ℕ) → IsPlaced labels l
        → value_at values totals (variable_of labels l) ≡ xor (value_at values totals (variable_of labels l)) (weight && nat_eq k l)
    each l other = elim (cases_eq k l) [
      | inl same ↦ let e = ap (is_among labels) same ∙ other.among in cc
      | inr apart ↦ rw (ne_eqb k l apart) (sym (ap (xor (value_at values totals (variable_of labels l))) (and_false weight) ∙ xor_false (value_at values totals (variable_of labels l))))
    ]

among_places : (labels : List ℕ) (k : ℕ) → is_among labels k ≡ true → IsPlaced labels k
among_places [] k e = cc
among_places (m ∷ ms) k e = elim (cases_eq m k) [
  | inl same ↦ placed_at (m ∷ ms) k 0 (omega arith) same
  | inr other ↦ let r = among_places ms k (rw (ne_eqb k m (λ f. other (sym f))) at e) in
      placed_at (m ∷ ms) k (suc (variable_of ms k)) (let w = r.within in omega arith) r.here
]

totals_mean : GatesLaw → (values : ℕ → Bool) (labels : List ℕ) (k : ℕ) (weight : Signal) (totals : List Signal) → length totals ≡ length labels
    → Means values (add_at (place_of labels k) weight totals) (Totals values labels k (value values weight) totals)
totals_mean gates values labels k weight totals long = go (is_among labels k) refl
  where
    go : (b : Bool) → is_among labels k ≡ b
        → Means values (add_at (cond b (Some (variable_of labels k)) None) weight totals) (Totals values labels k (value values weight) totals)
    go true e = λ var h. label_adds values labels k (value values weight) totals _ long (among_places labels k e)
        (means-xor_into gates values totals (variable_of labels k) weight (Constant true) var h)
    go false e = means-done values (Totals values labels k (value values weight) totals) totals
        (label_misses values labels k (value values weight) totals e)

label_hands : (values : ℕ → Bool) (run : NodeRun) (n k : ℕ) (sums : NodeSums) (totals : List Signal) → Stands values run (suc n) sums
    → Totals values run.labels k (value_at values sums.weights n) sums.totals totals
    → Hands values run n (Label k) sums (record sums { totals = totals })
label_hands values run n k sums totals stands more = record {
  stands = record {
    sized = record { weights = stands.sized.weights; totals = more.as_long ∙ stands.sized.totals; selections = stands.sized.selections };
    quiet = λ i lt. stands.quiet i (omega arith);
    unset = λ i lt. stands.unset i (omega arith);
  };
  others = λ i ne. refl;
  needed = none_needed values run n (Label k) (get_or sums.selections n []) (λ number. tt) (stands.unset n (omega arith));
  keeps = λ sets l c e. (
      let t = value_at values sums.totals (variable_of run.labels l) in
      let s = sum_to values sums.weights sets l n in
      let w = value_at values sums.weights n in
      ap (λ b. xor b s) (more.each l (placed run.labels l c)) ∙ xor_last t (w && nat_eq k l) s ∙ xor_assoc t s (w && nat_eq k l)
      ∙ ap (λ b. xor t (xor s (w && b))) (sym e)
      );
}

pub label_means : GatesLaw → (values : ℕ → Bool) (run : NodeRun) (n k : ℕ) (sums : NodeSums) → Stands values run (suc n) sums
    → Means values (add_this run n (Label k) sums) (Hands values run n (Label k) sums)
label_means gates values run n k sums stands =
    means-bind values (Hands values run n (Label k) sums) (Totals values run.labels k (value_at values sums.weights n) sums.totals)
    (add_at (place_of run.labels k) (signal_at sums.weights n) sums.totals) (λ (totals : List Signal). done (record sums { totals = totals }))
    (totals_mean gates values run.labels k (signal_at sums.weights n) sums.totals stands.sized.totals)
    (λ (totals : List Signal) more. means-done values (Hands values run n (Label k) sums) (record sums { totals = totals })
    (label_hands values run n k sums totals stands more))

pub nothing_means : (values : ℕ → Bool) (run : NodeRun) (n : ℕ) (sums : NodeSums) → Stands values run (suc n) sums
    → Means values (add_this run n Nothing sums) (Hands values run n Nothing sums)
nothing_means values run n sums stands = means-done values (Hands values run n Nothing sums) sums (nothing_hands values run n sums stands)

-- ---- copies

copy_hands : (values : ℕ → Bool) (run : NodeRun) (n j : ℕ) (sums : NodeSums) (weights : List Signal) → Stands values run (suc n) sums
    → n < length run.nodes → j < n → get_or run.nodes n Nothing ≡ Copy j → AreMattering run.nodes (mark_at run.matters)
    → Adds values sums.weights j (value_at values sums.weights n && true) weights
    → Hands values run n (Copy j) sums (record sums { weights = weights })
copy_hands values run n j sums weights stands within earlier is tell adds = record {
  stands = record {
    sized = record { weights = adds.as_long ∙ stands.sized.weights; totals = stands.sized.totals; selections = stands.sized.selections };
    quiet = quiet;
    unset = λ i lt. stands.unset i (omega arith);
  };
  others = λ i ne. refl;
  needed = none_needed values run n (Copy j) (get_or sums.selections n []) (λ number. tt) (stands.unset n (omega arith));
  keeps = λ sets l c e. (
      let t = value_at values sums.totals (variable_of run.labels l) in
      let s = sum_to values sums.weights sets l n in
      let w = value_at values sums.weights n in
      ap (xor t) (sum-adds values sums.weights weights j (w && true) sets l n (omega (arith, stands.sized.weights, within)) (λ b. earlier) adds)
      ∙ ap (λ b. xor t (xor s (b && sets j l))) (and_true w) ∙ ap (λ b. xor t (xor s (w && b))) (sym e)
      );
}
  where
    quiet : Quiet values run n weights
    quiet i lt kind parts operands g silent = elim (cases_eq i j) [
      | inl same ↦ let marked = (tell.each i (omega arith)).1 (Matters.copied i n kind parts operands g (is ∙ ap Copy (sym same))) in cc
      | inr apart ↦ adds.elsewhere i apart ∙ stands.quiet i (omega arith) kind parts operands g silent
    ]

pub copy_means : GatesLaw → (values : ℕ → Bool) (run : NodeRun) (n j : ℕ) (sums : NodeSums) → Stands values run (suc n) sums
    → n < length run.nodes → j < n → get_or run.nodes n Nothing ≡ Copy j → AreMattering run.nodes (mark_at run.matters)
    → Means values (add_this run n (Copy j) sums) (Hands values run n (Copy j) sums)
copy_means gates values run n j sums stands within earlier is tell =
    means-bind values (Hands values run n (Copy j) sums) (Adds values sums.weights j (value_at values sums.weights n && true))
    (xor_into sums.weights j (signal_at sums.weights n) (Constant true)) (λ (weights : List Signal). done (record sums { weights = weights }))
    (means-xor_into gates values sums.weights j (signal_at sums.weights n) (Constant true))
    (λ (weights : List Signal) adds. means-done values (Hands values run n (Copy j) sums) (record sums { weights = weights })
    (copy_hands values run n j sums weights stands within earlier is tell adds))
