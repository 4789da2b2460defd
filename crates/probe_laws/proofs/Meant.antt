-- What the steps of a build say of its result, where values meet them.
use Rattle.std.proofs.Common.{◌≡◌, ℕ, zero, suc, ◌+◌, ◌<◌, Bool, true, false, ◌&&◌, ◌||◌, List, [], ◌∷◌, length, get_or, slice_set, refl, sym, ap, ◌∙◌, subst, arith, ◌⊎◌, inl, inr}
use Rattle.std.specs.List.{range_with_len}
use Rattle.std.proofs.lemmas.Bool.{cases_eq, cases_lt}
use Rattle.std.proofs.lemmas.List.{length-set, get_or-set_same, get_or-set_other, get_or_past}
use Rattle.circuit_clauses.specs.declared.signal.Signal.{Signal}
use Rattle.circuit_clauses.specs.declared.signal.Signal.TheVariants.{Constant}
use Rattle.circuit_clauses.specs.Signals.{value}
use Rattle.circuit_clauses.specs.Steps.{variables_after}
use Rattle.circuit_clauses.specs.Gates.{or_and}
use Rattle.circuit_clauses.specs.Meanings.{AllHold, has_true}
use Rattle.circuit_clauses.specs.Laws.{GatesLaw}
use Rattle.circuit_clauses.proofs.Sequences.{hold_front, hold_rest, defined_from_hold}
use Rattle.clause_builds.specs.Builds.{Build, done, ◌>>=◌, each, through, demanded, or_gate}
use Rattle.clause_builds.specs.Rows.{signal_at, or_into}
use Rattle.clause_builds.proofs.Lists.{each-nil, each-cons, through-nil, through-cons}

-- values that meet the steps of a build give it a result with a property, from whichever variable on
abbrev pub Means : {X : Type 0} → (ℕ → Bool) → Build X → (X → Type 0) → Type 0
Means values build P = (var : ℕ) → AllHold values var (build var).steps → P (build var).result

pub means-done : {X : Type 0} (values : ℕ → Bool) (P : X → Type 0) (x : X) → P x → Means values (done x) P
unfolding done
means-done values P x p var h = p

pub means-bind : {X Y : Type 0} (values : ℕ → Bool) (P : Y → Type 0) (Q : X → Type 0) (first : Build X) (next : X → Build Y)
    → Means values first Q → ((x : X) → Q x → Means values (next x) P) → Means values (first >>= next) P
unfolding ◌>>=◌
means-bind values P Q first next m n var h =
    let x = (first var).result in
    let front = hold_front values var (first var).steps (next x (variables_after var (first var).steps)).steps h in
    let rest = hold_rest values var (first var).steps (next x (variables_after var (first var).steps)).steps h in
    n x (m var front) (variables_after var (first var).steps) rest

-- a property that follows from another
pub means_more : {X : Type 0} (values : ℕ → Bool) (P Q : X → Type 0) (build : Build X) → Means values build P → ((x : X) → P x → Q x) → Means values build Q
means_more values P Q build m more var h = more (build var).result (m var h)

-- what is not asked
abbrev pub Whatever : {X : Type 0} → X → Type 0
Whatever x = Unit {0}

pub means_whatever : {X : Type 0} (values : ℕ → Bool) (build : Build X) → Means values build Whatever
means_whatever values build var h = tt

pub means-demanded : (values : ℕ → Bool) (signals : List Signal) → Means values (demanded signals) (λ t. has_true values signals ≡ true)
means-demanded values signals var h = cc

-- ---- builds along lists

-- what the build at each place of a list keeps, all of them keep
pub through_places : {X S : Type 0} (values : ℕ → Bool) (P : S → Type 0) (build : X → S → Build S) (xs : List X) (d : X)
    → ((k : ℕ) → k < length xs → (s : S) → P s → Means values (build (get_or xs k d) s) P) → (s : S) → P s → Means values (through build xs s) P
through_places {S = S} values P build [] d keeps s p = subst (λ (b : Build S). Means values b P) (sym (through-nil build s)) (means-done values P s p)
through_places {S = S} values P build (x ∷ xs) d keeps s p =
    subst (λ (b : Build S). Means values b P) (sym (through-cons build x xs s))
    (means-bind values P P (build x s) (through build xs) (keeps 0 (omega arith) s p)
    (λ (t : S) (q : P t). through_places values P build xs d (λ k lt. keeps (suc k) (omega arith)) t q))

-- a property by how many numbers are done
pub through_numbers : {S : Type 0} (values : ℕ → Bool) (I : ℕ → S → Type 0) (build : ℕ → S → Build S)
    → ((k : ℕ) (s : S) → I k s → Means values (build k s) (I (k + 1))) → (a n : ℕ) (s : S) → I a s
    → Means values (through build (range_with_len a n) s) (I (a + n))
through_numbers {S = S} values I build turn a zero s start =
    let same : a ≡ a + 0 = omega arith in
    subst (λ (b : Build S). Means values b (I (a + 0))) (sym (through-nil build s))
    (means-done values (I (a + 0)) s (subst (λ k. I k s) same start))
through_numbers {S = S} values I build turn a (suc n) s start =
    let same : (a + 1) + n ≡ a + suc n = omega arith in
    subst (λ (b : Build S). Means values b (I (a + suc n))) (sym (through-cons build a (range_with_len (a + 1) n) s))
    (means-bind values (I (a + suc n)) (I (a + 1)) (build a s) (through build (range_with_len (a + 1) n)) (turn a s start)
    (λ (t : S) (q : I (a + 1) t). subst (λ k. Means values (through build (range_with_len (a + 1) n) t) (I k)) same (through_numbers values I build turn (a + 1) n t q)))

-- results by the places of a list
pub record ArePlaced {X Y : Type 0} (P : X → Y → Type 0) (xs : List X) (ys : List Y) : Type 0 where
  pub as_long : length ys ≡ length xs
  pub place : (k : ℕ) (d : X) (e : Y) → k < length xs → P (get_or xs k d) (get_or ys k e)

placed_none : {X Y : Type 0} (P : X → Y → Type 0) → ArePlaced P [] []
placed_none P = record { as_long = refl; place = λ k d e lt. absurd (omega arith) }

placed_more : {X Y : Type 0} (P : X → Y → Type 0) (x : X) (xs : List X) (y : Y) (ys : List Y) → P x y → ArePlaced P xs ys → ArePlaced P (x ∷ xs) (y ∷ ys)
placed_more {X = X} {Y = Y} P x xs y ys p rest = record { as_long = ap suc rest.as_long; place = place }
  where
    place : (k : ℕ) (d : X) (e : Y) → k < length (x ∷ xs) → P (get_or (x ∷ xs) k d) (get_or (y ∷ ys) k e)
    place zero d e lt = p
    place (suc k) d e lt = rest.place k d e (omega arith)

pub each_means : {X Y : Type 0} (values : ℕ → Bool) (P : X → Y → Type 0) (build : X → Build Y) → ((x : X) → Means values (build x) (P x)) → (xs : List X)
    → Means values (each build xs) (ArePlaced P xs)
each_means {Y = Y} values P build means [] =
    subst (λ (b : Build (List Y)). Means values b (ArePlaced P [])) (sym (each-nil build)) (means-done values (ArePlaced P []) [] (placed_none P))
each_means {Y = Y} values P build means (x ∷ xs) =
    subst (λ (b : Build (List Y)). Means values b (ArePlaced P (x ∷ xs))) (sym (each-cons build x xs))
    (means-bind values (ArePlaced P (x ∷ xs)) (P x) (build x) (λ (y : Y). each build xs >>= (λ ys. done (y ∷ ys))) (means x)
    (λ (y : Y) (p : P x y). means-bind values (ArePlaced P (x ∷ xs)) (ArePlaced P xs) (each build xs) (λ (ys : List Y). done (y ∷ ys)) (each_means values P build means xs)
    (λ (ys : List Y) rest. means-done values (ArePlaced P (x ∷ xs)) (y ∷ ys) (placed_more P x xs y ys p rest))))

-- ---- rows of signals, by their values

abbrev pub value_at : (ℕ → Bool) → List Signal → ℕ → Bool
value_at values row i = value values (signal_at row i)

-- what is true stands within the row
pub true_within : (values : ℕ → Bool) (row : List Signal) (i : ℕ) → value_at values row i ≡ true → i < length row
true_within values row i e = elim (cases_lt i (length row)) [
  | inl lt ↦ lt
  | inr ge ↦ (let none = ap (value values) (get_or_past row i (Constant false) ge) in absurd (cc))
]

pub means-or_gate : GatesLaw → (values : ℕ → Bool) (a p b : Signal)
    → Means values (or_gate a p b) (λ (s : Signal). value values s ≡ (value values a || (value values p && value values b)))
means-or_gate gates values a p b var h = (gates values var a p b).0 (defined_from_hold values var (or_and var a p b).steps h)

-- what one or the other makes true
pub means_either : GatesLaw → (values : ℕ → Bool) (a p : Signal)
    → Means values (or_gate a p (Constant true)) (λ (s : Signal). value values s ≡ true → (value values a ≡ true) ⊎ (value values p ≡ true))
means_either gates values a p =
    means_more values (λ (s : Signal). value values s ≡ (value values a || (value values p && true)))
    (λ (s : Signal). value values s ≡ true → (value values a ≡ true) ⊎ (value values p ≡ true)) (or_gate a p (Constant true)) (means-or_gate gates values a p (Constant true))
    (λ (s : Signal) e h. one_of (value values a) (value values p) (sym e ∙ h))
  where
    one_of : (x y : Bool) → (x || (y && true)) ≡ true → (x ≡ true) ⊎ (y ≡ true)
    one_of true y e = inl refl
    one_of false true e = inr refl
    one_of false false e = absurd (cc)

pub set_truth : (values : ℕ → Bool) (R : ℕ → Type 0) (row : List Signal) (place : ℕ) (s : Signal) → ((i : ℕ) → value_at values row i ≡ true → R i)
    → (value values s ≡ true → R place) → (i : ℕ) → value_at values (slice_set row place s) i ≡ true → R i
set_truth values R row place s old new i e = elim (cases_eq i place) [
  | inl same ↦ elim (cases_lt place (length row)) [
    | inl lt ↦
        let here : value_at values (slice_set row place s) place ≡ true = subst (λ k. value_at values (slice_set row place s) k ≡ true) same e in
        subst R (sym same) (new (sym (ap (value values) (get_or-set_same row place s (Constant false) lt)) ∙ here))
    | inr ge ↦
        let long : length (slice_set row place s) ≡ length row = length-set row place s in
        let within = true_within values (slice_set row place s) i e in
        absurd (omega (arith, same, long, within, ge))
  ]
  | inr other ↦ old i (sym (ap (value values) (get_or-set_other row place i s (Constant false) other)) ∙ e)
]

-- a place becomes what it or another is: what holds of the places that are true goes on, where it holds there if the other is true
pub means-or_into : GatesLaw → (values : ℕ → Bool) (R : ℕ → Type 0) (row : List Signal) (place : ℕ) (other : Signal)
    → ((i : ℕ) → value_at values row i ≡ true → R i) → (value values other ≡ true → R place)
    → Means values (or_into row place other) (λ (next : List Signal). (i : ℕ) → value_at values next i ≡ true → R i)
means-or_into gates values R row place other old new =
    means-bind values (λ (next : List Signal). (i : ℕ) → value_at values next i ≡ true → R i)
    (λ (s : Signal). value values s ≡ true → (value values (signal_at row place) ≡ true) ⊎ (value values other ≡ true))
    (or_gate (signal_at row place) other (Constant true)) (λ (s : Signal). done (slice_set row place s))
    (means_either gates values (signal_at row place) other)
    (λ (s : Signal) tells. means-done values (λ (next : List Signal). (i : ℕ) → value_at values next i ≡ true → R i) (slice_set row place s)
    (set_truth values R row place s old (λ e. elim (tells e) [ inl here ↦ old place here | inr there ↦ new there ])))
