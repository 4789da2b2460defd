-- What the steps of a build say of its result, where values meet them.
use Rattle.std.proofs.Common.{◌≡◌, ℕ, zero, suc, ◌<◌, Bool, true, false, not, ◌&&◌, List, [], ◌∷◌, length, get_or, slice_set, refl, sym, ap, ◌∙◌, subst, arith, ◌≢◌}
use Rattle.std.specs.Bool.{beq}
use Rattle.std.proofs.lemmas.List.{length-set, get_or-set_same, get_or-set_other}
use Rattle.coco_model.specs.Cells.{xor}
use Rattle.circuit_clauses.specs.declared.signal.Signal.{Signal}
use Rattle.circuit_clauses.specs.declared.signal.Signal.TheVariants.{Constant}
use Rattle.circuit_clauses.specs.Signals.{value}
use Rattle.circuit_clauses.specs.Steps.{variables_after}
use Rattle.circuit_clauses.specs.Gates.{xor_and}
use Rattle.circuit_clauses.specs.Meanings.{AllHold, has_true}
use Rattle.circuit_clauses.specs.Laws.{GatesLaw}
use Rattle.circuit_clauses.proofs.Sequences.{hold_front, hold_rest, defined_from_hold}
use Rattle.clause_builds.specs.Builds.{Build, done, ◌>>=◌, through, demanded, xor_gate}
use Rattle.clause_builds.specs.Rows.{signal_at, xor_into}
use Rattle.clause_builds.proofs.Lists.{through-nil, through-cons}

-- values that meet the steps of a build give it a result with a property, from whichever variable on
abbrev pub Means : {X : Type 0} → (ℕ → Bool) → Build X → (X → Type 0) → Type 0
Means values build P = (var : ℕ) → AllHold values var (build var).steps → P (build var).result

pub means-done : {X : Type 0} (values : ℕ → Bool) (P : X → Type 0) (x : X) → P x → Means values (done x) P
unfolding done
means-done values P x p var h = p

pub means-bind : {X Y : Type 0} (values : ℕ → Bool) (P : Y → Type 0) (Q : X → Type 0) (first : Build X) (next : X → Build Y)
    → Means values first Q → ((x : X) → Q x → Means values (next x) P) → Means values (first >>= next) P
unfolding ◌>>=◌
means-bind values P Q first next m n var h =
    let x = (first var).result in
    let front = hold_front values var (first var).steps (next x (variables_after var (first var).steps)).steps h in
    let rest = hold_rest values var (first var).steps (next x (variables_after var (first var).steps)).steps h in
    n x (m var front) (variables_after var (first var).steps) rest

-- a property that follows from another
pub means_more : {X : Type 0} (values : ℕ → Bool) (P Q : X → Type 0) (build : Build X) → Means values build P → ((x : X) → P x → Q x) → Means values build Q
means_more values P Q build m more var h = more (build var).result (m var h)

-- what each build of a list keeps, all of them keep
pub through_means : {X S : Type 0} (values : ℕ → Bool) (P : S → Type 0) (build : X → S → Build S)
    → ((x : X) (s : S) → P s → Means values (build x s) P) → (xs : List X) (s : S) → P s → Means values (through build xs s) P
through_means {S = S} values P build keeps [] s p = subst (λ (b : Build S). Means values b P) (sym (through-nil build s)) (means-done values P s p)
through_means {S = S} values P build keeps (x ∷ xs) s p =
    subst (λ (b : Build S). Means values b P) (sym (through-cons build x xs s))
    (means-bind values P P (build x s) (through build xs) (keeps x s p) (through_means values P build keeps xs))

one_and_rest : {X : Type 0} (F : X → Type 0) (x : X) (xs : List X) (d : X) → F x → ((k : ℕ) → k < length xs → F (get_or xs k d))
    → (k : ℕ) → k < length (x ∷ xs) → F (get_or (x ∷ xs) k d)
one_and_rest F x xs d here rest zero lt = here
one_and_rest F x xs d here rest (suc k) lt = rest k (omega arith)

-- what each build of a list tells of its item is so of all items
pub through_each : {X S : Type 0} (values : ℕ → Bool) (F : X → Type 0) (build : X → S → Build S)
    → ((x : X) (s : S) → Means values (build x s) (λ t. F x)) → (xs : List X) (s : S) (d : X)
    → Means values (through build xs s) (λ t. (k : ℕ) → k < length xs → F (get_or xs k d))
through_each values F build each [] s d = λ var h k lt. absurd (omega arith)
through_each {X = X} {S = S} values F build each (x ∷ xs) s d =
    subst (λ (b : Build S). Means values b (λ t. (k : ℕ) → k < length (x ∷ xs) → F (get_or (x ∷ xs) k d))) (sym (through-cons build x xs s))
    (means-bind values (λ t. (k : ℕ) → k < length (x ∷ xs) → F (get_or (x ∷ xs) k d)) (λ t. F x) (build x s) (through build xs) (each x s)
    (λ (t : S) (here : F x) (var : ℕ) h. one_and_rest F x xs d here (through_each values F build each xs t d var h)))

-- a property of the state by how many of the places are done
pub through_places : {S : Type 0} (values : ℕ → Bool) (I : ℕ → S → Type 0) (build : ℕ → S → Build S)
    → ((k : ℕ) (s : S) → k < 4 → I k s → Means values (build k s) (I (suc k))) → (s : S) → I 0 s
    → Means values (through build (0 ∷ 1 ∷ 2 ∷ 3 ∷ []) s) (I 4)
through_places {S = S} values I build turn s start =
    place 0 (1 ∷ 2 ∷ 3 ∷ []) (λ (a : S) (ha : I 1 a).
    place 1 (2 ∷ 3 ∷ []) (λ (b : S) (hb : I 2 b).
    place 2 (3 ∷ []) (λ (c : S) (hc : I 3 c).
    place 3 [] (λ (d : S) (hd : I 4 d).
    subst (λ (e : Build S). Means values e (I 4)) (sym (through-nil build d)) (means-done values (I 4) d hd)) c (turn 3 c (omega arith) hc)) b (turn 2 b (omega arith) hb)) a (turn 1 a (omega arith) ha)) s (turn 0 s (omega arith) start)
  where
    place : (k : ℕ) (ks : List ℕ) → ((t : S) → I (suc k) t → Means values (through build ks t) (I 4)) → (t : S)
        → Means values (build k t) (I (suc k)) → Means values (through build (k ∷ ks) t) (I 4)
    place k ks later t now =
        subst (λ (e : Build S). Means values e (I 4)) (sym (through-cons build k ks t)) (means-bind values (I 4) (I (suc k)) (build k t) (through build ks) now later)

pub means-demanded : (values : ℕ → Bool) (signals : List Signal) → Means values (demanded signals) (λ t. has_true values signals ≡ true)
means-demanded values signals var h = cc

-- ---- rows of signals, by their values

abbrev pub value_at : (ℕ → Bool) → List Signal → ℕ → Bool
value_at values row i = value values (signal_at row i)

-- a row has at one place the exclusive or of what another has there with a bit, and else the same
pub record Adds (values : ℕ → Bool) (row : List Signal) (place : ℕ) (bit : Bool) (next : List Signal) : Type 0 where
  pub here : place < length row → value_at values next place ≡ xor (value_at values row place) bit
  pub elsewhere : (i : ℕ) → i ≢ place → value_at values next i ≡ value_at values row i
  pub as_long : length next ≡ length row

differ_is_xor : (a b : Bool) → not (beq a b) ≡ xor a b
differ_is_xor true true = refl
differ_is_xor true false = refl
differ_is_xor false true = refl
differ_is_xor false false = refl

pub means-xor_gate : GatesLaw → (values : ℕ → Bool) (a p b : Signal)
    → Means values (xor_gate a p b) (λ (s : Signal). value values s ≡ xor (value values a) (value values p && value values b))
means-xor_gate gates values a p b var h =
    (gates values var a p b).1 (defined_from_hold values var (xor_and var a p b).steps h)
    ∙ differ_is_xor (value values a) (value values p && value values b)

set_adds : (values : ℕ → Bool) (row : List Signal) (place : ℕ) (bit : Bool) (s : Signal)
    → value values s ≡ xor (value_at values row place) bit → Adds values row place bit (slice_set row place s)
set_adds values row place bit s e = record {
  here = λ lt. ap (value values) (get_or-set_same row place s (Constant false) lt) ∙ e;
  elsewhere = λ i ne. ap (value values) (get_or-set_other row place i s (Constant false) ne);
  as_long = length-set row place s;
}

pub means-xor_into : GatesLaw → (values : ℕ → Bool) (row : List Signal) (place : ℕ) (p b : Signal)
    → Means values (xor_into row place p b) (Adds values row place (value values p && value values b))
means-xor_into gates values row place p b =
    means-bind values (Adds values row place (value values p && value values b))
    (λ (s : Signal). value values s ≡ xor (value_at values row place) (value values p && value values b))
    (xor_gate (signal_at row place) p b) (λ (s : Signal). done (slice_set row place s))
    (means-xor_gate gates values (signal_at row place) p b)
    (λ (s : Signal) e. means-done values (Adds values row place (value values p && value values b)) (slice_set row place s)
    (set_adds values row place (value values p && value values b) s e))
