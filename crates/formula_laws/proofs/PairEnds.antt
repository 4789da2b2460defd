-- The signals of pairs: each is of a variable before those that follow, and false where there is no pair.
use Rattle.std.proofs.Common.{◌≡◌, ℕ, zero, suc, ◌+◌, ◌<◌, ◌≤◌, ◌⊎◌, inl, inr, Bool, true, false, cond, List, [], ◌∷◌, length, get_or, refl, sym, ap, subst, arith}
use Rattle.std.proofs.lemmas.Bool.{cases_lt}
use Rattle.std.proofs.lemmas.List.{get_or_past}
use Rattle.circuit_clauses.specs.declared.signal.Signal.{Signal}
use Rattle.circuit_clauses.specs.declared.signal.Signal.TheVariants.{Constant}
use Rattle.circuit_clauses.specs.Steps.{variables_after}
use Rattle.circuit_clauses.specs.Meanings.{IsBelow}
use Rattle.circuit_clauses.proofs.Sequences.{variables_after-append, variables_above}
use Rattle.clause_builds.specs.Builds.{Build, done, ◌>>=◌, each, fresh}
use Rattle.clause_builds.specs.Rows.{signal_at}
use Rattle.clause_builds.proofs.Lists.{each-nil, each-cons}
use Rattle.probe_clauses.specs.declared.part.ProbePart.{ProbePart}
use Rattle.probe_clauses.specs.Probings.{Probing, all_bits, all_cycles, is_pair}
use Rattle.probe_clauses.specs.Rows.{at}
use Rattle.probe_clauses.specs.Passes.{group_bits, probes, chosen_pair, show_pair, pair_of, pairs_in, pairs}
use Rattle.probe_clauses.specs.Parts.{part_of, shown_of, probe_part}
use Rattle.probe_laws.proofs.Lower.{below_more}
use Rattle.probe_laws.proofs.Meant.{ArePlaced}
use Rattle.probe_laws.proofs.Rows.{Counted, Grouped, Shown}
use Rattle.probe_laws.proofs.Walked.{placed_at, placed_long}

-- ---- builds from a variable on

-- the result of a build has a property that speaks of the next variable after it
abbrev pub Ends : {X : Type 0} → ℕ → (ℕ → X → Type 0) → Build X → Type 0
Ends var P build = P (variables_after var (build var).steps) (build var).result

pub ends-done : {X : Type 0} (var : ℕ) (P : ℕ → X → Type 0) (x : X) → P var x → Ends var P (done x)
unfolding done
ends-done var P x p = p

pub ends-bind : {X Y : Type 0} (var : ℕ) (P : ℕ → Y → Type 0) (R : ℕ → X → Type 0) (first : Build X) (next : X → Build Y)
    → Ends var R first → ((x : X) (now : ℕ) → var ≤ now → R now x → Ends now P (next x)) → Ends var P (first >>= next)
unfolding ◌>>=◌
ends-bind var P R first next r rest =
    let x = (first var).result in
    let now = variables_after var (first var).steps in
    subst (λ k. P k (next x now).result) (sym (variables_after-append var (first var).steps (next x now).steps))
    (rest x now (variables_above var (first var).steps) r)

-- nothing is asked
abbrev pub Anything : {X : Type 0} → ℕ → X → Type 0
Anything now x = Unit {0}

-- a property stays so when there are more variables
abbrev pub Stays : {X : Type 0} → (ℕ → X → Type 0) → Type 0
Stays {X = X} P = (now later : ℕ) (x : X) → now ≤ later → P now x → P later x

placed_none : {X Y : Type 0} (P : X → Y → Type 0) → ArePlaced P [] []
placed_none P = record { as_long = refl; place = λ k d e lt. absurd (omega arith) }

placed_more : {X Y : Type 0} (P : X → Y → Type 0) (x : X) (xs : List X) (y : Y) (ys : List Y) → P x y → ArePlaced P xs ys
    → ArePlaced P (x ∷ xs) (y ∷ ys)
placed_more {X = X} {Y = Y} P x xs y ys p rest = record { as_long = ap suc rest.as_long; place = place }
  where
    place : (k : ℕ) (d : X) (e : Y) → k < length (x ∷ xs) → P (get_or (x ∷ xs) k d) (get_or (y ∷ ys) k e)
    place zero d e lt = p
    place (suc k) d e lt = rest.place k d e (omega arith)

placed_stay : {X Y : Type 0} (P : X → ℕ → Y → Type 0) → ((x : X) → Stays (P x)) → (xs : List X)
    → Stays (λ now (ys : List Y). ArePlaced (λ x. P x now) xs ys)
placed_stay P stay xs now later ys le h = record {
  as_long = h.as_long;
  place = λ k d e lt. stay (get_or xs k d) now later (get_or ys k e) le (h.place k d e lt);
}

pub ends-each : {X Y : Type 0} (P : X → ℕ → Y → Type 0) → ((x : X) → Stays (P x)) → (build : X → Build Y)
    → ((x : X) (now : ℕ) → Ends now (P x) (build x)) → (xs : List X) (var : ℕ)
    → Ends var (λ now (ys : List Y). ArePlaced (λ x. P x now) xs ys) (each build xs)
ends-each {X = X} {Y = Y} P stay build ends [] var =
    subst (λ (b : Build (List Y)). Ends var (λ now (ys : List Y). ArePlaced (λ x. P x now) [] ys) b) (sym (each-nil build))
    (ends-done var (λ now (ys : List Y). ArePlaced (λ (x : X). P x now) [] ys) [] (placed_none (λ x. P x var)))
ends-each {X = X} {Y = Y} P stay build ends (x ∷ xs) var =
    subst (λ (b : Build (List Y)). Ends var (λ now (ys : List Y). ArePlaced (λ z. P z now) (x ∷ xs) ys) b) (sym (each-cons build x xs))
    (ends-bind var (λ now (ys : List Y). ArePlaced (λ z. P z now) (x ∷ xs) ys) (P x) (build x)
    (λ (y : Y). each build xs >>= (λ ys. done (y ∷ ys))) (ends x var)
    (λ (y : Y) now le p.
    ends-bind now (λ later (ys : List Y). ArePlaced (λ z. P z later) (x ∷ xs) ys)
    (λ later (ys : List Y). ArePlaced (λ z. P z later) xs ys) (each build xs) (λ (ys : List Y). done (y ∷ ys))
    (ends-each P stay build ends xs now)
    (λ (ys : List Y) later up rest.
    ends-done later (λ last (zs : List Y). ArePlaced (λ z. P z last) (x ∷ xs) zs) (y ∷ ys)
    (placed_more (λ z. P z later) x xs y ys (stay x now later y up p) rest))))

-- ---- pairs

-- the signal of a pair is of an earlier variable, and false where there is no pair
record IsPairSignal (run : Probing) (t b now : ℕ) (s : Signal) : Type 0 where
  below : IsBelow now s
  none : is_pair run t b ≡ false → s ≡ Constant false

signal_stays : (run : Probing) (t b : ℕ) → Stays (IsPairSignal run t b)
signal_stays run t b now later s le h = record { below = below_more now later s le h.below; none = h.none }

abbrev ArePairSignals : Probing → ℕ → ℕ → List Signal → Type 0
ArePairSignals run t now row = ArePlaced (λ b. IsPairSignal run t b now) (all_bits run) row

-- those of all cycles
abbrev AreAllPairs : Probing → ℕ → List (List Signal) → Type 0
AreAllPairs run now rows = ArePlaced (λ t. ArePairSignals run t now) (all_cycles run) rows

fresh_ends : (var : ℕ) (positive : Bool) → Ends var IsBelow (fresh positive)
fresh_ends var positive = let l : var < var + 1 = omega arith in l

anything_ends : {X : Type 0} (var : ℕ) (build : Build X) → Ends var Anything build
anything_ends var build = tt

chosen_ends : (shown : Shown) (t b var : ℕ) → Ends var IsBelow (chosen_pair shown t b)
chosen_ends shown t b var =
    ends-bind var IsBelow IsBelow (fresh false) (λ (pair : Signal). show_pair shown t b pair >>= (λ (u : Unit {0}). done pair)) (fresh_ends var false)
    (λ (pair : Signal) now le low.
    ends-bind now IsBelow Anything (show_pair shown t b pair) (λ (u : Unit {0}). done pair) (anything_ends now (show_pair shown t b pair))
    (λ (u : Unit {0}) later up any. ends-done later IsBelow pair (below_more now later pair up low)))

pair_ends : (run : Probing) (shown : Shown) (t b var : ℕ) → Ends var (IsPairSignal run t b) (pair_of run shown t b)
pair_ends run shown t b var = go (is_pair run t b) refl
  where
    go : (p : Bool) → is_pair run t b ≡ p → Ends var (IsPairSignal run t b) (cond p (chosen_pair shown t b) (done (Constant false)))
    go false e = ends-done var (IsPairSignal run t b) (Constant false) (record { below = tt; none = λ f. refl })
    go true e = record { below = chosen_ends shown t b var; none = λ f. absurd (cc) }

pairs_end : (run : Probing) (shown : Shown) (var : ℕ) → Ends var (AreAllPairs run) (pairs run shown)
pairs_end run shown var =
    ends-each (λ t now (row : List Signal). ArePairSignals run t now row)
    (λ t. placed_stay (λ b now (s : Signal). IsPairSignal run t b now s) (λ b. signal_stays run t b) (all_bits run))
    (pairs_in run shown)
    (λ t now.
    ends-each (λ b later (s : Signal). IsPairSignal run t b later s) (λ b. signal_stays run t b) (pair_of run shown t)
    (λ b later. pair_ends run shown t b later) (all_bits run) now)
    (all_cycles run) var

part_ends : (run : Probing) (var : ℕ) → Ends var (λ now (part : ProbePart). AreAllPairs run now part.pairs) (probe_part run)
part_ends run var =
    ends-bind var (λ now (part : ProbePart). AreAllPairs run now part.pairs) Anything (group_bits run)
    (λ (all : Grouped).
    probes run >>= (λ (cycles : List Counted).
    shown_of run all cycles >>= (λ (shown : Shown).
    pairs run shown >>= (λ (rows : List (List Signal)).
    done (part_of cycles rows)))))
    (anything_ends var (group_bits run))
    (λ (all : Grouped) n1 le1 any1.
    ends-bind n1 (λ now (part : ProbePart). AreAllPairs run now part.pairs) Anything (probes run)
    (λ (cycles : List Counted).
    shown_of run all cycles >>= (λ (shown : Shown).
    pairs run shown >>= (λ (rows : List (List Signal)).
    done (part_of cycles rows))))
    (anything_ends n1 (probes run))
    (λ (cycles : List Counted) n2 le2 any2.
    ends-bind n2 (λ now (part : ProbePart). AreAllPairs run now part.pairs) Anything (shown_of run all cycles)
    (λ (shown : Shown). pairs run shown >>= (λ (rows : List (List Signal)). done (part_of cycles rows)))
    (anything_ends n2 (shown_of run all cycles))
    (λ (shown : Shown) n3 le3 any3.
    ends-bind n3 (λ now (part : ProbePart). AreAllPairs run now part.pairs) (AreAllPairs run) (pairs run shown)
    (λ (rows : List (List Signal)). done (part_of cycles rows))
    (pairs_end run shown n3)
    (λ (rows : List (List Signal)) n4 le4 h.
    ends-done n4 (λ now (part : ProbePart). AreAllPairs run now part.pairs) (part_of cycles rows) h))))

-- what the signals of pairs are at each bit in each cycle
pub record ArePairsOf (run : Probing) (now : ℕ) (rows : List (List Signal)) : Type 0 where
  pub below : (t b : ℕ) → IsBelow now (at rows t b)
  pub none : (t b : ℕ) → is_pair run t b ≡ false → at rows t b ≡ Constant false
  pub within : (t b : ℕ) → (b < run.bits → t < run.cycles → ⊥) → at rows t b ≡ Constant false

at_all : (run : Probing) (now : ℕ) (rows : List (List Signal)) → AreAllPairs run now rows → ArePairsOf run now rows
at_all run now rows h = record {
  below = λ t b. elim (place t b) [
    | inl s ↦ s.below
    | inr e ↦ subst (IsBelow now) (sym e) tt
  ];
  none = λ t b f. elim (place t b) [
    | inl s ↦ s.none f
    | inr e ↦ e
  ];
  within = λ t b out. outside t b out (cases_lt t run.cycles) (cases_lt b run.bits);
}
  where
    row : (t : ℕ) → t < run.cycles → ArePairSignals run t now (get_or rows t [])
    row t lt = placed_at (λ u (r : List Signal). ArePairSignals run u now r) run.cycles t rows [] h lt

    past_cycles : (t b : ℕ) → run.cycles ≤ t → at rows t b ≡ Constant false
    past_cycles t b ge =
        let long : length rows ≡ run.cycles = placed_long (λ u (r : List Signal). ArePairSignals run u now r) run.cycles rows h in
        ap (λ (r : List Signal). signal_at r b) (get_or_past rows t [] (omega arith))

    past_bits : (t b : ℕ) → t < run.cycles → run.bits ≤ b → at rows t b ≡ Constant false
    past_bits t b lt ge =
        let long : length (get_or rows t []) ≡ run.bits = placed_long (λ c. IsPairSignal run t c now) run.bits (get_or rows t []) (row t lt) in
        get_or_past (get_or rows t []) b (Constant false) (omega arith)

    place : (t b : ℕ) → IsPairSignal run t b now (at rows t b) ⊎ (at rows t b ≡ Constant false)
    place t b = go (cases_lt t run.cycles) (cases_lt b run.bits)
      where
        go : (t < run.cycles) ⊎ (run.cycles ≤ t) → (b < run.bits) ⊎ (run.bits ≤ b)
            → IsPairSignal run t b now (at rows t b) ⊎ (at rows t b ≡ Constant false)
        go (inl lt) (inl low) = inl (placed_at (λ c. IsPairSignal run t c now) run.bits b (get_or rows t []) (Constant false) (row t lt) low)
        go (inl lt) (inr ge) = inr (past_bits t b lt ge)
        go (inr ge) other = inr (past_cycles t b ge)

    outside : (t b : ℕ) → (b < run.bits → t < run.cycles → ⊥) → (t < run.cycles) ⊎ (run.cycles ≤ t)
        → (b < run.bits) ⊎ (run.bits ≤ b) → at rows t b ≡ Constant false
    outside t b out (inl lt) (inl low) = absurd (out low lt)
    outside t b out (inl lt) (inr ge) = past_bits t b lt ge
    outside t b out (inr ge) other = past_cycles t b ge

pub pairs_of_part : (run : Probing) (var : ℕ) → ArePairsOf run (variables_after var (probe_part run var).steps) (probe_part run var).result.pairs
pairs_of_part run var = at_all run (variables_after var (probe_part run var).steps) (probe_part run var).result.pairs (part_ends run var)
