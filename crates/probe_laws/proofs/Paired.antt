-- The chosen pairs: each can be chosen, and its leaf is reached in the cycle or the next one.
use Rattle.std.proofs.Common.{◌≡◌, ℕ, ◌+◌, ◌<◌, ◌||◌, Bool, true, false, not, cond, List, [], ◌∷◌, get_or, refl, subst, arith, ◌⊎◌, inl, inr}
use Rattle.circuit_clauses.specs.declared.signal.Signal.{Signal}
use Rattle.circuit_clauses.specs.declared.signal.Signal.TheVariants.{Constant}
use Rattle.circuit_clauses.specs.Signals.{value, negated}
use Rattle.circuit_clauses.specs.Meanings.{has_true}
use Rattle.circuit_clauses.proofs.Gating.{value-negated}
use Rattle.clause_builds.specs.Builds.{done, ◌>>=◌, fresh, demanded}
use Rattle.clause_builds.specs.Rows.{signal_at}
use Rattle.probe_clauses.specs.Probings.{Probing, all_bits, all_cycles, is_pair}
use Rattle.probe_clauses.specs.Rows.{at}
use Rattle.probe_clauses.specs.Passes.{show_pair, chosen_pair, pair_of, pairs_in, pairs}
use Rattle.probe_laws.specs.Showing.{IsPlace, chosen}
use Rattle.probe_laws.proofs.Rows.{Shown}
use Rattle.probe_laws.proofs.Meant.{Means, means-done, means-bind, means_whatever, Whatever, means-demanded, each_means, ArePlaced, true_within}
use Rattle.probe_laws.proofs.Walked.{placed_at, placed_long, true_in_row}

-- a leaf is reached in a cycle or the next one, by rows of signals
abbrev pub IsNearly : (ℕ → Bool) → List (List Signal) → ℕ → ℕ → Type 0
IsNearly values reached t b = (value values (at reached t b) ≡ true) ⊎ (value values (at reached (t + 1) b) ≡ true)

-- what a chosen pair is
pub record IsGoodPair (values : ℕ → Bool) (run : Probing) (reached : List (List Signal)) (t b : ℕ) : Type 0 where
  pub is : is_pair run t b ≡ true
  pub nearly : IsNearly values reached t b

one_of_two : (p a b : Bool) → (not p || (a || (b || false))) ≡ true → p ≡ true → (a ≡ true) ⊎ (b ≡ true)
one_of_two p true b e h = inl refl
one_of_two p false true e h = inr refl
one_of_two true false false e h = absurd (cc)
one_of_two false false false e h = absurd (cc)

show_means : (values : ℕ → Bool) (shown : Shown) (t b : ℕ) (pair : Signal)
    → Means values (show_pair shown t b pair) (λ (u : Unit {0}). value values pair ≡ true → IsNearly values shown.reached t b)
show_means values shown t b pair =
    means-bind values (λ (u : Unit {0}). value values pair ≡ true → IsNearly values shown.reached t b)
    (λ (u : Unit {0}). has_true values (negated pair ∷ at shown.reached t b ∷ at shown.reached (t + 1) b ∷ []) ≡ true)
    (demanded (negated pair ∷ at shown.reached t b ∷ at shown.reached (t + 1) b ∷ []))
    (λ (u : Unit {0}).
    demanded (negated pair ∷ signal_at shown.near b ∷ []) >>= (λ (v : Unit {0}).
    demanded (negated pair ∷ signal_at shown.hot t ∷ signal_at shown.hot (t + 1) ∷ [])))
    (means-demanded values (negated pair ∷ at shown.reached t b ∷ at shown.reached (t + 1) b ∷ []))
    (λ (u : Unit {0}) e var h chosen.
    one_of_two (value values pair) (value values (at shown.reached t b)) (value values (at shown.reached (t + 1) b))
    (subst (λ n. (n || (value values (at shown.reached t b) || (value values (at shown.reached (t + 1) b) || false))) ≡ true) (value-negated values pair) e)
    chosen)

abbrev IsPairSignal : (ℕ → Bool) → Probing → List (List Signal) → ℕ → ℕ → Signal → Type 0
IsPairSignal values run reached t b s = value values s ≡ true → IsGoodPair values run reached t b

chosen_means : (values : ℕ → Bool) (run : Probing) (shown : Shown) (t b : ℕ) → is_pair run t b ≡ true
    → Means values (chosen_pair shown t b) (IsPairSignal values run shown.reached t b)
chosen_means values run shown t b is =
    means-bind values (IsPairSignal values run shown.reached t b) Whatever (fresh false) (λ (pair : Signal). show_pair shown t b pair >>= (λ (u : Unit {0}). done pair))
    (means_whatever values (fresh false))
    (λ (pair : Signal) any.
    means-bind values (IsPairSignal values run shown.reached t b) (λ (u : Unit {0}). value values pair ≡ true → IsNearly values shown.reached t b)
    (show_pair shown t b pair) (λ (u : Unit {0}). done pair) (show_means values shown t b pair)
    (λ (u : Unit {0}) nearly. means-done values (IsPairSignal values run shown.reached t b) pair (λ e. record { is = is; nearly = nearly e })))

pair_means : (values : ℕ → Bool) (run : Probing) (shown : Shown) (t b : ℕ) → Means values (pair_of run shown t b) (IsPairSignal values run shown.reached t b)
pair_means values run shown t b = go (is_pair run t b) refl
  where
    go : (p : Bool) → is_pair run t b ≡ p → Means values (cond p (chosen_pair shown t b) (done (Constant false))) (IsPairSignal values run shown.reached t b)
    go true is = chosen_means values run shown t b is
    go false is = means-done values (IsPairSignal values run shown.reached t b) (Constant false) (λ e. absurd (cc))

abbrev ArePairRow : (ℕ → Bool) → Probing → List (List Signal) → ℕ → List Signal → Type 0
ArePairRow values run reached t row = ArePlaced (IsPairSignal values run reached t) (all_bits run) row

-- the pairs of all cycles
abbrev pub ArePairs : (ℕ → Bool) → Probing → List (List Signal) → List (List Signal) → Type 0
ArePairs values run reached rows =
    ArePlaced (λ t (row : List Signal). ArePlaced (λ b (s : Signal). value values s ≡ true → IsGoodPair values run reached t b) (all_bits run) row) (all_cycles run) rows

pub pairs_mean : (values : ℕ → Bool) (run : Probing) (shown : Shown) → Means values (pairs run shown) (ArePairs values run shown.reached)
pairs_mean values run shown =
    each_means values (λ t (row : List Signal). ArePairRow values run shown.reached t row) (pairs_in run shown)
    (λ t. each_means values (λ b (s : Signal). IsPairSignal values run shown.reached t b s) (pair_of run shown t) (λ b. pair_means values run shown t b) (all_bits run))
    (all_cycles run)

module _ (values : ℕ → Bool) (run : Probing) (reached rows : List (List Signal)) (are : ArePairs values run reached rows) where
  row_at : (t : ℕ) → t < run.cycles → ArePairRow values run reached t (get_or rows t [])
  row_at t lt = placed_at (λ u (row : List Signal). ArePairRow values run reached u row) run.cycles t rows [] are lt

  pub pair_place : (t b : ℕ) → chosen values rows t b ≡ true → IsPlace run t b
  pair_place t b e =
      let within = true_in_row values rows t b e in
      let long = placed_long (λ u (row : List Signal). ArePairRow values run reached u row) run.cycles rows are in
      let cycle : t < run.cycles = omega arith in
      let inside = true_within values (get_or rows t []) b e in
      let wide = placed_long (IsPairSignal values run reached t) run.bits (get_or rows t []) (row_at t cycle) in
      record { cycle = cycle; bit = omega arith }

  pub pair_good : (t b : ℕ) → chosen values rows t b ≡ true → IsGoodPair values run reached t b
  pair_good t b e =
      let place = pair_place t b e in
      placed_at (IsPairSignal values run reached t) run.bits b (get_or rows t []) (Constant false) (row_at t place.cycle) place.bit e
