-- Signals that last: what is true over a window comes from a true signal that lasts so long.
use Rattle.std.proofs.Common.{◌≡◌, ◌≢◌, ℕ, suc, ◌+◌, ◌-◌, ◌*◌, ◌/◌, ◌%◌, ◌<◌, ◌≤◌, ◌||◌, Bool, true, false, cond, nat_eq, nat_lt, nat_le, List, [], ◌∷◌, ◌++◌, length, get_or, reverse, replicate, slice_set, refl, sym, ap, ◌∙◌, subst, arith, ◌⊎◌, inl, inr}
use Rattle.std.specs.List.{range_with_len}
use Rattle.std.proofs.Math.Nat.{mod-add-div'}
use Rattle.std.proofs.lemmas.Nat.{mod-mul-add, mod_below}
use Rattle.std.proofs.lemmas.Bool.{cases_eq, cases_lt, eq-eqb, le-leb}
use Rattle.std.proofs.lemmas.List.{length-replicate, get_or-replicate, get_or_push, get_or_append_left, get_or_past, length_push}
use Rattle.circuit_clauses.specs.declared.signal.Signal.{Signal}
use Rattle.circuit_clauses.specs.declared.signal.Signal.TheVariants.{Constant}
use Rattle.circuit_clauses.specs.Signals.{value}
use Rattle.circuit_clauses.specs.Laws.{GatesLaw}
use Rattle.clause_builds.specs.Builds.{done, ◌>>=◌}
use Rattle.clause_builds.specs.Rows.{signal_at}
use Rattle.probe_clauses.specs.Windows.{Lasting, lasting, either, to_block_end, next_tail, tails, from_block_start, over_window, keep_lasting, next_lasting, heads, windowed}
use Rattle.probe_laws.specs.Showing.{LastsIn}
use Rattle.probe_laws.proofs.Meant.{Means, means-done, means-bind, means_more, means_either, through_places, through_numbers, value_at, true_within, set_truth}

-- ---- cycles and their blocks

pub within_block : (u w : ℕ) → 1 ≤ w → u % w < w
within_block u w le = mod_below u w (omega arith)

pub next_in_block : (u w : ℕ) → 1 ≤ w → u % w ≢ w - 1 → (u + 1) % w ≡ u % w + 1
next_in_block u w le ne =
    let below : u % w < w = within_block u w le in
    let split : u % w + u / w * w ≡ u = mod-add-div' u w in
    let e : u / w * w + (u % w + 1) ≡ u + 1 = omega arith in
    let m : (u / w * w + (u % w + 1)) % w ≡ u % w + 1 = mod-mul-add (u / w) w (u % w + 1) (omega (arith, below, ne, le)) in
    subst (λ n. n % w ≡ u % w + 1) e m

pub next_block : (u w : ℕ) → 1 ≤ w → u % w ≡ w - 1 → (u + 1) % w ≡ 0
next_block u w le same =
    let split : u % w + u / w * w ≡ u = mod-add-div' u w in
    let q : (u / w + 1) * w ≡ u / w * w + w = omega arith in
    let e : (u / w + 1) * w + 0 ≡ u + 1 = omega arith in
    let m : ((u / w + 1) * w + 0) % w ≡ 0 = mod-mul-add (u / w + 1) w 0 (omega arith) in
    subst (λ n. n % w ≡ 0) e m

-- a true signal of a row whose window has a cycle
pub record IsActive (values : ℕ → Bool) (window : ℕ) (row : List Signal) (u : ℕ) : Type 0 where
  pub cycle : ℕ
  pub lasts_in : LastsIn window cycle u
  pub is_true : value_at values row cycle ≡ true

module _ (gates : GatesLaw) (values : ℕ → Bool) (window : ℕ) (lasts : 1 ≤ window) (row : List Signal) where
  -- a true signal from a cycle to the end of its block
  record LaterInBlock (u : ℕ) : Type 0 where
    pub cycle : ℕ
    pub from : u ≤ cycle
    pub in_block : cycle + u % window < u + window
    pub is_true : value_at values row cycle ≡ true

  -- a true signal from the start of a cycle's block to the cycle
  record EarlierInBlock (u : ℕ) : Type 0 where
    pub cycle : ℕ
    pub to : cycle ≤ u
    pub in_block : u ≤ cycle + u % window
    pub is_true : value_at values row cycle ≡ true

  abbrev Active : ℕ → Type 0
  Active u = IsActive values window row u

  -- ---- to the ends of blocks

  later_here : (u : ℕ) → value_at values row u ≡ true → LaterInBlock u
  later_here u e = record { cycle = u; from = omega arith; in_block = (let below = within_block u window lasts in omega arith); is_true = e }

  later_next : (u : ℕ) → u % window ≢ window - 1 → LaterInBlock (u + 1) → LaterInBlock u
  later_next u ne next =
      let from = next.from in
      let block = next.in_block in
      let step = next_in_block u window lasts ne in
      record { cycle = next.cycle; from = omega arith; in_block = omega arith; is_true = next.is_true }

  abbrev AreLater : List Signal → Type 0
  AreLater ends = (i : ℕ) → value_at values ends i ≡ true → LaterInBlock i

  to_end_means : (u : ℕ) (ends : List Signal) → AreLater ends
      → Means values (to_block_end window row u ends) (λ (s : Signal). value values s ≡ true → LaterInBlock u)
  to_end_means u ends later =
      go (nat_le (length row) (u / window * window + window)) (nat_eq (u % window) (window - 1)) refl (nat_eq (u % window) 0)
    where
      go : (last end : Bool) → nat_eq (u % window) (window - 1) ≡ end → (start : Bool)
          → Means values (cond last (done (Constant false)) (cond end (done (signal_at row u)) (cond start (done (Constant false)) (either (signal_at ends (u + 1)) (signal_at row u)))))
          (λ (s : Signal). value values s ≡ true → LaterInBlock u)
      go true end is start = means-done values (λ (s : Signal). value values s ≡ true → LaterInBlock u) (Constant false) (λ e. absurd (cc))
      go false true is start = means-done values (λ (s : Signal). value values s ≡ true → LaterInBlock u) (signal_at row u) (later_here u)
      go false false is true = means-done values (λ (s : Signal). value values s ≡ true → LaterInBlock u) (Constant false) (λ e. absurd (cc))
      go false false is false =
          means_more values (λ (s : Signal). value values s ≡ true → (value_at values ends (u + 1) ≡ true) ⊎ (value_at values row u ≡ true))
          (λ (s : Signal). value values s ≡ true → LaterInBlock u) (either (signal_at ends (u + 1)) (signal_at row u))
          (means_either gates values (signal_at ends (u + 1)) (signal_at row u))
          (λ (s : Signal) one e. elim (one e) [
            | inl next ↦ later_next u (λ same. (let k = eq-eqb (u % window) (window - 1) same in cc)) (later (u + 1) next)
            | inr here ↦ later_here u here
          ])

  next_means : (u : ℕ) (ends : List Signal) → AreLater ends → Means values (next_tail window row u ends) AreLater
  next_means u ends later =
      means-bind values AreLater (λ (s : Signal). value values s ≡ true → LaterInBlock u) (to_block_end window row u ends) (λ (s : Signal). done (slice_set ends u s))
      (to_end_means u ends later)
      (λ (s : Signal) tells. means-done values AreLater (slice_set ends u s) (set_truth values LaterInBlock ends u s later tells))

  none_later : AreLater (replicate (length row) (Constant false))
  none_later i e =
      let within = true_within values (replicate (length row) (Constant false)) i e in
      let long = length-replicate (length row) (Constant false) in
      let none = ap (value values) (get_or-replicate (length row) i (Constant false) (Constant false) (omega arith)) in
      absurd (cc)

  tails_mean : Means values (tails window row) AreLater
  tails_mean =
      through_places values AreLater (next_tail window row) (reverse (range_with_len 0 (length row))) 0
      (λ k lt ends later. next_means (get_or (reverse (range_with_len 0 (length row))) k 0) ends later)
      (replicate (length row) (Constant false)) none_later

  -- ---- from the starts of blocks

  earlier_here : (u : ℕ) → value_at values row u ≡ true → EarlierInBlock u
  earlier_here u e = record { cycle = u; to = omega arith; in_block = omega arith; is_true = e }

  earlier_before : (j u : ℕ) → j + 1 ≡ u → u % window ≢ 0 → EarlierInBlock j → EarlierInBlock u
  earlier_before j u e ne before =
      let to = before.to in
      let block = before.in_block in
      let step : (j + 1) % window ≡ j % window + 1 = next_in_block j window lasts (λ same. ne (subst (λ n. n % window ≡ 0) e (next_block j window lasts same))) in
      let here : u % window ≡ j % window + 1 = subst (λ n. n % window ≡ j % window + 1) e step in
      record { cycle = before.cycle; to = omega arith; in_block = omega arith; is_true = before.is_true }

  abbrev TellsBefore : ℕ → Signal → Type 0
  TellsBefore u head = (j : ℕ) → j + 1 ≡ u → value values head ≡ true → EarlierInBlock j

  from_start_means : (u : ℕ) (head : Signal) → TellsBefore u head
      → Means values (from_block_start window row u head) (λ (s : Signal). value values s ≡ true → EarlierInBlock u)
  from_start_means u head before = go (nat_eq (u % window) 0) refl
    where
      not_first : u % window ≢ 0 → (u - 1) + 1 ≡ u
      not_first ne = (let split : u % window + u / window * window ≡ u = mod-add-div' u window in omega (arith, split, ne))

      go : (start : Bool) → nat_eq (u % window) 0 ≡ start
          → Means values (cond start (done (signal_at row u)) (either head (signal_at row u))) (λ (s : Signal). value values s ≡ true → EarlierInBlock u)
      go true is = means-done values (λ (s : Signal). value values s ≡ true → EarlierInBlock u) (signal_at row u) (earlier_here u)
      go false is =
          let ne : u % window ≢ 0 = (λ same. (let k = eq-eqb (u % window) 0 same in cc)) in
          means_more values (λ (s : Signal). value values s ≡ true → (value values head ≡ true) ⊎ (value_at values row u ≡ true))
          (λ (s : Signal). value values s ≡ true → EarlierInBlock u) (either head (signal_at row u))
          (means_either gates values head (signal_at row u))
          (λ (s : Signal) one e. elim (one e) [
            | inl old ↦ earlier_before (u - 1) u (not_first ne) ne (before (u - 1) (not_first ne) old)
            | inr here ↦ earlier_here u here
          ])

  -- ---- over windows

  active_earlier : (u : ℕ) → EarlierInBlock u → Active u
  active_earlier u earlier =
      let to = earlier.to in
      let block = earlier.in_block in
      let below = within_block u window lasts in
      record { cycle = earlier.cycle; lasts_in = record { begun = omega arith; not_over = omega arith }; is_true = earlier.is_true }

  active_later : (u : ℕ) → window ≤ u → LaterInBlock (u + 1 - window) → Active u
  active_later u le later =
      let from = later.from in
      let block = later.in_block in
      record { cycle = later.cycle; lasts_in = record { begun = omega arith; not_over = omega arith }; is_true = later.is_true }

  over_means : (ends : List Signal) → AreLater ends → (u : ℕ) (head : Signal) → (value values head ≡ true → EarlierInBlock u)
      → Means values (over_window window ends u head) (λ (s : Signal). value values s ≡ true → Active u)
  over_means ends later u head earlier = go (nat_eq (u % window) (window - 1)) (nat_lt u window) refl
    where
      alone : Means values (done head) (λ (s : Signal). value values s ≡ true → Active u)
      alone = means-done values (λ (s : Signal). value values s ≡ true → Active u) head (λ e. active_earlier u (earlier e))

      go : (end first : Bool) → nat_lt u window ≡ first
          → Means values (cond (end || first) (done head) (either (signal_at ends (u + 1 - window)) head)) (λ (s : Signal). value values s ≡ true → Active u)
      go true first is = alone
      go false true is = alone
      go false false is =
          let le : window ≤ u = elim (cases_lt u window) [
            | inl lt ↦ (let k = le-leb (suc u) window lt in absurd (cc))
            | inr ge ↦ ge
          ] in
          means_more values (λ (s : Signal). value values s ≡ true → (value_at values ends (u + 1 - window) ≡ true) ⊎ (value values head ≡ true))
          (λ (s : Signal). value values s ≡ true → Active u) (either (signal_at ends (u + 1 - window)) head)
          (means_either gates values (signal_at ends (u + 1 - window)) head)
          (λ (s : Signal) one e. elim (one e) [
            | inl tail ↦ active_later u le (later (u + 1 - window) tail)
            | inr old ↦ active_earlier u (earlier old)
          ])

  abbrev AreActive : List Signal → Type 0
  AreActive signals = (j : ℕ) → value_at values signals j ≡ true → Active j

  -- after so many cycles
  record Kept (k : ℕ) (so_far : Lasting) : Type 0 where
    pub head : TellsBefore k so_far.head
    pub as_long : length so_far.row ≡ k
    pub active : AreActive so_far.row

  push_active : (u : ℕ) (signals : List Signal) (s : Signal) → length signals ≡ u → AreActive signals → (value values s ≡ true → Active u) → AreActive (signals ++ s ∷ [])
  push_active u signals s long old new j e =
      elim (cases_lt j u) [
        | inl less ↦ old j (sym (ap (value values) (get_or_append_left signals (s ∷ []) (Constant false) j (omega arith))) ∙ e)
        | inr ge ↦ elim (cases_eq j u) [
          | inl same ↦ subst Active (sym same) (new (sym (ap (value values) (get_or_push signals s (Constant false) j (long ∙ sym same))) ∙ e))
          | inr other ↦
              let more = length_push signals s in
              let within = true_within values (signals ++ s ∷ []) j e in
              absurd (omega (arith, ge, other, more, within, long))
        ]
      ]

  keep_means : (ends : List Signal) → AreLater ends → (u : ℕ) (signals : List Signal) (head : Signal) → length signals ≡ u → AreActive signals
      → (value values head ≡ true → EarlierInBlock u) → Means values (keep_lasting window ends u signals head) (Kept (u + 1))
  keep_means ends later u signals head long active earlier =
      means-bind values (Kept (u + 1)) (λ (s : Signal). value values s ≡ true → Active u) (over_window window ends u head) (λ (s : Signal). done (lasting head (signals ++ s ∷ [])))
      (over_means ends later u head earlier)
      (λ (s : Signal) tells. means-done values (Kept (u + 1)) (lasting head (signals ++ s ∷ [])) (record {
        head = λ j same e. subst EarlierInBlock (let k : u ≡ j = omega arith in k) (earlier e);
        as_long = (let more = length_push signals s in omega arith);
        active = push_active u signals s long active tells;
      }))

  turn_means : (ends : List Signal) → AreLater ends → (u : ℕ) (so_far : Lasting) → Kept u so_far → Means values (next_lasting window row ends u so_far) (Kept (u + 1))
  turn_means ends later u so_far kept =
      means-bind values (Kept (u + 1)) (λ (s : Signal). value values s ≡ true → EarlierInBlock u) (from_block_start window row u so_far.head) (keep_lasting window ends u so_far.row)
      (from_start_means u so_far.head kept.head)
      (λ (head : Signal) earlier. keep_means ends later u so_far.row head kept.as_long kept.active earlier)

  pub windowed_means : Means values (windowed window row) AreActive
  windowed_means =
      means-bind values AreActive AreLater (tails window row) (λ (ends : List Signal). heads window row ends >>= (λ (all : Lasting). done all.row)) tails_mean
      (λ (ends : List Signal) (later : AreLater ends).
      means-bind values AreActive (Kept (0 + length row)) (heads window row ends) (λ (all : Lasting). done all.row)
      (through_numbers values Kept (next_lasting window row ends) (turn_means ends later) 0 (length row) (lasting (Constant false) []) (record {
        head = λ j same e. absurd (cc);
        as_long = refl;
        active = λ j e. (let none = ap (value values) (get_or_past [] j (Constant false) (omega arith)) in absurd (cc));
      }))
      (λ (all : Lasting) kept. means-done values AreActive all.row kept.active))
