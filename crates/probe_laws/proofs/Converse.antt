-- Signals that last, the other way: a true signal makes every cycle of its window true.
use Rattle.std.proofs.Common.{◌≡◌, ◌≢◌, ℕ, zero, suc, ◌+◌, ◌-◌, ◌*◌, ◌/◌, ◌%◌, ◌<◌, ◌≤◌, ◌||◌, ◌&&◌, Bool, true, false, cond, nat_eq, nat_lt, nat_le, List, [], ◌∷◌, ◌++◌, length, get_or, reverse, replicate, slice_set, refl, sym, ap, ◌∙◌, subst, arith, ◌⊎◌, inl, inr}
use Rattle.std.specs.List.{range_with_len}
use Rattle.std.proofs.Math.Nat.{mod-add-div', add-mod_right}
use Rattle.std.proofs.lemmas.Bool.{cases_eq, cases_lt, eq-eqb, eqb-true, leb-true}
use Rattle.std.proofs.lemmas.List.{length-set, get_or-set_same, get_or-set_other, length-replicate, get_or_push, get_or_append_left, length_push, get_or_default}
use Rattle.std.proofs.lemmas.List.FromFn.{length-range_with_len, get_or-range_with_len}
use Rattle.circuit_clauses.specs.declared.signal.Signal.{Signal}
use Rattle.circuit_clauses.specs.declared.signal.Signal.TheVariants.{Constant}
use Rattle.circuit_clauses.specs.Signals.{value}
use Rattle.circuit_clauses.specs.Laws.{GatesLaw}
use Rattle.clause_builds.specs.Builds.{Build, done, ◌>>=◌, through, or_gate}
use Rattle.clause_builds.specs.Rows.{signal_at}
use Rattle.clause_builds.proofs.Lists.{through-nil, through-cons}
use Rattle.probe_clauses.specs.Windows.{Lasting, lasting, either, to_block_end, next_tail, tails, from_block_start, over_window, keep_lasting, next_lasting, heads, windowed}
use Rattle.probe_clauses.proofs.Ranges.{back_item, length-backwards}
use Rattle.probe_laws.proofs.Meant.{Means, means-done, means-bind, means_more, means-or_gate, value_at}
use Rattle.probe_laws.proofs.Windows.{within_block, next_in_block, next_block}

-- a property by how many items of a list are done
pub through_turns : {X S : Type 0} (values : ℕ → Bool) (I : ℕ → S → Type 0) (build : X → S → Build S) (xs : List X) (d : X)
    → ((k : ℕ) (s : S) → k < length xs → I k s → Means values (build (get_or xs k d) s) (I (suc k))) → (s : S) → I 0 s → Means values (through build xs s) (I (length xs))
through_turns {S = S} values I build [] d turn s start = subst (λ (b : Build S). Means values b (I 0)) (sym (through-nil build s)) (means-done values (I 0) s start)
through_turns {S = S} values I build (x ∷ xs) d turn s start =
    subst (λ (b : Build S). Means values b (I (suc (length xs)))) (sym (through-cons build x xs s))
    (means-bind values (I (suc (length xs))) (I 1) (build x s) (through build xs) (turn 0 s (omega arith) start)
    (λ (t : S) q. through_turns values (λ k. I (suc k)) build xs d (λ k u lt i. turn (suc k) u (omega arith) i) t q))

-- one or the other makes it true
pub means_from_either : GatesLaw → (values : ℕ → Bool) (a p : Signal)
    → Means values (or_gate a p (Constant true)) (λ (s : Signal). (value values a ≡ true) ⊎ (value values p ≡ true) → value values s ≡ true)
means_from_either gates values a p =
    means_more values (λ (s : Signal). value values s ≡ (value values a || (value values p && true)))
    (λ (s : Signal). (value values a ≡ true) ⊎ (value values p ≡ true) → value values s ≡ true) (or_gate a p (Constant true)) (means-or_gate gates values a p (Constant true))
    (λ (s : Signal) e one. e ∙ is_one (value values a) (value values p) one)
  where
    is_one : (x y : Bool) → (x ≡ true) ⊎ (y ≡ true) → (x || (y && true)) ≡ true
    is_one true y one = refl
    is_one false true one = refl
    is_one false false one = absurd (elim one [ inl e ↦ (let f : false ≡ true = e in cc) | inr e ↦ (let f : false ≡ true = e in cc) ])

block_start : (u w : ℕ) → u / w * w + u % w ≡ u
block_start u w = (let e = mod-add-div' u w in omega arith)

module _ (gates : GatesLaw) (values : ℕ → Bool) (window : ℕ) (lasts : 1 ≤ window) (row : List Signal) where
  abbrev IsTrue : ℕ → Type 0
  IsTrue t = value_at values row t ≡ true

  -- ---- to the ends of blocks

  abbrev TellsEnd : ℕ → Signal → Type 0
  TellsEnd u s = (t : ℕ) → u ≤ t → t + u % window < u + window → u / window * window + window < length row → u % window ≢ 0 → IsTrue t → value values s ≡ true

  record EndsFrom (from : ℕ) (ends : List Signal) : Type 0 where
    pub as_long : length ends ≡ length row
    pub each : (u : ℕ) → from ≤ u → u < length row → TellsEnd u (signal_at ends u)

  end_next : (u t : ℕ) (ends : List Signal) → u % window ≢ window - 1 → EndsFrom (u + 1) ends → suc u ≤ t → t + u % window < u + window
      → u / window * window + window < length row → IsTrue t → value_at values ends (u + 1) ≡ true
  end_next u t ends ne from gt block long e =
      let step : (u + 1) % window ≡ u % window + 1 = next_in_block u window lasts ne in
      let a = block_start u window in
      let b = block_start (u + 1) window in
      let below = within_block u window lasts in
      let same : (u + 1) / window * window ≡ u / window * window = omega arith in
      from.each (u + 1) (omega arith) (omega (arith, a, below, ne, long)) t (omega arith) (omega arith) (omega arith) (λ z. omega arith) e

  to_end_tells : (u : ℕ) (ends : List Signal) → EndsFrom (u + 1) ends → Means values (to_block_end window row u ends) (TellsEnd u)
  to_end_tells u ends from = go (nat_le (length row) (u / window * window + window)) refl (nat_eq (u % window) (window - 1)) refl (nat_eq (u % window) 0) refl
    where
      go : (last : Bool) → nat_le (length row) (u / window * window + window) ≡ last → (end : Bool) → nat_eq (u % window) (window - 1) ≡ end
          → (start : Bool) → nat_eq (u % window) 0 ≡ start
          → Means values (cond last (done (Constant false)) (cond end (done (signal_at row u)) (cond start (done (Constant false)) (either (signal_at ends (u + 1)) (signal_at row u))))) (TellsEnd u)
      go true el end ee start es = means-done values (TellsEnd u) (Constant false)
          (λ t le block long ne e. (let few = leb-true (length row) (u / window * window + window) el in absurd (omega arith)))
      go false el true ee start es = means-done values (TellsEnd u) (signal_at row u)
          (λ t le block long ne e. (let same = eqb-true (u % window) (window - 1) ee in
          let here : t ≡ u = omega arith in
          subst IsTrue here e))
      go false el false ee true es = means-done values (TellsEnd u) (Constant false)
          (λ t le block long ne e. absurd (ne (eqb-true (u % window) 0 es)))
      go false el false ee false es =
          means_more values (λ (s : Signal). (value_at values ends (u + 1) ≡ true) ⊎ (value_at values row u ≡ true) → value values s ≡ true) (TellsEnd u)
          (either (signal_at ends (u + 1)) (signal_at row u)) (means_from_either gates values (signal_at ends (u + 1)) (signal_at row u))
          (λ (s : Signal) one t le block long ne e. one (elim (cases_lt u t) [
            | inl gt ↦ inl (end_next u t ends (λ same. (let k = eq-eqb (u % window) (window - 1) same in cc)) from gt block long e)
            | inr ge ↦ inr (let here : t ≡ u = omega arith in subst IsTrue here e)
          ]))

  set_ends : (u : ℕ) (ends : List Signal) (s : Signal) → u < length row → EndsFrom (u + 1) ends → TellsEnd u s → EndsFrom u (slice_set ends u s)
  set_ends u ends s lt from tells = record {
    as_long = length-set ends u s ∙ from.as_long;
    each = λ i le within. elim (cases_eq i u) [
      | inl same ↦ subst (λ k. TellsEnd k (signal_at (slice_set ends u s) k)) (sym same)
          (subst (TellsEnd u) (sym (get_or-set_same ends u s (Constant false) (let long = from.as_long in omega arith))) tells)
      | inr other ↦ subst (TellsEnd i) (sym (get_or-set_other ends u i s (Constant false) other)) (from.each i (omega (arith, le, other)) within)
    ];
  }

  tail_turn : (k : ℕ) (ends : List Signal) → k < length row → EndsFrom (length row - k) ends
      → Means values (next_tail window row (length row - 1 - k) ends) (EndsFrom (length row - suc k))
  tail_turn k ends lt from =
      let u = length row - 1 - k in
      let e1 : length row - k ≡ u + 1 = omega arith in
      let e2 : u ≡ length row - suc k = omega arith in
      subst (λ n. Means values (next_tail window row u ends) (EndsFrom n)) e2
      (means-bind values (EndsFrom u) (TellsEnd u) (to_block_end window row u ends) (λ (s : Signal). done (slice_set ends u s))
      (to_end_tells u ends (subst (λ n. EndsFrom n ends) e1 from))
      (λ (s : Signal) tells. means-done values (EndsFrom u) (slice_set ends u s) (set_ends u ends s (omega arith) (subst (λ n. EndsFrom n ends) e1 from) tells)))

  tails_tell : Means values (tails window row) (EndsFrom 0)
  tails_tell =
      let n = length row in
      let same : n - length (reverse (range_with_len 0 n)) ≡ 0 = (let long = length-backwards n in omega arith) in
      subst (λ k. Means values (tails window row) (EndsFrom k)) same
      (through_turns values (λ k. EndsFrom (n - k)) (next_tail window row) (reverse (range_with_len 0 n)) 0
      (λ k (ends : List Signal) lt from. (let long = length-backwards n in
      let item : get_or (reverse (range_with_len 0 n)) k 0 ≡ n - 1 - k = get_or_default (reverse (range_with_len 0 n)) k 0 (n - 1 - k) lt ∙ sym (back_item n k (omega arith)) in
      subst (λ u. Means values (next_tail window row u ends) (EndsFrom (n - suc k))) (sym item) (tail_turn k ends (omega arith) from)))
      (replicate n (Constant false)) (record {
        as_long = length-replicate n (Constant false);
        each = λ u le lt. absurd (omega arith);
      }))

  -- ---- from the starts of blocks

  abbrev TellsHead : ℕ → Signal → Type 0
  TellsHead u s = (t : ℕ) → t ≤ u → u ≤ t + u % window → IsTrue t → value values s ≡ true

  abbrev TellsOld : ℕ → Signal → Type 0
  TellsOld u head = (j : ℕ) → j + 1 ≡ u → TellsHead j head

  from_start_tells : (u : ℕ) (head : Signal) → TellsOld u head → Means values (from_block_start window row u head) (TellsHead u)
  from_start_tells u head old = go (nat_eq (u % window) 0) refl
    where
      go : (start : Bool) → nat_eq (u % window) 0 ≡ start → Means values (cond start (done (signal_at row u)) (either head (signal_at row u))) (TellsHead u)
      go true is = means-done values (TellsHead u) (signal_at row u)
          (λ t le block e. (let z = eqb-true (u % window) 0 is in
          let here : t ≡ u = omega arith in
          subst IsTrue here e))
      go false is =
          means_more values (λ (s : Signal). (value values head ≡ true) ⊎ (value_at values row u ≡ true) → value values s ≡ true) (TellsHead u)
          (either head (signal_at row u)) (means_from_either gates values head (signal_at row u))
          (λ (s : Signal) one t le block e. one (elim (cases_lt t u) [
            | inl less ↦ inl (earlier t less block e)
            | inr ge ↦ inr (let here : t ≡ u = omega arith in subst IsTrue here e)
          ]))
        where
          earlier : (t : ℕ) → t < u → u ≤ t + u % window → IsTrue t → value values head ≡ true
          earlier t less block e =
              let j = u - 1 in
              let next : j + 1 ≡ u = omega arith in
              let ne : u % window ≢ 0 = (λ same. (let k = eq-eqb (u % window) 0 same in cc)) in
              let step : (j + 1) % window ≡ j % window + 1 = next_in_block j window lasts (λ same. ne (subst (λ n. n % window ≡ 0) next (next_block j window lasts same))) in
              let here : u % window ≡ j % window + 1 = subst (λ n. n % window ≡ j % window + 1) next step in
              old j next t (omega arith) (omega arith) e

  -- ---- over windows

  abbrev TellsOver : ℕ → Signal → Type 0
  TellsOver u s = (t : ℕ) → t ≤ u → u < t + window → IsTrue t → value values s ≡ true

  whole_block : (q w : ℕ) → 1 ≤ q * w → w ≤ q * w
  whole_block zero w h = absurd (omega arith)
  whole_block (suc q) w h = omega arith

  end_before : (u t : ℕ) (ends : List Signal) → EndsFrom 0 ends → u < length row → t + u % window < u → u < t + window → IsTrue t
      → (u % window ≢ window - 1) × (window ≤ u) × (value_at values ends (u + 1 - window) ≡ true)
  end_before u t ends from lt early over e =
      let below = within_block u window lasts in
      let a = block_start u window in
      let ne : u % window ≢ window - 1 = (λ same. omega arith) in
      let some : window ≤ u / window * window = whole_block (u / window) window (omega arith) in
      let le : window ≤ u = omega arith in
      let v = u + 1 - window in
      let back : v + window ≡ u + 1 = omega arith in
      let step : (u + 1) % window ≡ u % window + 1 = next_in_block u window lasts ne in
      let there : v % window ≡ u % window + 1 = sym (add-mod_right v window) ∙ (ap (λ n. n % window) back ∙ step) in
      let b = block_start v window in
      (ne, le, from.each v (omega arith) (omega arith) t (omega arith) (omega arith) (omega arith) (λ z. omega arith) e)

  over_tells : (ends : List Signal) → EndsFrom 0 ends → (u : ℕ) (head : Signal) → u < length row → TellsHead u head
      → Means values (over_window window ends u head) (TellsOver u)
  over_tells ends from u head lt tells = go (nat_eq (u % window) (window - 1)) refl (nat_lt u window) refl
    where
      where_it_is : (t : ℕ) → t ≤ u → u < t + window → IsTrue t
          → (value values head ≡ true) ⊎ ((u % window ≢ window - 1) × (window ≤ u) × (value_at values ends (u + 1 - window) ≡ true))
      where_it_is t le over e = elim (cases_lt (t + u % window) u) [
        | inl early ↦ inr (end_before u t ends from lt early over e)
        | inr here ↦ inl (tells t le (omega arith) e)
      ]

      go : (end : Bool) → nat_eq (u % window) (window - 1) ≡ end → (first : Bool) → nat_lt u window ≡ first
          → Means values (cond (end || first) (done head) (either (signal_at ends (u + 1 - window)) head)) (TellsOver u)
      go true ee first ef = means-done values (TellsOver u) head
          (λ t le over e. elim (where_it_is t le over e) [
            | inl here ↦ here
            | inr before ↦ absurd (before.0 (eqb-true (u % window) (window - 1) ee))
          ])
      go false ee true ef = means-done values (TellsOver u) head
          (λ t le over e. elim (where_it_is t le over e) [
            | inl here ↦ here
            | inr before ↦ (let few = leb-true (suc u) window ef in let far = before.1 in absurd (omega arith))
          ])
      go false ee false ef =
          means_more values (λ (s : Signal). (value_at values ends (u + 1 - window) ≡ true) ⊎ (value values head ≡ true) → value values s ≡ true) (TellsOver u)
          (either (signal_at ends (u + 1 - window)) head) (means_from_either gates values (signal_at ends (u + 1 - window)) head)
          (λ (s : Signal) one t le over e. one (elim (where_it_is t le over e) [
            | inl here ↦ inr here
            | inr before ↦ inl before.2
          ]))

  record Told (k : ℕ) (so_far : Lasting) : Type 0 where
    pub head : TellsOld k so_far.head
    pub as_long : length so_far.row ≡ k
    pub each : (u : ℕ) → u < k → TellsOver u (signal_at so_far.row u)

  push_told : (u : ℕ) (so_far : Lasting) (head s : Signal) → Told u so_far → TellsHead u head → TellsOver u s → Told (u + 1) (lasting head (so_far.row ++ s ∷ []))
  push_told u so_far head s told tells over = record {
    head = λ j same. subst (λ k. TellsHead k head) (let k : u ≡ j = omega arith in k) tells;
    as_long = (let more = length_push so_far.row s in let long = told.as_long in omega arith);
    each = λ j lt. elim (cases_lt j u) [
      | inl less ↦ subst (TellsOver j) (sym (get_or_append_left so_far.row (s ∷ []) (Constant false) j (let long = told.as_long in omega arith))) (told.each j less)
      | inr ge ↦ (let same : u ≡ j = omega arith in
          subst (λ k. TellsOver k (signal_at (so_far.row ++ s ∷ []) k)) same
          (subst (TellsOver u) (sym (get_or_push so_far.row s (Constant false) u told.as_long)) over))
    ];
  }

  head_turn : (ends : List Signal) → EndsFrom 0 ends → (u : ℕ) (so_far : Lasting) → u < length row → Told u so_far
      → Means values (next_lasting window row ends u so_far) (Told (u + 1))
  head_turn ends from u so_far lt told =
      means-bind values (Told (u + 1)) (TellsHead u) (from_block_start window row u so_far.head) (keep_lasting window ends u so_far.row)
      (from_start_tells u so_far.head told.head)
      (λ (head : Signal) tells.
      means-bind values (Told (u + 1)) (TellsOver u) (over_window window ends u head) (λ (s : Signal). done (lasting head (so_far.row ++ s ∷ [])))
      (over_tells ends from u head lt tells)
      (λ (s : Signal) over. means-done values (Told (u + 1)) (lasting head (so_far.row ++ s ∷ [])) (push_told u so_far head s told tells over)))

  -- a row as long, true over each window of a true signal
  pub record LastsOver (signals : List Signal) : Type 0 where
    pub as_long : length signals ≡ length row
    pub each : (u : ℕ) → u < length row → TellsOver u (signal_at signals u)

  pub windowed_lasts : Means values (windowed window row) LastsOver
  windowed_lasts =
      means-bind values LastsOver (EndsFrom 0) (tails window row) (λ (ends : List Signal). heads window row ends >>= (λ (all : Lasting). done all.row)) tails_tell
      (λ (ends : List Signal) (from : EndsFrom 0 ends).
      means-bind values LastsOver (Told (length (range_with_len 0 (length row)))) (heads window row ends) (λ (all : Lasting). done all.row)
      (through_turns values Told (next_lasting window row ends) (range_with_len 0 (length row)) 0
      (λ k (so_far : Lasting) lt told. (let long = length-range_with_len 0 (length row) in
      let item : get_or (range_with_len 0 (length row)) k 0 ≡ k = get_or-range_with_len 0 (length row) k 0 (omega arith) ∙ omega arith in
      let next : k + 1 ≡ suc k = omega arith in
      subst (λ n. Means values (next_lasting window row ends (get_or (range_with_len 0 (length row)) k 0) so_far) (Told n)) next
      (subst (λ u. Means values (next_lasting window row ends u so_far) (Told (k + 1))) (sym item) (head_turn ends from k so_far (omega arith) told))))
      (lasting (Constant false) []) (record { head = λ j same. absurd (omega arith); as_long = refl; each = λ u lt. absurd (omega arith) }))
      (λ (all : Lasting) told. means-done values LastsOver all.row (record {
        as_long = told.as_long ∙ length-range_with_len 0 (length row);
        each = λ u lt. told.each u (let long = length-range_with_len 0 (length row) in omega arith);
      })))
