-- Picking the lines that are used, from the first one on.
use Rattle.std.proofs.Common.{◌≡◌, ℕ, ◌+◌, ◌-◌, ◌<◌, ◌≤◌, Bool, true, false, List, [], ◌∷◌, ◌++◌, length, get_or, map, Some, slice_get, sym, ◌∙◌, ap, subst, inl, inr, arith}
use Rattle.std.specs.List.{All, AllPairs, Contains}
use Rattle.std.proofs.lemmas.List.{get_or_append_left, get_or_push, length_push, get_or_past}
use Rattle.std.proofs.lemmas.List.Elements.{All-push, All-weaker, All-contains_itself, All-map}
use Rattle.std.proofs.lemmas.List.Quantifiers.{all_pairs_push}
use Rattle.std.proofs.lemmas.Bool.{cases_eq, cases_lt}
use Rattle.clause_store.specs.declared.line.Line.{Line}
use Rattle.derivation_check.specs.Trimmed.{numbers_of, moved_number, moved_line}
use Rattle.derivation_check.specs.Used.{IsUsed, AllEarlier, AreUsed, AllDown}
use Rattle.derivation_check.proofs.Adding.{named_before}
use Rattle.derivation_check.proofs.Gets.{get_pushed}
use Rattle.derivation_check.proofs.Moving.{moved_store, moved_place, line_same, line_back, numbers_of-moved}

-- of the lines before the place k those that are used are picked; the table says where each of them is now
pub record IsPicking (k count : ℕ) (lines : List Line) (used : List Bool) (table : List ℕ) (picked : List Line) : Type 0 where
  pub places : List ℕ
  pub len : length places ≡ length picked
  pub few : length places ≤ k
  pub ascending : AllPairs (λ p q. p < q) places
  pub below : All (λ p. p < k) places
  pub are_used : All (IsUsed used) places
  pub table_len : length table ≡ k
  pub down : AllDown table
  pub back : (j : ℕ) → j < k → IsUsed used j → (get_or table j 0 < length places) × (get_or places (get_or table j 0) 0 ≡ j)
  pub stood : (i : ℕ) (line : Line) → slice_get picked i ≡ Some line → slice_get lines (get_or places i 0) ≡ Some (moved_line (moved_number count places) line)
  pub earlier : AllEarlier count picked

-- a table with one more entry, at the end
pub down_more : (table : List ℕ) (k n : ℕ) → length table ≡ k → n ≤ k → AllDown table → AllDown (table ++ n ∷ [])
down_more table k n len le down i =
    elim (cases_lt i k) [
      | inl lt ↦
          let e : get_or (table ++ n ∷ []) i 0 ≡ get_or table i 0 = get_or_append_left table (n ∷ []) 0 i (omega arith) in
          let h : get_or table i 0 ≤ i = down i in
          omega arith
      | inr ge ↦ elim (cases_eq i k) [
        | inl it ↦
            let e : get_or (table ++ n ∷ []) i 0 ≡ n = get_or_push table n 0 i (len ∙ sym it) in
            omega arith
        | inr other ↦
            let long : length (table ++ n ∷ []) ≡ length table + 1 = length_push table n in
            let e : get_or (table ++ n ∷ []) i 0 ≡ 0 = get_or_past (table ++ n ∷ []) i 0 (omega arith) in
            omega arith
      ]
    ]

-- a line that is not used
pub picked_skip : (k count : ℕ) (lines : List Line) (used : List Bool) (table : List ℕ) (picked : List Line) (n : ℕ) → n ≡ length picked → get_or used k false ≡ false → IsPicking k count lines used table picked → IsPicking (k + 1) count lines used (table ++ n ∷ []) picked
picked_skip k count lines used table picked n is not_used part = record {
  places = part.places;
  len = part.len;
  few = let f : length part.places ≤ k = part.few in omega arith;
  ascending = part.ascending;
  below = All-weaker (λ p. p < k) (λ p. p < k + 1) (λ p lt. omega arith) part.places part.below;
  are_used = part.are_used;
  table_len = length_push table n ∙ ap (λ m. m + 1) part.table_len;
  down = let f : length part.places ≤ k = part.few in let l : length part.places ≡ length picked = part.len in down_more table k n part.table_len (omega arith) part.down;
  back = λ j lt used_j.
      elim (cases_eq j k) [
        | inl it ↦ let u : get_or used k false ≡ true = rw it at used_j in absurd (cc)
        | inr other ↦
            let l : length table ≡ k = part.table_len in
            let e : get_or (table ++ n ∷ []) j 0 ≡ get_or table j 0 = get_or_append_left table (n ∷ []) 0 j (omega arith) in
            rw e (part.back j (omega arith) used_j)
      ];
  stood = part.stood;
  earlier = part.earlier;
}

-- a number that a used line names, moved by the table
pub record IsMovedIn (count : ℕ) (table places : List ℕ) (n : ℕ) : Type 0 where
  pub below : moved_number count table n < count + length places
  pub back : moved_number count places (moved_number count table n) ≡ n

moved_in_store : (count : ℕ) (table places : List ℕ) (n : ℕ) → n < count → IsMovedIn count table places n
moved_in_store count table places n lt =
    let there : moved_number count table n ≡ n = moved_store count table n lt in
    let here : moved_number count places n ≡ n = moved_store count places n lt in
    record { below = rw there (omega arith); back = rw there here }

moved_in_line : (count : ℕ) (table places : List ℕ) (j : ℕ) → get_or table j 0 < length places → get_or places (get_or table j 0) 0 ≡ j → IsMovedIn count table places (count + j)
moved_in_line count table places j lt is =
    let there : moved_number count table (count + j) ≡ count + get_or table j 0 = moved_place count table j in
    let here : moved_number count places (count + get_or table j 0) ≡ count + get_or places (get_or table j 0) 0 = moved_place count places (get_or table j 0) in
    record { below = rw there (omega arith); back = rw there (here ∙ ap (λ m. count + m) is) }

pub moved_in : (k count : ℕ) (lines : List Line) (used : List Bool) (table : List ℕ) (picked : List Line) (line : Line) (at : slice_get lines k ≡ Some line) → AllEarlier count lines → AreUsed count lines used → IsUsed used k → (part : IsPicking k count lines used table picked) → (m : ℕ) → All (IsMovedIn count (table ++ m ∷ []) part.places) (numbers_of line)
moved_in k count lines used table picked line at earlier are here part m =
    All-weaker (Contains (numbers_of line)) (IsMovedIn count (table ++ m ∷ []) part.places)
    (λ n named.
    elim (cases_lt n count) [
      | inl lt ↦ moved_in_store count (table ++ m ∷ []) part.places n lt
      | inr ge ↦
          let j : ℕ = n - count in
          let e : n ≡ count + j = omega arith in
          let P : ℕ → Type 0 = λ x. Contains (numbers_of line) x in
          let named' : Contains (numbers_of line) (count + j) = subst P e named in
          let lt : j < k = named_before count lines k j line earlier at named' in
          let used_j : IsUsed used j = are.closed k j line at here named' in
          let b = part.back j lt used_j in
          let l : length table ≡ k = part.table_len in
          let t : get_or (table ++ m ∷ []) j 0 ≡ get_or table j 0 = get_or_append_left table (m ∷ []) 0 j (omega arith) in
          let Q : ℕ → Type 0 = λ x. IsMovedIn count (table ++ m ∷ []) part.places x in
          subst Q (sym e) (moved_in_line count (table ++ m ∷ []) part.places j (rw t b.0) (rw t b.1))
    ])
    (numbers_of line) (All-contains_itself (numbers_of line))

-- numbers below the end of a list of places are moved as by a longer one
moved_longer : (count : ℕ) (places : List ℕ) (k n : ℕ) → n < count + length places → moved_number count (places ++ k ∷ []) n ≡ moved_number count places n
moved_longer count places k n lt =
    elim (cases_lt n count) [
      | inl low ↦ moved_store count (places ++ k ∷ []) n low ∙ sym (moved_store count places n low)
      | inr ge ↦
          let j : ℕ = n - count in
          let e : n ≡ count + j = omega arith in
          let g : get_or (places ++ k ∷ []) j 0 ≡ get_or places j 0 = get_or_append_left places (k ∷ []) 0 j (omega arith) in
          rw e (moved_place count (places ++ k ∷ []) j ∙ ap (λ m. count + m) g ∙ sym (moved_place count places j))
    ]

back_longer : (count : ℕ) (table places : List ℕ) (k n : ℕ) → IsMovedIn count table places n → moved_number count (places ++ k ∷ []) (moved_number count table n) ≡ n
back_longer count table places k n moved =
    moved_longer count places k (moved_number count table n) moved.below ∙ moved.back

-- a line that is used
pub picked_more : (k count : ℕ) (lines : List Line) (used : List Bool) (table : List ℕ) (picked : List Line) (line moved : Line) (n : ℕ) → n ≡ length picked → slice_get lines k ≡ Some line → AllEarlier count lines → AreUsed count lines used → IsUsed used k → moved ≡ moved_line (moved_number count (table ++ n ∷ [])) line → IsPicking k count lines used table picked → IsPicking (k + 1) count lines used (table ++ n ∷ []) (picked ++ moved ∷ [])
picked_more k count lines used table picked line moved n is at earlier are here moves part =
    let len : length part.places ≡ length picked = part.len in
    let few : length part.places ≤ k = part.few in
    let table_len : length table ≡ k = part.table_len in
    let places : List ℕ = part.places ++ k ∷ [] in
    let long : length places ≡ length part.places + 1 = length_push part.places k in
    let ins : All (IsMovedIn count (table ++ n ∷ []) part.places) (numbers_of line) = moved_in k count lines used table picked line at earlier are here part n in
    record {
      places = places;
      len = long ∙ ap (λ m. m + 1) len ∙ sym (length_push picked moved);
      few = omega arith;
      ascending = all_pairs_push (λ p q. p < q) part.places k part.ascending part.below;
      below = All-push (λ p. p < k + 1) part.places k (All-weaker (λ p. p < k) (λ p. p < k + 1) (λ p lt. omega arith) part.places part.below) (omega arith);
      are_used = All-push (IsUsed used) part.places k part.are_used here;
      table_len = length_push table n ∙ ap (λ m. m + 1) table_len;
      down = down_more table k n table_len (omega arith) part.down;
      back = λ j lt used_j.
          elim (cases_eq j k) [
            | inl it ↦
                let e : get_or (table ++ n ∷ []) j 0 ≡ n = get_or_push table n 0 j (table_len ∙ sym it) in
                rw e (omega arith, get_or_push part.places k 0 n (len ∙ sym is) ∙ sym it)
            | inr other ↦
                let e : get_or (table ++ n ∷ []) j 0 ≡ get_or table j 0 = get_or_append_left table (n ∷ []) 0 j (omega arith) in
                let b = part.back j (omega arith) used_j in
                let lt' : get_or table j 0 < length part.places = b.0 in
                rw e (omega arith, get_or_append_left part.places (k ∷ []) 0 (get_or table j 0) lt' ∙ b.1)
          ];
      stood = λ i l got. get_pushed picked moved i l got
          (λ lt got'.
          let e : get_or places i 0 ≡ get_or part.places i 0 = get_or_append_left part.places (k ∷ []) 0 i (omega arith) in
          let same : moved_line (moved_number count places) l ≡ moved_line (moved_number count part.places) l =
          line_same (moved_number count places) (moved_number count part.places) l
          (All-weaker (λ m. m < count + i) (λ m. moved_number count places m ≡ moved_number count part.places m) (λ m low. moved_longer count part.places k m (omega arith)) (numbers_of l) (part.earlier i l got')) in
          ap (λ p. slice_get lines p) e ∙ part.stood i l got' ∙ ap (λ m. Some m) (sym same))
          (λ it is_moved.
          let e : get_or places i 0 ≡ k = get_or_push part.places k 0 i (len ∙ sym it) in
          let b : moved_line (moved_number count places) (moved_line (moved_number count (table ++ n ∷ [])) line) ≡ line =
          line_back (moved_number count places) (moved_number count (table ++ n ∷ [])) line
          (All-weaker (IsMovedIn count (table ++ n ∷ []) part.places) (λ m. moved_number count places (moved_number count (table ++ n ∷ []) m) ≡ m) (λ m there. back_longer count (table ++ n ∷ []) part.places k m there) (numbers_of line) ins) in
          let same : l ≡ moved_line (moved_number count (table ++ n ∷ [])) line = is_moved ∙ moves in
          ap (λ p. slice_get lines p) e ∙ at ∙ ap (λ m. Some m) (sym (ap (moved_line (moved_number count places)) same ∙ b)));
      earlier = λ i l got. get_pushed picked moved i l got
          (λ lt got'. part.earlier i l got')
          (λ it is_moved.
          let same : l ≡ moved_line (moved_number count (table ++ n ∷ [])) line = is_moved ∙ moves in
          let low : All (λ m. m < count + i) (map (moved_number count (table ++ n ∷ [])) (numbers_of line)) =
          All-map (λ m. m < count + i) (moved_number count (table ++ n ∷ [])) (numbers_of line)
          (All-weaker (IsMovedIn count (table ++ n ∷ []) part.places) (λ m. moved_number count (table ++ n ∷ []) m < count + i) (λ m there. let b : moved_number count (table ++ n ∷ []) m < count + length part.places = there.below in omega arith) (numbers_of line) ins) in
          let P : List ℕ → Type 0 = λ ns. All (λ m. m < count + i) ns in
          subst P (sym (ap numbers_of same ∙ numbers_of-moved (moved_number count (table ++ n ∷ [])) line)) low);
    }
