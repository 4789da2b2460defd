-- Marking the lines that the last one rests on, from the last one back.
use Rattle.std.proofs.Common.{◌≡◌, ℕ, ◌+◌, ◌<◌, ◌≤◌, Bool, ◌⊎◌, List, [], ◌++◌, length, get_or, Some, slice_get, map, suc, take, drop, ◌∙◌, subst, inl, inr, arith}
use Rattle.std.specs.List.{All, Contains}
use Rattle.std.proofs.lemmas.List.{get_or-map, length-map, append-nil, drop_all, take_all}
use Rattle.std.proofs.lemmas.List.Elements.{All-contains, Contains-append_cases, Contains-append_left, Contains-append_right}
use Rattle.std.proofs.lemmas.Bool.{cases_eq}
use Rattle.clause_store.specs.declared.line.Cut.{Cut}
use Rattle.clause_store.specs.declared.line.Line.{Line}
use Rattle.derivation_check.specs.Trimmed.{numbers_of}
use Rattle.derivation_check.specs.Used.{IsUsed, Adds, AllEarlier, IsWanted}

pub adds_both : (count : ℕ) (xs ys : List ℕ) (a b c : List Bool) → Adds count xs a b → Adds count ys b c → Adds count (xs ++ ys) a c
adds_both count xs ys a b c one other = record {
  len = other.len ∙ one.len;
  kept = λ k h. other.kept k (one.kept k h);
  named = λ k h. elim (Contains-append_cases xs ys (count + k) h) [
    | inl left ↦ other.kept k (one.named k left)
    | inr right ↦ other.named k right
  ];
  only = λ k h. elim (other.only k h) [
    | inr right ↦ inr (Contains-append_right xs ys (count + k) right)
    | inl before ↦ elim (one.only k before) [
      | inl old ↦ inl old
      | inr left ↦ inr (Contains-append_left xs ys (count + k) left)
    ]
  ];
}

-- the lines from a place on are done
pub record IsMarkedFrom (place count : ℕ) (lines : List Line) (used : List Bool) : Type 0 where
  pub within : place ≤ length lines
  pub len : length used ≡ length lines
  pub last : (k : ℕ) → k + 1 ≡ length lines → IsUsed used k
  pub closed : (k j : ℕ) (line : Line) → place ≤ k → slice_get lines k ≡ Some line → IsUsed used k → Contains (numbers_of line) (count + j) → IsUsed used j
  pub needed : (k : ℕ) → IsUsed used k → (k + 1 ≡ length lines) ⊎ IsWanted count lines used k

-- the lines that a line names are earlier
pub named_before : (count : ℕ) (lines : List Line) (place k : ℕ) (line : Line) → AllEarlier count lines → slice_get lines place ≡ Some line → Contains (numbers_of line) (count + k) → k < place
named_before count lines place k line earlier at named =
    let low : count + k < count + place = All-contains (λ n. n < count + place) (numbers_of line) (count + k) (earlier place line at) named in
    omega arith

pub marked_more : (next place count : ℕ) (lines : List Line) (line : Line) (used new : List Bool) → next ≡ place + 1 → AllEarlier count lines → slice_get lines place ≡ Some line → IsUsed used place → Adds count (numbers_of line) used new → IsMarkedFrom next count lines used → IsMarkedFrom place count lines new
marked_more next place count lines line used new step earlier at here adds from = record {
  within = let le : next ≤ length lines = from.within in omega arith;
  len = adds.len ∙ from.len;
  last = λ k e. adds.kept k (from.last k e);
  closed = λ k j l le got used_k named.
      elim (cases_eq k place) [
        | inl it ↦
            let got' : slice_get lines place ≡ Some l = rw it at got in
            let same : l ≡ line = cc in
            let P : Line → Type 0 = λ m. Contains (numbers_of m) (count + j) in
            adds.named j (subst P same named)
        | inr other ↦ elim (adds.only k used_k) [
          | inl before ↦ adds.kept j (from.closed k j l (omega arith) got before named)
          | inr late ↦ let low : k < place = named_before count lines place k line earlier at late in absurd (omega arith)
        ]
      ];
  needed = λ k used_k. elim (adds.only k used_k) [
    | inl before ↦ elim (from.needed k before) [
      | inl is_last ↦ inl is_last
      | inr w ↦ inr (record { later = w.later; line = w.line; at = w.at; after = w.after; is_used = adds.kept w.later w.is_used; named = w.named })
    ]
    | inr named ↦ inr (record {
      later = place;
      line = line;
      at = at;
      after = named_before count lines place k line earlier at named;
      is_used = adds.kept place here;
      named = named;
    })
  ];
}

-- what is below a bound in a line is so in its cuts
pub cut_below : (bound : ℕ) (line : Line) (k : ℕ) (d : Cut) → k < length line.cuts → All (λ n. n < bound) (numbers_of line) → (get_or line.cuts k d).id < bound
cut_below bound line k d lt all =
    let n : length (map (λ cut. cut.id) line.cuts) ≡ length line.cuts = length-map line.cuts (λ cut. cut.id) in
    let m : get_or (map (λ cut. cut.id) line.cuts) k 0 ≡ (get_or line.cuts k d).id = get_or-map (λ cut. cut.id) line.cuts k d 0 lt in
    let h : get_or (map (λ cut. cut.id) line.cuts) k 0 < bound = all (suc k) 0 (omega arith) in
    omega arith

-- a whole list that was written
pub written : (items new : List Bool) (n : ℕ) → length new ≡ n → length items ≡ n → take n (new ++ drop (length new) items) ≡ new
written items new n e f =
    let none : drop (length new) items ≡ [] = drop_all (length new) items (omega arith) in
    rw (none, append-nil new) (take_all n new (omega arith))
