-- The lines that were picked: each but the last is named by a later one, and the last clause is the same.
use Rattle.std.proofs.Common.{◌≡◌, ℕ, ◌+◌, ◌-◌, ◌<◌, ◌≤◌, Bool, List, [], ◌∷◌, length, get_or, take, Some, slice_get, sym, ◌∙◌, ap, subst, inl, inr, arith}
use Rattle.std.specs.List.{All, AllPairs, Contains}
use Rattle.std.proofs.lemmas.List.{length_push, take_all, take_more}
use Rattle.std.proofs.lemmas.List.Elements.{All-contains, All-get_or}
use Rattle.std.proofs.lemmas.Option.{slice_get_within, slice_get-get_or}
use Rattle.std.proofs.lemmas.Bool.{cases_eq, cases_lt}
use Rattle.clause_store.specs.declared.lit.Lit.{Lit}
use Rattle.clause_store.specs.declared.line.Line.{Line}
use Rattle.derivation_check.specs.Trimmed.{numbers_of, moved_number, moved_line, AllNamed, EndsIn}
use Rattle.derivation_check.specs.Used.{IsUsed, AreUsed}
use Rattle.derivation_check.proofs.Gets.{get-append_right}
use Rattle.derivation_check.proofs.Moving.{moved_store, moved_place, named_moved}
use Rattle.derivation_check.proofs.Picking.{IsPicking}

abbrev no_line : Line
no_line = record { clause = []; first = 0; cuts = [] }

same_place : (places : List ℕ) (i j : ℕ) → AllPairs (λ p q. p < q) places → i < length places → j < length places → get_or places i 0 ≡ get_or places j 0 → i ≡ j
same_place places i j ascending i_lt j_lt e =
    elim (cases_eq i j) [
      | inl it ↦ it
      | inr other ↦ elim (cases_lt i j) [
        | inl lt ↦ let less : get_or places i 0 < get_or places j 0 = ascending i j 0 lt j_lt in absurd (omega arith)
        | inr ge ↦ let less : get_or places j 0 < get_or places i 0 = ascending j i 0 (omega arith) i_lt in absurd (omega arith)
      ]
    ]

-- a line names another one after both are moved only if it did before
named_back : (count : ℕ) (places : List ℕ) (line : Line) (t i : ℕ) → AllPairs (λ p q. p < q) places → All (λ n. n < count + t) (numbers_of line) → t < length places → i < length places → Contains (numbers_of (moved_line (moved_number count places) line)) (count + get_or places i 0) → Contains (numbers_of line) (count + i)
named_back count places line t i ascending low t_lt i_lt named =
    let m = named_moved (moved_number count places) line (count + get_or places i 0) named in
    let below : m.0 < count + t = All-contains (λ n. n < count + t) (numbers_of line) m.0 low m.1 in
    let is : moved_number count places m.0 ≡ count + get_or places i 0 = m.2 in
    elim (cases_lt m.0 count) [
      | inl lt ↦ let e : moved_number count places m.0 ≡ m.0 = moved_store count places m.0 lt in absurd (omega arith)
      | inr ge ↦
          let j : ℕ = m.0 - count in
          let e : m.0 ≡ count + j = omega arith in
          let f : moved_number count places (count + j) ≡ count + get_or places j 0 = moved_place count places j in
          let g : moved_number count places m.0 ≡ moved_number count places (count + j) = ap (moved_number count places) e in
          let same : j ≡ i = same_place places j i ascending (omega arith) i_lt (omega arith) in
          let P : ℕ → Type 0 = λ n. Contains (numbers_of line) n in
          subst P (e ∙ ap (λ n. count + n) same) m.1
    ]

pub picked_named : (k count : ℕ) (lines : List Line) (used : List Bool) (table : List ℕ) (picked : List Line) → length lines ≤ k → AreUsed count lines used → IsPicking k count lines used table picked → AllNamed count picked
picked_named k count lines used table picked all are part i lt =
    let len : length part.places ≡ length picked = part.len in
    let place : ℕ = get_or part.places i 0 in
    let here : IsUsed used place = All-get_or (IsUsed used) part.places i 0 (omega arith) part.are_used in
    let next : place < get_or part.places (i + 1) 0 = part.ascending i (i + 1) 0 (omega arith) (omega arith) in
    let after : Line = get_or picked (i + 1) no_line in
    let end : get_or part.places (i + 1) 0 < length lines =
    slice_get_within lines (get_or part.places (i + 1) 0) (moved_line (moved_number count part.places) after) (part.stood (i + 1) after (slice_get-get_or picked (i + 1) no_line lt)) in
    elim (are.needed place here) [
      | inl is_last ↦ absurd (omega arith)
      | inr w ↦
          let inside : w.later < length lines = slice_get_within lines w.later w.line w.at in
          let b = part.back w.later (omega arith) w.is_used in
          let t : ℕ = get_or table w.later 0 in
          let t_lt : t < length part.places = b.0 in
          let t_is : get_or part.places t 0 ≡ w.later = b.1 in
          let line : Line = get_or picked t no_line in
          let got : slice_get picked t ≡ Some line = slice_get-get_or picked t no_line (omega arith) in
          let stood : slice_get lines (get_or part.places t 0) ≡ Some (moved_line (moved_number count part.places) line) = part.stood t line got in
          let some : Some w.line ≡ Some (moved_line (moved_number count part.places) line) = sym w.at ∙ ap (λ p. slice_get lines p) (sym t_is) ∙ stood in
          let same : w.line ≡ moved_line (moved_number count part.places) line = cc in
          let P : Line → Type 0 = λ l. Contains (numbers_of l) (count + place) in
          record {
            later = t;
            line = line;
            at = got;
            after = elim (cases_lt i t) [
              | inl less ↦ less
              | inr ge ↦ elim (cases_eq t i) [
                | inl it ↦ let e : get_or part.places t 0 ≡ place = ap (λ n. get_or part.places n 0) it in let a : place < w.later = w.after in absurd (omega arith)
                | inr other ↦ let less : get_or part.places t 0 < place = part.ascending t i 0 (omega arith) (omega arith) in let a : place < w.later = w.after in absurd (omega arith)
              ]
            ];
            named = named_back count part.places line t i part.ascending (part.earlier t line got) t_lt (omega arith) (subst P same w.named);
          }
    ]

pub picked_ends : (k count : ℕ) (lines : List Line) (used : List Bool) (table : List ℕ) (picked : List Line) (clause : List Lit) → length lines ≤ k → AreUsed count lines used → IsPicking k count lines used table picked → EndsIn lines clause → EndsIn picked clause
picked_ends k count lines used table picked clause all are part e =
    let len : length part.places ≡ length picked = part.len in
    let n : ℕ = length e.before in
    let many : length lines ≡ n + 1 = ap length e.ends ∙ length_push e.before e.last in
    let at : slice_get lines n ≡ Some e.last = ap (λ ls. slice_get ls n) e.ends ∙ get-append_right e.before (e.last ∷ []) n 0 (omega arith) in
    let b = part.back n (omega arith) (are.last n (sym many)) in
    let t : ℕ = get_or table n 0 in
    let t_lt : t < length part.places = b.0 in
    let t_is : get_or part.places t 0 ≡ n = b.1 in
    let line : Line = get_or picked t no_line in
    let got : slice_get picked t ≡ Some line = slice_get-get_or picked t no_line (omega arith) in
    let some : Some e.last ≡ Some (moved_line (moved_number count part.places) line) = sym at ∙ ap (λ p. slice_get lines p) (sym t_is) ∙ part.stood t line got in
    let same : e.last ≡ moved_line (moved_number count part.places) line = cc in
    let is_last : length picked ≤ t + 1 =
    elim (cases_lt (t + 1) (length picked)) [
      | inr le ↦ le
      | inl lt ↦
          let next : get_or part.places t 0 < get_or part.places (t + 1) 0 = part.ascending t (t + 1) 0 (omega arith) (omega arith) in
          let after : Line = get_or picked (t + 1) no_line in
          let end : get_or part.places (t + 1) 0 < length lines =
          slice_get_within lines (get_or part.places (t + 1) 0) (moved_line (moved_number count part.places) after) (part.stood (t + 1) after (slice_get-get_or picked (t + 1) no_line lt)) in
          absurd (omega arith)
    ] in
    record {
      before = take t picked;
      last = line;
      ends = sym (take_all (t + 1) picked is_last) ∙ take_more picked t no_line (omega arith);
      clause_is = sym (ap (λ (l : Line). l.clause) same) ∙ e.clause_is;
    }
