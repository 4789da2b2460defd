-- How many variables are marked.
use Rattle.std.proofs.Common.{◌≡◌, ℕ, suc, zero, ◌+◌, ◌<◌, ◌≤◌, Bool, true, cond, List, [], ◌∷◌, length, get_or, Option, Some, None, is_some, refl, inl, inr, arith}
use Rattle.std.proofs.Math.ListN.{set}
use Rattle.std.proofs.lemmas.List.{length-set, get_or_past}
use Rattle.std.proofs.lemmas.Bool.{cases_lt}
use Rattle.derivation_check.specs.Marked.{signs_in, marked_count, IsClear}

abbrev one_of : Option Bool → ℕ
one_of m = cond (is_some m) 1 0

count-some : (s : Bool) (marks : List (Option Bool)) → marked_count (Some s ∷ marks) ≡ 1 + marked_count marks
count-some s marks = refl

count-none : (marks : List (Option Bool)) → marked_count (None ∷ marks) ≡ 0 + marked_count marks
count-none marks = refl

pub count-set : (marks : List (Option Bool)) (v : ℕ) (m : Option Bool) → v < length marks → marked_count (set marks v m) + one_of (get_or marks v None) ≡ marked_count marks + one_of m
count-set [] v m lt = absurd (omega arith)
count-set (x ∷ marks) zero m lt = omega arith
count-set (x ∷ marks) (suc v) m lt = omega (arith, count-set marks v m (omega arith))

pub count_le : (marks : List (Option Bool)) → marked_count marks ≤ length marks
count_le [] = omega arith
count_le (None ∷ marks) = omega (arith, count-none marks, count_le marks)
count_le (Some s ∷ marks) = omega (arith, count-some s marks, count_le marks)

-- one that is not marked leaves room
pub count_lt : (marks : List (Option Bool)) (v : ℕ) → v < length marks → get_or marks v None ≡ None → marked_count marks < length marks
count_lt marks v lt none =
    let s : marked_count (set marks v (Some true)) + one_of (get_or marks v None) ≡ marked_count marks + 1 = count-set marks v (Some true) lt in
    let z : one_of (get_or marks v None) ≡ 0 = rw none refl in
    let n : length (set marks v (Some true)) ≡ length marks = length-set marks v (Some true) in
    omega (arith, count_le (set marks v (Some true)))

pub count_pos : (marks : List (Option Bool)) (v : ℕ) → v < length marks → (get_or marks v None ≡ None → ⊥) → 0 < marked_count marks
count_pos [] v lt some = absurd (omega arith)
count_pos (None ∷ marks) zero lt some = absurd (some refl)
count_pos (Some s ∷ marks) zero lt some = omega (arith, count-some s marks)
count_pos (None ∷ marks) (suc v) lt some = omega (arith, count-none marks, count_pos marks v (omega arith) some)
count_pos (Some s ∷ marks) (suc v) lt some = omega (arith, count-some s marks)

clear_more : (marks : List (Option Bool)) → IsClear marks → IsClear (None ∷ marks)
clear_more marks clear zero d lt = refl
clear_more marks clear (suc k) d lt = clear k d (omega arith)

pub clear_from_count : (marks : List (Option Bool)) → marked_count marks ≡ 0 → IsClear marks
clear_from_count [] e = λ k d lt. absurd (omega arith)
clear_from_count (Some s ∷ marks) e = absurd (omega (arith, count-some s marks))
clear_from_count (None ∷ marks) e = clear_more marks (clear_from_count marks (omega (arith, count-none marks)))

pub count_from_clear : (marks : List (Option Bool)) → IsClear marks → marked_count marks ≡ 0
count_from_clear [] clear = refl
count_from_clear (Some s ∷ marks) clear =
    let e : Some s ≡ None = clear 0 None (omega arith) in absurd (cc)
count_from_clear (None ∷ marks) clear = omega (arith, count-none marks, count_from_clear marks (λ k d lt. clear (suc k) d (omega arith)))

pub count_marked : (marks : List (Option Bool)) (v : ℕ) (s : Bool) → v < length marks → get_or marks v None ≡ None → marked_count (set marks v (Some s)) ≡ marked_count marks + 1
count_marked marks v s lt none =
    let e : marked_count (set marks v (Some s)) + one_of (get_or marks v None) ≡ marked_count marks + 1 = count-set marks v (Some s) lt in
    let z : one_of (get_or marks v None) ≡ 0 = rw none refl in
    omega arith

one_of_some : (m : Option Bool) → (m ≡ None → ⊥) → one_of m ≡ 1
one_of_some None some = absurd (some refl)
one_of_some (Some s) some = refl

pub count_unmarked : (marks : List (Option Bool)) (v : ℕ) → v < length marks → (get_or marks v None ≡ None → ⊥) → marked_count (set marks v None) + 1 ≡ marked_count marks
count_unmarked marks v lt some =
    let e : marked_count (set marks v None) + one_of (get_or marks v None) ≡ marked_count marks + 0 = count-set marks v None lt in
    let z : one_of (get_or marks v None) ≡ 1 = one_of_some (get_or marks v None) some in
    omega arith

-- only a variable that has a place can be marked
pub marked_within : (marks : List (Option Bool)) (v : ℕ) → (signs_in marks v ≡ None → ⊥) → v < length marks
marked_within marks v some =
    elim (cases_lt v (length marks)) [
      | inl lt ↦ lt
      | inr ge ↦ absurd (some (get_or_past marks v None ge))
    ]
