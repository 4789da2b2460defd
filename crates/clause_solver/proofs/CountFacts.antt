-- Counts of marks among the places of a trail.
use Rattle.std.proofs.Common.{◌≡◌, ◌≢◌, ℕ, suc, zero, ◌+◌, ◌<◌, ◌≤◌, Bool, true, false, List, [], ◌∷◌, Some, None, length, get_or, take, drop, refl, sym, ap, ◌∙◌, inl, inr, arith}
use Rattle.std.specs.Prelude.{slice_get}
use Rattle.std.proofs.Math.ListN.{set}
use Rattle.std.proofs.lemmas.Bool.{cases_eq, cases_lt, cases_Bool}
use Rattle.std.proofs.lemmas.List.{length-set, length-map, length-drop, get_or-map, get_or-set_same, get_or-set_other, get_or_past}
use Rattle.std.proofs.lemmas.Option.{slice_get_within, get_or_from_slice_get}
use Rattle.clause_store.specs.declared.lit.Lit.{Lit}
use Rattle.clause_store.specs.Signs.{sign_of}
use Rattle.clause_solver.specs.Analysis.{is_marked, flags, trues, marked_from}

-- one truth more or less in a list
pub trues_set_true : (xs : List Bool) (i : ℕ) → i < length xs → get_or xs i false ≡ false → trues (set xs i true) ≡ trues xs + 1
trues_set_true [] i lt e = absurd (omega arith)
trues_set_true (true ∷ xs) zero lt e = absurd (cc)
trues_set_true (false ∷ xs) zero lt e = refl
trues_set_true (true ∷ xs) (suc i) lt e = let h : trues (set xs i true) ≡ trues xs + 1 = trues_set_true xs i (omega arith) e in omega arith
trues_set_true (false ∷ xs) (suc i) lt e = trues_set_true xs i (omega arith) e

pub trues_set_false : (xs : List Bool) (i : ℕ) → i < length xs → get_or xs i false ≡ true → trues (set xs i false) + 1 ≡ trues xs
trues_set_false [] i lt e = absurd (omega arith)
trues_set_false (true ∷ xs) zero lt e = refl
trues_set_false (false ∷ xs) zero lt e = absurd (cc)
trues_set_false (true ∷ xs) (suc i) lt e = let h : trues (set xs i false) + 1 ≡ trues xs = trues_set_false xs i (omega arith) e in omega arith
trues_set_false (false ∷ xs) (suc i) lt e = trues_set_false xs i (omega arith) e

-- some place of a list with a truth has one
pub some_true : (xs : List Bool) → 0 < trues xs → (i : ℕ) × (i < length xs) × (get_or xs i false ≡ true)
some_true [] h = absurd (omega arith)
some_true (true ∷ xs) h = (0, omega arith, refl)
some_true (false ∷ xs) h =
    let rest : (i : ℕ) × (i < length xs) × (get_or xs i false ≡ true) = some_true xs (omega arith) in
    (suc rest.0, omega (arith, rest.1), rest.2)

pub none_true : (xs : List Bool) → trues xs ≡ 0 → (i : ℕ) → get_or xs i false ≡ false
none_true [] h i = refl
none_true (true ∷ xs) h i = let e : trues (true ∷ xs) ≡ trues xs + 1 = refl in absurd (omega arith)
none_true (false ∷ xs) h zero = refl
none_true (false ∷ xs) h (suc i) = none_true xs (omega arith) i

pub is_counted : (xs : List Bool) (i : ℕ) → get_or xs i false ≡ true → 0 < trues xs
is_counted [] i e = absurd (cc)
is_counted (true ∷ xs) i e = let f : trues (true ∷ xs) ≡ trues xs + 1 = refl in omega arith
is_counted (false ∷ xs) zero e = absurd (cc)
is_counted (false ∷ xs) (suc i) e = let h : 0 < trues xs = is_counted xs i e in omega arith

-- two truths at least: one besides a place
pub second_true : (xs : List Bool) (i : ℕ) → 1 < trues xs → (j : ℕ) × (j < length xs) × (get_or xs j false ≡ true) × (j ≢ i)
second_true xs i h =
    elim (cases_lt i (length xs)) [
      | inl lt ↦
          elim (cases_Bool (get_or xs i false)) [
            | inl one ↦
                let less : trues (set xs i false) + 1 ≡ trues xs = trues_set_false xs i lt one in
                let other : (j : ℕ) × (j < length (set xs i false)) × (get_or (set xs i false) j false ≡ true) = some_true (set xs i false) (omega arith) in
                let ne : other.0 ≢ i = λ same. let a : get_or (set xs i false) i false ≡ false = get_or-set_same xs i false false lt in let b : get_or (set xs i false) other.0 false ≡ get_or (set xs i false) i false = ap (λ j. get_or (set xs i false) j false) same in let t : get_or (set xs i false) other.0 false ≡ true = other.2 in absurd (cc) in
                (other.0, omega (arith, length-set xs i false, other.1), sym (get_or-set_other xs i other.0 false false ne) ∙ other.2, ne)
            | inr not_one ↦
                let other : (j : ℕ) × (j < length xs) × (get_or xs j false ≡ true) = some_true xs (omega arith) in
                (other.0, other.1, other.2, λ same. let b : get_or xs other.0 false ≡ get_or xs i false = ap (λ j. get_or xs j false) same in let t : get_or xs other.0 false ≡ true = other.2 in absurd (cc))
          ]
      | inr ge ↦
          let other : (j : ℕ) × (j < length xs) × (get_or xs j false ≡ true) = some_true xs (omega arith) in
          (other.0, other.1, other.2, λ same. let lt : other.0 < length xs = other.1 in absurd (omega arith))
    ]

-- one truth: two places that have one are the same
pub only_true : (xs : List Bool) (i j : ℕ) → trues xs ≤ 1 → get_or xs i false ≡ true → get_or xs j false ≡ true → i ≡ j
only_true xs i j h a b =
    elim (cases_eq i j) [
      | inl eq ↦ eq
      | inr ne ↦
          elim (cases_lt i (length xs)) [
            | inl lt ↦
                let less : trues (set xs i false) + 1 ≡ trues xs = trues_set_false xs i lt a in
                let there : get_or (set xs i false) j false ≡ true = get_or-set_other xs i j false false (λ e. ne (sym e)) ∙ b in
                let more : 0 < trues (set xs i false) = is_counted (set xs i false) j there in
                absurd (omega arith)
            | inr ge ↦ let past : get_or xs i false ≡ false = get_or_past xs i false ge in absurd (cc)
          ]
    ]

-- no variable stands at two places
abbrev pub IsFresh : List Lit → Type 0
IsFresh lits = (p : ℕ) (l : Lit) → slice_get lits p ≡ Some l → sign_of (take p lits) l.var ≡ None

pub flag_at : (marks : List Bool) (lits : List Lit) (p : ℕ) (l : Lit) → slice_get lits p ≡ Some l → get_or (flags marks lits) p false ≡ is_marked marks l.var
flag_at marks lits p l e =
    get_or-map (λ (x : Lit). is_marked marks x.var) lits p l false (slice_get_within lits p l e) ∙ ap (λ (x : Lit). is_marked marks x.var) (get_or_from_slice_get lits p l l e)

pub length-flags : (marks : List Bool) (lits : List Lit) → length (flags marks lits) ≡ length lits
length-flags marks lits = length-map lits (λ (x : Lit). is_marked marks x.var)

trues_le : (xs : List Bool) → trues xs ≤ length xs
trues_le [] = omega arith
trues_le (true ∷ xs) = let h : trues xs ≤ length xs = trues_le xs in omega arith
trues_le (false ∷ xs) = let h : trues xs ≤ length xs = trues_le xs in omega arith

pub marked_le : (marks : List Bool) (lits : List Lit) (start : ℕ) → marked_from marks lits start ≤ length lits
marked_le marks lits start =
    let h : marked_from marks lits start ≤ length (drop start (flags marks lits)) = trues_le (drop start (flags marks lits)) in
    omega (arith, length-drop start (flags marks lits), length-flags marks lits)
