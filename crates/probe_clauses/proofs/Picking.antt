-- Signals at wanted places, one place more and at the end.
use Rattle.std.proofs.Common.{◌≡◌, ℕ, ◌+◌, ◌<◌, ◌≤◌, min, Bool, true, false, cond, List, [], ◌∷◌, ◌++◌, length, get_or, drop, take, refl, sym, ap, ◌∙◌, inl, inr, arith, append_assoc}
use Rattle.std.proofs.lemmas.Bool.{cases_lt}
use Rattle.std.proofs.lemmas.List.{append-nil, drop_all, drop_more}
use Rattle.circuit_clauses.specs.declared.signal.Signal.{Signal}
use Rattle.probe_clauses.specs.Rows.{picked}

picked-cons : (w : Bool) (ws : List Bool) (s : Signal) (ss : List Signal) → picked (w ∷ ws) (s ∷ ss) ≡ cond w (s ∷ []) [] ++ picked ws ss
picked-cons true ws s ss = refl
picked-cons false ws s ss = refl

picked-no_signals : (ws : List Bool) → picked ws [] ≡ []
picked-no_signals [] = refl
picked-no_signals (w ∷ ws) = refl

pub picked_turn : (list : List Signal) (ws : List Bool) (ss all : List Signal) (i : ℕ) (d : Signal) → i < length ws → i < length ss
    → list ++ picked (drop i ws) (drop i ss) ≡ all
    → (list ++ cond (get_or ws i false) (get_or ss i d ∷ []) []) ++ picked (drop (i + 1) ws) (drop (i + 1) ss) ≡ all
picked_turn list ws ss all i d lw ls h =
    let w = get_or ws i false in
    let s = get_or ss i d in
    let ew : drop i ws ≡ w ∷ drop (i + 1) ws = drop_more ws i false lw in
    let es : drop i ss ≡ s ∷ drop (i + 1) ss = drop_more ss i d ls in
    let k : list ++ picked (w ∷ drop (i + 1) ws) (s ∷ drop (i + 1) ss) ≡ all = rw (ew, es) at h in
    append_assoc list (cond w (s ∷ []) []) (picked (drop (i + 1) ws) (drop (i + 1) ss))
    ∙ (ap (λ (xs : List Signal). list ++ xs) (sym (picked-cons w (drop (i + 1) ws) s (drop (i + 1) ss))) ∙ k)

pub picked_ended : (list : List Signal) (ws : List Bool) (ss all : List Signal) (i : ℕ) → min (length ws) (length ss) ≤ i
    → list ++ picked (drop i ws) (drop i ss) ≡ all → list ≡ all
picked_ended list ws ss all i le h =
    let none : picked (drop i ws) (drop i ss) ≡ [] =
    elim (cases_lt i (length ws)) [
      | inl lt ↦ (let e : drop i ss ≡ [] = drop_all i ss (omega arith) in rw e (picked-no_signals (drop i ws)))
      | inr ge ↦ (let e : drop i ws ≡ [] = drop_all i ws (omega arith) in rw e refl)
    ] in
    sym (append-nil list) ∙ (ap (λ (xs : List Signal). list ++ xs) (sym none) ∙ h)

pub first_of : {X : Type 0} (xs : List X) → take (min (length xs) 1) xs ≡ take 1 xs
first_of [] = refl
first_of (x ∷ xs) =
    let e : min (length (x ∷ xs)) 1 ≡ 1 = omega arith in
    ap (λ n. take n (x ∷ xs)) e
