-- The first item of a list that passes a test.
use Rattle.std.proofs.Common.{◌≡◌, ℕ, suc, zero, ◌+◌, ◌<◌, Bool, true, false, cond, List, [], ◌∷◌, ◌++◌, Option, Some, None, is_some, length, get_or, take, refl, sym, ap, ◌∙◌, arith}
use Rattle.std.specs.List.{find}
use Rattle.std.specs.Option.{option_or}
use Rattle.std.proofs.lemmas.List.{take_more, take-append-drop}
use Rattle.std.proofs.lemmas.List.Folds.{find-append}
use Rattle.std.proofs.Math.Seq.{drop-cons}

find_one : {X : Type 0} → (p : X → Bool) (x : X) (xs : List X) → p x ≡ true → find p (x ∷ xs) ≡ Some x
find_one p x xs e = rw e refl

find_none : {X : Type 0} → (p : X → Bool) (x : X) → p x ≡ false → find p (x ∷ []) ≡ None
find_none p x e = rw e refl

pub find_here : {X : Type 0} → (p : X → Bool) (xs : List X) (i : ℕ) (d : X) → i < length xs → find p (take i xs) ≡ None → p (get_or xs i d) ≡ true → find p xs ≡ Some (get_or xs i d)
find_here p [] i d lt none passes = absurd (omega arith)
find_here p (x ∷ xs) zero d lt none passes = find_one p x xs passes
find_here p (x ∷ xs) (suc i) d lt none passes = by (p x) refl (λ rest. find_here p xs i d (omega arith) rest passes)
  where
    by : (b : Bool) → p x ≡ b → (find p (take i xs) ≡ None → find p xs ≡ Some (get_or xs i d)) → find p (x ∷ xs) ≡ Some (get_or xs i d)
    by true e rec = let h : find p (x ∷ take i xs) ≡ Some x = find_one p x (take i xs) e in let n : find p (x ∷ take i xs) ≡ None = none in absurd (cc)
    by false e rec =
        let h : find p (x ∷ take i xs) ≡ find p (take i xs) = rw e refl in
        let whole : find p (x ∷ xs) ≡ find p xs = rw e refl in
        whole ∙ rec (sym h ∙ none)

pub find_more : {X : Type 0} → (p : X → Bool) (xs : List X) (i : ℕ) (d : X) → i < length xs → find p (take i xs) ≡ None → p (get_or xs i d) ≡ false → find p (take (i + 1) xs) ≡ None
find_more p xs i d lt none fails =
    ap (find p) (take_more xs i d lt) ∙ find-append p (take i xs) (get_or xs i d ∷ []) ∙ ap (λ o. option_or o (find p (get_or xs i d ∷ []))) none ∙ find_none p (get_or xs i d) fails

pub or_some : {X : Type 0} → (a b : Option X) → is_some a ≡ true → option_or a b ≡ a
or_some None b e = absurd (cc)
or_some (Some x) b e = refl

pub or_none : {X : Type 0} → (a b : Option X) → is_some a ≡ false → option_or a b ≡ b
or_none None b e = refl
or_none (Some x) b e = absurd (cc)
