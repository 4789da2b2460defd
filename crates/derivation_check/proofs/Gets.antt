-- Items of lists by place.
use Rattle.std.proofs.Common.{◌≡◌, ℕ, suc, zero, ◌+◌, ◌<◌, List, [], ◌∷◌, ◌++◌, length, take, Some, slice_get, refl, sym, ◌∙◌, ap, inl, inr, arith}
use Rattle.std.proofs.lemmas.List.{length_push}
use Rattle.std.proofs.lemmas.Option.{slice_get_within}
use Rattle.std.proofs.lemmas.Bool.{cases_lt}

pub get-append_left : {X : Type 0} (xs ys : List X) (i : ℕ) → i < length xs → slice_get (xs ++ ys) i ≡ slice_get xs i
get-append_left [] ys i lt = absurd (omega arith)
get-append_left (x ∷ xs) ys zero lt = refl
get-append_left (x ∷ xs) ys (suc i) lt = get-append_left xs ys i (omega arith)

pub get-append_right : {X : Type 0} (xs ys : List X) (i j : ℕ) → i ≡ length xs + j → slice_get (xs ++ ys) i ≡ slice_get ys j
get-append_right [] ys i j e = let f : i ≡ j = omega arith in ap (λ n. slice_get ys n) f
get-append_right (x ∷ xs) ys zero j e = absurd (omega arith)
get-append_right (x ∷ xs) ys (suc i) j e = get-append_right xs ys i j (omega arith)

pub get-take : {X : Type 0} (k : ℕ) (xs : List X) (i : ℕ) → i < k → slice_get (take k xs) i ≡ slice_get xs i
get-take zero xs i lt = absurd (omega arith)
get-take (suc k) [] i lt = refl
get-take (suc k) (x ∷ xs) zero lt = refl
get-take (suc k) (x ∷ xs) (suc i) lt = get-take k xs i (omega arith)

-- an item of a list with one more is one of the list, or the last one
pub get_pushed : {X P : Type 0} (xs : List X) (y : X) (i : ℕ) (x : X) → slice_get (xs ++ y ∷ []) i ≡ Some x → (i < length xs → slice_get xs i ≡ Some x → P) → (i ≡ length xs → x ≡ y → P) → P
get_pushed xs y i x got before last =
    elim (cases_lt i (length xs)) [
      | inl lt ↦ before lt (sym (get-append_left xs (y ∷ []) i lt) ∙ got)
      | inr ge ↦
          let within : i < length (xs ++ y ∷ []) = slice_get_within (xs ++ y ∷ []) i x got in
          let long : length (xs ++ y ∷ []) ≡ length xs + 1 = length_push xs y in
          let it : i ≡ length xs = omega arith in
          let at : slice_get (xs ++ y ∷ []) i ≡ slice_get (y ∷ []) 0 = get-append_right xs (y ∷ []) i 0 (omega arith) in
          let some : Some y ≡ Some x = sym at ∙ got in
          let same : x ≡ y = cc in
          last it same
    ]
