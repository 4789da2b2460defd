-- How often a number stands in a list: at most once in a list without repeats, and at least once where it is a member.
use Rattle.std.proofs.Common.{◌≡◌, ℕ, ◌+◌, ◌<◌, ◌≤◌, ◌⊎◌, inl, inr, Bool, true, false, cond, List, [], ◌∷◌, ◌++◌, refl, sym, ap, subst, nat_eq, arith}
use Rattle.std.specs.Prelude.{Contains}
use Rattle.std.proofs.lemmas.Bool.{eqb-true, eq-eqb}
use Rattle.coco_model.specs.Netlist.{HasNoRepeat}
use Rattle.coco_model.proofs.Basics.{Contains-here, Contains-later, Contains-cases, Contains-none}

abbrev pub times : ℕ → List ℕ → ℕ
times b [] = 0
times b (x ∷ xs) = cond {A = ℕ} (nat_eq b x) 1 0 + times b xs

here : (b x : ℕ) → b ≡ x → cond {A = ℕ} (nat_eq b x) 1 0 ≡ 1
here b x e = ap (λ t. cond {A = ℕ} t 1 0) (eq-eqb b x e)

elsewhere : (b x : ℕ) → nat_eq b x ≡ false → cond {A = ℕ} (nat_eq b x) 1 0 ≡ 0
elsewhere b x e = ap (λ t. cond {A = ℕ} t 1 0) e

pub times-append : (b : ℕ) (xs ys : List ℕ) → times b (xs ++ ys) ≡ times b xs + times b ys
times-append b [] ys = omega arith
times-append b (x ∷ xs) ys = let h = times-append b xs ys in omega arith

pub member_times : (b : ℕ) (xs : List ℕ) → Contains xs b → 0 < times b xs
member_times b [] h = absurd (Contains-none b h)
member_times b (x ∷ xs) h = go (Contains-cases x b xs h) (member_times b xs)
  where
    go : (x ≡ b) ⊎ Contains xs b → (Contains xs b → 0 < times b xs) → 0 < cond {A = ℕ} (nat_eq b x) 1 0 + times b xs
    go (inl e) rest = let o = here b x (sym e) in omega arith
    go (inr i) rest = let r = rest i in omega arith

pub times_member : (b : ℕ) (xs : List ℕ) → 0 < times b xs → Contains xs b
times_member b [] h = absurd (omega (arith, h))
times_member b (x ∷ xs) h = go (nat_eq b x) refl (times_member b xs)
  where
    go : (t : Bool) → nat_eq b x ≡ t → (0 < times b xs → Contains xs b) → Contains (x ∷ xs) b
    go true e rest = subst (Contains (x ∷ xs)) (sym (eqb-true b x e)) (Contains-here x xs)
    go false e rest = let z = elsewhere b x e in Contains-later x b xs (rest (omega (arith, z, h)))

zero_times : (n : ℕ) → (0 < n → ⊥) → n ≡ 0
zero_times n h = omega (arith, h)

pub none_times : (b : ℕ) (xs : List ℕ) → (Contains xs b → ⊥) → times b xs ≡ 0
none_times b xs none = zero_times (times b xs) (λ h. none (times_member b xs h))

pub times_none : (b : ℕ) (xs : List ℕ) → times b xs ≡ 0 → Contains xs b → ⊥
times_none b xs e i = let m = member_times b xs i in omega (arith, m, e)

pub once_times : (xs : List ℕ) → HasNoRepeat xs → (b : ℕ) → times b xs ≤ 1
once_times [] once b = omega arith
once_times (x ∷ xs) once b = go (nat_eq b x) refl (once_times xs once.1 b)
  where
    go : (t : Bool) → nat_eq b x ≡ t → times b xs ≤ 1 → cond {A = ℕ} (nat_eq b x) 1 0 + times b xs ≤ 1
    go true e rest =
        let same : b ≡ x = eqb-true b x e in
        let o = here b x same in
        let z = none_times b xs (λ i. once.0 (subst (Contains xs) same i)) in
        omega arith
    go false e rest = let z = elsewhere b x e in omega arith

pub times_once : (xs : List ℕ) → ((b : ℕ) → times b xs ≤ 1) → HasNoRepeat xs
times_once [] h = tt
times_once (x ∷ xs) h = (
  (λ i. let m = member_times x xs i in let o = here x x refl in let t = h x in omega (arith, m, o, t)),
  times_once xs (λ b. let t = h b in omega (arith, t)),
)
