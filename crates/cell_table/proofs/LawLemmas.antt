-- The laws of the gates, for any function of lists of input values.
use Rattle.std.proofs.Common.{◌≡◌, ◌≢◌, ℕ, zero, suc, Bool, true, false, ◌⊎◌, inl, inr, List, [], ◌∷◌, get_or, set, refl, sym, ◌∙◌, arith, ℤ, pos, ◌+ℤ◌, subst}
use Rattle.std.proofs.Math.IntN.{ℤ_discrete}
use Rattle.std.proofs.lemmas.Int.{ints}
use Rattle.std.proofs.lemmas.Bool.{true≢false, false≢true, cases_Bool, or_parts}
use Rattle.coco_base.specs.declared.cell.Kind.{Kind}
use Rattle.coco_base.specs.declared.cell.Part.{Part}
use Rattle.coco_base.specs.declared.cell.Part.TheVariants.{Zero, One, Vary}
use Rattle.coco_model.specs.Cells.{xor, AllowsAll, IsForced, IsLiveInput, Subset, IsSubsetOf, signed, sign_total, chosen_parity, allowed_inputs}
use Rattle.coco_model.proofs.LivePlaces.{IsLivePlace, behind}
use Rattle.cell_table.specs.Sums.{sum_of}
use Rattle.cell_table.proofs.Sums.{sum-zero, sum-one, sum-vary}
use Rattle.cell_table.proofs.Listed.{some, some_allowed, xor_differ}

-- what the parts allow stays allowed where a place that varies is changed
set_allowed : (ps : List Part) (xs : List Bool) (place : ℕ) (b : Bool) → AllowsAll ps xs → get_or ps place Zero ≡ Vary → AllowsAll ps (set xs place b)
set_allowed [] [] place b a v = a
set_allowed [] (x ∷ xs) place b a v = absurd a
set_allowed (p ∷ ps) [] place b a v = absurd a
set_allowed (p ∷ ps) (x ∷ xs) zero b a v = (rw v tt, a.1)
set_allowed (p ∷ ps) (x ∷ xs) (suc place) b a v = (a.0, set_allowed ps xs place b a.1 v)

pub known_is_not_live : (kind : Kind) (ps : List Part) (output : Part) (place : ℕ) → IsForced kind ps output → output ≢ Vary → IsLiveInput kind ps place → ⊥
known_is_not_live kind ps Zero place h n l =
    l.changes (h _ (set_allowed ps l.inputs place false l.allowed l.varies) ∙ sym (h _ (set_allowed ps l.inputs place true l.allowed l.varies)))
known_is_not_live kind ps One place h n l =
    l.changes (h _ (set_allowed ps l.inputs place false l.allowed l.varies) ∙ sym (h _ (set_allowed ps l.inputs place true l.allowed l.varies)))
known_is_not_live kind ps Vary place h n l = n refl

-- sums over the same input values, of functions that agree on each of them
none_differs : (f g : List Bool → Bool) (ss : Subset) (xs : List (List Bool)) → some (λ x. xor (f x) (g x)) xs ≡ false
    → sign_total (λ x. xor (f x) (chosen_parity ss x)) xs ≡ sign_total (λ x. xor (g x) (chosen_parity ss x)) xs
none_differs f g ss [] h = refl
none_differs f g ss (x ∷ xs) h =
    let p = or_parts (xor (f x) (g x)) (some (λ x. xor (f x) (g x)) xs) h in
    rw (agree (f x) (g x) p.0, none_differs f g ss xs p.1) refl
  where
    agree : (a b : Bool) → xor a b ≡ false → a ≡ b
    agree true true e = refl
    agree true false e = absurd (true≢false e)
    agree false true e = absurd (true≢false e)
    agree false false e = refl

pub subset_behind : (s : Bool) (ss : Subset) (p : Part) (ps : List Part) → IsSubsetOf (s ∷ ss) (p ∷ ps) → IsSubsetOf ss ps
subset_behind s ss p ps h = let n = h.as_long in record { as_long = omega arith; varies = λ place e. h.varies (suc place) e }

-- the sum at a set that has the first place is a difference, so it is not 0 only where the first place changes the function
first_sum : (f : List Bool → Bool) (ss : Subset) (ps : List Part) → sum_of f (true ∷ ss) (Vary ∷ ps) ≢ pos 0 → IsLivePlace f (Vary ∷ ps) zero
first_sum f ss ps h = go (cases_Bool (some (λ xs. xor (f (false ∷ xs)) (f (true ∷ xs))) (allowed_inputs ps)))
  where
    go : (some (λ xs. xor (f (false ∷ xs)) (f (true ∷ xs))) (allowed_inputs ps) ≡ true) ⊎ (some (λ xs. xor (f (false ∷ xs)) (f (true ∷ xs))) (allowed_inputs ps) ≡ false) → IsLivePlace f (Vary ∷ ps) zero
    go (inl e) =
        let s = some_allowed (λ xs. xor (f (false ∷ xs)) (f (true ∷ xs))) ps e in
        record { varies = refl; inputs = false ∷ s.inputs; allowed = (tt, s.allowed); changes = xor_differ _ _ s.holds }
    go (inr e) =
        let same = none_differs (λ xs. f (false ∷ xs)) (λ xs. f (true ∷ xs)) ss (allowed_inputs ps) e in
        absurd (h (sum-vary f true ss ps ∙ rw same (omega (arith, ints))))

signed_not_zero : (s : Bool) (x : ℤ) → signed s x ≢ pos 0 → x ≢ pos 0
signed_not_zero true x h e = h (omega (arith, ints))
signed_not_zero false x h e = h e

zero_sum : (s : Bool) → pos 0 +ℤ signed s (pos 0) ≡ pos 0
zero_sum true = omega (arith, ints)
zero_sum false = omega (arith, ints)

one_of_two : {P Q : Type 0} → Dec P → ((P → ⊥) → Q) → (P → Q) → Q
one_of_two (yes p) no_side yes_side = yes_side p
one_of_two (no n) no_side yes_side = no_side n

-- a sum that is not 0 has live places alone in its set
pub sum_lives : (f : List Bool → Bool) (ss : Subset) (ps : List Part) → IsSubsetOf ss ps → sum_of f ss ps ≢ pos 0
    → (place : ℕ) → get_or ss place false ≡ true → IsLivePlace f ps place
sum_lives f [] ps h n place e = absurd (false≢true e)
sum_lives f (s ∷ ss) [] h n place e = let l = h.as_long in absurd (omega arith)
sum_lives f (s ∷ ss) (p ∷ ps) h n zero e =
    let v : p ≡ Vary = h.varies zero e in
    subst (λ q. IsLivePlace f (q ∷ ps) zero) (sym v) (first_sum f ss ps (λ z. n (rw (v, e) z)))
sum_lives f (s ∷ ss) (Zero ∷ ps) h n (suc place) e =
    behind f Zero ps false place refl (sum_lives (λ xs. f (false ∷ xs)) ss ps (subset_behind s ss Zero ps h) (λ z. n (sum-zero f s ss ps ∙ z)) place e)
sum_lives f (s ∷ ss) (One ∷ ps) h n (suc place) e =
    behind f One ps true place refl (sum_lives (λ xs. f (true ∷ xs)) ss ps (subset_behind s ss One ps h)
    (signed_not_zero s _ (λ z. n (sum-one f s ss ps ∙ z))) place e)
sum_lives f (s ∷ ss) (Vary ∷ ps) h n (suc place) e =
    one_of_two (ℤ_discrete (sum_of (λ xs. f (false ∷ xs)) ss ps) (pos 0))
    (λ k. behind f Vary ps false place tt (sum_lives (λ xs. f (false ∷ xs)) ss ps (subset_behind s ss Vary ps h) k place e))
    (λ z. behind f Vary ps true place tt (sum_lives (λ xs. f (true ∷ xs)) ss ps (subset_behind s ss Vary ps h)
    (λ o. n (sum-vary f s ss ps ∙ rw (z, o) (zero_sum s))) place e))
