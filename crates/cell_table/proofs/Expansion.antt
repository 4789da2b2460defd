-- The expansion of any function of lists of input values into its signed sums.
use Rattle.std.proofs.Common.{◌≡◌, ℕ, suc, ◌*◌, ◌^◌, Bool, true, false, List, [], ◌∷◌, ◌++◌, map, refl, sym, ◌∙◌, ap, arith, ℤ, pos, neg_ℤ, ◌+ℤ◌, ◌*ℤ◌, pow-suc}
use Rattle.std.proofs.lemmas.Int.{ints}
use Rattle.coco_base.specs.declared.cell.Part.{Part}
use Rattle.coco_base.specs.declared.cell.Part.TheVariants.{Zero, One, Vary}
use Rattle.coco_model.specs.Cells.{xor, AllowsAll, Subset, signed, chosen_parity}
use Rattle.cell_table.specs.Sums.{sum_of}
use Rattle.cell_table.specs.Laws.{vary_count, subsets_of, subset_total}
use Rattle.cell_table.proofs.Sums.{sum-zero, sum-one, sum-vary}

total-append : (f : Subset → ℤ) (xs ys : List Subset) → subset_total f (xs ++ ys) ≡ subset_total f xs +ℤ subset_total f ys
total-append f [] ys = omega (arith, ints)
total-append f (x ∷ xs) ys = rw (total-append f xs ys) (omega (arith, ints))

total-map : (f : Subset → ℤ) (b : Bool) (xs : List Subset) → subset_total f (map (λ (subset : Subset). b ∷ subset) xs) ≡ subset_total (λ subset. f (b ∷ subset)) xs
total-map f b [] = refl
total-map f b (x ∷ xs) = rw (total-map f b xs) refl

total-cong : (f g : Subset → ℤ) → ((subset : Subset) → f subset ≡ g subset) → (xs : List Subset) → subset_total f xs ≡ subset_total g xs
total-cong f g e [] = refl
total-cong f g e (x ∷ xs) = rw (e x, total-cong f g e xs) refl

total-join : (f g h : Subset → ℤ) → ((subset : Subset) → f subset +ℤ g subset ≡ h subset +ℤ h subset) → (xs : List Subset)
    → subset_total f xs +ℤ subset_total g xs ≡ subset_total h xs +ℤ subset_total h xs
total-join f g h e [] = refl
total-join f g h e (x ∷ xs) = let a = e x in let b = total-join f g h e xs in omega (arith, ints)

twice : (n : ℕ) (x : ℤ) → pos (n * 2) *ℤ x ≡ pos n *ℤ x +ℤ pos n *ℤ x
twice n x = grind (arith, ints)

power_twice : (k : ℕ) (x : ℤ) → pos (2 ^ suc k) *ℤ x ≡ pos (2 ^ k) *ℤ x +ℤ pos (2 ^ k) *ℤ x
power_twice k x = rw (pow-suc 2 k) (twice (2 ^ k) x)

abbrev picked : Bool → ℤ → ℤ → ℤ
picked false a b = a
picked true a b = b

-- the terms of a set without and with a first place that varies
two_terms : (x q : Bool) (t0 t1 : ℤ) → signed q (t0 +ℤ t1) +ℤ signed (xor x q) (t0 +ℤ neg_ℤ t1) ≡ signed q (picked x t0 t1) +ℤ signed q (picked x t0 t1)
two_terms true true t0 t1 = omega (arith, ints)
two_terms true false t0 t1 = omega (arith, ints)
two_terms false true t0 t1 = omega (arith, ints)
two_terms false false t0 t1 = omega (arith, ints)

picked_sum : (f : List Bool → Bool) (x : Bool) (ss : Subset) (ps : List Part)
    → picked x (sum_of (λ xs. f (false ∷ xs)) ss ps) (sum_of (λ xs. f (true ∷ xs)) ss ps) ≡ sum_of (λ xs. f (x ∷ xs)) ss ps
picked_sum f true ss ps = refl
picked_sum f false ss ps = refl

pub expansion : (f : List Bool → Bool) (ps : List Part) (xs : List Bool) → AllowsAll ps xs
    → pos (2 ^ vary_count ps) *ℤ signed (f xs) (pos 1) ≡ subset_total (λ subset. signed (chosen_parity subset xs) (sum_of f subset ps)) (subsets_of ps)
expansion f [] [] a = end (f [])
  where
    end : (b : Bool) → pos 1 *ℤ signed b (pos 1) ≡ (signed (xor b false) (pos 1) +ℤ pos 0) +ℤ pos 0
    end true = omega (arith, ints)
    end false = omega (arith, ints)
expansion f [] (x ∷ xs) a = absurd a
expansion f (p ∷ ps) [] a = absurd a
expansion f (Zero ∷ ps) (x ∷ xs) a =
    ap (λ b. pos (2 ^ vary_count ps) *ℤ signed (f (b ∷ xs)) (pos 1)) a.0
    ∙ expansion (λ ys. f (false ∷ ys)) ps xs a.1
    ∙ total-cong _ _ (λ ss. ap (signed (chosen_parity ss xs)) (sym (sum-zero f false ss ps))) (subsets_of ps)
    ∙ sym (total-map (λ subset. signed (chosen_parity subset (x ∷ xs)) (sum_of f subset (Zero ∷ ps))) false (subsets_of ps))
expansion f (One ∷ ps) (x ∷ xs) a =
    ap (λ b. pos (2 ^ vary_count ps) *ℤ signed (f (b ∷ xs)) (pos 1)) a.0
    ∙ expansion (λ ys. f (true ∷ ys)) ps xs a.1
    ∙ total-cong _ _ (λ ss. ap (signed (chosen_parity ss xs)) (sym (sum-one f false ss ps))) (subsets_of ps)
    ∙ sym (total-map (λ subset. signed (chosen_parity subset (x ∷ xs)) (sum_of f subset (One ∷ ps))) false (subsets_of ps))
expansion f (Vary ∷ ps) (x ∷ xs) a =
    power_twice (vary_count ps) (signed (f (x ∷ xs)) (pos 1))
    ∙ ap (λ t. t +ℤ t) (expansion (λ ys. f (x ∷ ys)) ps xs a.1)
    ∙ sym (total-join (term false) (term true) (λ ss. signed (chosen_parity ss xs) (sum_of (λ ys. f (x ∷ ys)) ss ps)) two (subsets_of ps))
    ∙ sym (total-append whole (map (λ (subset : Subset). false ∷ subset) (subsets_of ps)) (map (λ (subset : Subset). true ∷ subset) (subsets_of ps))
    ∙ parts_of)
  where
    whole : Subset → ℤ
    whole subset = signed (chosen_parity subset (x ∷ xs)) (sum_of f subset (Vary ∷ ps))

    term : Bool → Subset → ℤ
    term b ss = whole (b ∷ ss)

    two : (ss : Subset) → term false ss +ℤ term true ss ≡ signed (chosen_parity ss xs) (sum_of (λ ys. f (x ∷ ys)) ss ps) +ℤ signed (chosen_parity ss xs) (sum_of (λ ys. f (x ∷ ys)) ss ps)
    two ss = rw (sum-vary f false ss ps, sum-vary f true ss ps, ← picked_sum f x ss ps) (two_terms x (chosen_parity ss xs) _ _)

    parts_of : subset_total whole (map (λ (subset : Subset). false ∷ subset) (subsets_of ps)) +ℤ subset_total whole (map (λ (subset : Subset). true ∷ subset) (subsets_of ps))
        ≡ subset_total (term false) (subsets_of ps) +ℤ subset_total (term true) (subsets_of ps)
    parts_of = rw (total-map whole false (subsets_of ps), total-map whole true (subsets_of ps)) refl
