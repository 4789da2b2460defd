-- Equal counts, one observed bit at a time.
use Rattle.std.proofs.Common.{◌≡◌, ℕ, suc, ◌+◌, ◌<◌, ◌⊎◌, inl, inr, Bool, true, false, cond, not, ◌&&◌, List, [], ◌∷◌, map, length, get_or, refl, sym, ◌∙◌, ap, arith, pos}
use Rattle.std.proofs.lemmas.Int.{ints}
use Rattle.std.proofs.lemmas.Bool.{false≢true, and_parts}
use Rattle.coco_model.specs.Cells.{xor, signed, chosen_parity, Subset}
use Rattle.coco_model.specs.Labels.{Choice, same_bits}
use Rattle.coco_model.proofs.Bits.{xor-assoc, xor-comm, and-true}
use Rattle.walsh_laws.proofs.Totals.{total}
use Rattle.coco_model.proofs.Choices.{count, count-cong}
use Rattle.walsh_laws.proofs.Choices.{count_split, count_none, total-count, IsPassing, passing_or_none}

-- of the choices that pass p, as many pass q as fail it
pub record IsBalanced (n : ℕ) (p q : Choice → Bool) : Type 0 where
  pub same : count n (λ c. p c && q c) ≡ count n (λ c. p c && not (q c))

pub balanced-cong : (n : ℕ) (p q r s : Choice → Bool) → ((c : Choice) → length c ≡ n → p c ≡ r c)
    → ((c : Choice) → length c ≡ n → q c ≡ s c) → IsBalanced n p q → IsBalanced n r s
balanced-cong n p q r s e f b = record {
  same = count-cong n _ _ (λ c h. rw (sym (e c h), sym (f c h)) refl) ∙ b.same ∙ count-cong n _ _ (λ c h. rw (e c h, f c h) refl);
}

-- signs that add up to 0 are balanced
pub balanced_from_total : (n : ℕ) (q : Choice → Bool) → total n (λ c. signed (q c) (pos 1)) ≡ pos 0 → IsBalanced n (λ c. true) q
balanced_from_total n q e = record { same = let k = total-count n q in omega (arith, ints) }

-- the bits of tests under a choice
abbrev pub values_of : List (Choice → Bool) → Choice → List Bool
values_of tests c = map (λ (t : Choice → Bool). t c) tests

abbrev has_bit : (Choice → Bool) → Bool → Choice → Bool
has_bit b x c = not (xor (b c) x)

and-group : (s t u : Bool) → ((s && t) && u) ≡ (s && (t && u))
and-group true t u = refl
and-group false t u = refl

-- a balance with and without a bit is one where the bit is seen
balanced_half : (n : ℕ) (p q b : Choice → Bool) (x : Bool) → IsBalanced n p q → IsBalanced n p (λ c. xor (b c) (q c))
    → IsBalanced n (λ c. p c && has_bit b x c) q
balanced_half n p q b x one two = go x
  where
    quarter : Bool → Bool → ℕ
    quarter u v = count n (λ c. p c && (not (xor (b c) u) && not (xor (q c) v)))

    both : (r : Choice → Bool) (u v : Bool) → ((c : Choice) → (r c && b c) ≡ (not (xor (b c) true) && not (xor (q c) u)))
        → ((c : Choice) → (r c && not (b c)) ≡ (not (xor (b c) false) && not (xor (q c) v)))
        → count n (λ c. p c && r c) ≡ quarter true u + quarter false v
    both r u v e f =
        let a : count n (λ c. (p c && r c) && b c)
        ≡ quarter true u = count-cong n _ _ (λ c h. and-group (p c) (r c) (b c) ∙ ap (λ y. p c && y) (e c)) in
        let d : count n (λ c. (p c && r c) && not (b c))
        ≡ quarter false v = count-cong n _ _ (λ c h. and-group (p c) (r c) (not (b c)) ∙ ap (λ y. p c && y) (f c)) in
        let s : count n (λ c. p c && r c)
        ≡ count n (λ c. (p c && r c) && b c) + count n (λ c. (p c && r c) && not (b c)) = count_split n (λ c. p c && r c) b in
        omega arith

    passes_true : (a q : Bool) → (q && a) ≡ (not (xor a true) && not (xor q true))
    passes_true true true = refl
    passes_true true false = refl
    passes_true false true = refl
    passes_true false false = refl

    passes_false : (a q : Bool) → (q && not a) ≡ (not (xor a false) && not (xor q true))
    passes_false true true = refl
    passes_false true false = refl
    passes_false false true = refl
    passes_false false false = refl

    fails_true : (a q : Bool) → (not q && a) ≡ (not (xor a true) && not (xor q false))
    fails_true true true = refl
    fails_true true false = refl
    fails_true false true = refl
    fails_true false false = refl

    fails_false : (a q : Bool) → (not q && not a) ≡ (not (xor a false) && not (xor q false))
    fails_false true true = refl
    fails_false true false = refl
    fails_false false true = refl
    fails_false false false = refl

    odd_true : (a q : Bool) → (xor a q && a) ≡ (not (xor a true) && not (xor q false))
    odd_true true true = refl
    odd_true true false = refl
    odd_true false true = refl
    odd_true false false = refl

    odd_false : (a q : Bool) → (xor a q && not a) ≡ (not (xor a false) && not (xor q true))
    odd_false true true = refl
    odd_false true false = refl
    odd_false false true = refl
    odd_false false false = refl

    even_true : (a q : Bool) → (not (xor a q) && a) ≡ (not (xor a true) && not (xor q true))
    even_true true true = refl
    even_true true false = refl
    even_true false true = refl
    even_true false false = refl

    even_false : (a q : Bool) → (not (xor a q) && not a) ≡ (not (xor a false) && not (xor q false))
    even_false true true = refl
    even_false true false = refl
    even_false false true = refl
    even_false false false = refl

    equal_true : quarter true true ≡ quarter true false
    equal_true =
        let a : count n (λ c. p c && q c)
        ≡ quarter true true + quarter false true = both q true true (λ c. passes_true (b c) (q c)) (λ c. passes_false (b c) (q c)) in
        let d : count n (λ c. p c && not (q c))
        ≡ quarter true false + quarter false false = both (λ c. not (q c)) false false (λ c. fails_true (b c) (q c))
        (λ c. fails_false (b c) (q c)) in
        let e : count n (λ c. p c && xor (b c) (q c))
        ≡ quarter true false + quarter false true = both (λ c. xor (b c) (q c)) false true (λ c. odd_true (b c) (q c))
        (λ c. odd_false (b c) (q c)) in
        let f : count n (λ c. p c && not (xor (b c) (q c)))
        ≡ quarter true true + quarter false false = both (λ c. not (xor (b c) (q c))) true false (λ c. even_true (b c) (q c))
        (λ c. even_false (b c) (q c)) in
        let g : count n (λ c. p c && q c) ≡ count n (λ c. p c && not (q c)) = one.same in
        let h : count n (λ c. p c && xor (b c) (q c)) ≡ count n (λ c. p c && not (xor (b c) (q c))) = two.same in
        omega arith

    equal_false : quarter false true ≡ quarter false false
    equal_false =
        let a : count n (λ c. p c && q c)
        ≡ quarter true true + quarter false true = both q true true (λ c. passes_true (b c) (q c)) (λ c. passes_false (b c) (q c)) in
        let d : count n (λ c. p c && not (q c))
        ≡ quarter true false + quarter false false = both (λ c. not (q c)) false false (λ c. fails_true (b c) (q c))
        (λ c. fails_false (b c) (q c)) in
        let g : count n (λ c. p c && q c) ≡ count n (λ c. p c && not (q c)) = one.same in
        let k = equal_true in
        omega arith

    of_test : (a : Bool) → a ≡ not (xor a true)
    of_test true = refl
    of_test false = refl

    of_not : (a : Bool) → not a ≡ not (xor a false)
    of_not true = refl
    of_not false = refl

    go : (x : Bool) → IsBalanced n (λ c. p c && has_bit b x c) q
    go true = record {
      same = count-cong n _ _ (λ c h. and-group (p c) (has_bit b true c) (q c) ∙ ap (λ y. p c && (has_bit b true c && y)) (of_test (q c)))
          ∙ equal_true
          ∙ count-cong n _ _ (λ c h. sym (and-group (p c) (has_bit b true c) (not (q c))
          ∙ ap (λ y. p c && (has_bit b true c && y)) (of_not (q c))));
    }
    go false = record {
      same = count-cong n _ _ (λ c h. and-group (p c) (has_bit b false c) (q c) ∙ ap (λ y. p c && (has_bit b false c && y)) (of_test (q c)))
          ∙ equal_false
          ∙ count-cong n _ _ (λ c h. sym (and-group (p c) (has_bit b false c) (not (q c))
          ∙ ap (λ y. p c && (has_bit b false c && y)) (of_not (q c))));
    }

none_passes : (s t : Bool) → ((s && false) && t) ≡ false
none_passes true t = refl
none_passes false t = refl

none_pass : (n : ℕ) (p q : Choice → Bool) → IsBalanced n (λ c. p c && false) q
none_pass n p q = record {
  same = count_none n _ (λ c h. none_passes (p c) (q c))
      ∙ sym (count_none n _ (λ c h. none_passes (p c) (not (q c))));
}

-- a balance with every subset of some bits is one where these bits are seen
pub balanced_showing : (n : ℕ) (p q : Choice → Bool) (bits : List (Choice → Bool))
    → ((subset : Subset) → IsBalanced n p (λ c. xor (chosen_parity subset (values_of bits c)) (q c)))
    → (seen : List Bool) → IsBalanced n (λ c. p c && same_bits (values_of bits c) seen) q
balanced_showing n p q [] each [] = balanced-cong n p (λ c. xor false (q c)) _ _ (λ c h. sym (and-true (p c))) (λ c h. refl) (each [])
balanced_showing n p q [] each (x ∷ seen) = none_pass n p q
balanced_showing n p q (b ∷ bits) each [] = none_pass n p q
balanced_showing n p q (b ∷ bits) each (x ∷ seen) =
    balanced-cong n _ _ _ _ (λ c h. and-group (p c) (not (xor (b c) x)) (same_bits (values_of bits c) seen)) (λ c h. refl)
    (balanced_showing n (λ c. p c && not (xor (b c) x)) q bits
    (λ subset. balanced_half n p (λ c. xor (chosen_parity subset (values_of bits c)) (q c)) b x (each (false ∷ subset))
    (balanced-cong n _ _ _ _ (λ c h. refl) (λ c h. xor-assoc (b c) (chosen_parity subset (values_of bits c)) (q c)) (each (true ∷ subset))))
    seen)

-- a balance of each subset that is not empty means equal counts, whatever the values are
pub equal_counts : (n : ℕ) (p : Choice → Bool) (tests : List (Choice → Bool))
    → ((subset : Subset) (place : ℕ) → place < length tests → get_or subset place false ≡ true
    → IsBalanced n p (λ c. chosen_parity subset (values_of tests c)))
    → (one other : List Bool) → length one ≡ length tests → length other ≡ length tests
    → count n (λ c. p c && same_bits (values_of tests c) one) ≡ count n (λ c. p c && same_bits (values_of tests c) other)
equal_counts n p [] each [] [] e f = refl
equal_counts n p [] each [] (y ∷ other) e f = absurd (omega arith)
equal_counts n p [] each (x ∷ one) other e f = absurd (omega arith)
equal_counts n p (t ∷ tests) each [] other e f = absurd (omega arith)
equal_counts n p (t ∷ tests) each (x ∷ one) [] e f = absurd (omega arith)
equal_counts n p (t ∷ tests) each (x ∷ one) (y ∷ other) e f =
    change x y ∙ count-cong n _ _ (λ c h. sym (and-group (p c) (not (xor (t c) y)) (same_bits (values_of tests c) one)))
    ∙ equal_counts n (λ c. p c && not (xor (t c) y)) tests rest one other (omega arith) (omega arith)
    ∙ count-cong n _ _ (λ c h. and-group (p c) (not (xor (t c) y)) (same_bits (values_of tests c) other))
  where
    rest : (subset : Subset) (place : ℕ) → place < length tests → get_or subset place false ≡ true
        → IsBalanced n (λ c. p c && not (xor (t c) y)) (λ c. chosen_parity subset (values_of tests c))
    rest subset place below is = balanced_half n p (λ c. chosen_parity subset (values_of tests c)) t y
        (each (false ∷ subset) (suc place) (omega arith) is) (each (true ∷ subset) (suc place) (omega arith) is)

    showing : IsBalanced n (λ c. p c && same_bits (values_of tests c) one) t
    showing = balanced_showing n p t tests
        (λ subset. balanced-cong n _ _ _ _ (λ c h. refl) (λ c h. xor-comm (t c) (chosen_parity subset (values_of tests c)))
        (each (true ∷ subset) 0 (omega arith) refl)) one

    turn_true : (s u v : Bool) → (s && (not (xor u true) && v)) ≡ ((s && v) && u)
    turn_true true true true = refl
    turn_true true true false = refl
    turn_true true false true = refl
    turn_true true false false = refl
    turn_true false u v = refl

    turn_false : (s u v : Bool) → (s && (not (xor u false) && v)) ≡ ((s && v) && not u)
    turn_false true true true = refl
    turn_false true true false = refl
    turn_false true false true = refl
    turn_false true false false = refl
    turn_false false u v = refl

    change : (x y : Bool)
        → count n (λ c. p c && (not (xor (t c) x) && same_bits (values_of tests c) one))
        ≡ count n (λ c. p c && (not (xor (t c) y) && same_bits (values_of tests c) one))
    change true true = refl
    change false false = refl
    change true false = count-cong n _ _ (λ c h. turn_true (p c) (t c) (same_bits (values_of tests c) one)) ∙ showing.same
        ∙ count-cong n _ _ (λ c h. sym (turn_false (p c) (t c) (same_bits (values_of tests c) one)))
    change false true = count-cong n _ _ (λ c h. turn_false (p c) (t c) (same_bits (values_of tests c) one)) ∙ sym showing.same
        ∙ count-cong n _ _ (λ c h. sym (turn_true (p c) (t c) (same_bits (values_of tests c) one)))

bit_is : (b x : Bool) → not (xor b x) ≡ true → b ≡ x
bit_is true true e = refl
bit_is true false e = absurd (false≢true e)
bit_is false true e = absurd (false≢true e)
bit_is false false e = refl

-- the same, of the choices that pass a test r
determined_within : (n : ℕ) (p q r h : Choice → Bool) (bits : List (Choice → Bool))
    → ((seen : List Bool) → length seen ≡ length bits
    → count n (λ c. (p c && r c) && same_bits (values_of bits c) seen) ≡ count n (λ c. (q c && r c) && same_bits (values_of bits c) seen))
    → ((c d : Choice) → length c ≡ n → length d ≡ n → r c ≡ true → r d ≡ true → values_of bits c ≡ values_of bits d → h c ≡ h d)
    → count n (λ c. (p c && r c) && h c) ≡ count n (λ c. (q c && r c) && h c)
determined_within n p q r h [] each determined = go (passing_or_none n r)
  where
    with_true : (p r h : Bool) → (r ≡ true → h ≡ true) → ((p && r) && h) ≡ ((p && r) && true)
    with_true true true h e = e refl
    with_true true false h e = refl
    with_true false r h e = refl

    with_false : (p r h : Bool) → (r ≡ true → h ≡ false) → ((p && r) && h) ≡ false
    with_false true true h e = e refl
    with_false true false h e = refl
    with_false false r h e = refl

    go : IsPassing n r ⊎ ((c : Choice) → length c ≡ n → r c ≡ false)
        → count n (λ c. (p c && r c) && h c) ≡ count n (λ c. (q c && r c) && h c)
    go (inr none) = count_none n _ (λ c i. with_false (p c) (r c) (h c) (λ e. absurd (false≢true (sym (none c i) ∙ e))))
        ∙ sym (count_none n _ (λ c i. with_false (q c) (r c) (h c) (λ e. absurd (false≢true (sym (none c i) ∙ e)))))
    go (inl f) = value (h f.choice) refl
      where
        value : (x : Bool) → h f.choice ≡ x → count n (λ c. (p c && r c) && h c) ≡ count n (λ c. (q c && r c) && h c)
        value true e = count-cong n _ _ (λ c i. with_true (p c) (r c) (h c) (λ k. determined c f.choice i f.as_long k f.passes refl ∙ e))
            ∙ each [] refl
            ∙ sym (count-cong n _ _ (λ c i. with_true (q c) (r c) (h c) (λ k. determined c f.choice i f.as_long k f.passes refl ∙ e)))
        value false e = count_none n _ (λ c i. with_false (p c) (r c) (h c) (λ k. determined c f.choice i f.as_long k f.passes refl ∙ e))
            ∙ sym (count_none n _ (λ c i. with_false (q c) (r c) (h c) (λ k. determined c f.choice i f.as_long k f.passes refl ∙ e)))
determined_within n p q r h (b ∷ bits) each determined =
    let t = half true (determined_within n p q (λ c. r c && not (xor (b c) true)) h bits (each_half true) (fixed true)) in
    let f = half false (determined_within n p q (λ c. r c && not (xor (b c) false)) h bits (each_half false) (fixed false)) in
    let u = count_split n (λ c. (p c && r c) && h c) b in
    let w = count_split n (λ c. (q c && r c) && h c) b in
    omega arith
  where
    regroup : (p r x y : Bool) → ((p && (r && x)) && y) ≡ ((p && r) && (x && y))
    regroup true true x y = refl
    regroup true false x y = refl
    regroup false r x y = refl

    each_half : (x : Bool) (seen : List Bool) → length seen ≡ length bits
        → count n (λ c. (p c && (r c && not (xor (b c) x))) && same_bits (values_of bits c) seen)
        ≡ count n (λ c. (q c && (r c && not (xor (b c) x))) && same_bits (values_of bits c) seen)
    each_half x seen e = count-cong n _ _ (λ c i. regroup (p c) (r c) (not (xor (b c) x)) (same_bits (values_of bits c) seen))
        ∙ each (x ∷ seen) (ap suc e)
        ∙ sym (count-cong n _ _ (λ c i. regroup (q c) (r c) (not (xor (b c) x)) (same_bits (values_of bits c) seen)))

    fixed : (x : Bool) (c d : Choice) → length c ≡ n → length d ≡ n → (r c && not (xor (b c) x)) ≡ true → (r d && not (xor (b d) x)) ≡ true
        → values_of bits c ≡ values_of bits d → h c ≡ h d
    fixed x c d i j e f g =
        let u = and_parts (r c) (not (xor (b c) x)) e in
        let w = and_parts (r d) (not (xor (b d) x)) f in
        determined c d i j u.0 w.0 (ap (λ y. y ∷ values_of bits c) (bit_is (b c) x u.1 ∙ sym (bit_is (b d) x w.1)) ∙ ap (λ ys. b d ∷ ys) g)

    half : (x : Bool) → count n (λ c. (p c && (r c && not (xor (b c) x))) && h c)
        ≡ count n (λ c. (q c && (r c && not (xor (b c) x))) && h c)
        → count n (λ c. ((p c && r c) && h c) && cond x (b c) (not (b c)))
        ≡ count n (λ c. ((q c && r c) && h c) && cond x (b c) (not (b c)))
    half x e = count-cong n _ _ (λ c i. sym (moved x (p c) (r c) (b c) (h c))) ∙ e
        ∙ count-cong n _ _ (λ c i. moved x (q c) (r c) (b c) (h c))
      where
        moved : (x p r b h : Bool) → ((p && (r && not (xor b x))) && h) ≡ (((p && r) && h) && cond x b (not b))
        moved x false r b h = refl
        moved x true false b h = refl
        moved true true true true true = refl
        moved true true true true false = refl
        moved true true true false true = refl
        moved true true true false false = refl
        moved false true true true true = refl
        moved false true true true false = refl
        moved false true true false true = refl
        moved false true true false false = refl

-- equal counts for every list of bits mean equal counts for a test that these bits determine
pub equal_determined : (n : ℕ) (p q h : Choice → Bool) (bits : List (Choice → Bool))
    → ((seen : List Bool) → length seen ≡ length bits
    → count n (λ c. p c && same_bits (values_of bits c) seen) ≡ count n (λ c. q c && same_bits (values_of bits c) seen))
    → ((c d : Choice) → length c ≡ n → length d ≡ n → values_of bits c ≡ values_of bits d → h c ≡ h d)
    → count n (λ c. p c && h c) ≡ count n (λ c. q c && h c)
equal_determined n p q h bits each determined =
    count-cong n _ _ (λ c i. ap (λ y. y && h c) (sym (and-true (p c))))
    ∙ determined_within n p q (λ c. true) h bits
    (λ seen e. count-cong n _ _ (λ c i. ap (λ y. y && same_bits (values_of bits c) seen) (and-true (p c))) ∙ each seen e
    ∙ count-cong n _ _ (λ c i. ap (λ y. y && same_bits (values_of bits c) seen) (sym (and-true (q c)))))
    (λ c d i j k m e. determined c d i j e)
    ∙ count-cong n _ _ (λ c i. ap (λ y. y && h c) (and-true (q c)))
