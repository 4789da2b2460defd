-- How many clauses the goal has.
use Rattle.std.proofs.Common.{◌≡◌, ℕ, zero, suc, ◌+◌, ◌*◌, ◌≤◌, Bool, true, false, ◌&&◌, cond, nat_eq, List, [], ◌∷◌, filter, flat_map, length, get_or, refl, ap, ◌∙◌, arith, length-append}
use Rattle.std.specs.List.{range_with_len}
use Rattle.std.proofs.lemmas.Bool.{ne_eqb, eqb-true}
use Rattle.std.proofs.lemmas.Grind.{flat_map-append}
use Rattle.coco_model.specs.Goals.{all_among, same_pairs, whole_with}

-- numbers from one on, each above the one before
abbrev pub IsAbove : ℕ → List ℕ → Type 0
IsAbove a [] = Unit {0}
IsAbove a (l ∷ ls) = (a ≤ l) × IsAbove (l + 1) ls

above_less : (a b : ℕ) (ls : List ℕ) → a ≤ b → IsAbove b ls → IsAbove a ls
above_less a b [] le h = tt
above_less a b (l ∷ ls) le h = (let low = h.0 in omega (arith, le, low), h.1)

pub filter_above : (p : ℕ → Bool) (a n : ℕ) → IsAbove a (filter p (range_with_len a n))
filter_above p a zero = tt
filter_above p a (suc n) = go (p a) (filter_above p (a + 1) n)
  where
    go : (b : Bool) → IsAbove (a + 1) (filter p (range_with_len (a + 1) n)) → IsAbove a (cond b (a ∷ filter p (range_with_len (a + 1) n)) (filter p (range_with_len (a + 1) n)))
    go true h = (omega arith, h)
    go false h = above_less a (a + 1) (filter p (range_with_len (a + 1) n)) (omega arith) h

-- the clauses of successive shares
pub short_same : {X : Type 0} (f : ℕ → Bool → X) (ls : List ℕ) → length (same_pairs f ls) ≤ 2 * length ls
short_same f [] = omega arith
short_same f (k ∷ []) = omega arith
short_same f (k ∷ l ∷ ls) = let rest = short_same f (l ∷ ls) in omega arith

-- all clauses of whole bits over labels
abbrev pub pairs_over : {X : Type 0} → (ℕ → Bool → X) → List ℕ → List (List ℕ) → List ℕ → List (List X)
pairs_over f among shares labels = flat_map (same_pairs f) (flat_map (whole_with among shares) labels)

abbrev pub is_first : List ℕ → List ℕ → ℕ → Bool
is_first among s l = all_among among s && nat_eq (get_or s 0 (suc l)) l

more_over : {X : Type 0} (f : ℕ → Bool → X) (among : List ℕ) (shares : List (List ℕ)) (l : ℕ) (ls : List ℕ)
    → length (pairs_over f among shares (l ∷ ls)) ≡ length (flat_map (same_pairs f) (whole_with among shares l)) + length (pairs_over f among shares ls)
more_over f among shares l ls =
    let a = whole_with among shares l in
    let b = flat_map (whole_with among shares) ls in
    ap length (flat_map-append (same_pairs f) a b) ∙ length-append (flat_map (same_pairs f) a) (flat_map (same_pairs f) b)

with_first : {X : Type 0} (f : ℕ → Bool → X) (s : List ℕ) (rest : List (List ℕ)) (b : Bool) → length (flat_map (same_pairs f) (cond b (s ∷ rest) rest)) ≡ cond b (length (same_pairs f s)) 0 + length (flat_map (same_pairs f) rest)
with_first f s rest true = length-append (same_pairs f s) (flat_map (same_pairs f) rest)
with_first f s rest false = omega arith

and_false : (a : Bool) → (a && false) ≡ false
and_false true = refl
and_false false = refl

-- a bit whose share 0 is below all labels counts nowhere
never_first : {X : Type 0} (f : ℕ → Bool → X) (among s : List ℕ) (shares : List (List ℕ)) (a : ℕ) (ls : List ℕ) → IsAbove a ls → ((l : ℕ) → a ≤ l → nat_eq (get_or s 0 (suc l)) l ≡ false)
    → length (pairs_over f among (s ∷ shares) ls) ≡ length (pairs_over f among shares ls)
never_first f among s shares a [] h never = refl
never_first f among s shares a (l ∷ ls) h never =
    let rest : length (pairs_over f among (s ∷ shares) ls) ≡ length (pairs_over f among shares ls) = never_first f among s shares (l + 1) ls h.1 (λ k le. never k (let low = h.0 in omega (arith, low, le))) in
    let e : is_first among s l ≡ false = ap (λ b. all_among among s && b) (never l h.0) ∙ and_false (all_among among s) in
    let one = more_over f among (s ∷ shares) l ls in
    let two = more_over f among shares l ls in
    let here : length (flat_map (same_pairs f) (whole_with among (s ∷ shares) l)) ≡ cond (is_first among s l) (length (same_pairs f s)) 0 + length (flat_map (same_pairs f) (whole_with among shares l)) =
    with_first f s (whole_with among shares l) (is_first among s l) in
    let z : cond (is_first among s l) (length (same_pairs f s)) 0 ≡ 0 = ap (λ b. cond b (length (same_pairs f s)) 0) e in
    omega (arith, rest, one, two, here, z)

-- a bit counts at one label at most
pub one_more_bit : {X : Type 0} (f : ℕ → Bool → X) (among s : List ℕ) (shares : List (List ℕ)) (a : ℕ) (ls : List ℕ) → IsAbove a ls
    → length (pairs_over f among (s ∷ shares) ls) ≤ 2 * length s + length (pairs_over f among shares ls)
one_more_bit f among s shares a [] h = omega arith
one_more_bit f among s shares a (l ∷ ls) h = go (nat_eq (get_or s 0 (suc l)) l) refl (one_more_bit f among s shares (l + 1) ls h.1)
  where
    one : length (pairs_over f among (s ∷ shares) (l ∷ ls)) ≡ length (flat_map (same_pairs f) (whole_with among (s ∷ shares) l)) + length (pairs_over f among (s ∷ shares) ls)
    one = more_over f among (s ∷ shares) l ls

    two : length (pairs_over f among shares (l ∷ ls)) ≡ length (flat_map (same_pairs f) (whole_with among shares l)) + length (pairs_over f among shares ls)
    two = more_over f among shares l ls

    here : length (flat_map (same_pairs f) (whole_with among (s ∷ shares) l)) ≡ cond (is_first among s l) (length (same_pairs f s)) 0 + length (flat_map (same_pairs f) (whole_with among shares l))
    here = with_first f s (whole_with among shares l) (is_first among s l)

    small : (b : Bool) → cond b (length (same_pairs f s)) 0 ≤ 2 * length s
    small true = short_same f s
    small false = omega arith

    go : (b : Bool) → nat_eq (get_or s 0 (suc l)) l ≡ b → length (pairs_over f among (s ∷ shares) ls) ≤ 2 * length s + length (pairs_over f among shares ls)
        → length (pairs_over f among (s ∷ shares) (l ∷ ls)) ≤ 2 * length s + length (pairs_over f among shares (l ∷ ls))
    go false e rest =
        let absent : is_first among s l ≡ false = ap (λ b. all_among among s && b) e ∙ and_false (all_among among s) in
        let z : cond (is_first among s l) (length (same_pairs f s)) 0 ≡ 0 = ap (λ b. cond b (length (same_pairs f s)) 0) absent in
        omega (arith, rest, one, two, here, z)
    go true e most =
        let rest : length (pairs_over f among (s ∷ shares) ls) ≡ length (pairs_over f among shares ls) = never_first f among s shares (l + 1) ls h.1 (λ k le. apart s k (eqb-true (get_or s 0 (suc l)) l e) le) in
        let few = small (is_first among s l) in
        omega (arith, rest, one, two, here, few)
      where
        apart : (s : List ℕ) (k : ℕ) → get_or s 0 (suc l) ≡ l → l + 1 ≤ k → nat_eq (get_or s 0 (suc k)) k ≡ false
        apart [] k same le = absurd (omega (arith, same))
        apart (x ∷ xs) k same le = ne_eqb x k (λ t. omega (arith, same, le, t))

-- all bits
pub few_pairs : {X : Type 0} (f : ℕ → Bool → X) (among : List ℕ) (shares : List (List ℕ)) (a : ℕ) (ls : List ℕ) → IsAbove a ls
    → length (pairs_over f among shares ls) ≤ 2 * length (flat_map (λ (s : List ℕ). s) shares)
few_pairs f among [] a ls h = none ls
  where
    none : (ls : List ℕ) → length (pairs_over f among [] ls) ≤ 2 * 0
    none [] = omega arith
    none (l ∷ ls) = none ls
few_pairs f among (s ∷ shares) a ls h =
    let rest = few_pairs f among shares a ls h in
    let one = one_more_bit f among s shares a ls h in
    let e = length-append s (flat_map (λ (t : List ℕ). t) shares) in
    omega (arith, rest, one, e)
