-- Marks that are set one after the other.
use Rattle.std.proofs.Common.{◌≡◌, ℕ, ◌+◌, ◌<◌, Bool, false, true, ◌||◌, cond, nat_eq, List, [], ◌∷◌, ◌++◌, filter, length, replicate, get_or, slice_index, refl, sym, ap, ◌∙◌, arith}
use Rattle.std.specs.List.{list_any, range_with_len}
use Rattle.std.specs.List.Sorted.{IsStrictlyIncreasing}
use Rattle.std.proofs.lemmas.List.{map-id, get_or-replicate, get_or_default, length-replicate}
use Rattle.std.proofs.lemmas.List.FromFn.{map-range_with_len_more, filter_of_map_range_with_len_more, length-range_with_len, get_or-range_with_len}
use Rattle.std.proofs.lemmas.List.Kept.{IsStrictlyIncreasing-filter}
use Rattle.std.proofs.lemmas.List.Folds.{list_any-append}
use Rattle.coco_model.specs.Goals.{is_among}
use Rattle.probe_encode.specs.Marks.{AreMarked}

or_false : (a : Bool) → (a || false) ≡ a
or_false true = refl
or_false false = refl

or_or : (a b c : Bool) → ((a || b) || c) ≡ (a || (b || c))
or_or true b c = refl
or_or false b c = refl

pub range_more : (n : ℕ) → range_with_len 0 (n + 1) ≡ range_with_len 0 n ++ n ∷ []
range_more n =
    let e = map-range_with_len_more (λ (x : ℕ). x) 0 n n (omega arith) in
    sym (map-id (range_with_len 0 (n + 1))) ∙ (e ∙ ap (λ xs. xs ++ n ∷ []) (map-id (range_with_len 0 n)))

any_last : {X : Type 0} (p : X → Bool) (xs : List X) (x : X) → list_any p (xs ++ x ∷ []) ≡ (list_any p xs || p x)
any_last p xs x = list_any-append p xs (x ∷ []) ∙ ap (λ b. list_any p xs || b) (or_false (p x))

pub any_more : (p : ℕ → Bool) (n : ℕ) → list_any p (range_with_len 0 (n + 1)) ≡ (list_any p (range_with_len 0 n) || p n)
any_more p n = ap (list_any p) (range_more n) ∙ any_last p (range_with_len 0 n) n

pub marked_none : (marks : List Bool) → AreMarked marks marks (λ l. false)
marked_none marks = record { as_long = refl; each = λ l lt. sym (or_false (get_or marks l false)) }

pub marked_as : {a b : List Bool} (p q : ℕ → Bool) → ((l : ℕ) → p l ≡ q l) → AreMarked a b p → AreMarked a b q
marked_as {a = a} p q e m = record { as_long = m.as_long; each = λ l lt. m.each l lt ∙ ap (λ x. get_or a l false || x) (e l) }

pub marked_then : {a b c : List Bool} (p q : ℕ → Bool) → AreMarked a b p → AreMarked b c q → AreMarked a c (λ l. p l || q l)
marked_then {a = a} p q m n = record {
  as_long = n.as_long ∙ m.as_long;
  each = λ l lt. n.each l (let e = m.as_long in omega arith) ∙ (ap (λ x. x || q l) (m.each l lt) ∙ or_or (get_or a l false) (p l) (q l));
}

pub marked_more : {a b c : List Bool} (p : ℕ → ℕ → Bool) (n : ℕ) → AreMarked a b (λ l. list_any (p l) (range_with_len 0 n)) → AreMarked b c (λ l. p l n)
    → AreMarked a c (λ l. list_any (p l) (range_with_len 0 (n + 1)))
marked_more p n m k =
    marked_as (λ l. list_any (p l) (range_with_len 0 n) || p l n) (λ l. list_any (p l) (range_with_len 0 (n + 1))) (λ l. sym (any_more (p l) n))
    (marked_then (λ l. list_any (p l) (range_with_len 0 n)) (λ l. p l n) m k)

pub marked_item : {a b c : List Bool} (xs : List ℕ) (x : ℕ) → AreMarked a b (λ l. is_among xs l) → AreMarked b c (λ l. nat_eq l x)
    → AreMarked a c (λ l. is_among (xs ++ x ∷ []) l)
marked_item xs x m k =
    marked_as (λ l. is_among xs l || nat_eq l x) (λ l. is_among (xs ++ x ∷ []) l) (λ l. sym (any_last (nat_eq l) xs x))
    (marked_then (λ l. is_among xs l) (λ l. nat_eq l x) m k)

pub filter_more : (p : ℕ → Bool) (n : ℕ) → filter p (range_with_len 0 (n + 1)) ≡ filter p (range_with_len 0 n) ++ cond (p n) (n ∷ []) []
filter_more p n =
    let e = filter_of_map_range_with_len_more p (λ (x : ℕ). x) 0 n n (omega arith) in
    ap (filter p) (sym (map-id (range_with_len 0 (n + 1)))) ∙ (e ∙ ap (λ xs. filter p xs ++ cond (p n) (n ∷ []) []) (map-id (range_with_len 0 n)))

range_rises : (n : ℕ) → IsStrictlyIncreasing (range_with_len 0 n)
range_rises n k lt =
    let len = length-range_with_len 0 n in
    let a : slice_index (range_with_len 0 n) k ≡ 0 + k = get_or-range_with_len 0 n k _ (omega (arith, lt, len)) in
    let b : slice_index (range_with_len 0 n) (k + 1) ≡ 0 + (k + 1) = get_or-range_with_len 0 n (k + 1) _ (omega (arith, lt, len)) in
    omega (arith, a, b)

pub ascending_filter : (p : ℕ → Bool) (n : ℕ) → IsStrictlyIncreasing (filter p (range_with_len 0 n))
ascending_filter p n = IsStrictlyIncreasing-filter p (range_with_len 0 n) (range_rises n)

-- what marks say that were false at the start
pub is_marked : (n : ℕ) (marks : List Bool) (p : ℕ → Bool) (i : ℕ) (d : Bool) → AreMarked (replicate n false) marks p → i < length marks → get_or marks i d ≡ p i
is_marked n marks p i d m lt =
    let len = m.as_long in
    let long = length-replicate n false in
    let start : get_or (replicate n false) i false ≡ false = get_or-replicate n i false false (omega (arith, lt, len, long)) in
    get_or_default marks i d false lt ∙ (m.each i (omega (arith, lt, len)) ∙ ap (λ b. b || p i) start)
