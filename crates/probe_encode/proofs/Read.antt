-- What a model is read as, item by item.
use Rattle.std.proofs.Common.{◌≡◌, ℕ, zero, suc, ◌+◌, ◌*◌, ◌<◌, ◌⊎◌, inl, inr, Bool, true, false, ◌||◌, cond, List, [], ◌∷◌, ◌++◌, map, filter, take, drop, length, get_or, refl, sym, ap, ◌∙◌, subst, arith, append_assoc}
use Rattle.std.specs.Prelude.{Contains}
use Rattle.std.specs.List.Sorted.{IsStrictlyIncreasing}
use Rattle.std.proofs.lemmas.List.{get_or_default}
use Rattle.std.proofs.lemmas.List.Elements.{Contains-append_left, Contains-append_right, Contains-append_cases}
use Rattle.coco_base.specs.declared.finding.Probe.{Probe}
use Rattle.coco_base.specs.LabelSets.{has, IsUnion}
use Rattle.coco_model.proofs.Basics.{Contains-here, Contains-later, Contains-cases, Contains-none}
use Rattle.circuit_clauses.specs.declared.signal.Signal.{Signal}
use Rattle.circuit_clauses.specs.Signals.{value}
use Rattle.clause_builds.proofs.Lists.{next_item}
use Rattle.label_cone.proofs.SetLemmas.{member_of_has, has_of_member}
use Rattle.model_laws.proofs.Ascending.{IsAscending, ascending_parts, ascending_cons, same_ascending}
use Rattle.node_clauses.specs.Chosen.{chosen_number}
use Rattle.probe_encode.specs.Readings.{moment, true_places, true_moments}

-- one cycle more
pub next_moments : (values : ℕ → Bool) (rows : List (List Signal)) (t : ℕ) (moments : List Probe) (all : List Probe) → t < length rows
    → moments ++ true_moments values t (drop t rows) ≡ all
    → (moments ++ map (moment t) (true_places values (get_or rows t []))) ++ true_moments values (t + 1) (drop (t + 1) rows) ≡ all
next_moments values rows t moments all lt e =
    let row = get_or rows t [] in
    let item : row ≡ get_or rows t row = get_or_default rows t [] row lt in
    append_assoc moments (map (moment t) (true_places values row)) (true_moments values (t + 1) (drop (t + 1) rows))
    ∙ sym (ap (λ (rs : List (List Signal)). moments ++ true_moments values t rs) (next_item rows t row lt item)) ∙ e

-- the number of a choice, place by place
pub four_bits : (values : ℕ → Bool) (selected : List Signal) (d : Signal) → length selected ≡ 4
    → chosen_number values selected
    ≡ cond (value values (get_or selected 0 d)) 1 0 + 2 * (cond (value values (get_or selected 1 d)) 1 0
    + 2 * (cond (value values (get_or selected 2 d)) 1 0 + 2 * cond (value values (get_or selected 3 d)) 1 0))
four_bits values (a ∷ b ∷ c ∷ e ∷ []) d long =
    let z : cond (value values e) 1 0 + 2 * 0 ≡ cond (value values e) 1 0 = omega arith in
    ap (λ n. cond (value values a) 1 0 + 2 * (cond (value values b) 1 0 + 2 * (cond (value values c) 1 0 + 2 * n))) z
four_bits values [] d long = absurd (omega arith)
four_bits values (a ∷ []) d long = absurd (omega arith)
four_bits values (a ∷ b ∷ []) d long = absurd (omega arith)
four_bits values (a ∷ b ∷ c ∷ []) d long = absurd (omega arith)
four_bits values (a ∷ b ∷ c ∷ e ∷ f ∷ rest) d long = absurd (omega arith)

-- ---- labels

ascending-push : (xs : List ℕ) (l : ℕ) → IsStrictlyIncreasing xs → ((k : ℕ) → Contains xs k → k < l) → IsStrictlyIncreasing (xs ++ l ∷ [])
ascending-push [] l up above = ascending_cons l [] (λ k i. absurd (Contains-none k i)) (λ k lt. absurd (omega arith))
ascending-push (x ∷ xs) l up above =
    let parts = ascending_parts x xs up in
    ascending_cons x (xs ++ l ∷ []) (λ k i. front k (Contains-append_cases xs (l ∷ []) k i))
    (ascending-push xs l parts.rest (λ k i. above k (Contains-later x k xs i)))
  where
    last : (k : ℕ) → (l ≡ k) ⊎ Contains [] k → x < k
    last k (inl e) = subst (λ j. x < j) e (above x (Contains-here x xs))
    last k (inr i) = absurd (Contains-none k i)

    front : (k : ℕ) → Contains xs k ⊎ Contains (l ∷ []) k → x < k
    front k (inl i) = (ascending_parts x xs up).above k i
    front k (inr i) = last k (Contains-cases l k [] i)

either : (a b : Bool) → (a || b) ≡ true → (a ≡ true) ⊎ (b ≡ true)
either true b e = inl refl
either false b e = inr e

or_left : (a b : Bool) → a ≡ true → (a || b) ≡ true
or_left true b h = refl
or_left false b h = absurd cc

or_right : (a b : Bool) → b ≡ true → (a || b) ≡ true
or_right true b h = refl
or_right false b h = h

-- a set with a label behind all others
pub union_last : (set more : List ℕ) (l : ℕ) → IsStrictlyIncreasing set → IsStrictlyIncreasing more → ((k : ℕ) → Contains set k → k < l)
    → IsUnion set (l ∷ []) more → more ≡ set ++ l ∷ []
union_last set more l up rises above union =
    same_ascending more (set ++ l ∷ []) rises (ascending-push set l up above) into from
  where
    into : (k : ℕ) → Contains more k → Contains (set ++ l ∷ []) k
    into k i = go (either (has set k) (has (l ∷ []) k) (sym (union.each k) ∙ has_of_member k more i))
      where
        go : (has set k ≡ true) ⊎ (has (l ∷ []) k ≡ true) → Contains (set ++ l ∷ []) k
        go (inl e) = Contains-append_left set (l ∷ []) k (member_of_has k set e)
        go (inr e) = Contains-append_right set (l ∷ []) k (member_of_has k (l ∷ []) e)

    from : (k : ℕ) → Contains (set ++ l ∷ []) k → Contains more k
    from k i = member_of_has k more (union.each k ∙ go (Contains-append_cases set (l ∷ []) k i))
      where
        go : Contains set k ⊎ Contains (l ∷ []) k → (has set k || has (l ∷ []) k) ≡ true
        go (inl j) = or_left (has set k) (has (l ∷ []) k) (has_of_member k set j)
        go (inr j) = or_right (has set k) (has (l ∷ []) k) (has_of_member k (l ∷ []) j)

-- what passes a test is a member, and what stands before a place is less than what stands there
member-filter : (p : ℕ → Bool) (xs : List ℕ) (x : ℕ) → Contains (filter p xs) x → Contains xs x
member-filter p [] x h = h
member-filter p (y ∷ ys) x h = go (p y) h (member-filter p ys x)
  where
    go : (b : Bool) → Contains (cond b (y ∷ filter p ys) (filter p ys)) x → (Contains (filter p ys) x → Contains ys x) → Contains (y ∷ ys) x
    go false i rest = Contains-later y x ys (rest i)
    go true i rest = first (Contains-cases y x (filter p ys) i)
      where
        first : (y ≡ x) ⊎ Contains (filter p ys) x → Contains (y ∷ ys) x
        first (inl e) = subst (Contains (y ∷ ys)) e (Contains-here y ys)
        first (inr j) = Contains-later y x ys (rest j)

member_at : (xs : List ℕ) (i : ℕ) → i < length xs → Contains xs (get_or xs i 0)
member_at [] i lt = absurd (omega arith)
member_at (x ∷ xs) zero lt = Contains-here x xs
member_at (x ∷ xs) (suc i) lt = Contains-later x (get_or xs i 0) xs (member_at xs i (omega arith))

below_place : (xs : List ℕ) (i x : ℕ) → IsStrictlyIncreasing xs → i < length xs → Contains (take i xs) x → x < get_or xs i 0
below_place [] i x up lt h = absurd (omega arith)
below_place (y ∷ ys) zero x up lt h = absurd (Contains-none x h)
below_place (y ∷ ys) (suc i) x up lt h = go (Contains-cases y x (take i ys) h) (below_place ys i x parts.rest (omega arith))
  where
    parts : IsAscending y ys
    parts = ascending_parts y ys up

    go : (y ≡ x) ⊎ Contains (take i ys) x → (Contains (take i ys) x → x < get_or ys i 0) → x < get_or ys i 0
    go (inl e) rest = subst (λ z. z < get_or ys i 0) e (parts.above (get_or ys i 0) (member_at ys i (omega arith)))
    go (inr j) rest = rest j

pub passed_below : (p : ℕ → Bool) (xs : List ℕ) (i x : ℕ) → IsStrictlyIncreasing xs → i < length xs → Contains (filter p (take i xs)) x
    → x < get_or xs i 0
passed_below p xs i x up lt h = below_place xs i x up lt (member-filter p (take i xs) x h)
