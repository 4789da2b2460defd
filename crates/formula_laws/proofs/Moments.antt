-- Bits in cycles in ascending order: a list of them is told by its members.
use Rattle.std.proofs.Common.{◌≡◌, ◌≢◌, ℕ, zero, suc, ◌+◌, ◌<◌, ◌≤◌, ◌⊎◌, inl, inr, Bool, true, false, ◌&&◌, cond, List, [], ◌∷◌, ◌++◌, map, filter, flat_map, refl, sym, ap, ap₂, ◌∙◌, subst, arith}
use Rattle.std.specs.Prelude.{Contains}
use Rattle.std.specs.List.{range_with_len}
use Rattle.std.proofs.lemmas.Bool.{cases_eq}
use Rattle.std.proofs.lemmas.List.Elements.{Contains-append_cases}
use Rattle.coco_base.specs.declared.finding.Probe.{Probe}
use Rattle.coco_model.specs.Cells.{xor}
use Rattle.coco_model.specs.Labels.{parity}
use Rattle.coco_model.specs.WrittenFindings.{ComesBefore, AreAscending}
use Rattle.coco_model.proofs.Basics.{Contains-here, Contains-later, Contains-cases, Contains-none}
use Rattle.model_laws.proofs.Lists.{Contains-map, image_of_map, joined_of_flat_map, Contains-flat_map}
use Rattle.probe_encode.specs.Readings.{moment}

-- ---- order

comes_after : (p q r : Probe) → ComesBefore p q → ComesBefore q r → ComesBefore p r
comes_after p q r (inl h) (inl k) = inl (omega arith)
comes_after p q r (inl h) (inr k) = inl (let e = k.0 in omega arith)
comes_after p q r (inr h) (inl k) = inl (let e = h.0 in omega arith)
comes_after p q r (inr h) (inr k) = inr (h.0 ∙ k.0, (let a = h.1 in let b = k.1 in omega arith))

pub not_before_itself : (p : Probe) → ComesBefore p p → ⊥
not_before_itself p (inl h) = omega arith
not_before_itself p (inr h) = let k = h.1 in omega arith

-- a moment comes before all of a list
abbrev IsFirst : Probe → List Probe → Type 0
IsFirst p ps = (q : Probe) → Contains ps q → ComesBefore p q

same_first : (p q : Probe) (ps qs : List Probe) → IsFirst p ps → IsFirst q qs → Contains (q ∷ qs) p → Contains (p ∷ ps) q → p ≡ q
same_first p q ps qs h k i j = go (Contains-cases q p qs i) (Contains-cases p q ps j)
  where
    go : (q ≡ p) ⊎ Contains qs p → (p ≡ q) ⊎ Contains ps q → p ≡ q
    go (inl e) other = sym e
    go (inr a) (inl e) = e
    go (inr a) (inr b) = absurd (not_before_itself p (comes_after p q p (h q b) (k p a)))

rest_within : (p q : Probe) (ps qs : List Probe) → p ≡ q → IsFirst p ps → ((r : Probe) → Contains (p ∷ ps) r → Contains (q ∷ qs) r)
    → (r : Probe) → Contains ps r → Contains qs r
rest_within p q ps qs e h into r i = go (Contains-cases q r qs (into r (Contains-later p r ps i)))
  where
    go : (q ≡ r) ⊎ Contains qs r → Contains qs r
    go (inl f) = absurd (not_before_itself p (subst (ComesBefore p) (sym (e ∙ f)) (h r i)))
    go (inr j) = j

-- lists in ascending order with the same members are one
pub ascending_same : (ps qs : List Probe) → AreAscending ps → AreAscending qs → ((p : Probe) → Contains ps p → Contains qs p)
    → ((p : Probe) → Contains qs p → Contains ps p) → ps ≡ qs
ascending_same [] [] h k into from = refl
ascending_same [] (q ∷ qs) h k into from = absurd (Contains-none q (from q (Contains-here q qs)))
ascending_same (p ∷ ps) [] h k into from = absurd (Contains-none p (into p (Contains-here p ps)))
ascending_same (p ∷ ps) (q ∷ qs) h k into from =
    let e : p ≡ q = same_first p q ps qs h.0 k.0 (into p (Contains-here p ps)) (from q (Contains-here q qs)) in
    ap₂ (λ x xs. x ∷ xs) e
    (ascending_same ps qs h.1 k.1 (rest_within p q ps qs e h.0 into) (rest_within q p qs ps (sym e) k.0 from))

-- ---- lists that are searched

pub member-filter : {X : Type 0} (p : X → Bool) (xs : List X) (x : X) → Contains (filter p xs) x → Contains xs x × (p x ≡ true)
member-filter p [] x h = absurd (Contains-none x h)
member-filter {X = X} p (y ∷ ys) x h = go (p y) refl h (member-filter p ys x)
  where
    later : Contains ys x × (p x ≡ true) → Contains (y ∷ ys) x × (p x ≡ true)
    later r = (Contains-later y x ys r.0, r.1)

    go : (b : Bool) → p y ≡ b → Contains (cond b (y ∷ filter p ys) (filter p ys)) x → (Contains (filter p ys) x → Contains ys x × (p x ≡ true))
        → Contains (y ∷ ys) x × (p x ≡ true)
    go false e i rest = later (rest i)
    go true e i rest = first (Contains-cases y x (filter p ys) i)
      where
        first : (y ≡ x) ⊎ Contains (filter p ys) x → Contains (y ∷ ys) x × (p x ≡ true)
        first (inl f) = (subst (Contains (y ∷ ys)) f (Contains-here y ys), subst (λ z. p z ≡ true) f e)
        first (inr j) = later (rest j)

pub filter-member : {X : Type 0} (p : X → Bool) (xs : List X) (x : X) → Contains xs x → p x ≡ true → Contains (filter p xs) x
filter-member p [] x h e = absurd (Contains-none x h)
filter-member {X = X} p (y ∷ ys) x h e = go (p y) refl (Contains-cases y x ys h) (λ i. filter-member p ys x i e)
  where
    go : (b : Bool) → p y ≡ b → (y ≡ x) ⊎ Contains ys x → (Contains ys x → Contains (filter p ys) x)
        → Contains (cond b (y ∷ filter p ys) (filter p ys)) x
    go true f (inl g) rest = subst (Contains (y ∷ filter p ys)) g (Contains-here y (filter p ys))
    go true f (inr i) rest = Contains-later y x (filter p ys) (rest i)
    go false f (inl g) rest = absurd (let k : p y ≡ true = subst (λ z. p z ≡ true) (sym g) e in cc)
    go false f (inr i) rest = rest i

-- only what passes counts
pub parity-filter : {X : Type 0} (p g : X → Bool) (xs : List X) → parity (map (λ x. p x && g x) xs) ≡ parity (map g (filter p xs))
parity-filter p g [] = refl
parity-filter p g (x ∷ xs) = go (p x) (parity-filter p g xs)
  where
    go : (b : Bool) → parity (map (λ y. p y && g y) xs) ≡ parity (map g (filter p xs))
        → xor (b && g x) (parity (map (λ y. p y && g y) xs)) ≡ parity (map g (cond b (x ∷ filter p xs) (filter p xs)))
    go true e = ap (xor (g x)) e
    go false e = e

pub ascending-filter : (p : Probe → Bool) (ps : List Probe) → AreAscending ps → AreAscending (filter p ps)
ascending-filter p [] h = tt
ascending-filter p (q ∷ ps) h = go (p q) (ascending-filter p ps h.1)
  where
    go : (b : Bool) → AreAscending (filter p ps) → AreAscending (cond b (q ∷ filter p ps) (filter p ps))
    go true rest = ((λ r i. h.0 r (member-filter p ps r i).0), rest)
    go false rest = rest

ascending-append : (ps qs : List Probe) → AreAscending ps → AreAscending qs → ((p q : Probe) → Contains ps p → Contains qs q → ComesBefore p q)
    → AreAscending (ps ++ qs)
ascending-append [] qs h k between = k
ascending-append (p ∷ ps) qs h k between =
    ((λ r i. go r (Contains-append_cases ps qs r i)), ascending-append ps qs h.1 k (λ x y i j. between x y (Contains-later p x ps i) j))
  where
    go : (r : Probe) → Contains ps r ⊎ Contains qs r → ComesBefore p r
    go r (inl i) = h.0 r i
    go r (inr j) = between p r (Contains-here p ps) j

-- ---- ranges

pub in_range : (a n k : ℕ) → Contains (range_with_len a n) k → (a ≤ k) × (k < a + n)
in_range a zero k h = absurd (Contains-none k h)
in_range a (suc n) k h = go (Contains-cases a k (range_with_len (a + 1) n) h) (in_range (a + 1) n k)
  where
    go : (a ≡ k) ⊎ Contains (range_with_len (a + 1) n) k → (Contains (range_with_len (a + 1) n) k → (a + 1 ≤ k) × (k < a + 1 + n))
        → (a ≤ k) × (k < a + suc n)
    go (inl e) rest = (omega arith, omega arith)
    go (inr i) rest = let r = rest i in let low = r.0 in let high = r.1 in (omega arith, omega arith)

pub range_has : (a n k : ℕ) → a ≤ k → k < a + n → Contains (range_with_len a n) k
range_has a zero k low high = absurd (omega arith)
range_has a (suc n) k low high = go (cases_eq a k) (λ le. range_has (a + 1) n k le (omega arith))
  where
    go : (a ≡ k) ⊎ (a ≢ k) → (a + 1 ≤ k → Contains (range_with_len (a + 1) n) k) → Contains (range_with_len a (suc n)) k
    go (inl e) rest = subst (Contains (range_with_len a (suc n))) e (Contains-here a (range_with_len (a + 1) n))
    go (inr d) rest = Contains-later a k (range_with_len (a + 1) n) (rest (omega arith))

-- ---- all moments of some cycles and bits

-- the bits of a cycle
abbrev pub moments_in : ℕ → ℕ → List Probe
moments_in bits t = map (moment t) (range_with_len 0 bits)

-- those of all cycles
abbrev pub all_moments : ℕ → ℕ → List Probe
all_moments bits cycles = flat_map (moments_in bits) (range_with_len 0 cycles)

row_ascends : (t a n : ℕ) → AreAscending (map (moment t) (range_with_len a n))
row_ascends t a zero = tt
row_ascends t a (suc n) = ((λ q i. later q i), row_ascends t (a + 1) n)
  where
    later : (q : Probe) → Contains (map (moment t) (range_with_len (a + 1) n)) q → ComesBefore (moment t a) q
    later q i =
        let s = image_of_map (moment t) (range_with_len (a + 1) n) q i in
        let r = (in_range (a + 1) n s.source s.listed).0 in
        subst (ComesBefore (moment t a)) s.image (inr (refl, omega arith))

-- what a list of all moments has
pub record IsMomentOf (bits from cycles : ℕ) (p : Probe) : Type 0 where
  pub bit : p.bit < bits
  pub begun : from ≤ p.cycle
  pub cycle : p.cycle < from + cycles

moment_from : (bits from cycles : ℕ) (p : Probe) → Contains (flat_map (moments_in bits) (range_with_len from cycles)) p → IsMomentOf bits from cycles p
moment_from bits from cycles p h =
    let s = joined_of_flat_map (moments_in bits) (range_with_len from cycles) p h in
    let r = image_of_map (moment s.source) (range_with_len 0 bits) p s.member in
    let in_row = in_range 0 bits r.source r.listed in
    let in_run = in_range from cycles s.source s.listed in
    let b : r.source ≡ p.bit = ap (λ (q : Probe). q.bit) r.image in
    let c : s.source ≡ p.cycle = ap (λ (q : Probe). q.cycle) r.image in
    record {
      bit = (let h = in_row.1 in omega arith);
      begun = (let h = in_run.0 in omega arith);
      cycle = (let h = in_run.1 in omega arith);
    }

pub moment_of : (bits cycles : ℕ) (p : Probe) → Contains (all_moments bits cycles) p → IsMomentOf bits 0 cycles p
moment_of bits cycles p h = moment_from bits 0 cycles p h

pub has_moment : (bits cycles : ℕ) (p : Probe) → p.bit < bits → p.cycle < cycles → Contains (all_moments bits cycles) p
has_moment bits cycles p b c =
    Contains-flat_map (moments_in bits) (range_with_len 0 cycles) p.cycle p (range_has 0 cycles p.cycle (omega arith) (omega arith))
    (Contains-map (moment p.cycle) (range_with_len 0 bits) p.bit (range_has 0 bits p.bit (omega arith) (omega arith)))

rows_ascend : (bits from cycles : ℕ) → AreAscending (flat_map (moments_in bits) (range_with_len from cycles))
rows_ascend bits from zero = tt
rows_ascend bits from (suc n) =
    ascending-append (moments_in bits from) (flat_map (moments_in bits) (range_with_len (from + 1) n)) (row_ascends from 0 bits)
    (rows_ascend bits (from + 1) n) between
  where
    between : (p q : Probe) → Contains (moments_in bits from) p → Contains (flat_map (moments_in bits) (range_with_len (from + 1) n)) q → ComesBefore p q
    between p q i j =
        let s = image_of_map (moment from) (range_with_len 0 bits) p i in
        let c : from ≡ p.cycle = ap (λ (r : Probe). r.cycle) s.image in
        let later = (moment_from bits (from + 1) n q j).begun in
        inl (omega arith)

pub moments_ascend : (bits cycles : ℕ) → AreAscending (all_moments bits cycles)
moments_ascend bits cycles = rows_ascend bits 0 cycles

-- the moments that are chosen, where all of them are of the bits and cycles
pub listed_moments : (bits cycles : ℕ) (choice : Probe → Bool) (shown : List Probe) → AreAscending shown
    → ((p : Probe) → Contains shown p → choice p ≡ true) → ((p : Probe) → choice p ≡ true → Contains shown p)
    → ((p : Probe) → choice p ≡ true → (p.bit < bits) × (p.cycle < cycles)) → shown ≡ filter choice (all_moments bits cycles)
listed_moments bits cycles choice shown up tells has within =
    ascending_same shown (filter choice (all_moments bits cycles)) up (ascending-filter choice (all_moments bits cycles) (moments_ascend bits cycles))
    (λ p i. (let e = tells p i in let w = within p e in filter-member choice (all_moments bits cycles) p (has_moment bits cycles p w.0 w.1) e))
    (λ p i. has p (member-filter choice (all_moments bits cycles) p i).1)
