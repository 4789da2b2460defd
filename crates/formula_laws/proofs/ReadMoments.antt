-- The moments that values choose, as a list by cycle and then by bit.
use Rattle.std.proofs.Common.{◌≡◌, ℕ, zero, suc, ◌+◌, ◌<◌, ◌≤◌, Bool, true, false, cond, List, [], ◌∷◌, ◌++◌, map, filter, length, refl, sym, ap, ◌∙◌, subst, arith, ◌⊎◌, inl, inr}
use Rattle.std.specs.Prelude.{Contains}
use Rattle.std.specs.List.{range_with_len}
use Rattle.std.proofs.lemmas.Bool.{cases_lt, cases_Bool, false≢true}
use Rattle.std.proofs.lemmas.List.{get_or_past}
use Rattle.std.proofs.lemmas.List.Elements.{Contains-append_left, Contains-append_right, Contains-append_cases}
use Rattle.coco_base.specs.declared.finding.Probe.{Probe}
use Rattle.coco_model.specs.WrittenFindings.{ComesBefore, AreAscending}
use Rattle.coco_model.proofs.Basics.{Contains-here, Contains-later, Contains-cases, Contains-none}
use Rattle.model_laws.proofs.Lists.{Contains-map, image_of_map, IsImage}
use Rattle.circuit_clauses.specs.declared.signal.Signal.{Signal}
use Rattle.circuit_clauses.specs.declared.signal.Signal.TheVariants.{Constant}
use Rattle.circuit_clauses.specs.Signals.{value}
use Rattle.clause_builds.specs.Rows.{signal_at}
use Rattle.probe_clauses.specs.Rows.{at}
use Rattle.probe_laws.specs.Showing.{chosen}
use Rattle.probe_encode.specs.Readings.{moment, true_places, true_moments}
use Rattle.formula_laws.specs.Probes.{AreListed}

-- ---- numbers of a range at which a test holds

abbrev kept : (ℕ → Bool) → ℕ → ℕ → List ℕ
kept p a n = filter p (range_with_len a n)

-- a number of a range at which a test holds
pub record IsKept (p : ℕ → Bool) (a n x : ℕ) : Type 0 where
  pub from : a ≤ x
  pub to : x < a + n
  pub holds : p x ≡ true

pub kept_is : (p : ℕ → Bool) (a n x : ℕ) → Contains (kept p a n) x → IsKept p a n x
kept_is p a zero x h = absurd (Contains-none x h)
kept_is p a (suc n) x h = go (λ k. kept_is p (a + 1) n x k) (cases_Bool (p a))
  where
    later : (Contains (kept p (a + 1) n) x → IsKept p (a + 1) n x) → Contains (kept p (a + 1) n) x → IsKept p a (suc n) x
    later rest k = let r = rest k in record { from = (let l = r.from in omega arith); to = (let l = r.to in omega arith); holds = r.holds }

    here : (Contains (kept p (a + 1) n) x → IsKept p (a + 1) n x) → p a ≡ true → (a ≡ x) ⊎ Contains (kept p (a + 1) n) x → IsKept p a (suc n) x
    here rest e (inl f) = record { from = omega (arith, f); to = omega (arith, f); holds = subst (λ y. p y ≡ true) f e }
    here rest e (inr k) = later rest k

    go : (Contains (kept p (a + 1) n) x → IsKept p (a + 1) n x) → (p a ≡ true) ⊎ (p a ≡ false) → IsKept p a (suc n) x
    go rest (inl e) = here rest e (Contains-cases a x (kept p (a + 1) n) (subst (λ b. Contains (cond b (a ∷ kept p (a + 1) n) (kept p (a + 1) n)) x) e h))
    go rest (inr e) = later rest (subst (λ b. Contains (cond b (a ∷ kept p (a + 1) n) (kept p (a + 1) n)) x) e h)

pub is_kept : (p : ℕ → Bool) (a n x : ℕ) → IsKept p a n x → Contains (kept p a n) x
is_kept p a zero x k = absurd (let l = k.from in let m = k.to in omega arith)
is_kept p a (suc n) x k =
    go (λ lt. is_kept p (a + 1) n x (record { from = omega arith; to = (let l = k.to in omega arith); holds = k.holds })) (cases_lt a x)
  where
    whole : (b : Bool) → Contains (kept p (a + 1) n) x → Contains (cond b (a ∷ kept p (a + 1) n) (kept p (a + 1) n)) x
    whole true m = Contains-later a x (kept p (a + 1) n) m
    whole false m = m

    same : a ≡ x → Contains (cond (p a) (a ∷ kept p (a + 1) n) (kept p (a + 1) n)) x
    same e = subst (λ b. Contains (cond b (a ∷ kept p (a + 1) n) (kept p (a + 1) n)) x) (sym (subst (λ y. p y ≡ true) (sym e) k.holds))
        (subst (λ y. Contains (a ∷ kept p (a + 1) n) y) e (Contains-here a (kept p (a + 1) n)))

    go : (a < x → Contains (kept p (a + 1) n) x) → (a < x) ⊎ (x ≤ a) → Contains (cond (p a) (a ∷ kept p (a + 1) n) (kept p (a + 1) n)) x
    go rest (inl lt) = whole (p a) (rest lt)
    go rest (inr le) = same (let l = k.from in omega arith)

-- ---- the moments of one cycle

before_all : (t a : ℕ) (xs : List ℕ) → ((x : ℕ) → Contains xs x → a < x) → (q : Probe) → Contains (map (moment t) xs) q → ComesBefore (moment t a) q
before_all t a xs above q h = go (image_of_map (moment t) xs q h)
  where
    go : IsImage (moment t) xs q → ComesBefore (moment t a) q
    go i = subst (ComesBefore (moment t a)) i.image (inr (refl, above i.source i.listed))

cycle_ascends : (t : ℕ) (p : ℕ → Bool) (a n : ℕ) → AreAscending (map (moment t) (kept p a n))
cycle_ascends t p a zero = tt
cycle_ascends t p a (suc n) = go (p a) (cycle_ascends t p (a + 1) n)
  where
    go : (b : Bool) → AreAscending (map (moment t) (kept p (a + 1) n)) → AreAscending (map (moment t) (cond b (a ∷ kept p (a + 1) n) (kept p (a + 1) n)))
    go true rest = (before_all t a (kept p (a + 1) n) (λ x k. (let r = kept_is p (a + 1) n x k in let l = r.from in omega arith)), rest)
    go false rest = rest

ascends-append : (xs ys : List Probe) → AreAscending xs → AreAscending ys
    → ((x y : Probe) → Contains xs x → Contains ys y → ComesBefore x y) → AreAscending (xs ++ ys)
ascends-append [] ys h k before = k
ascends-append (x ∷ xs) ys h k before =
    (λ q m. go q (Contains-append_cases xs ys q m), ascends-append xs ys h.1 k (λ y z i j. before y z (Contains-later x y xs i) j))
  where
    go : (q : Probe) → Contains xs q ⊎ Contains ys q → ComesBefore x q
    go q (inl i) = h.0 q i
    go q (inr j) = before x q (Contains-here x xs) j

-- ---- the moments of rows

-- a moment of rows whose signal is true; t is the cycle of the first row
record IsTrueMoment (values : ℕ → Bool) (t : ℕ) (rows : List (List Signal)) (q : Probe) : Type 0 where
  row : ℕ
  cycle : q.cycle ≡ t + row
  true_there : value values (at rows row q.bit) ≡ true

bit_within : (values : ℕ → Bool) (row : List Signal) (b : ℕ) → value values (signal_at row b) ≡ true → b < length row
bit_within values row b e = elim (cases_lt b (length row)) [
  | inl lt ↦ lt
  | inr past ↦ absurd (false≢true (sym (ap (value values) (get_or_past row b (Constant false) past)) ∙ e))
]

moments_are : (values : ℕ → Bool) (t : ℕ) (rows : List (List Signal)) (q : Probe) → Contains (true_moments values t rows) q → IsTrueMoment values t rows q
moments_are values t [] q h = absurd (Contains-none q h)
moments_are values t (row ∷ rows) q h = go (λ j. moments_are values (t + 1) rows q j) (Contains-append_cases (map (moment t) (true_places values row)) (true_moments values (t + 1) rows) q h)
  where
    first : IsImage (moment t) (true_places values row) q → IsTrueMoment values t (row ∷ rows) q
    first i = subst (IsTrueMoment values t (row ∷ rows)) i.image (record {
      row = 0;
      cycle = omega arith;
      true_there = (kept_is (λ b. value values (signal_at row b)) 0 (length row) i.source i.listed).holds;
    })

    go : (Contains (true_moments values (t + 1) rows) q → IsTrueMoment values (t + 1) rows q)
        → Contains (map (moment t) (true_places values row)) q ⊎ Contains (true_moments values (t + 1) rows) q → IsTrueMoment values t (row ∷ rows) q
    go rest (inl i) = first (image_of_map (moment t) (true_places values row) q i)
    go rest (inr j) = let r = rest j in record { row = suc r.row; cycle = (let e = r.cycle in omega arith); true_there = r.true_there }

are_moments : (values : ℕ → Bool) (t k b : ℕ) (rows : List (List Signal)) → value values (at rows k b) ≡ true
    → Contains (true_moments values t rows) (moment (t + k) b)
are_moments values t k b [] e = absurd (false≢true e)
are_moments values t zero b (row ∷ rows) e =
    Contains-append_left (map (moment t) (true_places values row)) (true_moments values (t + 1) rows) (moment (t + zero) b)
    (subst (λ c. Contains (map (moment t) (true_places values row)) (moment c b)) (omega arith)
    (Contains-map (moment t) (true_places values row) b
    (is_kept (λ c. value values (signal_at row c)) 0 (length row) b (record { from = omega arith; to = (let w = bit_within values row b e in omega arith); holds = e }))))
are_moments values t (suc k) b (row ∷ rows) e =
    Contains-append_right (map (moment t) (true_places values row)) (true_moments values (t + 1) rows) (moment (t + suc k) b)
    (subst (λ c. Contains (true_moments values (t + 1) rows) (moment c b)) (omega arith) (are_moments values (t + 1) k b rows e))

moments_ascend : (values : ℕ → Bool) (t : ℕ) (rows : List (List Signal)) → AreAscending (true_moments values t rows)
moments_ascend values t [] = tt
moments_ascend values t (row ∷ rows) =
    ascends-append (map (moment t) (true_places values row)) (true_moments values (t + 1) rows)
    (cycle_ascends t (λ b. value values (signal_at row b)) 0 (length row)) (moments_ascend values (t + 1) rows)
    (λ x y i j. go x y (image_of_map (moment t) (true_places values row) x i) (moments_are values (t + 1) rows y j))
  where
    go : (x y : Probe) → IsImage (moment t) (true_places values row) x → IsTrueMoment values (t + 1) rows y → ComesBefore x y
    go x y i r = subst (λ z. ComesBefore z y) i.image (inl (let e = r.cycle in omega arith))

pub moments_listed : (values : ℕ → Bool) (rows : List (List Signal)) → AreListed (chosen values rows) (true_moments values 0 rows)
moments_listed values rows = record {
  ascending = moments_ascend values 0 rows;
  members = λ p. (λ h. to p (moments_are values 0 rows p h), λ e. from p (are_moments values 0 p.cycle p.bit rows e));
}
  where
    to : (p : Probe) → IsTrueMoment values 0 rows p → chosen values rows p.cycle p.bit ≡ true
    to p r =
        let e : p.cycle ≡ r.row = (let c = r.cycle in omega arith) in
        ap (λ t. value values (at rows t p.bit)) e ∙ r.true_there

    from : (p : Probe) → Contains (true_moments values 0 rows) (moment (0 + p.cycle) p.bit) → Contains (true_moments values 0 rows) p
    from p h =
        let e : 0 + p.cycle ≡ p.cycle = omega arith in
        subst (λ t. Contains (true_moments values 0 rows) (moment t p.bit)) e h
