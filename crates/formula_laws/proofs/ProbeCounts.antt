-- A list that stands for a choice has as many members as there are bits chosen.
use Rattle.std.proofs.Common.{◌≡◌, ◌≢◌, ℕ, zero, suc, ◌+◌, ◌<◌, ◌≤◌, ◌⊎◌, inl, inr, Bool, true, false, cond, List, [], ◌∷◌, ◌++◌, length, refl, sym, ◌∙◌, ap, subst, arith}
use Rattle.std.specs.Prelude.{Contains, sum_by, count_by}
use Rattle.std.specs.List.{range_with_len}
use Rattle.std.proofs.lemmas.Bool.{cases_eq}
use Rattle.std.proofs.lemmas.List.{length-append}
use Rattle.std.proofs.lemmas.List.Sums.{sum_by-cons}
use Rattle.std.proofs.lemmas.List.Elements.{Contains-append_cases, Contains-append_left, Contains-append_right}
use Rattle.coco_base.specs.declared.finding.Probe.{Probe}
use Rattle.coco_model.specs.WrittenFindings.{AreAscending, ComesBefore}
use Rattle.coco_model.proofs.Basics.{Contains-here, Contains-later, Contains-cases, Contains-none}
use Rattle.probe_clauses.specs.Probings.{Probing}
use Rattle.probe_laws.specs.Showing.{Choice, IsPlace, count_chosen}
use Rattle.formula_laws.specs.Probes.{AreListed}
use Rattle.formula_laws.proofs.ProbeLists.{same_list, ascending_joined}

abbrev bit_in : ℕ → ℕ → Probe
bit_in t b = record { bit = b; cycle = t }

-- ---- the chosen bits of a cycle, from one bit on so many

abbrev in_cycle : (ℕ → Bool) → ℕ → ℕ → ℕ → List Probe
in_cycle test t a zero = []
in_cycle test t a (suc n) = cond (test a) (bit_in t a ∷ in_cycle test t (a + 1) n) (in_cycle test t (a + 1) n)

record IsInCycle (test : ℕ → Bool) (t a n : ℕ) (p : Probe) : Type 0 where
  cycle : p.cycle ≡ t
  least : a ≤ p.bit
  below : p.bit < a + n
  passes : test p.bit ≡ true

in_cycle-length : (test : ℕ → Bool) (t a n : ℕ) → length (in_cycle test t a n) ≡ count_by test (range_with_len a n)
in_cycle-length test t a zero = refl
in_cycle-length test t a (suc n) =
    one (test a) (in_cycle test t (a + 1) n)
    ∙ (ap (λ k. cond (test a) 1 0 + k) (in_cycle-length test t (a + 1) n)
    ∙ sym (sum_by-cons (λ b. cond (test b) 1 0) a (range_with_len (a + 1) n)))
  where
    one : (v : Bool) (rest : List Probe) → length (cond v (bit_in t a ∷ rest) rest) ≡ cond v 1 0 + length rest
    one true rest = omega arith
    one false rest = omega arith

in_cycle-member : (test : ℕ → Bool) (t a n : ℕ) (p : Probe) → Contains (in_cycle test t a n) p → IsInCycle test t a n p
in_cycle-member test t a zero p h = absurd (Contains-none p h)
in_cycle-member test t a (suc n) p h = go (test a) refl h (λ i. wider (in_cycle-member test t (a + 1) n p i))
  where
    wider : IsInCycle test t (a + 1) n p → IsInCycle test t a (suc n) p
    wider r =
        let l = r.least in let b = r.below in
        record { cycle = r.cycle; least = omega (arith, l); below = omega (arith, b); passes = r.passes }

    go : (v : Bool) → test a ≡ v → Contains (cond v (bit_in t a ∷ in_cycle test t (a + 1) n) (in_cycle test t (a + 1) n)) p
        → (Contains (in_cycle test t (a + 1) n) p → IsInCycle test t a (suc n) p) → IsInCycle test t a (suc n) p
    go true e i later = first (Contains-cases (bit_in t a) p (in_cycle test t (a + 1) n) i)
      where
        first : (bit_in t a ≡ p) ⊎ Contains (in_cycle test t (a + 1) n) p → IsInCycle test t a (suc n) p
        first (inl same) =
            subst (IsInCycle test t a (suc n)) same (record { cycle = refl; least = omega arith; below = omega arith; passes = e })
        first (inr j) = later j
    go false e i later = later i

in_cycle-has : (test : ℕ → Bool) (t a n b : ℕ) → a ≤ b → b < a + n → test b ≡ true → Contains (in_cycle test t a n) (bit_in t b)
in_cycle-has test t a zero b least below e = absurd (omega (arith, least, below))
in_cycle-has test t a (suc n) b least below e =
    go (test a) refl (cases_eq a b) (λ up. in_cycle-has test t (a + 1) n b up (omega (arith, below)) e)
  where
    go : (v : Bool) → test a ≡ v → (a ≡ b) ⊎ (a ≢ b) → (a + 1 ≤ b → Contains (in_cycle test t (a + 1) n) (bit_in t b))
        → Contains (cond v (bit_in t a ∷ in_cycle test t (a + 1) n) (in_cycle test t (a + 1) n)) (bit_in t b)
    go true f (inl same) later =
        subst (λ c. Contains (bit_in t a ∷ in_cycle test t (a + 1) n) (bit_in t c)) same
        (Contains-here (bit_in t a) (in_cycle test t (a + 1) n))
    go true f (inr other) later =
        Contains-later (bit_in t a) (bit_in t b) (in_cycle test t (a + 1) n) (later (omega (arith, least, other)))
    go false f (inl same) later = absurd (let w : false ≡ true = sym f ∙ (ap test same ∙ e) in cc)
    go false f (inr other) later = later (omega (arith, least, other))

in_cycle-ascends : (test : ℕ → Bool) (t a n : ℕ) → AreAscending (in_cycle test t a n)
in_cycle-ascends test t a zero = tt
in_cycle-ascends test t a (suc n) = go (test a) (in_cycle-ascends test t (a + 1) n)
  where
    before : (q : Probe) → Contains (in_cycle test t (a + 1) n) q → ComesBefore (bit_in t a) q
    before q h =
        let r = in_cycle-member test t (a + 1) n q h in
        inr (sym r.cycle, let l = r.least in omega (arith, l))

    go : (v : Bool) → AreAscending (in_cycle test t (a + 1) n)
        → AreAscending (cond v (bit_in t a ∷ in_cycle test t (a + 1) n) (in_cycle test t (a + 1) n))
    go true rest = (before, rest)
    go false rest = rest

-- ---- the chosen bits, from one cycle on so many

abbrev all_chosen : Choice → ℕ → ℕ → ℕ → List Probe
all_chosen choice bits a zero = []
all_chosen choice bits a (suc n) = in_cycle (choice a) a 0 bits ++ all_chosen choice bits (a + 1) n

record IsInRun (choice : Choice) (bits a n : ℕ) (p : Probe) : Type 0 where
  least : a ≤ p.cycle
  below : p.cycle < a + n
  is_chosen : choice p.cycle p.bit ≡ true

all_chosen-length : (choice : Choice) (bits a n : ℕ)
    → length (all_chosen choice bits a n) ≡ sum_by (λ t. count_by (choice t) (range_with_len 0 bits)) (range_with_len a n)
all_chosen-length choice bits a zero = refl
all_chosen-length choice bits a (suc n) =
    let both = length-append (in_cycle (choice a) a 0 bits) (all_chosen choice bits (a + 1) n) in
    let first = in_cycle-length (choice a) a 0 bits in
    let rest = all_chosen-length choice bits (a + 1) n in
    let sum = sum_by-cons (λ t. count_by (choice t) (range_with_len 0 bits)) a (range_with_len (a + 1) n) in
    omega (arith, both, first, rest, sum)

all_chosen-member : (choice : Choice) (bits a n : ℕ) (p : Probe) → Contains (all_chosen choice bits a n) p → IsInRun choice bits a n p
all_chosen-member choice bits a zero p h = absurd (Contains-none p h)
all_chosen-member choice bits a (suc n) p h =
    go (Contains-append_cases (in_cycle (choice a) a 0 bits) (all_chosen choice bits (a + 1) n) p h)
    (λ i. all_chosen-member choice bits (a + 1) n p i)
  where
    go : Contains (in_cycle (choice a) a 0 bits) p ⊎ Contains (all_chosen choice bits (a + 1) n) p
        → (Contains (all_chosen choice bits (a + 1) n) p → IsInRun choice bits (a + 1) n p) → IsInRun choice bits a (suc n) p
    go (inl i) later =
        let r = in_cycle-member (choice a) a 0 bits p i in
        let e = r.cycle in
        record {
          least = omega (arith, e);
          below = omega (arith, e);
          is_chosen = subst (λ t. choice t p.bit ≡ true) (sym e) r.passes;
        }
    go (inr i) later =
        let r = later i in
        let l = r.least in let b = r.below in
        record { least = omega (arith, l); below = omega (arith, b); is_chosen = r.is_chosen }

all_chosen-has : (choice : Choice) (bits a n t b : ℕ) → a ≤ t → t < a + n → b < bits → choice t b ≡ true
    → Contains (all_chosen choice bits a n) (bit_in t b)
all_chosen-has choice bits a zero t b least below bit e = absurd (omega (arith, least, below))
all_chosen-has choice bits a (suc n) t b least below bit e =
    go (cases_eq a t) (λ up. all_chosen-has choice bits (a + 1) n t b up (omega (arith, below)) bit e)
  where
    go : (a ≡ t) ⊎ (a ≢ t) → (a + 1 ≤ t → Contains (all_chosen choice bits (a + 1) n) (bit_in t b))
        → Contains (in_cycle (choice a) a 0 bits ++ all_chosen choice bits (a + 1) n) (bit_in t b)
    go (inl same) later =
        Contains-append_left (in_cycle (choice a) a 0 bits) (all_chosen choice bits (a + 1) n) (bit_in t b)
        (subst (λ c. Contains (in_cycle (choice c) c 0 bits) (bit_in t b)) (sym same)
        (in_cycle-has (choice t) t 0 bits b (omega arith) (omega (arith, bit)) e))
    go (inr other) later =
        Contains-append_right (in_cycle (choice a) a 0 bits) (all_chosen choice bits (a + 1) n) (bit_in t b)
        (later (omega (arith, least, other)))

all_chosen-ascends : (choice : Choice) (bits a n : ℕ) → AreAscending (all_chosen choice bits a n)
all_chosen-ascends choice bits a zero = tt
all_chosen-ascends choice bits a (suc n) =
    ascending_joined (in_cycle (choice a) a 0 bits) (all_chosen choice bits (a + 1) n) (in_cycle-ascends (choice a) a 0 bits)
    (all_chosen-ascends choice bits (a + 1) n) (λ p q i j.
    let r = in_cycle-member (choice a) a 0 bits p i in
    let s = all_chosen-member choice bits (a + 1) n q j in
    let e = r.cycle in let l = s.least in
    inl (omega (arith, e, l)))

-- as many bits are chosen as the list has members
pub count_listed : (run : Probing) (choice : Choice) (list : List Probe) → AreListed choice list
    → ((t b : ℕ) → choice t b ≡ true → IsPlace run t b) → count_chosen run choice ≡ length list
count_listed run choice list listed places =
    sym (all_chosen-length choice run.bits 0 run.cycles)
    ∙ ap (λ (ps : List Probe). length ps)
    (same_list (all_chosen choice run.bits 0 run.cycles) list (all_chosen-ascends choice run.bits 0 run.cycles) listed.ascending
    (λ p h. (listed.members p).1 (all_chosen-member choice run.bits 0 run.cycles p h).is_chosen)
    (λ p h.
    let e = (listed.members p).0 h in
    let place = places p.cycle p.bit e in
    let lt = place.cycle in
    all_chosen-has choice run.bits 0 run.cycles p.cycle p.bit (omega arith) (omega (arith, lt)) place.bit e))
