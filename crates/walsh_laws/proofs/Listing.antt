-- The members of a set of numbers as a list, and lists without repeats.
use Rattle.std.proofs.Common.{◌≡◌, ◌≢◌, ℕ, zero, suc, ◌<◌, ◌≤◌, ◌⊎◌, inl, inr, Bool, true, false, cond, List, [], ◌∷◌, map, length, refl, ap, subst, arith}
use Rattle.std.specs.Prelude.{Contains}
use Rattle.std.proofs.lemmas.Bool.{cases_Bool, cases_eq, false≢true}
use Rattle.coco_base.specs.declared.finding.Probe.{Probe}
use Rattle.coco_model.specs.Netlist.{HasNoRepeat}
use Rattle.coco_model.specs.Labels.{parity}
use Rattle.coco_model.proofs.Basics.{Contains-here, Contains-later, Contains-cases, Contains-none, HasMember}
use Rattle.model_laws.proofs.Lists.{some_or_none}
use Rattle.walsh_laws.specs.Sums.{parity_below}

-- what the members of a set below n have
abbrev pub listing : {X : Type 0} → (ℕ → Bool) → (ℕ → X) → ℕ → List X
listing members f zero = []
listing members f (suc n) = cond (members n) (f n ∷ listing members f n) (listing members f n)

pub record IsListed {X : Type 0} (members : ℕ → Bool) (f : ℕ → X) (n : ℕ) (x : X) : Type 0 where
  pub number : ℕ
  pub below : number < n
  pub member : members number ≡ true
  pub is : f number ≡ x

pub listing-member : {X : Type 0} (members : ℕ → Bool) (f : ℕ → X) (n : ℕ) (x : X) → Contains (listing members f n) x
    → IsListed members f n x
listing-member members f zero x h = absurd (Contains-none x h)
listing-member members f (suc n) x h = go (members n) refl h (listing-member members f n x)
  where
    later : IsListed members f n x → IsListed members f (suc n) x
    later r = record { number = r.number; below = let e = r.below in omega arith; member = r.member; is = r.is }

    go : (b : Bool) → members n ≡ b → Contains (cond b (f n ∷ listing members f n) (listing members f n)) x
        → (Contains (listing members f n) x → IsListed members f n x) → IsListed members f (suc n) x
    go false e i rest = later (rest i)
    go true e i rest = first (Contains-cases (f n) x (listing members f n) i)
      where
        first : (f n ≡ x) ⊎ Contains (listing members f n) x → IsListed members f (suc n) x
        first (inl k) = record { number = n; below = omega arith; member = e; is = k }
        first (inr j) = later (rest j)

pub listing-once : {X : Type 0} (members : ℕ → Bool) (f : ℕ → X) → ((i j : ℕ) → members i ≡ true → members j ≡ true → f i ≡ f j → i ≡ j)
    → (n : ℕ) → HasNoRepeat (listing members f n)
listing-once members f one zero = tt
listing-once members f one (suc n) = go (members n) refl (listing-once members f one n)
  where
    go : (b : Bool) → members n ≡ b → HasNoRepeat (listing members f n)
        → HasNoRepeat (cond b (f n ∷ listing members f n) (listing members f n))
    go false e rest = rest
    go true e rest = (
      (λ h. let r = listing-member members f n (f n) h in let k = one r.number n r.member e r.is in let b = r.below in
          omega arith),
      rest,
    )

pub listing-parity : {X : Type 0} (members : ℕ → Bool) (f : ℕ → X) (g : X → Bool) (n : ℕ)
    → parity (map g (listing members f n)) ≡ parity_below n members (λ i. g (f i))
listing-parity members f g zero = refl
listing-parity members f g (suc n) = go (members n) refl (listing-parity members f g n)
  where
    go : (b : Bool) → members n ≡ b → parity (map g (listing members f n)) ≡ parity_below n members (λ i. g (f i))
        → parity (map g (cond b (f n ∷ listing members f n) (listing members f n))) ≡ parity_below (suc n) members (λ i. g (f i))
    go true e rest = rw (e, rest) refl
    go false e rest = rw (e, rest) refl

-- a member of a set whose exclusive or is 1
pub parity-some : (n : ℕ) (members v : ℕ → Bool) → parity_below n members v ≡ true → (i : ℕ) × (i < n) × (members i ≡ true)
parity-some zero members v e = absurd (false≢true e)
parity-some (suc n) members v e = go (cases_Bool (members n)) (parity-some n members v)
  where
    go : (members n ≡ true) ⊎ (members n ≡ false) → (parity_below n members v ≡ true → (i : ℕ) × (i < n) × (members i ≡ true))
        → (i : ℕ) × (i < suc n) × (members i ≡ true)
    go (inl m) rest = (n, omega arith, m)
    go (inr m) rest = let r = rest (rw m at e) in (r.0, (let b = r.1 in omega arith), r.2)

-- probes without repeats
Probe_same : (p q : Probe) → (p ≡ q) ⊎ (p ≢ q)
Probe_same p q = go (cases_eq p.bit q.bit) (cases_eq p.cycle q.cycle)
  where
    go : (p.bit ≡ q.bit) ⊎ (p.bit ≢ q.bit) → (p.cycle ≡ q.cycle) ⊎ (p.cycle ≢ q.cycle) → (p ≡ q) ⊎ (p ≢ q)
    go (inl e) (inl f) = inl (λ i. record { bit = e i; cycle = f i })
    go (inr n) other = inr (λ e. n (ap (λ (r : Probe). r.bit) e))
    go (inl e) (inr n) = inr (λ e. n (ap (λ (r : Probe). r.cycle) e))

probe_in_or_not : (ps : List Probe) (p : Probe) → Contains ps p ⊎ (Contains ps p → ⊥)
probe_in_or_not ps p = go (some_or_none (λ q. q ≡ p) (λ q. Probe_same q p) ps)
  where
    go : HasMember (λ q. q ≡ p) ps ⊎ ((q : Probe) → Contains ps q → q ≡ p → ⊥) → Contains ps p ⊎ (Contains ps p → ⊥)
    go (inl s) = inl (subst (Contains ps) s.holds s.listed)
    go (inr none) = inr (λ h. none p h refl)

-- a list of probes without repeats that has the same members
pub record IsOnce (ps : List Probe) : Type 0 where
  pub probes : List Probe
  pub once : HasNoRepeat probes
  pub fewer : length probes ≤ length ps
  pub into : (p : Probe) → Contains ps p → Contains probes p
  pub from : (p : Probe) → Contains probes p → Contains ps p

pub once_of : (ps : List Probe) → IsOnce ps
once_of [] = record { probes = []; once = tt; fewer = omega arith; into = λ p h. h; from = λ p h. h }
once_of (q ∷ ps) = go (once_of ps)
  where
    go : IsOnce ps → IsOnce (q ∷ ps)
    go r = pick (probe_in_or_not r.probes q)
      where
        pick : Contains r.probes q ⊎ (Contains r.probes q → ⊥) → IsOnce (q ∷ ps)
        pick (inl h) = record {
          probes = r.probes;
          once = r.once;
          fewer = let e = r.fewer in omega arith;
          into = λ p i. into p (Contains-cases q p ps i);
          from = λ p i. Contains-later q p ps (r.from p i);
        }
          where
            into : (p : Probe) → (q ≡ p) ⊎ Contains ps p → Contains r.probes p
            into p (inl e) = subst (Contains r.probes) e h
            into p (inr i) = r.into p i
        pick (inr n) = record {
          probes = q ∷ r.probes;
          once = (n, r.once);
          fewer = let e = r.fewer in omega arith;
          into = λ p i. into p (Contains-cases q p ps i);
          from = λ p i. from p (Contains-cases q p r.probes i);
        }
          where
            into : (p : Probe) → (q ≡ p) ⊎ Contains ps p → Contains (q ∷ r.probes) p
            into p (inl e) = subst (Contains (q ∷ r.probes)) e (Contains-here q r.probes)
            into p (inr i) = Contains-later q p r.probes (r.into p i)

            from : (p : Probe) → (q ≡ p) ⊎ Contains r.probes p → Contains (q ∷ ps) p
            from p (inl e) = subst (Contains (q ∷ ps)) e (Contains-here q ps)
            from p (inr i) = Contains-later q p ps (r.from p i)
