-- Probes in ascending order.
use Rattle.std.proofs.Common.{◌≡◌, suc, ◌<◌, ◌≤◌, ◌⊎◌, inl, inr, Bool, List, [], ◌∷◌, map, length, refl, sym, ◌∙◌, ap, subst, arith}
use Rattle.std.specs.Prelude.{Contains}
use Rattle.std.proofs.lemmas.Bool.{cases_lt}
use Rattle.coco_base.specs.declared.finding.Probe.{Probe}
use Rattle.coco_model.specs.Cells.{xor}
use Rattle.coco_model.specs.Netlist.{HasNoRepeat}
use Rattle.coco_model.specs.Labels.{parity}
use Rattle.coco_model.specs.WrittenFindings.{ComesBefore, AreAscending}
use Rattle.coco_model.proofs.Basics.{Contains-here, Contains-later, Contains-cases, Contains-none}
use Rattle.coco_model.proofs.Bits.{xor-swap}

-- one of two probes comes first, or they are one
order_of : (p q : Probe) → ComesBefore p q ⊎ (ComesBefore q p ⊎ (p ≡ q))
order_of p q = go (cases_lt p.cycle q.cycle) (cases_lt q.cycle p.cycle)
  where
    go : (p.cycle < q.cycle) ⊎ (q.cycle ≤ p.cycle) → (q.cycle < p.cycle) ⊎ (p.cycle ≤ q.cycle)
        → ComesBefore p q ⊎ (ComesBefore q p ⊎ (p ≡ q))
    go (inl h) other = inl (inl h)
    go (inr h) (inl k) = inr (inl (inl k))
    go (inr h) (inr k) = bits (cases_lt p.bit q.bit) (cases_lt q.bit p.bit)
      where
        same : p.cycle ≡ q.cycle
        same = omega arith

        bits : (p.bit < q.bit) ⊎ (q.bit ≤ p.bit) → (q.bit < p.bit) ⊎ (p.bit ≤ q.bit) → ComesBefore p q ⊎ (ComesBefore q p ⊎ (p ≡ q))
        bits (inl l) other = inl (inr (same, l))
        bits (inr l) (inl m) = inr (inl (inr (sym same, m)))
        bits (inr l) (inr m) = let e : p.bit ≡ q.bit = omega arith in inr (inr (λ i. record { bit = e i; cycle = same i }))

comes_after_all : (p q r : Probe) → ComesBefore p q → ComesBefore q r → ComesBefore p r
comes_after_all p q r (inl h) (inl k) = inl (omega arith)
comes_after_all p q r (inl h) (inr k) = inl (let e = k.0 in omega arith)
comes_after_all p q r (inr h) (inl k) = inl (let e = h.0 in omega arith)
comes_after_all p q r (inr h) (inr k) = inr (h.0 ∙ k.0, (let a = h.1 in let b = k.1 in omega arith))

not_before_itself : (p : Probe) → ComesBefore p p → ⊥
not_before_itself p (inl h) = omega arith
not_before_itself p (inr h) = let k = h.1 in omega arith

pub ascending_once : (ps : List Probe) → AreAscending ps → HasNoRepeat ps
ascending_once [] h = tt
ascending_once (p ∷ ps) h = ((λ i. not_before_itself p (h.0 p i)), ascending_once ps h.1)

-- a list in ascending order with one more member
pub record IsInserted (p : Probe) (ps qs : List Probe) : Type 0 where
  pub ascending : AreAscending qs
  pub longer : length qs ≡ suc (length ps)
  pub new : Contains qs p
  pub old : (q : Probe) → Contains ps q → Contains qs q
  pub from : (q : Probe) → Contains qs q → (p ≡ q) ⊎ Contains ps q
  pub parities : (f : Probe → Bool) → parity (map f qs) ≡ xor (f p) (parity (map f ps))

insert_in : (p : Probe) (ps : List Probe) → AreAscending ps → (Contains ps p → ⊥) → (qs : List Probe) × IsInserted p ps qs
insert_in p [] h n = (
  p ∷ [],
  record {
    ascending = ((λ q i. absurd (Contains-none q i)), tt);
    longer = refl;
    new = Contains-here p [];
    old = λ q i. absurd (Contains-none q i);
    from = λ q i. Contains-cases p q [] i;
    parities = λ f. refl;
  },
)
insert_in p (q ∷ ps) h n = go (order_of p q) (insert_in p ps h.1 (λ i. n (Contains-later q p ps i)))
  where
    go : ComesBefore p q ⊎ (ComesBefore q p ⊎ (p ≡ q)) → (rs : List Probe) × IsInserted p ps rs
        → (qs : List Probe) × IsInserted p (q ∷ ps) qs
    go (inr (inr e)) rest = absurd (n (subst (λ x. Contains (q ∷ ps) x) (sym e) (Contains-here q ps)))
    go (inl first) rest = (
      p ∷ q ∷ ps,
      record {
        ascending = ((λ r i. front r (Contains-cases q r ps i)), h);
        longer = refl;
        new = Contains-here p (q ∷ ps);
        old = λ r i. Contains-later p r (q ∷ ps) i;
        from = λ r i. Contains-cases p r (q ∷ ps) i;
        parities = λ f. refl;
      },
    )
      where
        front : (r : Probe) → (q ≡ r) ⊎ Contains ps r → ComesBefore p r
        front r (inl e) = subst (ComesBefore p) e first
        front r (inr i) = comes_after_all p q r first (h.0 r i)
    go (inr (inl second)) (rs, is) = (
      q ∷ rs,
      record {
        ascending = ((λ r i. front r (is.from r i)), is.ascending);
        longer = let e = is.longer in omega arith;
        new = Contains-later q p rs is.new;
        old = λ r i. kept r (Contains-cases q r ps i);
        from = λ r i. back r (Contains-cases q r rs i);
        parities = λ f. ap (xor (f q)) (is.parities f) ∙ xor-swap (f q) (f p) (parity (map f ps));
      },
    )
      where
        front : (r : Probe) → (p ≡ r) ⊎ Contains ps r → ComesBefore q r
        front r (inl e) = subst (ComesBefore q) e second
        front r (inr i) = h.0 r i

        kept : (r : Probe) → (q ≡ r) ⊎ Contains ps r → Contains (q ∷ rs) r
        kept r (inl e) = subst (Contains (q ∷ rs)) e (Contains-here q rs)
        kept r (inr i) = Contains-later q r rs (is.old r i)

        later : (r : Probe) → (p ≡ r) ⊎ Contains ps r → (p ≡ r) ⊎ Contains (q ∷ ps) r
        later r (inl e) = inl e
        later r (inr i) = inr (Contains-later q r ps i)

        back : (r : Probe) → (q ≡ r) ⊎ Contains rs r → (p ≡ r) ⊎ Contains (q ∷ ps) r
        back r (inl e) = inr (subst (Contains (q ∷ ps)) e (Contains-here q ps))
        back r (inr i) = later r (is.from r i)

-- the same members in ascending order
pub record HasSorted (ps : List Probe) : Type 0 where
  pub probes : List Probe
  pub ascending : AreAscending probes
  pub as_long : length probes ≡ length ps
  pub into : (p : Probe) → Contains ps p → Contains probes p
  pub from : (p : Probe) → Contains probes p → Contains ps p
  pub parities : (f : Probe → Bool) → parity (map f probes) ≡ parity (map f ps)

pub sorted : (ps : List Probe) → HasNoRepeat ps → HasSorted ps
sorted [] h = record { probes = []; ascending = tt; as_long = refl; into = λ p i. i; from = λ p i. i; parities = λ f. refl }
sorted (q ∷ ps) h = go (sorted ps h.1)
  where
    go : HasSorted ps → HasSorted (q ∷ ps)
    go r = put (insert_in q r.probes r.ascending (λ i. h.0 (r.from q i)))
      where
        put : (qs : List Probe) × IsInserted q r.probes qs → HasSorted (q ∷ ps)
        put (qs, is) = record {
          probes = qs;
          ascending = is.ascending;
          as_long = let e = is.longer in let f = r.as_long in omega arith;
          into = λ p i. into p (Contains-cases q p ps i);
          from = λ p i. from p (is.from p i);
          parities = λ f. is.parities f ∙ ap (xor (f q)) (r.parities f);
        }
          where
            into : (p : Probe) → (q ≡ p) ⊎ Contains ps p → Contains qs p
            into p (inl e) = subst (Contains qs) e is.new
            into p (inr i) = is.old p (r.into p i)

            from : (p : Probe) → (q ≡ p) ⊎ Contains r.probes p → Contains (q ∷ ps) p
            from p (inl e) = subst (Contains (q ∷ ps)) e (Contains-here q ps)
            from p (inr i) = Contains-later q p ps (r.from p i)
