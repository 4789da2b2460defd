-- Lists of bits in cycles that ascend: two with the same members are one.
use Rattle.std.proofs.Common.{◌≡◌, ◌⊎◌, inl, inr, List, [], ◌∷◌, ◌++◌, refl, sym, ◌∙◌, ap, subst, arith}
use Rattle.std.specs.Prelude.{Contains}
use Rattle.std.proofs.lemmas.List.Elements.{Contains-append_cases}
use Rattle.coco_base.specs.declared.finding.Probe.{Probe}
use Rattle.coco_model.specs.WrittenFindings.{AreAscending, ComesBefore}
use Rattle.coco_model.proofs.Basics.{Contains-here, Contains-later, Contains-cases, Contains-none}

-- not each of two comes before the other
never_both : (p q : Probe) → ComesBefore p q → ComesBefore q p → ⊥
never_both p q (inl a) (inl b) = omega (arith, a, b)
never_both p q (inl a) (inr b) = let e = b.0 in omega (arith, a, e)
never_both p q (inr a) (inl b) = let e = a.0 in omega (arith, e, b)
never_both p q (inr a) (inr b) = let x = a.1 in let y = b.1 in omega (arith, x, y)

-- the heads of two such lists with the same members are one
same_head : (p q : Probe) (ps qs : List Probe) → AreAscending (p ∷ ps) → AreAscending (q ∷ qs)
    → (p ≡ q) ⊎ Contains qs p → (q ≡ p) ⊎ Contains ps q → p ≡ q
same_head p q ps qs up_p up_q (inl e) other = e
same_head p q ps qs up_p up_q (inr i) (inl e) = sym e
same_head p q ps qs up_p up_q (inr i) (inr j) = absurd (never_both p q (up_p.0 q j) (up_q.0 p i))

-- a member that is not the head stands behind it
behind : (p r : Probe) (ps qs : List Probe) → AreAscending (p ∷ ps) → Contains ps r → (p ≡ r) ⊎ Contains qs r → Contains qs r
behind p r ps qs up i (inl e) = absurd (never_both p p (up.0 p (subst (Contains ps) (sym e) i)) (up.0 p (subst (Contains ps) (sym e) i)))
behind p r ps qs up i (inr j) = j

-- two such lists with the same members are one
pub same_list : (ps qs : List Probe) → AreAscending ps → AreAscending qs
    → ((r : Probe) → Contains ps r → Contains qs r) → ((r : Probe) → Contains qs r → Contains ps r) → ps ≡ qs
same_list [] [] up_p up_q into from = refl
same_list [] (q ∷ qs) up_p up_q into from = absurd (Contains-none q (from q (Contains-here q qs)))
same_list (p ∷ ps) [] up_p up_q into from = absurd (Contains-none p (into p (Contains-here p ps)))
same_list (p ∷ ps) (q ∷ qs) up_p up_q into from =
    ap (λ (r : Probe). r ∷ ps) head ∙ ap (λ (rs : List Probe). q ∷ rs) (same_list ps qs up_p.1 up_q.1 there back)
  where
    head : p ≡ q
    head = same_head p q ps qs up_p up_q
        (flip q p qs (Contains-cases q p qs (into p (Contains-here p ps))))
        (flip p q ps (Contains-cases p q ps (from q (Contains-here q qs))))
      where
        flip : (a b : Probe) (cs : List Probe) → (a ≡ b) ⊎ Contains cs b → (b ≡ a) ⊎ Contains cs b
        flip a b cs (inl e) = inl (sym e)
        flip a b cs (inr i) = inr i

    there : (r : Probe) → Contains ps r → Contains qs r
    there r i = behind p r ps qs up_p i (turn (Contains-cases q r qs (into r (Contains-later p r ps i))))
      where
        turn : (q ≡ r) ⊎ Contains qs r → (p ≡ r) ⊎ Contains qs r
        turn (inl e) = inl (head ∙ e)
        turn (inr j) = inr j

    back : (r : Probe) → Contains qs r → Contains ps r
    back r i = behind q r qs ps up_q i (turn (Contains-cases p r ps (from r (Contains-later q r qs i))))
      where
        turn : (p ≡ r) ⊎ Contains ps r → (q ≡ r) ⊎ Contains ps r
        turn (inl e) = inl (sym head ∙ e)
        turn (inr j) = inr j

-- two such lists, one behind the other
pub ascending_joined : (ps qs : List Probe) → AreAscending ps → AreAscending qs
    → ((p q : Probe) → Contains ps p → Contains qs q → ComesBefore p q) → AreAscending (ps ++ qs)
ascending_joined [] qs up_p up_q before = up_q
ascending_joined (p ∷ ps) qs up_p up_q before = (
  (λ r h. first r (Contains-append_cases ps qs r h)),
  ascending_joined ps qs up_p.1 up_q (λ a b i j. before a b (Contains-later p a ps i) j),
)
  where
    first : (r : Probe) → Contains ps r ⊎ Contains qs r → ComesBefore p r
    first r (inl i) = up_p.0 r i
    first r (inr j) = before p r (Contains-here p ps) j
