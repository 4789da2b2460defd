-- The labels in a list, by their number, as a set: where none stands twice, those of the list.
use Rattle.std.proofs.Common.{◌≡◌, ℕ, ◌⊎◌, inl, inr, true, false, List, [], ◌∷◌, map, refl, sym, subst, nat_eq}
use Rattle.std.specs.Prelude.{Contains}
use Rattle.std.proofs.lemmas.Bool.{ne_eqb, eq-eqb}
use Rattle.coco_model.specs.Cells.{xor}
use Rattle.coco_model.specs.Netlist.{HasNoRepeat}
use Rattle.coco_model.specs.Labels.{parity}
use Rattle.coco_model.specs.Findings.{Labels}
use Rattle.coco_model.proofs.Basics.{Contains-here, Contains-later, Contains-cases, Contains-none}

-- the labels that stand in a list an odd number of times
abbrev pub listed : List ℕ → Labels
listed ls l = parity (map (λ k. nat_eq k l) ls)

pub listed-none : (ls : List ℕ) (l : ℕ) → (Contains ls l → ⊥) → listed ls l ≡ false
listed-none [] l n = refl
listed-none (k ∷ ls) l n =
    rw (ne_eqb k l (λ e. n (subst (Contains (k ∷ ls)) e (Contains-here k ls))), listed-none ls l (λ h. n (Contains-later k l ls h))) refl

pub listed-some : (ls : List ℕ) (l : ℕ) → HasNoRepeat ls → Contains ls l → listed ls l ≡ true
listed-some [] l once h = absurd (Contains-none l h)
listed-some (k ∷ ls) l once h = go (Contains-cases k l ls h) (listed-some ls l once.1)
  where
    go : (k ≡ l) ⊎ Contains ls l → (Contains ls l → listed ls l ≡ true) → xor (nat_eq k l) (listed ls l) ≡ true
    go (inl e) rest = rw (sym e, eq-eqb k k refl, listed-none ls k once.0) refl
    go (inr i) rest = rw (ne_eqb k l (λ e. once.0 (subst (Contains ls) (sym e) i)), rest i) refl
