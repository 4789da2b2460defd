-- Numbers as sets of places that vary, place by place.
use Rattle.std.proofs.Common.{◌≡◌, ℕ, zero, suc, ◌+◌, ◌*◌, ◌/◌, ◌%◌, ◌^◌, ◌<◌, ◌≤◌, ◌⊎◌, inl, inr, Bool, true, false, nat_eq, List, ◌∷◌, length, get_or, sym, ap, subst, arith, pow-suc}
use Rattle.std.specs.Prelude.{◌↔◌, IsTrue}
use Rattle.std.proofs.lemmas.Bool.{cases_order, eqb-true, eq-eqb}
use Rattle.cell_table.proofs.Sums.{rest_of, split_first}
use Rattle.coco_base.specs.declared.cell.Part.{Part}
use Rattle.coco_base.specs.declared.cell.Part.TheVariants.{Zero, Vary}
use Rattle.coco_base.specs.declared.unrolled.Node.{Node}
use Rattle.coco_base.specs.declared.unrolled.Node.TheVariants.{Nothing}
use Rattle.coco_model.specs.Cells.{Subset, IsSubsetOf, subset_of_number}
use Rattle.coco_model.specs.Nodes.{IsAllowedChoice}
use Rattle.stable_sets.specs.Chosen.{IsChoiceOf}

first_chosen : (n : ℕ) → n % 2 ≡ 1 → nat_eq (n % 2) 1 ≡ true
first_chosen n e = eq-eqb (n % 2) 1 e

-- a set of the places of parts with one part more
subset_more : (s : Bool) (ss : Subset) (p : Part) (ps : List Part) → (s ≡ true → p ≡ Vary) → IsSubsetOf ss ps
    → IsSubsetOf (s ∷ ss) (p ∷ ps)
subset_more s ss p ps first rest = record { as_long = ap suc rest.as_long; varies = at }
  where
    at : (place : ℕ) → get_or (s ∷ ss) place false ≡ true → get_or (p ∷ ps) place Zero ≡ Vary
    at zero e = first e
    at (suc k) e = rest.varies k e

subset_rest : (s : Bool) (ss : Subset) (p : Part) (ps : List Part) → IsSubsetOf (s ∷ ss) (p ∷ ps) → IsSubsetOf ss ps
subset_rest s ss p ps is = record {
  as_long = (let e : suc (length ss) ≡ suc (length ps) = is.as_long in omega arith);
  varies = λ place e. is.varies (suc place) e;
}

half_small : (n k : ℕ) → n < 2 ^ suc k → n / 2 < 2 ^ k
half_small n k h = let g : n < 2 ^ k * 2 = rw pow-suc at h in omega arith

small_half : (n k : ℕ) → n / 2 < 2 ^ k → n < 2 ^ suc k
small_half n k h = rw pow-suc (let g : n < 2 ^ k * 2 = omega arith in g)

pub choice_more : (p : Part) (ps : List Part) (n : ℕ) → (n % 2 ≡ 1 → p ≡ Vary) → IsChoiceOf ps (n / 2) → IsChoiceOf (p ∷ ps) n
choice_more p ps n first rest = record {
  small = small_half n (length ps) rest.small;
  varies = subset_more (nat_eq (n % 2) 1) (subset_of_number (length ps) (n / 2)) p ps (λ e. first (eqb-true (n % 2) 1 e)) rest.varies;
}

pub choice_rest : (p : Part) (ps : List Part) (n : ℕ) → IsChoiceOf (p ∷ ps) n → IsChoiceOf ps (n / 2)
choice_rest p ps n is = record {
  small = half_small n (length ps) is.small;
  varies = subset_rest (nat_eq (n % 2) 1) (subset_of_number (length ps) (n / 2)) p ps is.varies;
}

pub choice_first : (p : Part) (ps : List Part) (n : ℕ) → IsChoiceOf (p ∷ ps) n → n % 2 ≡ 1 → p ≡ Vary
choice_first p ps n is e = is.varies.varies 0 (eq-eqb (n % 2) 1 e)

-- of parts of which the first is looked at by itself
pub choice_split : (ps : List Part) (n : ℕ) (b : Bool) → 1 ≤ length ps → (n % 2 ≡ 1 → get_or ps 0 Zero ≡ Vary)
    → IsTrue b ↔ IsChoiceOf (rest_of ps) (n / 2) → IsTrue b ↔ IsChoiceOf ps n
choice_split ps n b some first rest = (
  (λ h. subst (λ qs. IsChoiceOf qs n) (sym (split_first ps some)) (choice_more (get_or ps 0 Zero) (rest_of ps) n first (rest.0 h))),
  (λ is. rest.1 (choice_rest (get_or ps 0 Zero) (rest_of ps) n (subst (λ qs. IsChoiceOf qs n) (split_first ps some) is))),
)

pub choice_not_first : (ps : List Part) (n : ℕ) → 1 ≤ length ps → ((n % 2 ≡ 1 → get_or ps 0 Zero ≡ Vary) → ⊥)
    → IsChoiceOf ps n → ⊥
choice_not_first ps n some wrong is =
    wrong (choice_first (get_or ps 0 Zero) (rest_of ps) n (subst (λ qs. IsChoiceOf qs n) (split_first ps some) is))

-- choices for the nodes below a place, and for the one at it
pub allowed_more : (nodes : List Node) (numbers : List ℕ) (place : ℕ)
    → IsAllowedChoice (get_or numbers place 0) (get_or nodes place Nothing)
    → ((i : ℕ) → i < place → IsAllowedChoice (get_or numbers i 0) (get_or nodes i Nothing))
    → (i : ℕ) → i < place + 1 → IsAllowedChoice (get_or numbers i 0) (get_or nodes i Nothing)
allowed_more nodes numbers place own each i below = go (cases_order i place)
  where
    go : (i ≡ place) ⊎ ((i < place) ⊎ (place < i)) → IsAllowedChoice (get_or numbers i 0) (get_or nodes i Nothing)
    go (inl e) = subst (λ k. IsAllowedChoice (get_or numbers k 0) (get_or nodes k Nothing)) (sym e) own
    go (inr (inl lower)) = each i lower
    go (inr (inr higher)) = absurd (omega (arith, below, higher))
