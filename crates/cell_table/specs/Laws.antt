-- Laws of the gates, over the definitions.
use Rattle.std.specs.Prelude.{◌≡◌, ◌≢◌, ℕ, suc, ◌^◌, Bool, true, false, List, [], ◌∷◌, ◌++◌, map, get_or, ℤ, pos, ◌+ℤ◌, ◌*ℤ◌}
use Rattle.coco_base.specs.declared.cell.Kind.{Kind}
use Rattle.coco_base.specs.declared.cell.Part.{Part}
use Rattle.coco_base.specs.declared.cell.Part.TheVariants.{Zero, One, Vary}
use Rattle.coco_model.specs.Cells.{output_of, AllowsAll, IsForced, IsLiveInput, Subset, IsSubsetOf, signed, chosen_parity, signed_sum}

-- how many places vary
abbrev pub vary_count : List Part → ℕ
vary_count [] = 0
vary_count (Zero ∷ ps) = vary_count ps
vary_count (One ∷ ps) = vary_count ps
vary_count (Vary ∷ ps) = suc (vary_count ps)

-- every set of places that vary
abbrev pub subsets_of : List Part → List Subset
subsets_of [] = [] ∷ []
subsets_of (Zero ∷ ps) = map (λ (subset : Subset). false ∷ subset) (subsets_of ps)
subsets_of (One ∷ ps) = map (λ (subset : Subset). false ∷ subset) (subsets_of ps)
subsets_of (Vary ∷ ps) =
    map (λ (subset : Subset). false ∷ subset) (subsets_of ps)
    ++ map (λ (subset : Subset). true ∷ subset) (subsets_of ps)

-- the sum of a number for each subset
abbrev pub subset_total : (Subset → ℤ) → List Subset → ℤ
subset_total f [] = pos 0
subset_total f (subset ∷ subsets) = f subset +ℤ subset_total f subsets

-- with k inputs that vary, 2^k times the sign of the output is the sum, over all sets of these inputs, of the signed
-- sum at the set times the product of the signs of the inputs in it
abbrev pub ExpansionLaw : Type 0
ExpansionLaw =
    (kind : Kind) (parts : List Part) (inputs : List Bool) → AllowsAll parts inputs →
    pos (2 ^ vary_count parts) *ℤ signed (output_of kind inputs) (pos 1)
    ≡ subset_total (λ subset. signed (chosen_parity subset inputs) (signed_sum kind parts subset)) (subsets_of parts)

-- a gate whose output is known has no live input
abbrev pub KnownIsNotLiveLaw : Type 0
KnownIsNotLiveLaw =
    (kind : Kind) (parts : List Part) (output : Part) (place : ℕ) → IsForced kind parts output → output ≢ Vary →
    IsLiveInput kind parts place → ⊥

-- the output depends on the live inputs alone
abbrev pub LiveDecideLaw : Type 0
LiveDecideLaw =
    (kind : Kind) (parts : List Part) (one other : List Bool) → AllowsAll parts one → AllowsAll parts other →
    ((place : ℕ) → IsLiveInput kind parts place → get_or one place false ≡ get_or other place false) →
    output_of kind one ≡ output_of kind other

-- a set of inputs at which the signed sum is not 0 has live inputs alone
abbrev pub SumsAreLiveLaw : Type 0
SumsAreLiveLaw =
    (kind : Kind) (parts : List Part) (subset : Subset) → IsSubsetOf subset parts →
    signed_sum kind parts subset ≢ pos 0 →
    (place : ℕ) → get_or subset place false ≡ true → IsLiveInput kind parts place
