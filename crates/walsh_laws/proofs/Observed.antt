-- What probes observe, as values of nodes.
use Rattle.std.proofs.Common.{◌≡◌, ℕ, zero, suc, ◌<◌, ◌⊎◌, inl, inr, Bool, List, [], ◌∷◌, ◌++◌, map, refl, sym, ◌∙◌, ap}
use Rattle.std.specs.Prelude.{Contains, flat_map}
use Rattle.std.proofs.lemmas.List.{map-append}
use Rattle.coco_base.specs.declared.finding.Probe.{Probe}
use Rattle.coco_model.specs.Netlist.{Valuation}
use Rattle.coco_model.specs.Run.{before}
use Rattle.coco_model.specs.Reach.{Reach}
use Rattle.coco_model.specs.Secure.{observation}
use Rattle.coco_model.proofs.Basics.{Contains-here, Contains-later, Contains-cases, Contains-none}
use Rattle.coco_model.proofs.Keepers.{before_below}
use Rattle.model_laws.proofs.Lists.{IsJoined, joined_of_flat_map}

-- the numbers of a leaf in the cycle before and in the cycle
abbrev pub leaf_numbers : (ℕ → ℕ → ℕ) → ℕ → ℕ → List ℕ
leaf_numbers index t leaf = index (before t) leaf ∷ index t leaf ∷ []

abbrev pub probe_numbers : (ℕ → ℕ → ℕ) → Reach → Probe → List ℕ
probe_numbers index reach p = flat_map (leaf_numbers index p.cycle) (reach p.cycle p.bit)

abbrev pub shown_numbers : (ℕ → ℕ → ℕ) → Reach → List Probe → List ℕ
shown_numbers index reach probes = flat_map (probe_numbers index reach) probes

-- values by number are those of the bits
pub record AreNumbered (bits cycles : ℕ) (index : ℕ → ℕ → ℕ) (value : ℕ → Bool) (v : ℕ → Valuation) : Type 0 where
  pub each : (t b : ℕ) → t < cycles → b < bits → value (index t b) ≡ v t b

leaves_observed : (bits cycles : ℕ) (index : ℕ → ℕ → ℕ) (value : ℕ → Bool) (v : ℕ → Valuation) → AreNumbered bits cycles index value v
    → (t : ℕ) → t < cycles
    → (leaves : List ℕ) → ((l : ℕ) → Contains leaves l → l < bits)
    → flat_map (λ l. v (before t) l ∷ v t l ∷ []) leaves ≡ map value (flat_map (leaf_numbers index t) leaves)
leaves_observed bits cycles index value v numbered t below [] inside = refl
leaves_observed bits cycles index value v numbered t below (l ∷ leaves) inside =
    let a : value (index (before t) l)
    ≡ v (before t) l = numbered.each (before t) l (before_below t cycles below) (inside l (Contains-here l leaves)) in
    let b : value (index t l) ≡ v t l = numbered.each t l below (inside l (Contains-here l leaves)) in
    let c : flat_map (λ l. v (before t) l ∷ v t l ∷ []) leaves ≡ map value (flat_map (leaf_numbers index t) leaves) =
    leaves_observed bits cycles index value v numbered t below leaves (λ k h. inside k (Contains-later l k leaves h)) in
    rw (a, b, c) refl

pub observed : (bits cycles : ℕ) (index : ℕ → ℕ → ℕ) (value : ℕ → Bool) (v : ℕ → Valuation) → AreNumbered bits cycles index value v
    → (reach : Reach) (probes : List Probe)
    → ((p : Probe) → Contains probes p → (p.cycle < cycles) × ((l : ℕ) → Contains (reach p.cycle p.bit) l → l < bits))
    → observation reach v probes ≡ map value (shown_numbers index reach probes)
observed bits cycles index value v numbered reach [] inside = refl
observed bits cycles index value v numbered reach (p ∷ probes) inside =
    let first = inside p (Contains-here p probes) in
    let head : flat_map (λ l. v (before p.cycle) l ∷ v p.cycle l ∷ []) (reach p.cycle p.bit) ≡ map value (probe_numbers index reach p) =
    leaves_observed bits cycles index value v numbered p.cycle first.0 (reach p.cycle p.bit) first.1 in
    let tail : observation reach v probes ≡ map value (shown_numbers index reach probes) =
    observed bits cycles index value v numbered reach probes (λ q h. inside q (Contains-later p q probes h)) in
    ap (λ bs. bs ++ observation reach v probes) head ∙ ap (λ bs. map value (probe_numbers index reach p) ++ bs) tail
    ∙ sym (map-append value (probe_numbers index reach p) (shown_numbers index reach probes))

-- a number that probes show
pub record IsShownNumber (index : ℕ → ℕ → ℕ) (reach : Reach) (probes : List Probe) (i : ℕ) : Type 0 where
  pub probe : Probe
  pub listed : Contains probes probe
  pub leaf : ℕ
  pub cycle : ℕ
  pub reached : Contains (reach probe.cycle probe.bit) leaf
  pub when : (cycle ≡ probe.cycle) ⊎ (cycle ≡ before probe.cycle)
  pub number : index cycle leaf ≡ i

pub shown_number : (index : ℕ → ℕ → ℕ) (reach : Reach) (probes : List Probe) (i : ℕ) → Contains (shown_numbers index reach probes) i
    → IsShownNumber index reach probes i
shown_number index reach probes i h = go (joined_of_flat_map (probe_numbers index reach) probes i h)
  where
    go : IsJoined (probe_numbers index reach) probes i → IsShownNumber index reach probes i
    go p = at_leaf (joined_of_flat_map (leaf_numbers index p.source.cycle) (reach p.source.cycle p.source.bit) i p.member)
      where
        at_leaf : IsJoined (leaf_numbers index p.source.cycle) (reach p.source.cycle p.source.bit) i → IsShownNumber index reach probes i
        at_leaf l = at_cycle (Contains-cases (index (before p.source.cycle) l.source) i (index p.source.cycle l.source ∷ []) l.member)
          where
            later : (index p.source.cycle l.source ≡ i) ⊎ Contains [] i → IsShownNumber index reach probes i
            later (inl e) = record {
              probe = p.source;
              listed = p.listed;
              leaf = l.source;
              cycle = p.source.cycle;
              reached = l.listed;
              when = inl refl;
              number = e;
            }
            later (inr none) = absurd (Contains-none i none)

            at_cycle : (index (before p.source.cycle) l.source ≡ i) ⊎ Contains (index p.source.cycle l.source ∷ []) i
                → IsShownNumber index reach probes i
            at_cycle (inl e) = record {
              probe = p.source;
              listed = p.listed;
              leaf = l.source;
              cycle = before p.source.cycle;
              reached =
                  l.listed;
              when = inr refl;
              number = e;
            }
            at_cycle (inr j) = later (Contains-cases (index p.source.cycle l.source) i [] j)

-- the cycle before is shown too
pub shows_when : (t s : ℕ) → (s ≡ t) ⊎ (s ≡ before t) → (s ≡ t) ⊎ (suc s ≡ t)
shows_when t s (inl e) = inl e
shows_when zero s (inr e) = inl e
shows_when (suc t) s (inr e) = inr (ap suc e)
