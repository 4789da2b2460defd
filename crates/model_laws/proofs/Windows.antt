-- The moments of probes that last a window.
use Rattle.std.proofs.Common.{◌≡◌, ◌≢◌, ℕ, zero, suc, ◌+◌, ◌-◌, ◌<◌, ◌≤◌, ◌⊎◌, inl, inr, List, [], ◌∷◌, ◌++◌, map, refl, ◌∙◌, ap, subst, arith}
use Rattle.std.specs.Prelude.{Contains, Option, Some, min}
use Rattle.std.proofs.lemmas.Bool.{cases_eq}
use Rattle.std.specs.List.{range_with_len}
use Rattle.coco_base.specs.declared.finding.Probe.{Probe}
use Rattle.coco_model.specs.Known.{Row}
use Rattle.coco_model.specs.Reach.{Reach}
use Rattle.coco_model.specs.Findings.{IsSeen}
use Rattle.coco_model.specs.Secure.{IsProbe, window_cycles, lasting, moments}
use Rattle.coco_model.proofs.Basics.{Contains-here, Contains-later, Contains-cases, Contains-none}
use Rattle.model_laws.proofs.Lists.{IsImage, Contains-map, Contains-flat_map, image_of_map, joined_of_flat_map}

-- a number of a range
pub record IsOfRange (from count n : ℕ) : Type 0 where
  pub least : from ≤ n
  pub below : n < from + count

range_member : (from count n : ℕ) → Contains (range_with_len from count) n → IsOfRange from count n
range_member from zero n h = absurd (Contains-none n h)
range_member from (suc count) n h = go (Contains-cases from n (range_with_len (from + 1) count) h)
    (λ i. range_member (from + 1) count n i)
  where
    go : (from ≡ n) ⊎ Contains (range_with_len (from + 1) count) n
        → (Contains (range_with_len (from + 1) count) n → IsOfRange (from + 1) count n) → IsOfRange from (suc count) n
    go (inl e) rest = record { least = omega arith; below = omega arith }
    go (inr i) rest = let r = rest i in let l = r.least in let b = r.below in record { least = omega arith; below = omega arith }

in_range : (from count n : ℕ) → from ≤ n → n < from + count → Contains (range_with_len from count) n
in_range from zero n least below = absurd (omega arith)
in_range from (suc count) n least below = go (cases_eq from n) (λ l. in_range (from + 1) count n l (omega arith))
  where
    go : (from ≡ n) ⊎ (from ≢ n) → (from + 1 ≤ n → Contains (range_with_len (from + 1) count) n)
        → Contains (range_with_len from (suc count)) n
    go (inl e) rest = subst (Contains (range_with_len from (suc count))) e (Contains-here from (range_with_len (from + 1) count))
    go (inr other) rest = Contains-later from n (range_with_len (from + 1) count) (rest (let d = other in omega arith))

-- a moment of a probe: its bit in a cycle of its window
pub record IsMoment (cycles window : ℕ) (p q : Probe) : Type 0 where
  pub bit : p.bit ≡ q.bit
  pub from : p.cycle ≤ q.cycle
  pub within : q.cycle < p.cycle + window
  pub below : q.cycle < cycles

pub moment_of : (cycles window : ℕ) (p q : Probe) → Contains (lasting cycles window p) q → IsMoment cycles window p q
moment_of cycles window p q h =
    go (image_of_map (λ cycle. record { bit = p.bit; cycle = cycle }) (window_cycles cycles window p.cycle) q h)
  where
    go : IsImage (λ cycle. record { bit = p.bit; cycle = cycle }) (window_cycles cycles window p.cycle) q → IsMoment cycles window p q
    go r =
        let i = range_member p.cycle (min window (cycles - p.cycle)) r.source r.listed in
        let l = i.least in let b = i.below in
        subst (IsMoment cycles window p) r.image
        (record { bit = refl; from = l; within = omega arith; below = omega arith })

-- the moment of a probe in a cycle of its window
pub lasts_at : (cycles window : ℕ) (p : Probe) (cycle : ℕ) → p.cycle ≤ cycle → cycle < p.cycle + window → cycle < cycles
    → Contains (lasting cycles window p) (record { bit = p.bit; cycle = cycle })
lasts_at cycles window p cycle from within below =
    Contains-map (λ cycle. record { bit = p.bit; cycle = cycle }) (window_cycles cycles window p.cycle) cycle
    (in_range p.cycle (min window (cycles - p.cycle)) cycle from (omega arith))

-- the moments of probes are probes
pub moments-probes : (bits : ℕ) (clock : Option ℕ) (cycles window : ℕ) (probes : List Probe)
    → ((p : Probe) → Contains probes p → IsProbe bits clock cycles p)
    → (q : Probe) → Contains (moments cycles window probes) q → IsProbe bits clock cycles q
moments-probes bits clock cycles window probes each q h =
    let r = joined_of_flat_map (lasting cycles window) probes q h in
    let m = moment_of cycles window r.source q r.member in
    let p = each r.source r.listed in
    record { bit = subst (λ b. b < bits) m.bit p.bit; no_clock = subst (λ b. clock ≢ Some b) m.bit p.no_clock; cycle = m.below }

-- what is seen by some probes is seen by more
pub seen_by_more : (cycles window : ℕ) (row : ℕ → Row) (reach : Reach) (probes more : List Probe)
    → ((p : Probe) → Contains probes p → Contains more p)
    → (u : Probe) → IsSeen row reach (moments cycles window probes) u → IsSeen row reach (moments cycles window more) u
seen_by_more cycles window row reach probes more into u s =
    let r = joined_of_flat_map (lasting cycles window) probes s.probe s.listed in
    record {
      probe = s.probe;
      listed = Contains-flat_map (lasting cycles window) more r.source s.probe (into r.source r.listed) r.member;
      shows = s.shows;
      unknown = s.unknown;
    }

-- probes of one cycle are their own moments
pub moments_of_one : (cycles : ℕ) (probes : List Probe) → ((p : Probe) → Contains probes p → p.cycle < cycles)
    → moments cycles 1 probes ≡ probes
moments_of_one cycles [] below = refl
moments_of_one cycles (p ∷ probes) below =
    ap (λ n. map (λ cycle. record { bit = p.bit; cycle = cycle }) (range_with_len p.cycle n) ++ moments cycles 1 probes) one
    ∙ ap (λ rest. p ∷ rest) (moments_of_one cycles probes (λ q h. below q (Contains-later p q probes h)))
  where
    one : min 1 (cycles - p.cycle) ≡ 1
    one = let b = below p (Contains-here p probes) in omega arith
