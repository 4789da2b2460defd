-- What a probe reaches in a cycle, and pairs that probes show.
use Rattle.std.proofs.Common.{◌≡◌, ℕ, ◌<◌, ◌≤◌, Bool, true, false, List, length, subst}
use Rattle.std.specs.Prelude.{◌↔◌, IsTrue, Contains, slice_get, Some}
use Rattle.coco_base.specs.declared.netlist.Flat.{Flat}
use Rattle.coco_base.specs.declared.finding.Probe.{Probe}
use Rattle.gate_graph.proofs.Items.{by_place, same_at}
use Rattle.calm_reach.specs.CalmRows.{Calmness}
use Rattle.calm_reach.specs.Walks.{AreLeavesOf, LeadsTo}
use Rattle.stable_sets.specs.Shown.{IsReachedIn, IsShown, IsShownBy, Lasts}

pub reached_in : (flat : Flat) (cycles window : ℕ) (rows : List Calmness) (probe : Probe) (cycle leaf : ℕ) (row : Calmness) (leaves : List ℕ) (b : Bool)
    → Lasts cycles window probe cycle → slice_get rows cycle ≡ Some row → AreLeavesOf flat row probe.bit leaves
    → IsTrue b ↔ Contains leaves leaf → IsTrue b ↔ IsReachedIn flat cycles window rows probe cycle leaf
reached_in flat cycles window rows probe cycle leaf row leaves b lasts at are told = (
  (λ h. record { lasts = lasts; row = row; at = at; leads = (are.each leaf).0 (told.0 h) }),
  (λ r. told.1 ((are.each leaf).1
      (subst (λ q. LeadsTo flat q leaf probe.bit) (same_at rows cycle r.row row r.at at) r.leads))),
)

pub none_shows : (flat : Flat) (cycles window : ℕ) (rows : List Calmness) (probes : List Probe) (pair : Probe) (n : ℕ) → length probes ≤ n
    → ((k : ℕ) (p : Probe) → k < n → slice_get probes k ≡ Some p → IsShownBy flat cycles window rows p pair → ⊥)
    → IsTrue false ↔ IsShown flat cycles window rows probes pair
none_shows flat cycles window rows probes pair n high none = (
  (λ h. absurd (let f : false ≡ true = h in cc)),
  (λ s. absurd (by_place (λ (p : Probe). IsShownBy flat cycles window rows p pair → ⊥) probes n high none s.probe s.listed s.shows)),
)
