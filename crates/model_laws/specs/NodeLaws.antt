-- Laws of unrolled runs as values, as facts that contracts name.
use Rattle.std.specs.Prelude.{◌≡◌, ℕ, ◌<◌, List, length, get_or, ◌⊎◌, ◌↔◌}
use Rattle.coco_base.specs.declared.cell.Part.TheVariants.{Vary}
use Rattle.coco_base.specs.declared.netlist.Flat.{Flat}
use Rattle.coco_base.specs.declared.setup.Setup.{Setup}
use Rattle.coco_base.specs.declared.unrolled.Unrolled.{Unrolled}
use Rattle.coco_model.specs.Netlist.{IsRanked, IsInRange, IsCellBit}
use Rattle.coco_model.specs.Carried.{IsBound}
use Rattle.coco_model.specs.Controls.{HasControls}
use Rattle.coco_model.specs.Findings.{Labels}
use Rattle.coco_model.specs.Nodes.{AreNodesOf, IsNodeSelection}
use Rattle.coco_model.specs.WrittenFindings.{IsNoGate}
use Rattle.coco_model.specs.UnrolledRuns.{index_of, node_at, node_row, IsUnrolledValue, IsUnrolledOf}
use Rattle.coco_model.specs.Matters.{Matters}

-- the nodes of an unrolled run stand for the roots of the run, tell which bits are unknown, and are no gates where no
-- cell drives the bit
pub record StandsForRun (flat : Flat) (setup : Setup) (cycles : ℕ) (u : Unrolled)
    (run : IsUnrolledOf flat setup cycles u) : Type 0 where
  pub stand : AreNodesOf flat cycles (index_of u) run.row run.root (node_at u)
  pub unknown : (t b : ℕ) → t < cycles → b < flat.bits → (node_row u t b ≡ Vary) ↔ (run.row t b ≡ Vary)
  pub leaves : (t b : ℕ) → t < cycles → b < flat.bits → (IsCellBit flat b → ⊥) → IsNoGate (node_at u (index_of u t b))

unfoldable pub UnrolledRunLaw : Type 0
UnrolledRunLaw =
    (flat : Flat) (setup : Setup) (cycles : ℕ) (rank : ℕ → ℕ) → IsRanked flat rank → IsInRange flat
    → IsBound flat setup → HasControls flat setup
    → (u : Unrolled) (run : IsUnrolledOf flat setup cycles u) → StandsForRun flat setup cycles u run

-- a node that does not matter never takes part: two selections of nodes that have the same choices where nodes matter
-- have the same sets there, and at each node that is no gate
unfoldable pub MattersLaw : Type 0
MattersLaw =
    (u : Unrolled) → IsUnrolledValue u → (numbers others : List ℕ) (sets other_sets : ℕ → Labels)
    → IsNodeSelection u.nodes numbers sets → IsNodeSelection u.nodes others other_sets
    → ((i : ℕ) → i < length u.nodes → Matters (node_at u) i → get_or numbers i 0 ≡ get_or others i 0)
    → (i l : ℕ) → i < length u.nodes → Matters (node_at u) i ⊎ IsNoGate (node_at u i) → sets i l ≡ other_sets i l
