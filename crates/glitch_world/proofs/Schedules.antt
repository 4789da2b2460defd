-- All leaves and then all cells by rank settle a cycle.
use Rattle.std.proofs.Common.{◌≡◌, ℕ, ◌⊎◌, inl, inr, List, [], ◌∷◌, ◌++◌, map, get_or, refl, sym, ◌∙◌, ap}
use Rattle.std.specs.Prelude.{Contains, slice_get}
use Rattle.coco_base.specs.declared.netlist.Flat.{Flat}
use Rattle.coco_base.specs.declared.netlist.FlatCell.{FlatCell}
use Rattle.coco_model.specs.Netlist.{Valuation, IsCellBit}
use Rattle.coco_model.specs.Events.{put, put_cell, after_events}
use Rattle.coco_model.specs.Events.Event.{leaf, cell}
use Rattle.coco_model.proofs.Basics.{Contains-here, Contains-later, any_from_member}
use Rattle.model_laws.proofs.Ends.{end_law}
use Rattle.model_laws.proofs.Lists.{member_of_place}
use Rattle.model_laws.specs.Laws.{EndLaw}
use Rattle.gate_graph.specs.declared.driver.Driver.{Driver}
use Rattle.gate_graph.specs.declared.driver.Driver.TheVariants.{Port, Cell, Flop, Nothing}
use Rattle.gate_graph.specs.Drivers.{IsDriver}
use Rattle.gate_graph.specs.Graphs.{Gates, IsBuilt}
use Rattle.gate_graph.specs.Settled.{IsSettledBy}
use Rattle.glitch_world.specs.Leaves.{IsLeafBit}
use Rattle.glitch_world.specs.Laws.{ScheduleLaw}
use Rattle.glitch_world.proofs.LeafLemmas.{port_leaf, flop_leaf}

-- events of cells look at no new value
cells_same : (flat : Flat) (new other now : Valuation) (order : List ℕ) → after_events flat new now (map cell order) ≡ after_events flat other now (map cell order)
cells_same flat new other now [] = refl
cells_same flat new other now (i ∷ order) = cells_same flat new other (put_cell now (slice_get flat.cells i)) order

-- events of leaves look at their new values alone
leaves_same : (flat : Flat) (new other now : Valuation) (leaves order : List ℕ) → ((b : ℕ) → Contains leaves b → new b ≡ other b)
    → after_events flat new now (map leaf leaves ++ map cell order) ≡ after_events flat other now (map leaf leaves ++ map cell order)
leaves_same flat new other now [] order same = cells_same flat new other now order
leaves_same flat new other now (a ∷ leaves) order same =
    leaves_same flat new other (put now a (new a)) leaves order (λ b h. same b (Contains-later a b leaves h))
    ∙ ap (λ x. after_events flat other (put now a x) (map leaf leaves ++ map cell order)) (same a (Contains-here a leaves))

-- a bit that no cell drives is a leaf, or is 0 in both valuations
given : (gates : Gates) (old new before after : Valuation) (leaves : List ℕ) → IsBuilt gates → IsSettledBy gates.flat old before
    → IsSettledBy gates.flat new after → ((b : ℕ) → IsLeafBit gates b → Contains leaves b) → (b : ℕ) → (IsCellBit gates.flat b → ⊥)
    → Contains leaves b ⊎ (before b ≡ after b)
given gates old new before after leaves built from_old to_new every b none = go (get_or gates.drivers b Nothing) (built.drivers.each b)
  where
    go : (d : Driver) → IsDriver gates.flat b d → Contains leaves b ⊎ (before b ≡ after b)
    go (Port p) is = inl (every b (port_leaf gates p b is))
    go (Flop f) is = inl (every b (flop_leaf gates f b is))
    go (Cell i) is =
        absurd (none (any_from_member (λ (c : FlatCell). c.output ≡ b) gates.flat.cells is.cell (member_of_place gates.flat.cells i is.cell is.at) is.drives))
    go Nothing is = inr (from_old.settled.undriven b is ∙ sym (to_new.settled.undriven b is))

pub schedule_law : ScheduleLaw
unfolding ScheduleLaw EndLaw
schedule_law gates old new before after leaves built from_old to_new exact b =
    ap (λ v. v b) (leaves_same gates.flat new after before leaves gates.order (λ a h. sym (to_new.agrees a ((exact a).0 h))))
    ∙ end_law gates.flat before after to_new.settled leaves gates.order
    (given gates old new before after leaves built from_old to_new (λ a h. (exact a).1 h)) built.cell_order b
