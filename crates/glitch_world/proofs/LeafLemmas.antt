-- Which drivers make a bit a leaf.
use Rattle.std.proofs.Common.{◌≡◌, ℕ, ◌<◌, inl, inr, sym, subst}
use Rattle.coco_base.specs.declared.netlist.FlatCell.{FlatCell}
use Rattle.coco_base.specs.declared.netlist.FlatFlop.{FlatFlop}
use Rattle.coco_model.specs.Netlist.{IsCellBit, IsUndriven}
use Rattle.coco_model.proofs.Basics.{any_from_member, some_from_any}
use Rattle.model_laws.proofs.Lists.{member_of_place}
use Rattle.model_laws.proofs.Sources.{input_no_cell, flop_no_cell}
use Rattle.gate_graph.specs.Drivers.{IsPortBit, IsCellOutput, IsFlopOutput}
use Rattle.gate_graph.specs.Graphs.{Gates, IsBuilt}
use Rattle.gate_graph.proofs.WiredLemmas.{port_input, input_below}
use Rattle.glitch_world.specs.Leaves.{IsLeafBit}
use Rattle.glitch_world.specs.States.{WorldState, IsWorldState, IsEventIn}
use Rattle.glitch_world.specs.declared.world.Event.{Event}
use Rattle.glitch_world.specs.declared.world.Event.TheVariants.{Leaf}

pub port_leaf : (gates : Gates) (number bit : ℕ) → IsPortBit gates.flat number bit → IsLeafBit gates bit
port_leaf gates number bit is = inr (port_input gates.flat number bit is)

pub flop_leaf : (gates : Gates) (number bit : ℕ) → IsFlopOutput gates.flat number bit → IsLeafBit gates bit
flop_leaf gates number bit is =
    inl (any_from_member (λ (f : FlatFlop). f.output ≡ bit) gates.flat.flops is.flop (member_of_place gates.flat.flops number is.flop is.at) is.drives)

-- what drives a cell's output is that cell alone
pub cell_no_leaf : (gates : Gates) → IsBuilt gates → (number bit : ℕ) → IsCellOutput gates.flat number bit → IsLeafBit gates bit → ⊥
cell_no_leaf gates built number bit is = go
  where
    cell : IsCellBit gates.flat bit
    cell =
        any_from_member (λ (c : FlatCell). c.output ≡ bit) gates.flat.cells is.cell (member_of_place gates.flat.cells number is.cell is.at) is.drives

    go : IsLeafBit gates bit → ⊥
    go (inl h) =
        let s = some_from_any (λ (f : FlatFlop). f.output ≡ bit) gates.flat.flops h in
        flop_no_cell gates.flat built.one_driver s.member s.listed (subst (IsCellBit gates.flat) (sym s.holds) cell)
    go (inr h) = input_no_cell gates.flat built.one_driver bit h cell

pub undriven_no_leaf : (gates : Gates) (bit : ℕ) → IsUndriven gates.flat bit → IsLeafBit gates bit → ⊥
undriven_no_leaf gates bit is (inl h) = is.no_flop h
undriven_no_leaf gates bit is (inr h) = is.no_input h

-- a leaf is one of the netlist's bits
pub leaf_below : (gates : Gates) → IsBuilt gates → (bit : ℕ) → IsLeafBit gates bit → bit < gates.flat.bits
leaf_below gates built bit (inl h) =
    let s = some_from_any (λ (f : FlatFlop). f.output ≡ bit) gates.flat.flops h in
    subst (λ n. n < gates.flat.bits) s.holds (built.range.flops s.member s.listed)
leaf_below gates built bit (inr h) = input_below gates.flat built.range bit h

-- the bit of a leaf's event, in the parts of a world
pub leaf_of_event : (parts world : WorldState) (bit : ℕ) (event : Event) → IsWorldState parts → parts ≡ world → IsEventIn world.gates event → event ≡ Leaf bit
    → bit < parts.gates.flat.bits
leaf_of_event parts world bit event m same is e =
    leaf_below parts.gates m.built bit (subst (λ (w : WorldState). IsLeafBit w.gates bit) (sym same) (subst (IsEventIn world.gates) e is))
