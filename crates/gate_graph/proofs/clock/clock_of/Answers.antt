use Rattle.std.proofs.Common.{◌≡◌, refl, sym, ◌∙◌, ap, subst, arith}
use Rattle.std.specs.Prelude.{Contains, Some, slice_get}
use Rattle.coco_base.specs.declared.netlist.FlatCell.{FlatCell}
use Rattle.coco_base.specs.declared.netlist.FlatFlop.{FlatFlop}
use Rattle.coco_base.specs.declared.netlist.Wire.TheVariants.{Bit}
use Rattle.coco_model.specs.Netlist.{wires_of}
use Rattle.model_laws.proofs.Lists.{member_of_place}
use Rattle.gate_graph.specs.Clocks.{first_clock, IsFirstOf, IsClockFault, ReadsAsValue, HasClock}
use Rattle.gate_graph.specs.Clocks.IsClockFault.{second, cell, flop}
use Rattle.gate_graph.proofs.ClockLemmas.{first_is, has_clock, no_constant}
use Rattle.gate_graph.proofs.Items.{read_at}
use Rattle.gate_graph.proofs.clock.clock_of.Goals as goal

pub returns-in-Some-clause-fault : goal.returns-in-Some-clause-fault
returns-in-Some-clause-fault c =
    second c.first-item.result.clock c.in-Some.flop.now (ap first_clock (sym c.as_slice-flops.ensures) ∙ first_is c.as_slice-flops.result.now c.first-item.result (let l = c.in-len1-up.len_at_least in omega arith) c.first-item.is) c.in-Some.ensures.some

pub returns-in_default-clock-clause-clock : goal.returns-in_default-clock-clause-clock
returns-in_default-clock-clause-clock c =
    absurd (no_constant c.args.flat.now c.first-item.result c.in_default-clock.field-0 c.in_default-clock.is
    (c.in_default-off_clock.ensures.none c.first-item.result
    (subst (λ fs. Contains fs c.first-item.result) c.as_slice-flops.ensures
    (member_of_place c.as_slice-flops.result.now 0 c.first-item.result (read_at c.as_slice-flops.result.now 0 c.first-item.result (let l = c.in-len1-up.len_at_least in omega arith) c.first-item.is)))))

pub returns-in-Some-reading_cell-clause-fault : goal.returns-in-Some-reading_cell-clause-fault
returns-in-Some-reading_cell-clause-fault c =
    cell c.in-Bit.bit c.in-Some-reading_cell.cell.now
    (has_clock c.args.flat.now c.first-item.result.clock c.in-Bit.bit c.in-Bit.is (ap first_clock (sym c.as_slice-flops.ensures) ∙ first_is c.as_slice-flops.result.now c.first-item.result (let l = c.in-len1-up.len_at_least in omega arith) c.first-item.is) c.in_default-off_clock.ensures.none)
    (subst (λ cs. IsFirstOf (λ (d : FlatCell). Contains (wires_of d) (Bit c.in-Bit.bit)) cs c.in-Some-reading_cell.cell.now) c.as_slice.ensures
    c.in-Some-reading_cell.ensures.some)

pub returns-in-Some-reading_flop-clause-fault : goal.returns-in-Some-reading_flop-clause-fault
returns-in-Some-reading_flop-clause-fault c =
    flop c.in-Bit.bit c.in-Some-reading_flop.flop.now
    (has_clock c.args.flat.now c.first-item.result.clock c.in-Bit.bit c.in-Bit.is (ap first_clock (sym c.as_slice-flops.ensures) ∙ first_is c.as_slice-flops.result.now c.first-item.result (let l = c.in-len1-up.len_at_least in omega arith) c.first-item.is) c.in_default-off_clock.ensures.none)
    (subst (λ cs. (d : FlatCell) → Contains cs d → Contains (wires_of d) (Bit c.in-Bit.bit) → ⊥) c.as_slice.ensures c.in_default-reading_cell.ensures.none)
    (subst (λ fs. IsFirstOf (λ (g : FlatFlop). ReadsAsValue g c.in-Bit.bit) fs c.in-Some-reading_flop.flop.now) c.as_slice-flops.ensures
    c.in-Some-reading_flop.ensures.some)

pub returns-in-None-clause-clock : goal.returns-in-None-clause-clock
returns-in-None-clause-clock c = record {
  has = has_clock c.args.flat.now c.first-item.result.clock c.in-Bit.bit c.in-Bit.is (ap first_clock (sym c.as_slice-flops.ensures) ∙ first_is c.as_slice-flops.result.now c.first-item.result (let l = c.in-len1-up.len_at_least in omega arith) c.first-item.is) c.in_default-off_clock.ensures.none;
  no_value = record {
    cells = subst (λ cs. (d : FlatCell) → Contains cs d → Contains (wires_of d) (Bit c.in-Bit.bit) → ⊥) c.as_slice.ensures c.in_default-reading_cell.ensures.none;
    flops = subst (λ fs. (g : FlatFlop) → Contains fs g → ReadsAsValue g c.in-Bit.bit → ⊥) c.as_slice-flops.ensures c.in-None.ensures.none;
  };
}
