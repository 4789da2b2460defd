use Rattle.std.proofs.Common.{◌<◌, refl, sym, subst}
use Rattle.coco_model.specs.Netlist.{IsWireBelow}
use Rattle.gate_graph.specs.Clocks.{IsInputWire}
use Rattle.gate_graph.proofs.ClockLemmas.{input_read, no_input_read}
use Rattle.gate_graph.proofs.clock.is_input.Goals as goal

pub returns-in-Port : goal.returns-in-Port
returns-in-Port c = (
  λ t. subst (IsInputWire c.args.flat.now) (sym c.in-Bit.is)
      (input_read c.args.flat.now c.args.drivers.now c.requires.wired c.in-Bit.bit (subst (IsWireBelow c.args.flat.now.bits) c.in-Bit.is c.requires.below) _ _ c.in-Port.is),
  λ i. refl,
)

pub returns-in_default-drivers : goal.returns-in_default-drivers
returns-in_default-drivers c = (
  λ t. absurd (let e = t in cc),
  λ i. absurd (no_input_read c.args.flat.now c.args.drivers.now c.requires.wired c.in-Bit.bit
      (subst (IsWireBelow c.args.flat.now.bits) c.in-Bit.is c.requires.below) _ c.in_default-drivers.not-Port (subst (IsInputWire c.args.flat.now) c.in-Bit.is i)),
)
