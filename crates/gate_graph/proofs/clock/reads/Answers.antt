use Rattle.std.proofs.Common.{◌≡◌, ◌≢◌, false, get_or, refl, sym, ◌∙◌, ap, subst}
use Rattle.std.specs.Prelude.{Contains, Some, slice_get}
use Rattle.coco_base.specs.declared.netlist.Wire.{Wire}
use Rattle.coco_base.specs.declared.netlist.Wire.TheVariants.{Const, Bit}
use Rattle.model_laws.proofs.Lists.{member_of_place}
use Rattle.gate_graph.proofs.Items.{some_at, each_more, by_place}
use Rattle.gate_graph.proofs.clock.reads.Goals as goal

pub returns-then-is_bit : goal.returns-then-is_bit
returns-then-is_bit c = (
  λ t. subst (λ ws. Contains ws (Bit c.args.bit)) c.wires_of-wires.ensures
      (member_of_place c.wires_of-wires.result.now c.wires.number (Bit c.args.bit) (some_at c.wires_of-wires.result.now c.wires.number (Const false) c.wires-test.true ∙ ap Some (c.if-is_bit.ensures.0 refl))),
  λ h. refl,
)

pub wires-preserved : goal.wires-preserved
wires-preserved c =
    each_more (λ (w : Wire). w ≢ Bit c.args.bit) c.wires_of-wires.result.now c.wires.number (get_or c.wires_of-wires.result.now c.wires.number (Const false)) (some_at c.wires_of-wires.result.now c.wires.number (Const false) c.wires-test.true)
    (λ e. let f = c.if-is_bit.ensures.1 e in absurd cc) c.wires.invariant

pub returns : goal.returns
returns c = (
  λ t. absurd (let e = t in cc),
  λ h. absurd (by_place (λ (w : Wire). w ≢ Bit c.args.bit) c.wires_of-wires.result.now c.wires.number c.wires-test.false c.wires.invariant (Bit c.args.bit)
      (subst (λ ws. Contains ws (Bit c.args.bit)) (sym c.wires_of-wires.ensures) h) refl),
)
