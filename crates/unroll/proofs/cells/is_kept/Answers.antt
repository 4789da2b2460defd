use Rattle.std.proofs.Common.{List, false, get_or, refl, sym, subst}
use Rattle.std.specs.Prelude.{Contains}
use Rattle.coco_base.specs.declared.netlist.Wire.{Wire}
use Rattle.coco_base.specs.declared.netlist.Wire.TheVariants.{Const}
use Rattle.coco_model.specs.Roots.{IsSteady}
use Rattle.coco_model.specs.Stepped.{row_of}
use Rattle.gate_graph.proofs.Items.{some_at, each_more, by_place}
use Rattle.unroll.specs.NodeRows.{roots_of}
use Rattle.unroll.proofs.cells.is_kept.Goals as goal

pub inputs-preserved : goal.inputs-preserved
inputs-preserved c =
    let items = c.wires_of-wire-items.result.now in
    let i = c.inputs.wire-index in
    each_more (λ (w : Wire). IsSteady (row_of c.args.at.now.before.now) (row_of c.args.at.now.known.now) (roots_of c.args.old.now) (roots_of c.args.roots.now) w)
    items i (get_or items i (Const false)) (some_at items i (Const false) c.inputs-test.true)
    (c.is_steady.ensures.0 c.if-not-is_steady.false) c.inputs.invariant

pub returns : goal.returns
returns c =
    let items = c.wires_of-wire-items.result.now in (
      (λ _ w h. by_place (λ (w : Wire). IsSteady (row_of c.args.at.now.before.now) (row_of c.args.at.now.known.now) (roots_of c.args.old.now) (roots_of c.args.roots.now) w)
          items c.inputs.wire-index c.inputs-test.false c.inputs.invariant w (subst (λ (ws : List Wire). Contains ws w) (sym c.wires_of-wire-items.ensures.wires) h)),
      (λ _. refl),
    )
