use Rattle.std.proofs.Common.{◌≡◌, ◌+◌, ◌≤◌, false, length, get_or, sym, ◌∙◌, ap, subst}
use Rattle.coco_base.specs.declared.netlist.Wire.TheVariants.{Const}
use Rattle.coco_model.specs.Netlist.{wires_of}
use Rattle.gate_graph.proofs.Items.{same_at}
use Rattle.calm_reach.proofs.WalkLemmas.{IsPartAdded, added_more, added_less, added_all}
use Rattle.calm_reach.proofs.walk.add_inputs.Goals as goal
use Rattle.calm_reach.proofs.walk.add_inputs.Goals.{then-live+in_ok-add_wire, else-live}

pub inputs-preserved : goal.inputs-preserved
inputs-preserved c x at =
    let same : c.cell.result.now ≡ x = same_at c.args.graph.now.flat.cells c.args.number c.cell.result.now x c.cell.ensures.cell at in
    elim c.if-live.branch [
      | then-live+in_ok-add_wire w ↦
          subst (IsPartAdded c.args.row.now c.args.number x (c.inputs.place + 1) c.args.met.now) (sym w.met-is)
          (added_more c.args.row.now c.args.number x c.inputs.place (get_or c.wires_of-wires.result.now c.inputs.place (Const false)) c.args.met.now c.inputs.met w.add_wire.new.met
          (ap (λ ws. get_or ws c.inputs.place (Const false)) (c.wires_of-wires.ensures ∙ ap wires_of same))
          (sym c.live.ensures ∙ w.if-live.true) w.in_ok-add_wire.ensures (c.inputs.invariant x at))
      | else-live w ↦
          subst (IsPartAdded c.args.row.now c.args.number x (c.inputs.place + 1) c.args.met.now) (sym w.met-is)
          (added_less c.args.row.now c.args.number x c.inputs.place c.args.met.now c.inputs.met (sym c.live.ensures ∙ w.if-live.false) (c.inputs.invariant x at))
    ]

pub returns : goal.returns
returns c =
    added_all c.args.graph.now.flat c.args.row.now c.args.number c.cell.result.now c.inputs.place c.args.met.now c.inputs.met c.cell.ensures.cell
    (subst (λ ws. length ws ≤ c.inputs.place) c.wires_of-wires.ensures c.inputs-test.false) (c.inputs.invariant c.cell.result.now c.cell.ensures.cell)
