use Rattle.std.proofs.Common.{List, map, ◌∙◌, subst}
use Rattle.coco_base.specs.declared.netlist.Wire.{Wire}
use Rattle.coco_model.specs.Cells.{IsForced}
use Rattle.coco_model.specs.Known.{wire_part}
use Rattle.coco_model.specs.Stepped.{row_of}
use Rattle.cycle_sim.proofs.PartLemmas.{forced_items, length-parts}
use Rattle.cycle_sim.proofs.settle.cell_part.Goals as goal

pub returns : goal.returns
returns c =
    let f = rw (c.part_at.ensures, c.part_at-2.ensures, c.part_at-3.ensures, c.part_at-4.ensures) at c.forced.ensures in
    let row = row_of c.args.row.now in
    subst (λ (ws : List Wire). IsForced c.args.cell.now.kind (map (wire_part row) ws) c.forced.result) c.wires_of-wires.ensures.wires
    (forced_items c.args.cell.now.kind (map (wire_part row) c.wires_of-wires.result.now) c.forced.result
    (length-parts row c.wires_of-wires.result.now ∙ c.wires_of-wires.ensures.count) f)
