use Rattle.std.proofs.Common.{◌∙◌, ap}
use Rattle.std.proofs.lemmas.List.{take-map}
use Rattle.coco_model.specs.Cells.{input_places, input_count}
use Rattle.coco_model.specs.Known.{wire_part}
use Rattle.calm_reach.specs.CalmRows.{row_of}
use Rattle.calm_reach.proofs.wires.cell_parts.Goals as goal

pub returns-clause-parts : goal.returns-clause-parts
returns-clause-parts c =
    ap (input_places c.args.cell.now.kind) c.wire_parts.ensures.parts
    ∙ take-map (wire_part (row_of c.args.row.now)) (input_count c.args.cell.now.kind) c.args.cell.now.inputs
