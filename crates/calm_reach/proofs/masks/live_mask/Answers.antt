use Rattle.coco_model.specs.Cells.{input_places}
use Rattle.coco_model.specs.Known.{cell_parts}
use Rattle.calm_reach.specs.CalmRows.{row_of}
use Rattle.calm_reach.proofs.MaskLemmas.{mask_of_four, few_live, tells_bool}
use Rattle.calm_reach.proofs.masks.live_mask.Goals as goal

pub returns : goal.returns
returns c =
    let ps = c.cell_parts-inputs.result in
    let kind = c.args.cell.now.kind in
    let same = c.cell_parts-inputs.ensures.parts in
    mask_of_four (row_of c.args.parts.now) c.args.cell.now c.from-first.result c.from-second.result c.from-third.result c.from-fourth.result
    (few_live (row_of c.args.parts.now) c.args.cell.now ps same c.cell_parts-inputs.ensures.four)
    (tells_bool kind (input_places kind ps) (cell_parts (row_of c.args.parts.now) c.args.cell.now) 0 c.live.result c.from-first.result same c.from-first.ensures c.live.ensures)
    (tells_bool kind (input_places kind ps) (cell_parts (row_of c.args.parts.now) c.args.cell.now) 1 c.live-2.result c.from-second.result same c.from-second.ensures c.live-2.ensures)
    (tells_bool kind (input_places kind ps) (cell_parts (row_of c.args.parts.now) c.args.cell.now) 2 c.live-3.result c.from-third.result same c.from-third.ensures c.live-3.ensures)
    (tells_bool kind (input_places kind ps) (cell_parts (row_of c.args.parts.now) c.args.cell.now) 3 c.live-4.result c.from-fourth.result same c.from-fourth.ensures c.live-4.ensures)
