use Rattle.coco_model.specs.Cells.{output_of}
use Rattle.coco_model.proofs.LivePlaces.{live_decide, live_input}
use Rattle.cell_table.proofs.laws.live_decide_law.Goals as goal

pub returns : goal.returns
returns c = λ kind parts one other a b same. live_decide (output_of kind) parts one other a b (λ place l. same place (live_input kind parts place l))
