use Rattle.coco_model.specs.Cells.{output_of}
use Rattle.coco_model.proofs.LivePlaces.{live_input}
use Rattle.cell_table.proofs.LawLemmas.{sum_lives}
use Rattle.cell_table.proofs.laws.sums_are_live_law.Goals as goal

pub returns : goal.returns
returns c = λ kind parts subset h n place e. live_input kind parts place (sum_lives (output_of kind) subset parts h n place e)
