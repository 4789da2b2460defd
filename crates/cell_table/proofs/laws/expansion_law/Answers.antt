use Rattle.coco_model.specs.Cells.{output_of}
use Rattle.cell_table.proofs.Expansion.{expansion}
use Rattle.cell_table.proofs.laws.expansion_law.Goals as goal

pub returns : goal.returns
returns c = λ kind parts inputs a. expansion (output_of kind) parts inputs a
