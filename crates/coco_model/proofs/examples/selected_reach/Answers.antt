use Rattle.coco_model.proofs.Circuits.{selected_reach}
use Rattle.coco_model.proofs.examples.selected_reach.Goals as goal

pub returns : goal.returns
returns c = selected_reach
