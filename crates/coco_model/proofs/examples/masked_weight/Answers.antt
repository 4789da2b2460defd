use Rattle.coco_model.proofs.Masked.{are_cones}
use Rattle.coco_model.proofs.examples.masked_weight.Goals as goal

pub returns-clause-cones : goal.returns-clause-cones
returns-clause-cones c = are_cones
