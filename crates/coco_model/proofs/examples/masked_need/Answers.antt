use Rattle.coco_model.proofs.Needs.{are_mattering}
use Rattle.coco_model.proofs.examples.masked_need.Goals as goal

pub returns-clause-matters : goal.returns-clause-matters
returns-clause-matters c = are_mattering
