use Rattle.coco_model.proofs.UnsharedValue.{is_value, is_no_value}
use Rattle.coco_model.proofs.examples.unshared_finding_value.Goals as goal

pub returns-clause-value : goal.returns-clause-value
returns-clause-value c = is_value

pub returns-clause-other : goal.returns-clause-other
returns-clause-other c = is_no_value
