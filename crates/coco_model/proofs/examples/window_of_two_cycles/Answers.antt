use Rattle.coco_model.proofs.Windowed.{finds_late_shares}
use Rattle.coco_model.proofs.examples.window_of_two_cycles.Goals as goal

pub returns-clause-finding : goal.returns-clause-finding
returns-clause-finding c = finds_late_shares
