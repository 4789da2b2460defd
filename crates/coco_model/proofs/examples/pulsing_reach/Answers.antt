use Rattle.coco_model.proofs.Pulses.{pulsing_reach}
use Rattle.coco_model.proofs.examples.pulsing_reach.Goals as goal

pub returns : goal.returns
returns c = pulsing_reach
