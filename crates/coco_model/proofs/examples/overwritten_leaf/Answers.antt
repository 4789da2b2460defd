use Rattle.coco_model.proofs.Overwritten.{leaf_roots, overwritten_finding}
use Rattle.coco_model.proofs.examples.overwritten_leaf.Goals as goal

pub returns-clause-roots : goal.returns-clause-roots
returns-clause-roots c = leaf_roots

pub returns-clause-finding : goal.returns-clause-finding
returns-clause-finding c = overwritten_finding
