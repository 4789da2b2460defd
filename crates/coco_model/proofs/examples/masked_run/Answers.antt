use Rattle.coco_model.proofs.MaskedRun.{is_known, is_rooted, is_unrolled, are_numbered}
use Rattle.coco_model.proofs.examples.masked_run.Goals as goal

pub returns-clause-known : goal.returns-clause-known
returns-clause-known c = is_known

pub returns-clause-roots : goal.returns-clause-roots
returns-clause-roots c = is_rooted

pub returns-clause-nodes : goal.returns-clause-nodes
returns-clause-nodes c = is_unrolled

pub returns-clause-numbers : goal.returns-clause-numbers
returns-clause-numbers c = are_numbered
