use Rattle.std.proofs.Common.{arith}
use Rattle.std.proofs.lemmas.Grind.{common_steps}
use Rattle.coco_base.proofs.WordLemmas.{boundary-past}
use Rattle.coco_base.proofs.lines.trim_blanks.Goals as goal

pub range_from-rest-requires : goal.range_from-rest-requires
range_from-rest-requires c = grind (arith, common_steps, boundary-past)
