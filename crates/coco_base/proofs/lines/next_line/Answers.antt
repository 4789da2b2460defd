use Rattle.std.proofs.Common.{arith}
use Rattle.std.proofs.lemmas.Grind.{common_steps}
use Rattle.coco_base.proofs.LineLemmas.{lines-fed, lines-unfed}
use Rattle.coco_base.proofs.lines.next_line.Goals as goal

pub returns-in-Some-clause-line : goal.returns-in-Some-clause-line
returns-in-Some-clause-line c = grind (arith, common_steps, lines-fed)

pub returns-in-None-clause-line : goal.returns-in-None-clause-line
returns-in-None-clause-line c = grind (arith, common_steps, lines-unfed)
