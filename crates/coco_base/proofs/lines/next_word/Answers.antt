use Rattle.std.proofs.Common.{arith}
use Rattle.std.proofs.lemmas.Grind.{common_steps}
use Rattle.coco_base.proofs.WordLemmas.{blank-later, boundary-blank, words-ended, words-last}
use Rattle.coco_base.proofs.lines.next_word.Goals as goal

pub split_at-requires : goal.split_at-requires
split_at-requires c = grind (arith, common_steps, boundary-blank)

pub returns-in-Some-clause-word : goal.returns-in-Some-clause-word
returns-in-Some-clause-word c = grind (arith, common_steps, words-ended)

pub returns-in-Some-clause-shorter : goal.returns-in-Some-clause-shorter
returns-in-Some-clause-shorter c = grind (arith, common_steps, blank-later)

pub returns-in-None-clause-word : goal.returns-in-None-clause-word
returns-in-None-clause-word c = grind (arith, common_steps, words-last)
