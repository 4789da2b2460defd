use Rattle.std.proofs.Common.{arith}
use Rattle.std.proofs.lemmas.Grind.{common_steps}
use Rattle.std.proofs.lemmas.Int.Digits.{digits_value_more}
use Rattle.coco_base.proofs.NumberLemmas.{number_of-large}
use Rattle.coco_base.proofs.number.number_of.Goals as goal

pub digits-preserved : goal.digits-preserved
digits-preserved c = grind (arith, common_steps, digits_value_more c.args.radix c.args.word.now c.digits.byte-index)

pub returns-in_default : goal.returns-in_default
returns-in_default c = grind (arith, common_steps, number_of-large c.args.radix c.args.most c.digits.number c.digits.byte-index c.args.word.now)
