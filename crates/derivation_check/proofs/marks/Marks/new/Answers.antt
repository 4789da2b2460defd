use Rattle.std.proofs.Common.{sym}
use Rattle.derivation_check.proofs.Counts.{count_from_clear}
use Rattle.derivation_check.proofs.marks.Marks.new.Goals as goal

pub invariant_of-result : goal.invariant_of-result
invariant_of-result c = sym (count_from_clear c.filling.signs.items c.filling.invariant.clear)
