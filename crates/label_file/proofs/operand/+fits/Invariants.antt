use Rattle.std.proofs.Common.{length}
use Rattle.label_file.proofs.operand.+fits.Given as goal

abbrev pub decreases-fits : goal.decreases-fits
decreases-fits l = length l.operands.now
