-- the lines so far are those of the file
use Rattle.std.proofs.Common.{length}
use Rattle.proof_file.proofs.Heads.{Compared}
use Rattle.proof_file.proofs.head.rest_after.Given as goal

abbrev pub invariant-comparing : goal.invariant-comparing
invariant-comparing l = Compared l.head l.file l.left l.rest l.number

abbrev pub decreases-comparing : goal.decreases-comparing
decreases-comparing l = length l.left
