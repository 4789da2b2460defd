use Rattle.derivation_check.proofs.Adding.{IsMarkedFrom}
use Rattle.derivation_check.proofs.used.used_lines.Given as goal

abbrev pub invariant-marking : goal.invariant-marking
invariant-marking l = IsMarkedFrom l.place l.count l.lines l.used.items

abbrev pub decreases-marking : goal.decreases-marking
decreases-marking l = l.place
