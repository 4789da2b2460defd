use Rattle.derivation_check.proofs.Picking.{IsPicking}
use Rattle.derivation_check.proofs.trim.pick.Given as goal

abbrev pub invariant-picking : goal.invariant-picking
invariant-picking l = IsPicking l.place l.count l.lines l.used l.places.items l.picked
