use Rattle.std.proofs.Common.{◌∷◌, map, take}
use Rattle.derivation_check.specs.Used.{Adds}
use Rattle.derivation_check.proofs.used.add_named.Given as goal

abbrev pub invariant-adding : goal.invariant-adding
invariant-adding l = Adds l.count (l.line.first ∷ map (λ cut. cut.id) (take l.cut-index l.line.cuts)) l.fn.used l.used
