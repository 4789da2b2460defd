use Rattle.std.proofs.Common.{◌≡◌, drop}
use Rattle.rv_asm.specs.Demands.{any_outside}
use Rattle.rv_asm.proofs.layout.demands.any_outside.Given as goal

abbrev pub invariant-values : goal.invariant-values
invariant-values l = any_outside l.names l.here l.demand (drop l.value-index l.values) ≡ any_outside l.names l.here l.demand l.values
