use Rattle.std.proofs.Common.{◌≡◌, drop}
use Rattle.rv_asm.specs.Demands.{all_words}
use Rattle.rv_asm.proofs.DemandLemmas.{onto}
use Rattle.rv_asm.proofs.layout.demands.all_words.Given as goal

abbrev pub invariant-values : goal.invariant-values
invariant-values l = onto l.found.items (all_words l.names l.here l.demand (drop l.value-index l.values)) ≡ all_words l.names l.here l.demand l.values
