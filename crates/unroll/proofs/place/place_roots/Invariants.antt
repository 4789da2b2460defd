use Rattle.unroll.specs.Walks.{AreNumbered}
use Rattle.unroll.specs.declared.origin.Origin.TheVariants.{Nothing}
use Rattle.unroll.proofs.place.place_roots.Given as goal

abbrev pub invariant-bits : goal.invariant-bits
invariant-bits l = AreNumbered Nothing l.graph l.cycle l.bit l.row l.fn.origins l.origins
