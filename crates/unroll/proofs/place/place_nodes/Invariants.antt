use Rattle.coco_base.specs.declared.unrolled.Node.TheVariants.{Nothing}
use Rattle.unroll.specs.Walks.{AreNumbered}
use Rattle.unroll.proofs.place.place_nodes.Given as goal

abbrev pub invariant-bits : goal.invariant-bits
invariant-bits l = AreNumbered Nothing l.graph l.cycle l.bit l.row l.fn.nodes l.nodes
