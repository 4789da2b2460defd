use Rattle.std.proofs.Common.{◌<◌, arith}
use Rattle.std.proofs.lemmas.Grind.{common_steps}
use Rattle.glitch_world.specs.Leaves.{IsLeafBit}
use Rattle.glitch_world.proofs.LeafLemmas.{leaf_below}
use Rattle.glitch_world.proofs.world.World.has_event.Goals as goal

pub returns-else-bit-bits : goal.returns-else-bit-bits
returns-else-bit-bits c =
    let low : IsLeafBit c.self.inside.graph.now c.in-Leaf.bit → c.in-Leaf.bit < c.self.inside.graph.now.flat.bits =
    leaf_below c.self.inside.graph.now c.self.invariant.built c.in-Leaf.bit in
    rw (c.in-Leaf.is, ← c.self.view_is) (grind (arith, common_steps, low))
