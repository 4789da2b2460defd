use Rattle.unroll.specs.NodeWords.{IsPlaced, plan_node}
use Rattle.unroll.proofs.memory.place_starts.Given as goal

abbrev pub invariant-bits : goal.invariant-bits
invariant-bits l = IsPlaced l.place l.bit (plan_node l.table l.bits) l.fn.memory l.memory
