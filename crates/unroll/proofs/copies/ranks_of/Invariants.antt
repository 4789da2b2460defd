use Rattle.std.proofs.Common.{◌≡◌, take}
use Rattle.unroll.proofs.copies.ranks_of.Given as goal

abbrev pub invariant-bits : goal.invariant-bits
invariant-bits l = l.ranks.items ≡ take l.bit l.graph.ranks
