use Rattle.std.proofs.Common.{◌≡◌, take}
use Rattle.gate_graph.proofs.copies.flops_of.Given as goal

abbrev pub invariant-flops : goal.invariant-flops
invariant-flops l = l.copies.items ≡ take l.flop-index l.flops
