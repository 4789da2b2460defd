use Rattle.std.proofs.Common.{◌≡◌, take}
use Rattle.bind_run.proofs.copies.flops_of.Given as goal

abbrev pub invariant-flops : goal.invariant-flops
invariant-flops l = l.copies.items ≡ take l.flop-index l.flops
