use Rattle.std.proofs.Common.{◌≡◌, take}
use Rattle.bind_run.proofs.copies.ports_of.Given as goal

abbrev pub invariant-ports : goal.invariant-ports
invariant-ports l = l.copies.items ≡ take l.port-index l.ports
