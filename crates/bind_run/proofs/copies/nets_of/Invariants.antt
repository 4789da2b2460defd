use Rattle.std.proofs.Common.{◌≡◌, take}
use Rattle.bind_run.proofs.copies.nets_of.Given as goal

abbrev pub invariant-nets : goal.invariant-nets
invariant-nets l = l.copies.items ≡ take l.net-index l.nets
