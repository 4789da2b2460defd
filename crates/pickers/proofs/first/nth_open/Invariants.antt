use Rattle.std.proofs.Common.{◌≡◌, ◌+◌, take}
use Rattle.pickers.specs.Seeds.{open_count_of}
use Rattle.pickers.proofs.first.nth_open.Given as goal

abbrev pub invariant-passing : goal.invariant-passing
invariant-passing l = open_count_of (take l.var l.unset) + l.left ≡ l.number
