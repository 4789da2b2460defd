use Rattle.std.proofs.Common.{◌≡◌, take}
use Rattle.pickers.specs.Seeds.{open_count_of}
use Rattle.pickers.proofs.first.open_count.Given as goal

abbrev pub invariant-counting : goal.invariant-counting
invariant-counting l = l.count ≡ open_count_of (take l.is_unset-index l.unset)
