use Rattle.std.proofs.Common.{◌≡◌, map}
use Rattle.std.specs.List.{range_with_len}
use Rattle.bind_run.specs.Values.{value_start}
use Rattle.bind_run.proofs.values.bits_of.Given as goal

abbrev pub invariant-bits : goal.invariant-bits
invariant-bits l = l.bits.items ≡ map (value_start l.value) (range_with_len 0 l.place)
