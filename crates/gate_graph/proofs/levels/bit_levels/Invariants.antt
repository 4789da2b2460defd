use Rattle.std.proofs.Common.{◌≡◌, map, take}
use Rattle.gate_graph.specs.Marks.{driver_level}
use Rattle.gate_graph.proofs.levels.bit_levels.Given as goal

abbrev pub invariant-bits : goal.invariant-bits
invariant-bits l = l.levels.items ≡ map (driver_level l.marks) (take l.driver-index l.drivers)
