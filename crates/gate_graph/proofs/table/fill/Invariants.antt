use Rattle.std.proofs.Common.{take}
use Rattle.gate_graph.specs.Tables.{IsTable}
use Rattle.gate_graph.proofs.table.fill.Given as goal

abbrev pub invariant-places : goal.invariant-places
invariant-places l = IsTable (take l.place-index l.places) l.drivers l.second
