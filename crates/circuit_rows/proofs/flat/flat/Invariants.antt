-- the netlist so far, with the rows that are left, is that of all
use Rattle.std.proofs.Common.{◌≡◌, drop}
use Rattle.circuit_rows.specs.Flats.{flat_after, flat_of}
use Rattle.circuit_rows.proofs.flat.flat.Given as goal

abbrev pub invariant-rows : goal.invariant-rows
invariant-rows l = flat_after l.flat (drop l.row-index l.row-items) ≡ flat_of l.circuit
