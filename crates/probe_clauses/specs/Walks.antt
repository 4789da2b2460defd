-- Walks against the wires: what is true at a cell's output becomes true at the inputs that it lets through.
use Rattle.std.specs.Prelude.{ℕ, List, length}
use Rattle.std.specs.List.{range_with_len}
use Rattle.coco_base.specs.declared.netlist.Wire.{Wire}
use Rattle.coco_base.specs.declared.netlist.Wire.TheVariants.{Const, Bit}
use Rattle.circuit_clauses.specs.declared.signal.Signal.{Signal}
use Rattle.clause_builds.specs.Builds.{Build, done, through}
use Rattle.clause_builds.specs.Rows.{signal_at, or_into}
use Rattle.probe_clauses.specs.Probings.{Probing, open_wire}

-- the bit of a wire becomes what it or the output is
abbrev pub pass_to : Wire → ℕ → List Signal → Build (List Signal)
pass_to (Const value) output row = done row
pass_to (Bit bit) output row = or_into row bit (signal_at row output)

-- the same at a place of a cell, where it is open in some of these cycles
abbrev pub pass_at : Probing → List ℕ → ℕ → ℕ → List Signal → Build (List Signal)
pass_at run times cell place row = pass_to (open_wire run times cell place) (run.output cell) row

abbrev pub pass_on : Probing → List ℕ → ℕ → List Signal → Build (List Signal)
pass_on run times cell row = through (pass_at run times cell) (range_with_len 0 (length (run.wires cell))) row

-- cell by cell, those of higher rank first
abbrev pub walk_down : Probing → List ℕ → List Signal → Build (List Signal)
walk_down run times row = through (pass_on run times) run.cells row
