-- The bits whose values events bring in.
use Rattle.std.specs.Prelude.{ℕ, ◌⊎◌}
use Rattle.coco_model.specs.Netlist.{IsFlopBit, IsInputBit}
use Rattle.gate_graph.specs.Graphs.{Gates}

-- a bit that a flop or an input port drives
abbrev pub IsLeafBit : Gates → ℕ → Type 0
IsLeafBit gates bit = IsFlopBit gates.flat bit ⊎ IsInputBit gates.flat bit
