-- A table of names, as the code keeps it.
use Rattle.std.specs.Prelude.{ℕ, List, map, Vec}
use Rattle.std.specs.Borrow.{Bor}
use Rattle.std.specs.declared.alloc.Global.{Global}
use Rattle.coco_base.specs.declared.netlist.Wire.{Wire}
use Rattle.bind_run.specs.Nets.{Named}

-- the bytes of keys, and their wires
abbrev pub seen_entries : List (Vec ℕ Global × Bor (List Wire)) → List Named
seen_entries entries = map (λ e. (e.0.items, e.1.now)) entries
