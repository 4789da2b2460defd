-- That levels are one.
use Rattle.std.specs.Prelude.{◌≡◌, ℕ}
use Rattle.coco_base.specs.declared.netlist.Flat.{Flat}
use Rattle.coco_model.specs.Netlist.{HasOneDriver}
use Rattle.gate_graph.specs.Levels.{HasLevel}

-- a bit has at most one level
unfoldable pub OneLevelLaw : Type 0
OneLevelLaw = (flat : Flat) → HasOneDriver flat → (bit m n : ℕ) → HasLevel flat bit m → HasLevel flat bit n → m ≡ n
