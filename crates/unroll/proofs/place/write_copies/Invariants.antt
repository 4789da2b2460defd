use Rattle.std.proofs.Common.{◌≡◌, ℕ, ◌<◌}
use Rattle.coco_model.specs.Stepped.{row_of}
use Rattle.unroll.specs.NodeRows.{copies, nodes_of}
use Rattle.unroll.specs.RootedRuns.{number_in}
use Rattle.unroll.proofs.place.write_copies.Given as goal

abbrev pub invariant-bits : goal.invariant-bits
invariant-bits l = (b : ℕ) → b < l.bit → nodes_of l.copied b ≡ copies (number_in l.graph l.cycle) (row_of l.row) b
