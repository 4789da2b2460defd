use Rattle.std.proofs.Common.{◌≡◌, ℕ, take}
use Rattle.coco_base.specs.LabelSets.{has}
use Rattle.coco_model.specs.UnrolledRuns.{index_of}
use Rattle.coco_model.specs.WrittenFindings.{set_of_nodes}
use Rattle.stable_sets.specs.Chosen.{sets_in}
use Rattle.stable_sets.proofs.finding.set_of.Given as goal

abbrev pub invariant-pairs : goal.invariant-pairs
invariant-pairs l = (k : ℕ) → has l.set k ≡ set_of_nodes (index_of l.unrolled) (sets_in l.sets) (take l.place l.pairs) k
