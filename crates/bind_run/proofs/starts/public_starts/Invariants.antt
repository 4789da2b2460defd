use Rattle.std.proofs.Common.{◌≡◌, false, replicate}
use Rattle.coco_base.specs.declared.setup.Start.TheVariants.{Public}
use Rattle.bind_run.proofs.starts.public_starts.Given as goal

abbrev pub invariant-bits : goal.invariant-bits
invariant-bits l = l.starts.items ≡ replicate l._bit (Public false)
