-- as many places as asked for, none of which names a bit
use Rattle.std.proofs.Common.{◌≡◌, None, replicate}
use Rattle.coco_base.proofs.names.empty_table.Given as goal

abbrev pub invariant-bits : goal.invariant-bits
invariant-bits l = l.table.items ≡ replicate l._bit None
