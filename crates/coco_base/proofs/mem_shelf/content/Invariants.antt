-- no file before the index has the name
use Rattle.std.proofs.Common.{◌≡◌, drop}
use Rattle.coco_base.specs.Memory.{bytes_of}
use Rattle.coco_base.proofs.mem_shelf.content.Given as goal

abbrev pub invariant-files : goal.invariant-files
invariant-files l = bytes_of (drop l.file-index l.files) l.name ≡ bytes_of l.files l.name
