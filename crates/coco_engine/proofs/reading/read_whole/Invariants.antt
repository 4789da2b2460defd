-- what was read so far stands at the front of the file
use Rattle.std.proofs.Common.{◌≡◌, ◌≤◌, ◌-◌, length}
use Rattle.coco_engine.specs.Files.{IsFront}
use Rattle.coco_engine.proofs.reading.read_whole.Given as goal

abbrev pub invariant-reading : goal.invariant-reading
invariant-reading g l = record {
  room : length l.bytes.items ≤ 134283264;
  size : length l.piece ≡ 65536;
  front : IsFront (g.F.Shelf.holds l.initial.shelf l.name) l.bytes.items;
  later : g.F.Shelf.faults l.initial.shelf ≤ g.F.Shelf.faults l.shelf;
  held : g.F.Shelf.holds l.shelf ≡ g.F.Shelf.holds l.initial.shelf;
}

abbrev pub decreases-reading : goal.decreases-reading
decreases-reading g l = 134283265 - length l.bytes.items
