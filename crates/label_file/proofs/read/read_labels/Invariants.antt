use Rattle.std.proofs.Common.{◌≡◌, ◌+◌, ◌≤◌, length}
use Rattle.std.specs.Str.Lines.{lines}
use Rattle.label_file.specs.Files.{after_lines}
use Rattle.label_file.specs.Readings.{empty}
use Rattle.label_file.proofs.KeptReadings.{AreKept}
use Rattle.label_file.proofs.Rooms.{IsRoomy}
use Rattle.label_file.proofs.read.read_labels.Given as goal

abbrev pub invariant-reading : goal.invariant-reading
invariant-reading l = record {
  roomy : IsRoomy l.limits.labels l.reading;
  kept : AreKept l.reading;
  rest : after_lines l.limits.labels l.reading l.number (lines l.rest) ≡ after_lines l.limits.labels empty 0 (lines l.bytes);
  size : l.number + length l.rest ≤ length l.bytes;
}

abbrev pub decreases-reading : goal.decreases-reading
decreases-reading l = length l.rest
