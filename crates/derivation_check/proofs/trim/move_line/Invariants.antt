use Rattle.std.proofs.Common.{◌≡◌, map, take}
use Rattle.derivation_check.specs.Trimmed.{moved_number, moved_cut}
use Rattle.derivation_check.proofs.trim.move_line.Given as goal

abbrev pub invariant-moving : goal.invariant-moving
invariant-moving l = l.cuts.items ≡ map (moved_cut (moved_number l.count l.places)) (take l.cut-index l.line.cuts)
