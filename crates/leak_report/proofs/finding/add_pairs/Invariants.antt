-- the lines so far are those of the members so far
use Rattle.std.proofs.Common.{◌≡◌, ◌++◌, take}
use Rattle.leak_report.specs.Places.{sees_lines}
use Rattle.leak_report.proofs.finding.add_pairs.Given as goal

abbrev pub invariant-pairs : goal.invariant-pairs
invariant-pairs l = l.text.items ≡ l.initial.text.items ++ sees_lines l.scene.flat.now (take l.pair-index l.pairs)
