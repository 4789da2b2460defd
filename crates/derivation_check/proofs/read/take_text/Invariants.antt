use Rattle.std.proofs.Common.{◌≡◌, ◌++◌, take}
use Rattle.derivation_check.proofs.read.take_text.Given as goal

abbrev pub invariant-taking : goal.invariant-taking
invariant-taking l = l.initial.reader ≡ take l.byte-index l.text ++ l.reader
