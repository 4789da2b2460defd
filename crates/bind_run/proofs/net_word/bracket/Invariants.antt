use Rattle.std.proofs.Common.{◌≡◌, ◌+◌, length, drop}
use Rattle.bind_run.specs.NetWords.{bracket}
use Rattle.bind_run.proofs.WordLemmas.{behind}
use Rattle.bind_run.proofs.net_word.bracket.Given as goal

abbrev pub invariant-bytes : goal.invariant-bytes
invariant-bytes l = record {
  value : behind l.place (bracket l.rest) ≡ bracket l.word;
  rest : l.rest ≡ drop l.place l.word;
  size : l.place + length l.rest ≡ length l.word;
}

abbrev pub decreases-bytes : goal.decreases-bytes
decreases-bytes l = length l.rest
