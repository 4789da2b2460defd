use Rattle.std.proofs.Common.{◌≡◌, length, take}
use Rattle.derivation_check.specs.Marked.{signs_in, IsTaken}
use Rattle.derivation_check.proofs.chain.ends_in.Given as goal

abbrev pub invariant-taking : goal.invariant-taking
invariant-taking l = record {
  size : length l.marks ≡ length l.initial.marks;
  taken : IsTaken (take l.lit-index l.clause) (signs_in l.initial.marks) (signs_in l.marks);
}
