use Rattle.std.proofs.Common.{◌≡◌, length, take}
use Rattle.clause_store.specs.Signs.{sign_of}
use Rattle.derivation_check.specs.Marked.{signs_in, IsMerged}
use Rattle.derivation_check.proofs.chain.merge.Given as goal

abbrev pub invariant-merging : goal.invariant-merging
invariant-merging l = record {
  size : length l.marks ≡ length l.initial.marks;
  merged : IsMerged l.var (signs_in l.initial.marks) (sign_of (take l.lit-index l.clause)) (signs_in l.marks);
}
