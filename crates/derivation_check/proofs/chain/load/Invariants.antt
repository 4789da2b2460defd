use Rattle.std.proofs.Common.{◌≡◌, ℕ, length, take}
use Rattle.clause_store.specs.Signs.{sign_of}
use Rattle.derivation_check.specs.Marked.{signs_in}
use Rattle.derivation_check.proofs.chain.load.Given as goal

abbrev pub invariant-loading : goal.invariant-loading
invariant-loading l = record {
  size : length l.marks ≡ length l.initial.marks;
  signs : (v : ℕ) → signs_in l.marks v ≡ sign_of (take l.lit-index l.clause) v;
}
