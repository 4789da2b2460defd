use Rattle.std.proofs.Common.{◌≡◌, ◌↔◌, length, drop}
use Rattle.clause_store.specs.Signs.{Signs}
use Rattle.clause_store.specs.Resolvents.{LeadsTo}
use Rattle.clause_store.specs.Derivations.{clauses_of}
use Rattle.derivation_check.specs.Marked.{signs_in}
use Rattle.derivation_check.proofs.chain.follow.Given as goal

abbrev pub invariant-cutting : goal.invariant-cutting
invariant-cutting l = record {
  size : length l.marks ≡ length l.initial.marks;
  leads : (r : Signs) → LeadsTo (clauses_of l.store l.lines) (signs_in l.initial.marks) l.cuts r ↔ LeadsTo (clauses_of l.store l.lines) (signs_in l.marks) (drop l.cut-index l.cuts) r;
}
