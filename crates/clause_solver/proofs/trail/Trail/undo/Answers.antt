use Rattle.std.proofs.Common.{sym, refl, arith}
use Rattle.std.proofs.lemmas.List.{take_all}
use Rattle.clause_solver.proofs.trail.Trail.undo.Goals as goal

pub popping-init : goal.popping-init
popping-init c = record {
  left = omega arith;
  lits = sym (take_all _ c.args.self.now.lits (omega arith));
  reasons = sym (take_all _ c.args.self.now.reasons (omega (arith, c.len-end.ensures.coherent.reasons_len)));
  starts = refl;
  vars = refl;
}
