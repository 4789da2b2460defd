use Rattle.std.proofs.Common.{arith}
use Rattle.clause_solver.proofs.LubyFacts.{sought_first, sought_found, sought_low, sought_high}
use Rattle.clause_solver.proofs.restarts.luby.Goals as goal

pub halving-init : goal.halving-init
halving-init c = sought_first c.args.place c.requires.positive c.requires.bound

pub returns-then-i-power-clause-number : goal.returns-then-i-power-clause-number
returns-then-i-power-clause-number c = sought_found c.args.place c.halving.power c.halving.i c.halving.invariant (omega arith) (omega arith)

pub halving-preserved-then-i-power-2 : goal.halving-preserved-then-i-power-2
halving-preserved-then-i-power-2 c = sought_high c.args.place c.halving.power c.halving.i c.halving.invariant (omega arith) (λ e. absurd (omega arith)) (omega arith)

pub halving-preserved : goal.halving-preserved
halving-preserved c = sought_low c.args.place c.halving.power c.halving.i c.halving.invariant (omega arith) (λ e. absurd (omega arith)) (omega arith)
