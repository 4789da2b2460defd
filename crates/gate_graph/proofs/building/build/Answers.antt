use Rattle.std.proofs.Common.{get_or, sym, subst}
use Rattle.gate_graph.specs.Clocks.{IsClockFault}
use Rattle.gate_graph.proofs.building.build.Goals as goal

pub returns-in_ok-name_of-in-Err-clause-fault : goal.returns-in_ok-name_of-in-Err-clause-fault
returns-in_ok-name_of-in-Err-clause-fault c = (
  c.in_ok-drivers.ensures.drivers.one_driver,
  ((λ b. get_or c.in_ok-levels.levels.items b 0), c.in_ok-levels.ensures.levels.each),
  subst (IsClockFault c.args.flat.now) (sym c.in_ok-name_of-in-Err.ensures) c.in-Err.ensures.fault,
)
