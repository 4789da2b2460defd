use Rattle.std.proofs.Common.{arith, refl}
use Rattle.clause_builds.proofs.Lists.{through_fits, through_turn, through_ended}
use Rattle.probe_encode.specs.Goals.{some_holds}
use Rattle.probe_encode.proofs.goal.demand_all.Goals as goal

pub demand-requires : goal.demand-requires
demand-requires c =
    rw c.as_slice.ensures (through_fits some_holds c.args.clauses.now tt c.clauses.clause-index c.clause-item.result c.clauses.invariant c.clauses-test.true c.clause-item.is c.requires)

pub clauses-preserved : goal.clauses-preserved
clauses-preserved c =
    through_turn some_holds c.args.clauses.now tt c.clauses.clause-index c.clause-item.result c.demand.new.self tt c.clauses.invariant c.clauses-test.true c.clause-item.is
    (rw c.as_slice.ensures at c.in_ok-demand.ensures.ok) refl

pub returns : goal.returns
returns c = (through_ended some_holds c.args.clauses.now tt c.clauses.clause-index c.clauses.invariant (omega arith)).1
