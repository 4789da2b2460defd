use Rattle.std.proofs.Common.{get_or, arith, false, refl}
use Rattle.circuit_clauses.specs.declared.signal.Signal.TheVariants.{Constant}
use Rattle.clause_builds.proofs.Lists.{item, through_fits, through_turn, through_ended}
use Rattle.probe_clauses.specs.Passes.{imply}
use Rattle.probe_clauses.proofs.links.imply_all.Goals as goal

pub demand-requires : goal.demand-requires
demand-requires c =
    let xs = c.args.actives.now in
    let i = c.actives.active-index in
    rw c.negated.ensures (through_fits (imply c.args.group) xs tt i (get_or xs i (Constant false)) c.actives.invariant (omega arith) (item xs i (Constant false) (omega arith)) c.requires)

pub actives-preserved : goal.actives-preserved
actives-preserved c =
    let xs = c.args.actives.now in
    let i = c.actives.active-index in
    through_turn (imply c.args.group) xs tt i (get_or xs i (Constant false)) c.demand.new.self tt c.actives.invariant (omega arith) (item xs i (Constant false) (omega arith))
    (rw c.negated.ensures at c.in_ok-demand.ensures.ok) refl

pub returns : goal.returns
returns c = record { formula = (through_ended (imply c.args.group) c.args.actives.now tt c.actives.active-index c.actives.invariant (omega arith)).1 }
