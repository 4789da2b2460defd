use Rattle.std.proofs.Common.{length, take}
use Rattle.clause_store.specs.Derivations.{clauses_of}
use Rattle.clause_solver.specs.Watches.{IsSettled}
use Rattle.clause_solver.proofs.GuardFacts.{settled_closed}
use Rattle.clause_solver.proofs.search.search.Goals as goal

pub returns-in-None-next_unset-clause-searched : goal.returns-in-None-next_unset-clause-searched
returns-in-None-next_unset-clause-searched g c =
    let settled : IsSettled (clauses_of c.args.store.now c.args.lines.now) c.propagate.new.watches (take (length c.propagate.new.trail.lits) c.propagate.new.trail.lits) c.propagate.new.trail.lits = rw c.in-None.is at c.in_ok-id.ensures.settled in
    record {
      closed = settled_closed (clauses_of c.args.store.now c.args.lines.now) c.propagate.new.trail c.propagate.new.watches c.in_ok-id.ensures.guarded settled;
      full = c.in-None-next_unset.ensures.none;
    }
