use Rattle.std.proofs.Common.{false, arith}
use Rattle.circuit_clauses.specs.declared.signal.Signal.TheVariants.{Constant}
use Rattle.probe_clauses.specs.Rows.{picked}
use Rattle.probe_clauses.proofs.Picking.{picked_turn, picked_ended}
use Rattle.probe_clauses.proofs.counted.picked.Goals as goal

pub places-preserved : goal.places-preserved
places-preserved c =
    rw c.in_ok-push_wanted.ensures (picked_turn c.places.list c.args.wanted.now c.args.signals.now (picked c.args.wanted.now c.args.signals.now) c.places.i (Constant false) (omega arith) (omega arith) c.places.invariant)

pub returns : goal.returns
returns c = picked_ended c.places.list c.args.wanted.now c.args.signals.now (picked c.args.wanted.now c.args.signals.now) c.places.i (omega arith) c.places.invariant
