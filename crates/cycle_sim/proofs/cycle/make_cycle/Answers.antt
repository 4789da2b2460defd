use Rattle.cycle_sim.proofs.StandLemmas.{ready_first, ready_later}
use Rattle.cycle_sim.proofs.cycle.make_cycle.Goals as goal

pub first_cycle-requires-clause-words : goal.first_cycle-requires-clause-words
first_cycle-requires-clause-words c =
    ready_first c.args.graph.now.flat c.args.setup.now c.args.cycle c.args.rows.now.known.items c.args.rows.now.before.items c.args.rows.now.memory.items
    c.if-cycle-eq0.true c.requires.ready

pub next_cycle-requires-clause-at : goal.next_cycle-requires-clause-at
next_cycle-requires-clause-at c =
    ready_later c.args.graph.now.flat c.args.setup.now c.args.cycle c.args.rows.now.known.items c.args.rows.now.before.items c.args.rows.now.memory.items
    c.if-cycle-eq0.false c.requires.ready
