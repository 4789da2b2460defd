use Rattle.unroll.proofs.UnrolledLemmas.{unrolled_of, unrolled_for}
use Rattle.unroll.proofs.unrolling.unroll.Goals as goal

pub returns-clause-unrolled : goal.returns-clause-unrolled
returns-clause-unrolled c =
    unrolled_of c.args.graph.now c.args.setup.now c.bits-bits.ensures.built c.requires.bound c.args.cycles c.requires.some c.in_ok-nodes.nodes
    c.in_ok-nodes.ensures.nodes c.bits-bits.result c.in_ok-ranks_of.field-0 c.nodes.inside.inner.items c.in_ok-table_of.field-0
    c.bits-bits.ensures.bits c.in_ok-ranks_of.ensures c.nodes.view_is c.in_ok-table_of.ensures

pub returns-clause-as_graph : goal.returns-clause-as_graph
returns-clause-as_graph c =
    unrolled_for c.args.graph.now c.args.setup.now c.bits-bits.ensures.built c.requires.bound c.args.cycles _ c.in_ok-ranks_of.ensures
    (returns-clause-unrolled c)
