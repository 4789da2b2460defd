use Rattle.std.proofs.Common.{length, sym, ap, subst, arith}
use Rattle.gate_graph.specs.Graphs.{IsBuilt, gates_of}
use Rattle.gate_graph.specs.Ranks.{IsRankOrder}
use Rattle.gate_graph.specs.Standings.{ArePlaces}
use Rattle.gate_graph.proofs.BuiltLemmas.{built}
use Rattle.gate_graph.proofs.building.graph_of.Goals as goal

pub by_rank-requires : goal.by_rank-requires
by_rank-requires c = let l = c.requires.levels.as_long in omega arith

pub ranks_of-requires-clause-few : goal.ranks_of-requires-clause-few
ranks_of-requires-clause-few c =
    let v = ap length c.as_slice.ensures.value in let a = c.in_ok-bits.ensures.as_long in let l = c.requires.levels.as_long in omega arith

pub invariant_of-result : goal.invariant_of-result
invariant_of-result c =
    subst (λ f. IsBuilt (gates_of f c.args.drivers.items c.in_ok-ranks.ranks.items c.in_ok-order.order.items c.args.clock)) (sym c.in_ok-flat.ensures)
    (built c.args.flat.now c.args.drivers.items c.args.levels.now c.in_ok-bits.bits.items c.in_ok-ranks.ranks.items c.in_ok-order.order.items c.args.clock
    c.requires.wired c.requires.levels c.in_ok-bits.ensures (subst (λ bs. ArePlaces bs c.in_ok-ranks.ranks.items) c.as_slice.ensures.value c.in_ok-ranks.ensures)
    (subst (λ rs. IsRankOrder c.args.flat.now rs c.in_ok-order.order.items) c.as_slice-4.ensures.value c.in_ok-order.ensures) c.requires.clock)

pub returns : goal.returns
returns c = record {
  flat_is = c.in_ok-flat.ensures;
  built =
      subst (λ f. IsBuilt (gates_of f c.args.drivers.items c.in_ok-ranks.ranks.items c.in_ok-order.order.items c.args.clock)) (sym c.in_ok-flat.ensures)
      (built c.args.flat.now c.args.drivers.items c.args.levels.now c.in_ok-bits.bits.items c.in_ok-ranks.ranks.items c.in_ok-order.order.items c.args.clock
      c.requires.wired c.requires.levels c.in_ok-bits.ensures (subst (λ bs. ArePlaces bs c.in_ok-ranks.ranks.items) c.as_slice.ensures.value c.in_ok-ranks.ensures)
      (subst (λ rs. IsRankOrder c.args.flat.now rs c.in_ok-order.order.items) c.as_slice-4.ensures.value c.in_ok-order.ensures) c.requires.clock);
}
