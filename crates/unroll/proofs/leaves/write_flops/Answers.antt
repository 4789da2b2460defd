use Rattle.std.proofs.Common.{◌≡◌, length, sym, arith}
use Rattle.model_laws.proofs.Lists.{member_of_place}
use Rattle.gate_graph.proofs.Items.{get_at, place_below}
use Rattle.unroll.specs.NodeRows.{nodes_of}
use Rattle.unroll.specs.NodeWrites.{flop_write}
use Rattle.unroll.proofs.WriteLemmas.{mapped_part}
use Rattle.unroll.proofs.leaves.write_flops.Goals as goal

pub bounds-row-flop : goal.bounds-row-flop
bounds-row-flop c =
    let inside = c.flop-flop.ensures.built.range.flops c.flop-flop.result.now (member_of_place c.args.graph.now.flat.flops c.flops.number c.flop-flop.result.now c.flop-flop.ensures.flop) in
    let long = c.flops.auto.row in
    let first = c.requires in
    omega arith

pub flops-preserved : goal.flops-preserved
flops-preserved c =
    let x = c.flop-flop.result.now in
    let inside = c.flop-flop.ensures.built.range.flops x (member_of_place c.args.graph.now.flat.flops c.flops.number x c.flop-flop.ensures.flop) in
    let first : length c.args.row.now ≡ c.args.graph.now.flat.bits = c.requires in
    mapped_part (flop_write (nodes_of c.args.copies.now)) c.args.graph.now.flat.flops c.flops.number x c.args.row.now c.flops.row
    c.wire_node.result (place_below c.args.graph.now.flat.flops c.flops.number x c.flop-flop.ensures.flop) (sym (get_at c.args.graph.now.flat.flops c.flops.number x x c.flop-flop.ensures.flop))
    c.wire_node.ensures (rw first inside) c.flops.invariant
