use Rattle.std.proofs.Common.{false, sym, ◌∙◌, ap, subst, arith}
use Rattle.std.proofs.lemmas.List.{get_or_default}
use Rattle.coco_base.specs.declared.setup.Start.TheVariants.{Public}
use Rattle.coco_model.specs.Carried.{start_state, IsLabelled}
use Rattle.coco_model.specs.Nodes.{starting_nodes}
use Rattle.model_laws.proofs.Lists.{member_of_place}
use Rattle.gate_graph.proofs.Items.{get_at, place_below}
use Rattle.unroll.specs.NodeWrites.{start_write}
use Rattle.unroll.proofs.WriteLemmas.{mapped_part, mapped_all}
use Rattle.unroll.proofs.leaves.write_starts.Goals as goal

pub bounds-starts-bit : goal.bounds-starts-bit
bounds-starts-bit c =
    let inside = c.flop.ensures.built.range.flops c.flop.result.now (member_of_place c.args.graph.now.flat.flops c.flops.number c.flop.result.now c.flop.ensures.flop) in
    let many = c.requires.starts in
    omega arith

pub start_node-requires-clause-labelled : goal.start_node-requires-clause-labelled
start_node-requires-clause-labelled c =
    let x = c.flop.result.now in
    let inside = c.flop.ensures.built.range.flops x (member_of_place c.args.graph.now.flat.flops c.flops.number x c.flop.ensures.flop) in
    let many = c.requires.starts in
    subst (IsLabelled c.args.table.now) (sym (get_or_default c.args.starts.now x.output _ (Public false) (omega arith)))
    (c.requires.labelled x (member_of_place c.args.graph.now.flat.flops c.flops.number x c.flop.ensures.flop))

pub bounds-row-bit : goal.bounds-row-bit
bounds-row-bit c =
    let inside = c.flop.ensures.built.range.flops c.flop.result.now (member_of_place c.args.graph.now.flat.flops c.flops.number c.flop.result.now c.flop.ensures.flop) in
    let long = c.flops.auto.row in
    let first = c.requires.row in
    omega arith

pub flops-preserved : goal.flops-preserved
flops-preserved c =
    let x = c.flop.result.now in
    let inside = c.flop.ensures.built.range.flops x (member_of_place c.args.graph.now.flat.flops c.flops.number x c.flop.ensures.flop) in
    let many = c.requires.starts in
    let first = c.requires.row in
    mapped_part (start_write c.args.table.now c.args.starts.now) c.args.graph.now.flat.flops c.flops.number x c.args.row.now c.flops.row
    c.start_node.result (place_below c.args.graph.now.flat.flops c.flops.number x c.flop.ensures.flop) (sym (get_at c.args.graph.now.flat.flops c.flops.number x x c.flop.ensures.flop))
    (c.start_node.ensures ∙ ap (start_state starting_nodes c.args.table.now 0) (get_or_default c.args.starts.now x.output _ (Public false) (omega arith)))
    (omega arith) c.flops.invariant

pub returns : goal.returns
returns c =
    let count = c.flops-number-end.ensures.flops in
    let end = c.flops-test.false in
    mapped_all (start_write c.args.table.now c.args.starts.now) c.args.graph.now.flat.flops c.flops.number c.args.row.now c.flops.row (omega arith) c.flops.invariant
