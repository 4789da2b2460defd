use Rattle.std.proofs.Common.{false, sym, ◌∙◌, ap, arith}
use Rattle.std.proofs.lemmas.List.{get_or_default}
use Rattle.coco_base.specs.declared.setup.Start.TheVariants.{Public}
use Rattle.coco_model.specs.Carried.{start_state}
use Rattle.coco_model.specs.Known.{parts}
use Rattle.model_laws.proofs.Lists.{member_of_place}
use Rattle.gate_graph.proofs.Items.{get_at, place_below}
use Rattle.cycle_sim.specs.Writes.{start_write}
use Rattle.cycle_sim.proofs.WriteLemmas.{mapped_part, mapped_all}
use Rattle.cycle_sim.proofs.leaves.write_starts.Goals as goal

pub bounds-starts-bit : goal.bounds-starts-bit
bounds-starts-bit c =
    let inside = c.flop.ensures.built.range.flops c.flop.result.now (member_of_place c.args.graph.now.flat.flops c.flops.number c.flop.result.now c.flop.ensures.flop) in
    let many = c.requires.starts in
    omega arith

pub bounds-row-bit : goal.bounds-row-bit
bounds-row-bit c =
    let inside = c.flop.ensures.built.range.flops c.flop.result.now (member_of_place c.args.graph.now.flat.flops c.flops.number c.flop.result.now c.flop.ensures.flop) in
    let long = c.flops.auto.row in
    let first = c.requires.row in
    omega arith

pub flops-preserved : goal.flops-preserved
flops-preserved c = λ table.
    let x = c.flop.result.now in
    let inside = c.flop.ensures.built.range.flops x (member_of_place c.args.graph.now.flat.flops c.flops.number x c.flop.ensures.flop) in
    let many = c.requires.starts in
    let first = c.requires.row in
    mapped_part (start_write table c.args.starts.now) c.args.graph.now.flat.flops c.flops.number x c.args.row.now c.flops.row
    c.start_part.result (place_below c.args.graph.now.flat.flops c.flops.number x c.flop.ensures.flop) (sym (get_at c.args.graph.now.flat.flops c.flops.number x x c.flop.ensures.flop))
    (c.start_part.ensures table 0 ∙ ap (start_state parts table 0) (get_or_default c.args.starts.now x.output _ (Public false) (omega arith)))
    (omega arith) (c.flops.invariant table)

pub returns : goal.returns
returns c = λ table.
    let count = c.flops-number-end.ensures.flops in
    let end = c.flops-test.false in
    mapped_all (start_write table c.args.starts.now) c.args.graph.now.flat.flops c.flops.number c.args.row.now c.flops.row (omega arith) (c.flops.invariant table)
