use Rattle.std.proofs.Common.{◌≡◌, ◌+◌, ◌/◌, false, cond, get_or, sym, ◌∙◌, ap, arith}
use Rattle.coco_base.specs.declared.netlist.Wire.TheVariants.{Const}
use Rattle.coco_model.specs.Known.{ones}
use Rattle.coco_model.specs.Netlist.{wire_value}
use Rattle.coco_model.specs.Stepped.{row_of}
use Rattle.unroll.specs.NodeRows.{nodes_of, wire_node}
use Rattle.unroll.specs.NodeWords.{port_node}
use Rattle.unroll.proofs.WordLemmas.{placed_more, placed_same}
use Rattle.unroll.proofs.memory.place_bytes.Goals as goal
use Rattle.unroll.proofs.memory.place_bytes.Goals.{then-wire_is_one, else-wire_is_one}

pub bits-preserved : goal.bits-preserved
bits-preserved c =
    let low = c.bits-test.true in
    let room = c.requires in
    let r = row_of c.args.past.parts.now in
    let copied = nodes_of c.args.past.copies.now in
    let mem = c.args.mem.now in
    let k = c.bits.bit in
    let node = port_node r copied mem c.args.place c.args.memory.now in
    let enable = wire_value (ones r) (get_or mem.enables (k / 8) (Const false)) in
    let test : c.wire_is_one.result ≡ enable =
    c.wire_is_one.ensures ∙ ap (wire_value (ones r)) (c.wire_at.ensures ∙ ap (λ ws. get_or ws (k / 8) (Const false)) c.as_slice-enables.ensures) in
    elim c.if-wire_is_one.branch [
      | then-wire_is_one w ↦
          rw w.memory-is (placed_more c.args.place k node c.args.memory.now c.bits.memory w.wire_node.result
          (w.wire_node.ensures ∙ ap (wire_node copied) (w.wire_at-then-wire_is_one.ensures ∙ ap (λ ws. get_or ws k (Const false)) c.as_slice-value.ensures)
          ∙ sym (ap (λ t. cond t (wire_node copied (get_or mem.value k (Const false))) (nodes_of c.args.memory.now (c.args.place + k))) (sym test ∙ w.if-wire_is_one.true)))
          (omega arith) c.bits.invariant)
      | else-wire_is_one w ↦
          rw w.memory-is (placed_same c.args.place k node c.args.memory.now c.bits.memory
          (sym (ap (λ t. cond t (wire_node copied (get_or mem.value k (Const false))) (nodes_of c.args.memory.now (c.args.place + k))) (sym test ∙ w.if-wire_is_one.false)))
          c.bits.invariant)
    ]
