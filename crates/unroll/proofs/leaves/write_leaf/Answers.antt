use Rattle.std.proofs.Common.{ℕ, ◌<◌, List, length, get_or, ◌∙◌, ap, subst, arith}
use Rattle.std.specs.Prelude.{Contains}
use Rattle.std.proofs.lemmas.List.Elements.{Contains-get_or}
use Rattle.coco_model.specs.Carried.{stored_word}
use Rattle.coco_model.specs.Known.{ones}
use Rattle.coco_model.specs.Nodes.{starting_nodes}
use Rattle.coco_model.specs.Stepped.{row_of}
use Rattle.unroll.specs.NodeRows.{nodes_of}
use Rattle.unroll.specs.NodeWrites.{IsWritten, bit_writes}
use Rattle.unroll.proofs.WriteLemmas.{bits_more, bits_all}
use Rattle.unroll.proofs.leaves.write_leaf.Goals as goal

pub bounds-row-bit : goal.bounds-row-bit
bounds-row-bit c =
    let b = get_or c.as_slice-bits.result.now c.bits.place 0 in
    let inside : b < length c.args.row.now = c.requires.leaf.below b (subst (λ (bs : List ℕ). Contains bs b) c.as_slice-bits.ensures (Contains-get_or c.as_slice-bits.result.now c.bits.place 0 c.bits-test.true)) in
    let long = c.bits.auto.row in
    omega arith

pub bits-preserved : goal.bits-preserved
bits-preserved c =
    let v = ones (row_of c.args.past.parts.now) in
    let old = nodes_of c.args.past.copies.now in
    bits_more (λ k b. stored_word starting_nodes v old c.args.memories.now c.args.leaf.now.address k (old b)) c.as_slice-bits.result.now c.bits.place c.args.row.now c.bits.row c.stored_node.result
    (c.stored_node.ensures ∙ ap (stored_word starting_nodes v old c.args.memories.now c.args.leaf.now.address c.bits.place) c.node_at-kept.ensures)
    (λ b h. c.requires.leaf.below b (subst (λ (bs : List ℕ). Contains bs b) c.as_slice-bits.ensures h)) c.bits-test.true c.bits.invariant

pub returns : goal.returns
returns c =
    let v = ones (row_of c.args.past.parts.now) in
    let old = nodes_of c.args.past.copies.now in
    let f = λ (k b : ℕ). stored_word starting_nodes v old c.args.memories.now c.args.leaf.now.address k (old b) in
    subst (λ (bs : List ℕ). IsWritten (bit_writes f 0 bs) c.args.row.now c.bits.row) c.as_slice-bits.ensures
    (bits_all f c.as_slice-bits.result.now c.bits.place c.args.row.now c.bits.row c.bits-test.false c.bits.invariant)
