use Rattle.std.proofs.Common.{arith}
use Rattle.std.proofs.lemmas.List.Elements.{Contains-get_or}
use Rattle.unroll.specs.NodeRows.{nodes_of}
use Rattle.unroll.proofs.WriteLemmas.{bits_more, bits_all}
use Rattle.unroll.proofs.leaves.keep.Goals as goal

pub bounds-row-bit : goal.bounds-row-bit
bounds-row-bit c =
    let inside = c.requires _ (Contains-get_or c.args.bits.now c.bits.place 0 c.bits-test.true) in
    let long = c.bits.auto.row in
    omega arith

pub bits-preserved : goal.bits-preserved
bits-preserved c =
    bits_more (λ k b. nodes_of c.args.copies.now b) c.args.bits.now c.bits.place c.args.row.now c.bits.row c.node_at.result c.node_at.ensures c.requires c.bits-test.true c.bits.invariant

pub returns : goal.returns
returns c = bits_all (λ k b. nodes_of c.args.copies.now b) c.args.bits.now c.bits.place c.args.row.now c.bits.row c.bits-test.false c.bits.invariant
