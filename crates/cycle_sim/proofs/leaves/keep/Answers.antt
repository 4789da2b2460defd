use Rattle.std.proofs.Common.{arith}
use Rattle.std.proofs.lemmas.List.Elements.{Contains-get_or}
use Rattle.coco_model.specs.Stepped.{row_of}
use Rattle.cycle_sim.proofs.WriteLemmas.{bits_more, bits_all}
use Rattle.cycle_sim.proofs.leaves.keep.Goals as goal

pub bounds-row-bit : goal.bounds-row-bit
bounds-row-bit c =
    let inside = c.requires _ (Contains-get_or c.args.bits.now c.bits.place 0 c.bits-test.true) in
    let long = c.bits.auto.row in
    omega arith

pub bits-preserved : goal.bits-preserved
bits-preserved c =
    bits_more (λ k b. row_of c.args.before.now b) c.args.bits.now c.bits.place c.args.row.now c.bits.row c.bit_part.result c.bit_part.ensures c.requires c.bits-test.true c.bits.invariant

pub returns : goal.returns
returns c = bits_all (λ k b. row_of c.args.before.now b) c.args.bits.now c.bits.place c.args.row.now c.bits.row c.bits-test.false c.bits.invariant
