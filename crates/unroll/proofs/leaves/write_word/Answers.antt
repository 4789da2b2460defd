use Rattle.std.proofs.Common.{◌+◌, arith}
use Rattle.std.proofs.lemmas.List.{get_or_default}
use Rattle.std.proofs.lemmas.List.Elements.{Contains-get_or}
use Rattle.coco_base.specs.declared.unrolled.Node.TheVariants.{Nothing}
use Rattle.unroll.specs.NodeRows.{nodes_of}
use Rattle.unroll.proofs.WriteLemmas.{bits_more, bits_all}
use Rattle.unroll.proofs.leaves.write_word.Goals as goal

pub bounds-row-bit : goal.bounds-row-bit
bounds-row-bit c =
    let inside = c.requires.bits _ (Contains-get_or c.args.bits.now c.bits.place 0 c.bits-test.true) in
    let long = c.bits.auto.row in
    omega arith

pub bits-preserved : goal.bits-preserved
bits-preserved c =
    bits_more (λ k b. nodes_of c.args.memory.now (c.args.start + k)) c.args.bits.now c.bits.place c.args.row.now c.bits.row _ (get_or_default c.args.memory.now (c.args.start + c.bits.place) _ Nothing (let room = c.requires.word in let low = c.bits-test.true in omega arith)) c.requires.bits c.bits-test.true c.bits.invariant

pub returns : goal.returns
returns c = bits_all (λ k b. nodes_of c.args.memory.now (c.args.start + k)) c.args.bits.now c.bits.place c.args.row.now c.bits.row c.bits-test.false c.bits.invariant
