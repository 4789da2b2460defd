use Rattle.std.proofs.Common.{◌∙◌, arith}
use Rattle.std.proofs.lemmas.List.{take_all}
use Rattle.unroll.proofs.copies.ranks_of.Goals as goal

pub returns : goal.returns
returns c =
    let long = c.bits-bit-end.ensures.built.ranks.as_long in
    let bits = c.bits-bit-end.ensures.bits in
    let end = c.bits-test.false in
    c.from_vec.ensures ∙ c.bits.invariant ∙ take_all c.bits.bit c.args.graph.now.ranks (omega arith)
