use Rattle.std.proofs.Common.{◌≡◌, ◌≤◌, sym, arith}
use Rattle.rv_asm.proofs.NumberLemmas.{literal_most}
use Rattle.rv_asm.proofs.line.numbers.value_of_literal.Goals as goal

pub with_sign-requires : goal.with_sign-requires
with_sign-requires c =
    let at_most : c.in-Ok.magnitude ≤ c.most_magnitude.result = literal_most c.most_magnitude.result c.args.word.now c.in-Ok.magnitude (sym c.in-Ok.ensures) in
    omega (arith, c.most_magnitude.ensures.small)
