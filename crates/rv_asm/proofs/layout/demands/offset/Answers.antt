use Rattle.std.proofs.Common.{◌≡◌, ◌-ℤ◌, subst, sym, arith}
use mir.Syntax.{w128}
use mir.Val.{of_z, SFits, to_z}
use Rattle.std.proofs.lemmas.Int.{ints}
use Rattle.rv_asm.specs.Causes.{Answers}
use Rattle.rv_asm.specs.Demands.{signed_word}
use Rattle.rv_asm.proofs.DemandLemmas.{signed_word-none}
use Rattle.rv_asm.proofs.layout.demands.offset.Goals as goal

pub returns-in-Some : goal.returns-in-Some
returns-in-Some c =
    let found = rw c.in-Some.is at c.checked_sub.ensures in
    let same : to_z w128 (of_z w128 c.in-Some.offset) ≡ c.args.target -ℤ c.args.here = omega (arith, ints, found.0, found.1, c.from.ensures) in
    subst (λ z. Answers (λ z. z) c.signed_word.result (signed_word z)) same c.signed_word.ensures

pub returns-in-None : goal.returns-in-None
returns-in-None c =
    let none = rw c.in-None.is at c.checked_sub.ensures in
    let same : to_z w128 (of_z w128 c.args.target) -ℤ to_z w128 (of_z w128 c.from.result) ≡ c.args.target -ℤ c.args.here = omega (arith, ints, c.from.ensures) in
    signed_word-none (c.args.target -ℤ c.args.here) (λ fits. none (subst (λ z. SFits w128 z) (sym same) fits))
