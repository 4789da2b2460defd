use mir.Syntax.{w128}
use mir.Val.{SFits}
use Rattle.std.proofs.lemmas.Int.{to_z-of_z}
use Rattle.std.proofs.Common.{rules}
use Rattle.rv_asm.proofs.ValueLemmas.{halves_of-step}
use Rattle.rv_asm.proofs.layout.values.halves_of.Goals as goal

pub halves-preserved : goal.halves-preserved
halves-preserved c =
    let fits : SFits w128 c.half_of-taken.result = search rules in
    let outer = c.halves.outer.now in
    let step = halves_of-step outer _ c.half_of-taken.result _ c.in-len1-up.len_at_least c.half_of-taken.ensures c.halves.invariant in
    rw (to_z-of_z w128 c.half_of-taken.result fits) step
