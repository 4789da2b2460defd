use Rattle.std.proofs.Common.{◌+◌, ◌*◌, ◌≤◌, ◌^◌, length, arith, ap, ◌∙◌}
use Rattle.std.proofs.lemmas.Bool.{leb-true}
use Rattle.tally_clauses.proofs.Charges.{tally_fits}
use Rattle.tally_clauses.proofs.tally.can_tally.Goals as goal

pub returns-then-vars-worth : goal.returns-then-vars-worth
returns-then-vars-worth c = λ h.
    let worth = length c.args.parts.now * 12288 in
    let room = leb-true (c.from-clauses.result + 4 * worth) 2147483648 h in
    let count = c.from-clauses.ensures ∙ (c.count.ensures.count ∙ ap length c.store.ensures) in
    let vars : c.args.form.now.vars + worth ≤ 2 ^ 30 = omega (arith, c.if-vars-worth.true, c.from-vars.ensures, c.vars.ensures) in
    tally_fits c.args.form.now c.args.limit c.args.parts.now (c.are_short.ensures c.if-not-are_short.false) (omega arith) vars (omega (arith, room, count))
