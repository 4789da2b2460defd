use Rattle.std.proofs.Common.{◌+◌, ◌*◌, ◌≤◌, ◌^◌, length, arith, ap, ◌∙◌}
use Rattle.std.proofs.lemmas.Bool.{leb-true}
use Rattle.node_clauses.specs.Laws.{variables_a_node, clauses_a_node}
use Rattle.node_clauses.proofs.SizeLemmas.{sums_fit}
use Rattle.node_clauses.proofs.room.can_sum.Goals as goal

pub returns-then-vars-le-VARS : goal.returns-then-vars-le-VARS
returns-then-vars-le-VARS c room run weights long =
    let vars : c.args.form.now.vars + length run.nodes * variables_a_node ≤ 2 ^ 30 = omega (arith, c.if-vars-le-VARS.true, long, c.from.ensures, c.from-2.ensures, c.vars.ensures) in
    let clauses : length c.args.form.now.clauses + length run.nodes * clauses_a_node ≤ 2 ^ 31 =
    omega (arith, leb-true (c.from-3.result + c.from-4.result * 40) 2147483648 room, long, c.from-3.ensures ∙ (c.count.ensures.count ∙ ap length c.store.ensures), c.from-4.ensures) in
    sums_fit c.args.form.now run weights vars clauses
