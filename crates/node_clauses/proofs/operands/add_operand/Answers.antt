use Rattle.std.proofs.Common.{◌≡◌, ◌∙◌, true, sym}
use Rattle.clause_builds.proofs.Leaving.{made-done, after-done}
use Rattle.node_clauses.specs.Sums.{is_false}
use Rattle.node_clauses.proofs.operands.add_operand.Goals as goal

pub returns-then-is_false-clause-signals : goal.returns-then-is_false-clause-signals
returns-then-is_false-clause-signals c =
    let e : is_false c.args.chosen ≡ true = sym c.is_false.ensures ∙ c.if-is_false.true in
    rw e (sym (made-done c.args.form.now c.args.weights.now))

pub returns-then-is_false-clause-formula : goal.returns-then-is_false-clause-formula
returns-then-is_false-clause-formula c =
    let e : is_false c.args.chosen ≡ true = sym c.is_false.ensures ∙ c.if-is_false.true in
    rw e (sym (after-done c.args.form.now c.args.weights.now))
