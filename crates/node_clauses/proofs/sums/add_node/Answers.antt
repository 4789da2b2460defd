use Rattle.std.proofs.Common.{◌≡◌, ◌∙◌, true, false, sym, arith}
use Rattle.clause_builds.proofs.Leaving.{made-done, after-done}
use Rattle.label_cone.specs.Coned.{mark_at}
use Rattle.node_clauses.specs.Choices.{choices}
use Rattle.node_clauses.specs.Sums.{run_of}
use Rattle.node_clauses.proofs.ChoiceLemmas.{chosen_varies}
use Rattle.node_clauses.proofs.SumLemmas.{nothing_added, least_set, choice_added, sized_as, least_sized}
use Rattle.node_clauses.proofs.sums.add_node.Goals as goal

pub returns-in-Nothing-clause-sums : goal.returns-in-Nothing-clause-sums
returns-in-Nothing-clause-sums c =
    rw (nothing_added (run_of c.args.run.now) c.args.place c.args.sums.now c.in-Nothing.is) (sym (made-done c.args.form.now c.args.sums.now))

pub returns-in-Nothing-clause-formula : goal.returns-in-Nothing-clause-formula
returns-in-Nothing-clause-formula c =
    rw (nothing_added (run_of c.args.run.now) c.args.place c.args.sums.now c.in-Nothing.is) (sym (after-done c.args.form.now c.args.sums.now))

pub returns-then-not-matters-clause-sums : goal.returns-then-not-matters-clause-sums
returns-then-not-matters-clause-sums c =
    let m : mark_at c.args.run.now.cones.now.matters c.args.place ≡ false = sym c.matters.ensures ∙ c.if-not-matters.true in
    let numbers : c.as_slice.result.now ≡ choices c.in-Gate.kind c.in-Gate.parts = c.as_slice.ensures.value ∙ c.in_ok-numbers-in-Gate.ensures in
    rw (least_set (run_of c.args.run.now) c.args.place c.args.sums.now c.in-Gate.kind c.in-Gate.parts c.in-Gate.operands c.in-Gate.is m, made-done)
    (rw numbers at c.set_least.ensures)

pub returns-then-not-matters-clause-formula : goal.returns-then-not-matters-clause-formula
returns-then-not-matters-clause-formula c =
    let m : mark_at c.args.run.now.cones.now.matters c.args.place ≡ false = sym c.matters.ensures ∙ c.if-not-matters.true in
    rw (least_set (run_of c.args.run.now) c.args.place c.args.sums.now c.in-Gate.kind c.in-Gate.parts c.in-Gate.operands c.in-Gate.is m)
    (sym (after-done c.args.form.now _))

pub returns-then-not-matters-clause-sized : goal.returns-then-not-matters-clause-sized
returns-then-not-matters-clause-sized c =
    rw c.set_least.ensures (least_sized (run_of c.args.run.now) c.args.place c.as_slice.result.now c.args.sums.now c.requires.sized)

pub add_choice-requires-clause-operands : goal.add_choice-requires-clause-operands
add_choice-requires-clause-operands c j low e =
    let numbers : c.as_slice-in-Gate.result.now ≡ choices c.in-Gate.kind c.in-Gate.parts = c.as_slice-in-Gate.ensures.value ∙ c.in_ok-numbers-in-Gate.ensures in
    let varies = chosen_varies c.in-Gate.kind c.in-Gate.parts j low (rw numbers at e) in
    let earlier = rw c.in-Gate.is at (c.requires.run.ordered c.args.place c.requires.place) in
    let below = earlier j varies in
    omega (arith, below, c.requires.place, c.requires.sized.weights)

pub add_choice-requires-clause-fits : goal.add_choice-requires-clause-fits
add_choice-requires-clause-fits c =
    let m : mark_at c.args.run.now.cones.now.matters c.args.place ≡ true = sym c.matters.ensures ∙ c.if-not-matters.false in
    let numbers : c.as_slice-in-Gate.result.now ≡ choices c.in-Gate.kind c.in-Gate.parts = c.as_slice-in-Gate.ensures.value ∙ c.in_ok-numbers-in-Gate.ensures in
    rw numbers (rw (choice_added (run_of c.args.run.now) c.args.place c.args.sums.now c.in-Gate.kind c.in-Gate.parts c.in-Gate.operands c.in-Gate.is m) at c.requires.fits)

pub returns-else-not-matters-clause-sums : goal.returns-else-not-matters-clause-sums
returns-else-not-matters-clause-sums c =
    let m : mark_at c.args.run.now.cones.now.matters c.args.place ≡ true = sym c.matters.ensures ∙ c.if-not-matters.false in
    let numbers : c.as_slice-in-Gate.result.now ≡ choices c.in-Gate.kind c.in-Gate.parts = c.as_slice-in-Gate.ensures.value ∙ c.in_ok-numbers-in-Gate.ensures in
    rw (choice_added (run_of c.args.run.now) c.args.place c.args.sums.now c.in-Gate.kind c.in-Gate.parts c.in-Gate.operands c.in-Gate.is m)
    (rw numbers at c.add_choice.ensures.sums)

pub returns-else-not-matters-clause-formula : goal.returns-else-not-matters-clause-formula
returns-else-not-matters-clause-formula c =
    let m : mark_at c.args.run.now.cones.now.matters c.args.place ≡ true = sym c.matters.ensures ∙ c.if-not-matters.false in
    let numbers : c.as_slice-in-Gate.result.now ≡ choices c.in-Gate.kind c.in-Gate.parts = c.as_slice-in-Gate.ensures.value ∙ c.in_ok-numbers-in-Gate.ensures in
    rw (choice_added (run_of c.args.run.now) c.args.place c.args.sums.now c.in-Gate.kind c.in-Gate.parts c.in-Gate.operands c.in-Gate.is m)
    (rw numbers at c.add_choice.ensures.formula)

pub returns-else-not-matters-clause-sized : goal.returns-else-not-matters-clause-sized
returns-else-not-matters-clause-sized c =
    sized_as (run_of c.args.run.now) c.add_choice.new.sums c.args.sums.now c.requires.sized c.add_choice.ensures.as_long
