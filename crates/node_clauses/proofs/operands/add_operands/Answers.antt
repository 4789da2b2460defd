use Rattle.std.proofs.Common.{arith, sym, refl, ◌∙◌}
use Rattle.clause_builds.proofs.Leaving.{all_left}
use Rattle.clause_builds.proofs.Lists.{through_fits, through_turn, through_ended}
use Rattle.node_clauses.specs.Choices.{four_places}
use Rattle.node_clauses.specs.Sums.{add_operand_at, add_operands}
use Rattle.node_clauses.proofs.ChoiceLemmas.{four_at}
use Rattle.node_clauses.proofs.operands.add_operands.Goals as goal

pub places-init : goal.places-init
places-init c =
    record { left = all_left c.args.form.now (add_operands c.args.selected c.args.operands c.args.weight c.args.weights.now); long = refl }

pub add_operand-requires-clause-fits : goal.add_operand-requires-clause-fits
add_operand-requires-clause-fits c =
    let p = c.places.place in
    through_fits (add_operand_at c.args.selected c.args.operands c.args.weight) four_places c.places.weights p p c.places.invariant.left (omega arith) (sym (four_at p p (omega arith))) c.requires.fits

pub places-preserved : goal.places-preserved
places-preserved c =
    let p = c.places.place in
    record {
      left = through_turn (add_operand_at c.args.selected c.args.operands c.args.weight) four_places c.places.weights p p c.add_operand.new.form c.add_operand.new.weights c.places.invariant.left (omega arith) (sym (four_at p p (omega arith))) c.in_ok-add_operand.ensures.formula c.in_ok-add_operand.ensures.signals;
      long = c.in_ok-add_operand.ensures.length ∙ c.places.invariant.long;
    }

pub returns-clause-signals : goal.returns-clause-signals
returns-clause-signals c =
    (through_ended (add_operand_at c.args.selected c.args.operands c.args.weight) four_places c.places.weights c.places.place c.places.invariant.left (omega arith)).0

pub returns-clause-formula : goal.returns-clause-formula
returns-clause-formula c =
    (through_ended (add_operand_at c.args.selected c.args.operands c.args.weight) four_places c.places.weights c.places.place c.places.invariant.left (omega arith)).1
