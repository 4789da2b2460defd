use Rattle.std.proofs.Common.{arith, sym, refl}
use Rattle.clause_builds.proofs.Leaving.{all_left}
use Rattle.clause_builds.proofs.Lists.{through_fits, through_turn, through_ended}
use Rattle.node_clauses.specs.Choices.{set_numbers}
use Rattle.node_clauses.specs.Selectors.{differs_unless, others_differ}
use Rattle.node_clauses.proofs.ChoiceLemmas.{set_at}
use Rattle.node_clauses.proofs.selectors.differ_from_others.Goals as goal

pub others-init : goal.others-init
others-init c = all_left c.args.form.now (others_differ c.args.numbers.now c.args.selected)

pub differ_unless-requires-clause-fits : goal.differ_unless-requires-clause-fits
differ_unless-requires-clause-fits c =
    let n = c.others.number in
    through_fits (differs_unless c.args.numbers.now c.args.selected) set_numbers tt n n c.others.invariant (omega arith) (sym (set_at n n (omega arith))) c.requires

pub others-preserved : goal.others-preserved
others-preserved c =
    let n = c.others.number in
    through_turn (differs_unless c.args.numbers.now c.args.selected) set_numbers tt n n c.differ_unless.new.form tt c.others.invariant (omega arith) (sym (set_at n n (omega arith))) c.in_ok-differ_unless.ensures refl

pub returns : goal.returns
returns c =
    (through_ended (differs_unless c.args.numbers.now c.args.selected) set_numbers tt c.others.number c.others.invariant (omega arith)).1
