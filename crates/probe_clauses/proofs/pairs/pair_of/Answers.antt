use Rattle.std.proofs.Common.{◌∙◌, false, sym, ap, subst, refl}
use Rattle.circuit_clauses.specs.declared.signal.Signal.{Signal}
use Rattle.circuit_clauses.specs.declared.signal.Signal.TheVariants.{Constant}
use Rattle.circuit_clauses.specs.Formulas.{Fits}
use Rattle.clause_builds.specs.Builds.{Build, made, after, fresh}
use Rattle.clause_builds.proofs.Leaving.{all_left, first_fits, second_fits, two_ends}
use Rattle.probe_clauses.specs.Probings.{probing_of}
use Rattle.probe_clauses.specs.Passes.{show_pair, chosen_pair, pair_of}
use Rattle.probe_clauses.proofs.Choices.{done_made, done_after}
use Rattle.probe_clauses.proofs.Demanding.{with_pair, without_pair}
use Rattle.probe_clauses.proofs.pairs.pair_of.Goals as goal

pub returns-then-not-is_pair-clause-pair : goal.returns-then-not-is_pair-clause-pair
returns-then-not-is_pair-clause-pair c =
    let run = probing_of c.args.run.now in
    let shown = c.args.shown.now in
    let t = c.args.cycle in
    let b = c.args.bit in
    let e = without_pair run shown t b (sym c.is_pair.ensures ∙ c.if-not-is_pair.true) in
    done_made c.args.form.now (pair_of run shown t b) (Constant false) e

pub returns-then-not-is_pair-clause-formula : goal.returns-then-not-is_pair-clause-formula
returns-then-not-is_pair-clause-formula c =
    let run = probing_of c.args.run.now in
    let shown = c.args.shown.now in
    let t = c.args.cycle in
    let b = c.args.bit in
    let e = without_pair run shown t b (sym c.is_pair.ensures ∙ c.if-not-is_pair.true) in
    done_after c.args.form.now (pair_of run shown t b) (Constant false) e

pub input-pair-requires : goal.input-pair-requires
input-pair-requires c =
    let run = probing_of c.args.run.now in
    let shown = c.args.shown.now in
    let t = c.args.cycle in
    let b = c.args.bit in
    let e = with_pair run shown t b (sym c.is_pair.ensures ∙ c.if-not-is_pair.false) in
    first_fits _ _ (all_left c.args.form.now (chosen_pair shown t b)) (subst (λ (p : Build Signal). Fits (after c.args.form.now p)) e c.requires.fits)

pub show_pair-requires-clause-fits : goal.show_pair-requires-clause-fits
show_pair-requires-clause-fits c =
    let run = probing_of c.args.run.now in
    let shown = c.args.shown.now in
    let t = c.args.cycle in
    let b = c.args.bit in
    let e = with_pair run shown t b (sym c.is_pair.ensures ∙ c.if-not-is_pair.false) in
    second_fits c.args.form.now (fresh false) (show_pair shown t b) (λ (pair : Signal) (none : Unit {0}). pair) c.input-pair.new.self c.input-pair.result c.input-pair.ensures.formula c.input-pair.ensures.signal
    (subst (λ (p : Build Signal). Fits (after c.args.form.now p)) e c.requires.fits)

pub returns-clause-pair : goal.returns-clause-pair
returns-clause-pair c =
    let run = probing_of c.args.run.now in
    let shown = c.args.shown.now in
    let t = c.args.cycle in
    let b = c.args.bit in
    let e = with_pair run shown t b (sym c.is_pair.ensures ∙ c.if-not-is_pair.false) in
    (two_ends c.args.form.now (fresh false) (show_pair shown t b) (λ (pair : Signal) (none : Unit {0}). pair) c.input-pair.new.self c.input-pair.result c.show_pair.new.form tt
    c.input-pair.ensures.formula c.input-pair.ensures.signal c.in_ok-show_pair.ensures.formula refl).0 ∙ sym (ap (λ (p : Build Signal). made c.args.form.now p) e)

pub returns-clause-formula : goal.returns-clause-formula
returns-clause-formula c =
    let run = probing_of c.args.run.now in
    let shown = c.args.shown.now in
    let t = c.args.cycle in
    let b = c.args.bit in
    let e = with_pair run shown t b (sym c.is_pair.ensures ∙ c.if-not-is_pair.false) in
    (two_ends c.args.form.now (fresh false) (show_pair shown t b) (λ (pair : Signal) (none : Unit {0}). pair) c.input-pair.new.self c.input-pair.result c.show_pair.new.form tt
    c.input-pair.ensures.formula c.input-pair.ensures.signal c.in_ok-show_pair.ensures.formula refl).1 ∙ sym (ap (λ (p : Build Signal). after c.args.form.now p) e)
