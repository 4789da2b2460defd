use Rattle.std.proofs.Common.{sym, ◌∙◌}
use Rattle.derivation_check.proofs.Reading.{minus_lit}
use Rattle.derivation_check.proofs.items.read_lit.Goals as goal

pub returns-in_default-clause-none : goal.returns-in_default-clause-none
returns-in_default-clause-none c = λ l more good e.
    minus_lit l more c.take.new.self good (sym c.if-take.ensures ∙ e) (λ v tail h. c.in_default.ensures.none v tail h)
