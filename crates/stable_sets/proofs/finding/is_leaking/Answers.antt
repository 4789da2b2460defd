use Rattle.std.proofs.Common.{◌≡◌, true, false, sym, ◌∙◌}
use Rattle.stable_sets.proofs.FindingLemmas.{leaking_set}
use Rattle.stable_sets.proofs.finding.is_leaking.Goals as goal

pub returns-then-not-is_empty : goal.returns-then-not-is_empty
returns-then-not-is_empty c = (
  (λ h. leaking_set c.args.table.now c.args.set.now
      (λ e. let f : false ≡ true = sym c.if-not-is_empty.true ∙ c.is_empty.ensures.1 e in cc) (c.is_whole.ensures.0 h)),
  (λ l. c.is_whole.ensures.1 l.whole),
)
