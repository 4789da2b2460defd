use Rattle.std.proofs.Common.{rules, sym, ◌∙◌}
use Rattle.node_clauses.proofs.ChoiceLemmas.{varying_subset}
use Rattle.node_clauses.proofs.choices.is_choice.Goals as goal

pub coefficient-requires-clause-varying : goal.coefficient-requires-clause-varying
coefficient-requires-clause-varying c =
    varying_subset c.args.kind c.args.parts c.args.number (search rules) (sym c.has_varying_places.ensures ∙ c.if-has_varying_places.true)
