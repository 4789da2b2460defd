use Rattle.std.proofs.Common.{drop}
use Rattle.clause_builds.specs.Builds.{through}
use Rattle.clause_builds.proofs.Leaving.{IsLeft}
use Rattle.node_clauses.specs.Choices.{set_numbers}
use Rattle.node_clauses.specs.Selectors.{differs_unless, others_differ}
use Rattle.node_clauses.proofs.selectors.differ_from_others.Given as goal

abbrev pub invariant-others : goal.invariant-others
invariant-others l =
    IsLeft l.fn.form (others_differ l.fn.numbers l.selected) l.form (through (differs_unless l.numbers l.selected) (drop l.number set_numbers) tt)
