use Rattle.std.proofs.Common.{◌≡◌, drop, length}
use Rattle.clause_builds.specs.Builds.{through}
use Rattle.clause_builds.proofs.Leaving.{IsLeft}
use Rattle.node_clauses.specs.Choices.{four_places}
use Rattle.node_clauses.specs.Selectors.{add_place, add_places}
use Rattle.node_clauses.proofs.selectors.add_places.Given as goal

abbrev pub invariant-places : goal.invariant-places
invariant-places l =
    record {
      left : IsLeft l.fn.form (add_places l.fn.numbers l.fn.selected) l.form (through (add_place l.numbers) (drop l.place four_places) l.selected);
      long : length l.selected ≡ 4;
    }
