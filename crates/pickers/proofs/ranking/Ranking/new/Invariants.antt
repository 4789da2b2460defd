use Rattle.pickers.specs.Tree.{IsRanking}
use Rattle.pickers.proofs.ranking.Ranking.new.Given as goal

abbrev pub invariant-building : goal.invariant-building
invariant-building l = IsRanking l.numbers.items l.leaders.items
