use Rattle.stable_sets.proofs.FindingLemmas.{no_difference_is}
use Rattle.stable_sets.proofs.finding.are_same.Goals as goal

pub returns : goal.returns
returns c =
    no_difference_is c.args.set.now c.args.other.now c.in_ok-difference.difference c.is_empty.result c.in_ok-difference.ensures c.is_empty.ensures
