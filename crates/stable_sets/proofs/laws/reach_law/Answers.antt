use Rattle.stable_sets.proofs.ReachLemmas.{reach_law}
use Rattle.stable_sets.proofs.laws.reach_law.Goals as goal

pub returns : goal.returns
returns c = reach_law
