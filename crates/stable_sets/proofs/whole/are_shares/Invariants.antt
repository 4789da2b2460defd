use Rattle.std.specs.Prelude.{◌↔◌, IsTrue}
use Rattle.stable_sets.specs.Shares.{AllShares}
use Rattle.stable_sets.proofs.whole.are_shares.Given as goal

abbrev pub invariant-labels : goal.invariant-labels
invariant-labels l = IsTrue l.all ↔ AllShares l.secrets l.yielded
