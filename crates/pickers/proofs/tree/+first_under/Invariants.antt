use Rattle.std.proofs.Common.{◌*◌, ◌-◌, length}
use Rattle.pickers.proofs.tree.+first_under.Given as goal

abbrev pub decreases-first_under : goal.decreases-first_under
decreases-first_under l = 2 * length l.numbers.now - l.node
