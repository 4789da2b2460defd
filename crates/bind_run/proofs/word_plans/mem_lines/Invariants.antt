use Rattle.std.proofs.Common.{◌≡◌, ◌++◌, length}
use Rattle.bind_run.specs.WordPlans.{mem_lines}
use Rattle.bind_run.proofs.word_plans.mem_lines.Given as goal

abbrev pub invariant-lines : goal.invariant-lines
invariant-lines l = l.mems.items ++ mem_lines l.rest ≡ mem_lines l.lines

abbrev pub decreases-lines : goal.decreases-lines
decreases-lines l = length l.rest
