use Rattle.std.proofs.Common.{◌≡◌, length}
use Rattle.bind_run.specs.Values.{HaveRoom}
use Rattle.bind_run.specs.WordPlans.{mem_value}
use Rattle.bind_run.proofs.word_plans.mem_value.Given as goal

abbrev pub invariant-lines : goal.invariant-lines
invariant-lines l = record {
  value : mem_value l.address l.rest ≡ mem_value l.address l.lines;
  room : HaveRoom l.rest;
}

abbrev pub decreases-lines : goal.decreases-lines
decreases-lines l = length l.rest
