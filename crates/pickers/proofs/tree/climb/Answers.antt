use Rattle.std.proofs.Common.{arith}
use Rattle.pickers.proofs.Trees.{climbed, climbed_all, range_refreshed}
use Rattle.pickers.proofs.tree.climb.Goals as goal

pub climbing-preserved : goal.climbing-preserved
climbing-preserved c = record {
  node = omega arith;
  range = range_refreshed c.args.numbers.now c.climbing.leaders c.refresh.new.leaders c.climbing.node (omega arith) c.refresh.ensures c.climbing.invariant.range;
  led = climbed c.args.numbers.now c.climbing.leaders c.refresh.new.leaders c.climbing.node (omega arith) (omega arith) (omega arith) c.refresh.ensures c.climbing.invariant.led;
}

pub returns-clause-led : goal.returns-clause-led
returns-clause-led c = climbed_all c.args.numbers.now c.climbing.leaders c.climbing.node (omega arith) c.climbing.invariant.led
