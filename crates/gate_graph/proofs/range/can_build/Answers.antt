use Rattle.std.proofs.Common.{refl}
use Rattle.gate_graph.proofs.RangeLemmas.{range_from_below, below_from_range}
use Rattle.gate_graph.proofs.range.can_build.Goals as goal

pub returns-then-has_numbers : goal.returns-then-has_numbers
returns-then-has_numbers c = (
  λ t. (range_from_below c.args.flat.now (c.is_below.ensures.0 t), c.if-has_numbers.ensures.0 refl),
  λ p. c.is_below.ensures.1 (below_from_range c.args.flat.now p.0),
)
