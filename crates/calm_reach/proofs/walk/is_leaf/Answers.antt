use Rattle.std.proofs.Common.{sym, ◌∙◌}
use Rattle.calm_reach.proofs.WalkLemmas.{leaf_test}
use Rattle.calm_reach.proofs.walk.is_leaf.Goals as goal

pub returns-then-varies : goal.returns-then-varies
returns-then-varies c =
    leaf_test c.args.graph.now.flat c.args.row.now c.args.bit c.driver.result c.is_cell.result c.driver.ensures.built.one_driver
    (sym c.part.ensures ∙ c.varies.ensures.0 c.if-varies.true) c.driver.ensures.driver c.is_cell.ensures
