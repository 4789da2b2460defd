use Rattle.std.proofs.Common.{sym, ◌∙◌}
use Rattle.calm_reach.specs.Walks.{AddsFeeding, AddsInputs}
use Rattle.calm_reach.proofs.WalkLemmas.{fed_by_cell, fed_by_none, no_cell_feeds, on_ok}
use Rattle.calm_reach.proofs.walk.add_feeding.Goals as goal

pub returns-in-Cell-clause-added : goal.returns-in-Cell-clause-added
returns-in-Cell-clause-added c =
    on_ok c.add_inputs.result (AddsInputs c.args.graph.now.flat c.args.row.now c.in-Cell.number c.args.met.now c.add_inputs.new.met)
    (AddsFeeding c.args.graph.now.flat c.args.row.now c.args.bit c.args.met.now c.add_inputs.new.met)
    (fed_by_cell c.args.graph.now c.args.row.now c.args.bit c.in-Cell.number c.args.met.now c.add_inputs.new.met c.driver-driver.ensures.built
    c.in-Cell.ensures.driver (sym c.part.ensures ∙ c.varies.ensures.0 c.if-not-varies.false))
    c.add_inputs.ensures

pub returns-in_default : goal.returns-in_default
returns-in_default c = record {
  added = fed_by_none c.args.graph.now.flat c.args.row.now c.args.bit c.args.met.now
      (no_cell_feeds c.args.graph.now.flat c.args.row.now c.args.bit c.driver-driver.result c.driver-driver.ensures.built.one_driver
      c.driver-driver.ensures.driver c.in_default.not-Cell);
  built = c.driver-driver.ensures.built;
}
