use Rattle.std.proofs.lemmas.Result.{err_from_is_err_and}
use Rattle.run_inputs.proofs.Leafless.{leafless}
use Rattle.run_inputs.proofs.Stops.{bind_stops}
use Rattle.run_inputs.proofs.prepared.prepare.Goals as goal

pub returns-in_err-setup-clause-stop : goal.returns-in_err-setup-clause-stop
returns-in_err-setup-clause-stop c =
    let p = err_from_is_err_and c.from_residual-in_err-setup.result c.from_residual-in_err-setup.ensures.1 in
    rw (p.1, p.2) (bind_stops _ _ _ _ _ c.in_ok-graph.graph _ c.in_ok-flat.ensures.wide c.in_ok-graph.ensures c.in_err-setup.ensures.fault)

pub returns-clause-run : goal.returns-clause-run
returns-clause-run c = record {
  image = c.in_ok-flat.field-0.image;
  labels = c.in_ok-flat.field-0.labels;
  wide = c.in_ok-flat.ensures.wide;
  graph = c.in_ok-graph.ensures;
  setup = c.in_ok-setup.ensures.setup;
  bound = c.in_ok-setup.ensures.bound;
  leafless = leafless _ _ _ _ _ _ c.in_ok-flat.ensures.wide c.in_ok-setup.ensures.setup;
}
