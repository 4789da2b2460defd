use Rattle.std.proofs.Common.{◌≡◌}
use Rattle.std.proofs.lemmas.Result.{err_from_is_err_and}
use Rattle.run_inputs.specs.Inputs.{files_in}
use Rattle.run_inputs.specs.Prepared.{HasLabels}
use Rattle.run_inputs.proofs.Stops.{wide_stops}
use Rattle.run_inputs.proofs.prepared.read_files.Goals as goal

pub returns-in_err-flat-clause-stop : goal.returns-in_err-flat-clause-stop
returns-in_err-flat-clause-stop c =
    let labelled : HasLabels (files_in c.args.inputs.now) c.args.limits.now c.in_ok-plain.plain c.in_ok-image.image c.in_ok-labels.labels =
    record { program = record { netlist = c.in_ok-plain.ensures.netlist; program = c.in_ok-image.ensures.image }; labelled = c.in_ok-labels.ensures.labels } in
    let p = err_from_is_err_and c.from_residual-in_err-flat.result c.from_residual-in_err-flat.ensures.1 in
    rw (p.1, p.2) (wide_stops _ _ _ _ _ _ labelled c.in_err-flat.ensures.wide)

pub returns-clause-graph : goal.returns-clause-graph
returns-clause-graph c =
    c.in_ok-flat.ensures.graph c.in_ok-plain.ensures.netlist.gates c.in_ok-plain.ensures.netlist.graph
