-- the lines so far are those of the members so far
use Rattle.std.proofs.Common.{◌≡◌, ◌++◌, take}
use Rattle.leak_report.specs.Places.{driver_text, probe_lines}
use Rattle.leak_report.proofs.finding.add_probes.Given as goal

abbrev pub invariant-probes : goal.invariant-probes
invariant-probes l = l.text.items ≡ l.initial.text.items ++ probe_lines l.scene.flat.now (driver_text l.scene.graph.now) l.scene.pcs.now l.scene.lines.now (take l.probe-index l.probes)
