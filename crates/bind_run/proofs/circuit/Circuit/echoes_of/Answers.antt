use Rattle.std.proofs.Common.{◌++◌, ◌∙◌, ap}
use Rattle.bind_run.specs.Memories.{line_echoes}
use Rattle.bind_run.specs.Nets.{wires_of}
use Rattle.bind_run.proofs.EchoLemmas.{echo_line}
use Rattle.bind_run.proofs.ListLemmas.{step_done}
use Rattle.bind_run.proofs.circuit.Circuit.echoes_of.Goals as goal

pub lines-preserved-in_ok-push_echoes : goal.lines-preserved-in_ok-push_echoes
lines-preserved-in_ok-push_echoes c =
    step_done (line_echoes c.args.self.now.flat) c.lines.plans.items c.push_echoes.new.plans.items _ c.lines.rest.now c.in-Some.more.now c.in-Some.line.now
    c.in-Some.ensures
    (c.in_ok-push_echoes.ensures ∙ ap (λ ys. c.lines.plans.items ++ ys)
    (echo_line c.args.self.now.flat c.in-Some.line.now c.in-Echo.net c.in-Echo.source c.wires.result.now c.wires-in-Echo.result.now c.in-Echo.is
    (c.wires.ensures ∙ ap (wires_of c.args.self.now.flat) c.as_str.ensures)
    (c.wires-in-Echo.ensures ∙ ap (wires_of c.args.self.now.flat) c.as_str-in-Echo.ensures)))
    c.lines.invariant
