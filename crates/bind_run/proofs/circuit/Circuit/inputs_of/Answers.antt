use Rattle.std.proofs.Common.{◌+◌, ◌++◌, sym, ◌∙◌, ap, subst, arith}
use Rattle.std.proofs.lemmas.List.Elements.{All-tail}
use Rattle.bind_run.specs.Inputs.{fresh_count, inputs_of, line_inputs}
use Rattle.bind_run.specs.Values.{HaveRoom, LineHasRoom}
use Rattle.bind_run.proofs.ListLemmas.{part_done}
use Rattle.bind_run.proofs.circuit.Circuit.inputs_of.Goals as goal

pub lines-preserved : goal.lines-preserved
lines-preserved c = record {
  plans =
      part_done c.lines.plans.items c.push_line_inputs.new.plans.items (line_inputs c.args.self.now.flat c.lines.fresh c.in-Some.line.now)
      (inputs_of c.args.self.now.flat 0 c.args.lines.now) (inputs_of c.args.self.now.flat c.lines.fresh c.lines.rest.now)
      (inputs_of c.args.self.now.flat (c.lines.fresh + c.fresh_width.result) c.in-Some.more.now)
      (ap (inputs_of c.args.self.now.flat c.lines.fresh) c.in-Some.ensures
      ∙ ap (λ n. line_inputs c.args.self.now.flat c.lines.fresh c.in-Some.line.now ++ inputs_of c.args.self.now.flat (c.lines.fresh + n) c.in-Some.more.now) (sym c.fresh_width.ensures))
      c.in_ok-push_line_inputs.ensures c.lines.invariant.plans;
  count =
      let e = ap (fresh_count c.args.self.now.flat) c.in-Some.ensures in let w = c.fresh_width.ensures in let h = c.lines.invariant.count in omega arith;
  room = All-tail LineHasRoom c.in-Some.line.now c.in-Some.more.now (subst HaveRoom c.in-Some.ensures c.lines.invariant.room);
}
