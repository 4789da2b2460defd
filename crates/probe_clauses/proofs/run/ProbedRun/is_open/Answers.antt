use Rattle.std.proofs.Common.{◌≡◌, ◌+◌, false, sym, ◌∙◌, arith}
use Rattle.probe_clauses.specs.Probings.{probing_of, is_open_in}
use Rattle.probe_clauses.proofs.Ranges.{any_yes, any_no, one_more_from}
use Rattle.probe_clauses.proofs.run.ProbedRun.is_open.Goals as goal

pub returns-then-is_open_in : goal.returns-then-is_open_in
returns-then-is_open_in c =
    sym (any_yes (is_open_in (probing_of c.args.self.now) c.args.cell c.args.place) c.args.times.first c.args.times.count (c.args.times.first + c.cycles.i) (omega arith) (omega arith) (sym c.is_open_in.ensures ∙ c.if-is_open_in.true))

pub cycles-preserved : goal.cycles-preserved
cycles-preserved c =
    one_more_from (λ t. is_open_in (probing_of c.args.self.now) c.args.cell c.args.place t ≡ false) c.args.times.first c.cycles.i c.cycles.invariant (sym c.is_open_in.ensures ∙ c.if-is_open_in.false)

pub returns : goal.returns
returns c =
    sym (any_no (is_open_in (probing_of c.args.self.now) c.args.cell c.args.place) c.args.times.first c.args.times.count (λ t le lt. c.cycles.invariant t le (omega arith)))
