use Rattle.std.proofs.Common.{◌≡◌, false, sym, ◌∙◌, arith}
use Rattle.probe_clauses.specs.Probings.{probing_of}
use Rattle.probe_clauses.proofs.Ranges.{any_yes, any_no, one_more}
use Rattle.probe_clauses.proofs.run.ProbedRun.moves_ever.Goals as goal

pub returns-then-moves : goal.returns-then-moves
returns-then-moves c =
    let run = probing_of c.args.self.now in
    sym (any_yes (λ t. run.moves t c.args.bit) 0 run.cycles c.cycles.cycle (omega arith) (omega arith) (sym c.moves.ensures ∙ c.if-moves.true))

pub cycles-preserved : goal.cycles-preserved
cycles-preserved c =
    let run = probing_of c.args.self.now in
    one_more (λ t. run.moves t c.args.bit ≡ false) c.cycles.cycle c.cycles.invariant (sym c.moves.ensures ∙ c.if-moves.false)

pub returns : goal.returns
returns c =
    let run = probing_of c.args.self.now in
    sym (any_no (λ t. run.moves t c.args.bit) 0 run.cycles (λ k le lt. c.cycles.invariant k (omega arith)))
