use Rattle.std.proofs.Common.{◌∙◌, sym, ap, ap₂, ◌++◌, ◌∷◌, [], map, arith, Bool, List}
use Rattle.std.specs.List.{range_with_len}
use Rattle.std.proofs.lemmas.List.FromFn.{map-range_with_len_more}
use Rattle.probe_clauses.specs.Probings.{probing_of}
use Rattle.probe_clauses.proofs.run.ProbedRun.moving_cycles.Goals as goal

pub cycles-preserved : goal.cycles-preserved
cycles-preserved c =
    c.in_ok-push.ensures.ok ∙ (ap₂ (λ (xs : List Bool) (x : Bool). xs ++ x ∷ []) c.cycles.invariant c.moves.ensures
    ∙ sym (map-range_with_len_more (λ t. (probing_of c.args.self.now).moves t c.args.bit) 0 c.cycles.cycle c.cycles.cycle (omega arith)))

pub returns : goal.returns
returns c =
    c.cycles.invariant ∙ ap (λ n. map (λ t. (probing_of c.args.self.now).moves t c.args.bit) (range_with_len 0 n)) (omega arith)
