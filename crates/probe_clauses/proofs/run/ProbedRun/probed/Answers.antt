use Rattle.std.proofs.Common.{◌∙◌, sym, ap, ap₂, ◌++◌, ◌∷◌, [], map, arith, Bool, List}
use Rattle.std.specs.List.{range_with_len}
use Rattle.std.proofs.lemmas.List.FromFn.{map-range_with_len_more}
use Rattle.probe_clauses.specs.Probings.{probing_of, can_probe}
use Rattle.probe_clauses.proofs.run.ProbedRun.probed.Goals as goal

pub bits-preserved : goal.bits-preserved
bits-preserved c =
    c.in_ok-push.ensures.ok ∙ (ap₂ (λ (xs : List Bool) (x : Bool). xs ++ x ∷ []) c.bits.invariant c.can_probe.ensures
    ∙ sym (map-range_with_len_more (can_probe (probing_of c.args.self.now)) 0 c.bits.bit c.bits.bit (omega arith)))

pub returns : goal.returns
returns c =
    c.bits.invariant ∙ ap (λ n. map (can_probe (probing_of c.args.self.now)) (range_with_len 0 n)) (omega arith)
