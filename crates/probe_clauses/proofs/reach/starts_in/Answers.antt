use Rattle.std.proofs.Common.{◌∙◌, sym, ap, ap₂, ◌++◌, ◌∷◌, [], map, arith, List}
use Rattle.std.specs.List.{range_with_len}
use Rattle.std.proofs.lemmas.List.FromFn.{map-range_with_len_more}
use Rattle.circuit_clauses.specs.declared.signal.Signal.{Signal}
use Rattle.probe_clauses.specs.Probings.{probing_of}
use Rattle.probe_clauses.specs.Passes.{start_in}
use Rattle.probe_clauses.proofs.reach.starts_in.Goals as goal

pub bits-preserved : goal.bits-preserved
bits-preserved c =
    let start = start_in (probing_of c.args.run.now) c.args.active.now c.args.cycle in
    c.in_ok-push.ensures.items ∙ (ap₂ (λ (xs : List Signal) (x : Signal). xs ++ x ∷ []) c.bits.invariant c.start_in.ensures
    ∙ sym (map-range_with_len_more start 0 c.bits.bit c.bits.bit (omega arith)))

pub returns : goal.returns
returns c =
    let start = start_in (probing_of c.args.run.now) c.args.active.now c.args.cycle in
    c.bits.invariant ∙ ap (λ n. map start (range_with_len 0 n)) (omega arith)
