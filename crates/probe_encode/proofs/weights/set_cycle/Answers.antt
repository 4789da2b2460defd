use Rattle.std.proofs.Common.{◌<◌, ◌∙◌, sym, ap, arith}
use Rattle.std.proofs.lemmas.List.{drop_all, length-set}
use Rattle.std.proofs.lemmas.List.FromFn.{length-range_with_len}
use Rattle.clause_builds.proofs.Lists.{next_item}
use Rattle.probe_clauses.specs.Probings.{probing_of, all_bits}
use Rattle.probe_clauses.proofs.Ranges.{range_item}
use Rattle.probe_encode.specs.Weights.{with_bits}
use Rattle.probe_encode.proofs.weights.set_cycle.Goals as goal

pub bits-preserved : goal.bits-preserved
bits-preserved c =
    let view = c.args.source.now.run in
    let bits = all_bits (probing_of view) in
    let i = c.bits.bit in
    let lt : i < view.gates.flat.bits = omega (arith, c.bits-test.true, c.requires.source.bits) in
    let e = next_item bits i i (omega (arith, lt, length-range_with_len 0 view.gates.flat.bits)) (range_item view.gates.flat.bits i lt) in
    record {
      left = rw (c.node_of.ensures.node, c.at.ensures) (sym (ap (λ bs. with_bits view c.args.pairs.now c.args.cycle bs c.bits.weights) e) ∙ c.bits.invariant.left);
      as_long = simp length-set (c.bits.invariant.as_long);
    }

pub returns-clause-weights : goal.returns-clause-weights
returns-clause-weights c =
    let view = c.args.source.now.run in
    let bits = all_bits (probing_of view) in
    let e = drop_all c.bits.bit bits (omega (arith, c.bits-test.false, c.requires.source.bits, length-range_with_len 0 view.gates.flat.bits)) in
    sym (ap (λ bs. with_bits view c.args.pairs.now c.args.cycle bs c.bits.weights) e) ∙ c.bits.invariant.left
