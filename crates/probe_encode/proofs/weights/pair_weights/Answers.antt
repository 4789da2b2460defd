use Rattle.std.proofs.Common.{◌≡◌, ◌<◌, ◌∙◌, length, sym, ap, arith}
use Rattle.std.specs.Vec.{with_items}
use Rattle.std.proofs.lemmas.List.{drop_all, with_items_is}
use Rattle.std.proofs.lemmas.List.FromFn.{length-range_with_len}
use Rattle.clause_builds.proofs.Lists.{next_item}
use Rattle.probe_clauses.specs.Probings.{probing_of, all_cycles}
use Rattle.probe_clauses.proofs.Ranges.{range_item}
use Rattle.probe_encode.specs.Weights.{with_cycles}
use Rattle.probe_encode.proofs.weights.pair_weights.Goals as goal

pub cycles-preserved : goal.cycles-preserved
cycles-preserved c =
    let view = c.args.source.now.run in
    let cycles = all_cycles (probing_of view) in
    let i = c.cycles.cycle in
    let n = length view.rows in
    let lt : i < n = omega (arith, c.cycles-test.true, c.requires.cycles) in
    let e = next_item cycles i i (omega (arith, lt, length-range_with_len 0 n)) (range_item n i lt) in
    let len : length c.set_cycle.new.weights ≡ length c.cycles.weights.items = c.set_cycle.ensures.as_long ∙ ap length c.as_mut_slice.ensures.value in
    let same : (with_items c.cycles.weights c.set_cycle.new.weights).items ≡ c.set_cycle.new.weights = with_items_is c.cycles.weights c.set_cycle.new.weights (c.set_cycle.ensures.as_long ∙ c.as_mut_slice.ensures.len) in
    record {
      left = rw (same, c.set_cycle.ensures.weights, c.as_mut_slice.ensures.value) (sym (ap (λ ts. with_cycles view c.args.pairs.now ts c.cycles.weights.items) e) ∙ c.cycles.invariant.left);
      as_long = rw same (len ∙ c.cycles.invariant.as_long);
    }

pub returns-clause-weights : goal.returns-clause-weights
returns-clause-weights c =
    let view = c.args.source.now.run in
    let cycles = all_cycles (probing_of view) in
    let e = drop_all c.cycles.cycle cycles (omega (arith, c.cycles-test.false, c.requires.cycles, length-range_with_len 0 (length view.rows))) in
    sym (ap (λ ts. with_cycles view c.args.pairs.now ts c.cycles.weights.items) e) ∙ c.cycles.invariant.left
