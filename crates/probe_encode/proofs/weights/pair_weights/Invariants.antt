use Rattle.std.proofs.Common.{◌≡◌, drop, length}
use Rattle.probe_clauses.specs.Probings.{probing_of, all_cycles}
use Rattle.probe_encode.specs.Weights.{with_cycles, pair_weights}
use Rattle.probe_encode.proofs.weights.pair_weights.Given as goal

abbrev pub invariant-cycles : goal.invariant-cycles
invariant-cycles l =
    let view = l.source.run in
    let cycles = all_cycles (probing_of view) in
    record {
      left : with_cycles view l.pairs (drop l.cycle cycles) l.weights.items ≡ pair_weights view l.pairs;
      as_long : length l.weights.items ≡ length view.nodes;
    }
