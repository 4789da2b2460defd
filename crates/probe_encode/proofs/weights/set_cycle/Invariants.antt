use Rattle.std.proofs.Common.{◌≡◌, drop, length}
use Rattle.probe_clauses.specs.Probings.{probing_of, all_bits}
use Rattle.probe_encode.specs.Weights.{with_bits}
use Rattle.probe_encode.proofs.weights.set_cycle.Given as goal

abbrev pub invariant-bits : goal.invariant-bits
invariant-bits l =
    let view = l.source.run in
    let bits = all_bits (probing_of view) in
    record {
      left : with_bits view l.pairs l.cycle (drop l.bit bits) l.weights ≡ with_bits view l.pairs l.cycle bits l.fn.weights;
      as_long : length l.weights ≡ length l.fn.weights;
    }
