use Rattle.std.proofs.Common.{ℕ, ◌<◌, length, get_or, rules, arith}
use Rattle.std.proofs.lemmas.List.Sorted.{IsNonDecreasingBy-from_sort_by_key, ties_still_rise}
use Rattle.std.proofs.lemmas.Fn.{always_returns_same}
use Rattle.gate_graph.proofs.RankLemmas.{sorted_bits, counted_sorted}
use Rattle.gate_graph.proofs.ranks.by_rank.Goals as goal

pub returns : goal.returns
returns c =
    let counts = λ (k : ℕ) (h : k < length c.bits.bits.items). c.bits.invariant.1 k (let l = c.bits.invariant.0 in omega arith) in
    sorted_bits c.args.levels.now c.bits.bits.items _ (let l = c.bits.invariant.0 in let t = c.bits-test.false in let a = c.bits.auto in omega arith) counts
    c.in_ok-sort_by_key.ensures.permutation
    (IsNonDecreasingBy-from_sort_by_key (λ b. get_or c.args.levels.now b 0) _ c.in_ok-sort_by_key.ensures.sorted (λ a r q k. search rules))
    (ties_still_rise (λ x. x) (λ b. get_or c.args.levels.now b 0) _ _ (counted_sorted c.bits.bits.items counts)
    (c.in_ok-sort_by_key.ensures.stable (λ b. get_or c.args.levels.now b 0) (always_returns_same _ _ _ (λ a r q k. search rules))))
