use Rattle.std.proofs.Common.{◌≡◌, ◌-◌, length, ap, ◌∙◌, arith}
use Rattle.std.proofs.lemmas.List.{length-replicate}
use Rattle.pickers.proofs.Rankings.{ranking_zeros, ranking_refreshed, whole_items}
use Rattle.pickers.proofs.ranking.Ranking.new.Goals as goal

pub building-init : goal.building-init
building-init c =
    rw (c.in_ok-numbers.ensures.items_if_clones_equal (λ y same. same), c.in_ok-leaders.ensures.items_if_clones_equal (λ y same. same))
    (ranking_zeros c.args.size (omega arith))

pub building-preserved : goal.building-preserved
building-preserved c =
    let size : length c.in_ok-numbers.numbers.items ≡ c.args.size = ap length (c.in_ok-numbers.ensures.items_if_clones_equal (λ y same. same)) ∙ length-replicate c.args.size 0 in
    let n : length c.refresh.new.leaders ≡ length c.building.leaders.items = omega arith in
    let len : c.building.leaders.len ≡ length c.building.leaders.items = c.building.leaders.ok.0 in
    rw (whole_items c.refresh.new.leaders c.building.leaders.items c.building.leaders.len len n)
    (ranking_refreshed c.in_ok-numbers.numbers.items c.building.leaders.items c.refresh.new.leaders (c.building.node - 1) c.building.invariant (omega arith) (omega arith) n (rw (c.deref.ensures.value, c.deref_mut.ensures.value) at c.refresh.ensures))
