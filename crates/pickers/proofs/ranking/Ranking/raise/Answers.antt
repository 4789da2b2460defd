use Rattle.std.proofs.Common.{◌≡◌, ◌+◌, ◌/◌, length, slice_set, ap, ◌<◌, ◌^◌, arith, sym, ◌∙◌}
use Rattle.std.proofs.lemmas.List.{length-set}
use Rattle.pickers.specs.Tree.{AreLedBut}
use Rattle.pickers.proofs.Trees.{led_raised}
use Rattle.pickers.proofs.Rankings.{whole_items}
use Rattle.pickers.proofs.ranking.Ranking.raise.Goals as goal

pub climb-requires-clause-led : goal.climb-requires-clause-led
climb-requires-clause-led c =
    let v : c.args.self.now ≡ c.self.inside.numbers.items = cc in
    let in_range : c.args.var < length c.self.inside.numbers.items = omega (arith, ap length v) in
    let l : AreLedBut (slice_set c.self.inside.numbers.items c.args.var c.args.number) c.self.inside.leaders.items ((length c.self.inside.numbers.items + c.args.var) / 2) =
    led_raised c.self.inside.numbers.items c.self.inside.leaders.items c.args.var c.args.number c.self.invariant.same in_range (rw v at c.requires.not_less) c.self.invariant.led in
    let len : c.len.result ≡ length c.self.inside.numbers.items = omega arith in
    rw (c.deref.ensures.value, c.deref_mut.ensures.value, len) l

pub invariant_of-self : goal.invariant_of-self
invariant_of-self c =
    let len : c.self.inside.leaders.len ≡ length c.self.inside.leaders.items = c.self.inside.leaders.ok.0 in
    let same : length c.self.inside.leaders.items ≡ length c.self.inside.numbers.items = c.self.invariant.same in
    let n : length c.climb.new.leaders ≡ length c.self.inside.leaders.items = omega arith in
    let kept : length (slice_set c.self.inside.numbers.items c.args.var c.args.number) ≡ length c.self.inside.numbers.items =
    length-set c.self.inside.numbers.items c.args.var c.args.number in
    rw (whole_items c.climb.new.leaders c.self.inside.leaders.items c.self.inside.leaders.len len n) (record {
      small = let h : length c.self.inside.numbers.items < 2 ^ 32 = c.self.invariant.small in omega arith;
      same = n ∙ same ∙ sym kept;
      range = c.climb.ensures.range;
      led = rw c.deref.ensures.value at c.climb.ensures.led;
    })
