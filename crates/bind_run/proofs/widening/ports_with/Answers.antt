use Rattle.std.proofs.Common.{◌+◌, length, sym, ◌∙◌, ap}
use Rattle.bind_run.specs.Widened.{bits_with, leaf_bits, with_leaves}
use Rattle.bind_run.proofs.NumberLemmas.{room_for, step_bits}
use Rattle.bind_run.proofs.WordLemmas.{length_first}
use Rattle.bind_run.proofs.widening.ports_with.Goals as goal

pub add_leaf-requires : goal.add_leaf-requires
add_leaf-requires c =
    room_for c.addresses.bits leaf_bits (length c.addresses.rest.now) (length c.in-Some.more.now) (bits_with c.args.flat.now c.args.addresses.now)
    c.addresses.invariant.bits c.requires (length_first c.addresses.rest.now c.in-Some.more.now c.in-Some.address.now c.in-Some.ensures)

pub addresses-preserved : goal.addresses-preserved
addresses-preserved c = record {
  ports =
      ap (λ n. with_leaves (c.addresses.bits + n) c.add_leaf.new.ports.items c.in-Some.more.now) c.leaf_bits-bits.ensures.value
      ∙ ap (λ ps. with_leaves (c.addresses.bits + leaf_bits) ps c.in-Some.more.now) c.in_ok-add_leaf.ensures
      ∙ ap (with_leaves c.addresses.bits c.addresses.ports.items) (sym c.in-Some.ensures) ∙ c.addresses.invariant.ports;
  bits =
      step_bits c.addresses.bits leaf_bits c.leaf_bits-bits.result (length c.addresses.rest.now) (length c.in-Some.more.now)
      (bits_with c.args.flat.now c.args.addresses.now) c.addresses.invariant.bits
      (length_first c.addresses.rest.now c.in-Some.more.now c.in-Some.address.now c.in-Some.ensures) c.leaf_bits-bits.ensures.value;
}
