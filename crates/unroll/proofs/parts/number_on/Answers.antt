use Rattle.std.proofs.Common.{◌^◌, ◌<◌, ◌≤◌, length, drop, subst, sym, arith, length-drop}
use Rattle.coco_model.specs.Known.{ones}
use Rattle.coco_model.specs.Stepped.{row_of}
use Rattle.cycle_sim.proofs.PartLemmas.{byte_small, number_small}
use Rattle.unroll.proofs.parts.number_on.Goals as goal

pub overflow_mul-number : goal.overflow_mul-number
overflow_mul-number c =
    let many = c.requires in
    let more = c.digits-test.true in
    let within = c.digits.invariant.within in
    let long : length (drop c.digits.rest c.args.wires.now) ≤ 31 = omega (arith, length-drop c.digits.rest c.args.wires.now) in
    let small : c.digits.number < 2 ^ 31 = subst (λ n. n < 2 ^ 31) (sym c.digits.invariant.so_far) (number_small (ones (row_of c.args.row.now)) (drop c.digits.rest c.args.wires.now) 31 long) in
    omega arith

pub overflow_add-number : goal.overflow_add-number
overflow_add-number c =
    let many = c.requires in
    let more = c.digits-test.true in
    let within = c.digits.invariant.within in
    let bit = c.from.ensures in
    let long : length (drop c.digits.rest c.args.wires.now) ≤ 31 = omega (arith, length-drop c.digits.rest c.args.wires.now) in
    let small : c.digits.number < 2 ^ 31 = subst (λ n. n < 2 ^ 31) (sym c.digits.invariant.so_far) (number_small (ones (row_of c.args.row.now)) (drop c.digits.rest c.args.wires.now) 31 long) in
    let few = byte_small c.wire_is_one.result in
    omega arith
