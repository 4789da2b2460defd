use Rattle.std.proofs.Common.{arith}
use Rattle.gate_graph.proofs.WiredLemmas.{input_below}
use Rattle.bind_run.proofs.DriverLemmas.{is_input_bit-Decides}
use Rattle.bind_run.proofs.circuit.Circuit.first_unbound.Goals as goal

pub returns : goal.returns
returns c = λ b u.
    c.bits.invariant b
    (let l = input_below c.args.self.now.flat c.bits-bit-end.ensures.built.range b ((is_input_bit-Decides c.args.self.now.flat b).0 u.input) in
    let e = c.bits-bit-end.ensures.bits in let f = c.bits-test.false in omega arith) u
