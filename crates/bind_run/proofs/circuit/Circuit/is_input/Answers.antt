use Rattle.std.proofs.Common.{◌≡◌, ◌≤◌, ◌<◌, true, false, nat_lt, ◌∙◌, subst, arith}
use Rattle.gate_graph.specs.Drivers.{IsDriver}
use Rattle.gate_graph.specs.Graphs.{Gates}
use Rattle.std.proofs.lemmas.Bool.Decides.{Decides-ltb}
use Rattle.bind_run.specs.Binding.{is_input_bit}
use Rattle.bind_run.proofs.DriverLemmas.{false_by, input_is, no_input_is, input_outside}
use Rattle.bind_run.proofs.circuit.Circuit.is_input.Goals as goal

pub returns-in-Port : goal.returns-in-Port
returns-in-Port c =
    subst (λ (g : Gates). true ≡ is_input_bit g.flat c.args.bit) c.self.view_is
    (input_is c.self.inside.graph.now.flat c.args.bit c.in-Port.field-0 (subst (IsDriver c.self.inside.graph.now.flat c.args.bit) c.in-Port.is c.driver.ensures.driver))

pub returns-in_default : goal.returns-in_default
returns-in_default c =
    subst (λ (g : Gates). false ≡ is_input_bit g.flat c.args.bit) c.self.view_is
    (no_input_is c.self.inside.graph.now c.bits.ensures.built c.args.bit c.driver.result c.driver.ensures.driver c.in_default.not-Port)

pub returns-else-bit-bits : goal.returns-else-bit-bits
returns-else-bit-bits c =
    let above : c.self.inside.graph.now.flat.bits ≤ c.args.bit = let e = c.bits.ensures.bits in let h = c.if-bit-bits.false in omega arith in
    let no : nat_lt c.args.bit c.bits.result ≡ false = false_by (nat_lt c.args.bit c.bits.result) (Decides-ltb c.args.bit c.bits.result) (λ (h : c.args.bit < c.bits.result). let f = c.if-bit-bits.false in omega arith) in
    no ∙ subst (λ (g : Gates). false ≡ is_input_bit g.flat c.args.bit) c.self.view_is
    (input_outside c.self.inside.graph.now c.bits.ensures.built c.args.bit above)
