use Rattle.std.proofs.Common.{◌≡◌, ◌≤◌, ◌<◌, true, false, nat_lt, ◌∙◌, subst, arith}
use Rattle.gate_graph.specs.Drivers.{IsDriver}
use Rattle.gate_graph.specs.Graphs.{Gates}
use Rattle.std.proofs.lemmas.Bool.Decides.{Decides-ltb}
use Rattle.bind_run.specs.Binding.{is_flop_bit}
use Rattle.bind_run.proofs.DriverLemmas.{false_by, flop_is, no_flop_is, flop_outside}
use Rattle.bind_run.proofs.circuit.Circuit.is_flop.Goals as goal

pub returns-in-Flop : goal.returns-in-Flop
returns-in-Flop c =
    subst (λ (g : Gates). true ≡ is_flop_bit g.flat c.args.bit) c.self.view_is
    (flop_is c.self.inside.graph.now.flat c.args.bit c.in-Flop.field-0 (subst (IsDriver c.self.inside.graph.now.flat c.args.bit) c.in-Flop.is c.driver.ensures.driver))

pub returns-in_default : goal.returns-in_default
returns-in_default c =
    subst (λ (g : Gates). false ≡ is_flop_bit g.flat c.args.bit) c.self.view_is
    (no_flop_is c.self.inside.graph.now c.bits.ensures.built c.args.bit c.driver.result c.driver.ensures.driver c.in_default.not-Flop)

pub returns-else-bit-bits : goal.returns-else-bit-bits
returns-else-bit-bits c =
    let above : c.self.inside.graph.now.flat.bits ≤ c.args.bit = let e = c.bits.ensures.bits in let h = c.if-bit-bits.false in omega arith in
    let no : nat_lt c.args.bit c.bits.result ≡ false = false_by (nat_lt c.args.bit c.bits.result) (Decides-ltb c.args.bit c.bits.result) (λ (h : c.args.bit < c.bits.result). let f = c.if-bit-bits.false in omega arith) in
    no ∙ subst (λ (g : Gates). false ≡ is_flop_bit g.flat c.args.bit) c.self.view_is
    (flop_outside c.self.inside.graph.now c.bits.ensures.built c.args.bit above)
