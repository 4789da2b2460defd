-- What drives a bit, as tests.
use Rattle.std.proofs.Common.{◌≡◌, ◌≢◌, ℕ, ◌≤◌, Bool, true, false, List, ◌++◌, map, refl, sym, subst, nat_eq, arith}
use Rattle.std.specs.Prelude.{Contains}
use Rattle.std.specs.Bool.{Decides}
use Rattle.std.proofs.lemmas.Bool.{eqb-true, eq-eqb}
use Rattle.std.proofs.lemmas.List.Elements.{Contains-append_left, Contains-append_right}
use Rattle.std.proofs.lemmas.List.Folds.{Any-from_list_any, list_any-from_Any}
use Rattle.coco_base.specs.declared.netlist.Flat.{Flat}
use Rattle.coco_base.specs.declared.netlist.FlatCell.{FlatCell}
use Rattle.coco_base.specs.declared.netlist.FlatFlop.{FlatFlop}
use Rattle.coco_model.specs.Netlist.{input_bits, HasOneDriver, IsFlopBit, IsInputBit}
use Rattle.coco_model.proofs.Basics.{some_from_any, any_from_member}
use Rattle.model_laws.proofs.Apart.{apart_parts}
use Rattle.model_laws.proofs.Lists.{Contains-map, member_of_place}
use Rattle.gate_graph.specs.declared.driver.Driver.{Driver}
use Rattle.gate_graph.specs.declared.driver.Driver.TheVariants.{Port, Cell, Flop, Nothing}
use Rattle.gate_graph.specs.Drivers.{IsDriver}
use Rattle.gate_graph.specs.Graphs.{Gates, IsBuilt}
use Rattle.gate_graph.proofs.ClockLemmas.{no_input_by}
use Rattle.gate_graph.proofs.WiredLemmas.{port_input, input_below}
use Rattle.bind_run.specs.Binding.{has_bit, is_flop_bit, is_input_bit}

pub has_bit-Decides : (bits : List ℕ) (b : ℕ) → Decides (has_bit bits b) (Contains bits b)
has_bit-Decides bits b = (
  λ t. let s = some_from_any (λ x. nat_eq b x ≡ true) bits (Any-from_list_any (nat_eq b) bits t) in
      subst (Contains bits) (sym (eqb-true b s.member s.holds)) s.listed,
  λ h. list_any-from_Any (nat_eq b) bits (any_from_member (λ x. nat_eq b x ≡ true) bits b h (eq-eqb b b refl)),
)

pub is_input_bit-Decides : (flat : Flat) (b : ℕ) → Decides (is_input_bit flat b) (IsInputBit flat b)
is_input_bit-Decides flat b = has_bit-Decides (input_bits flat) b

pub is_flop_bit-Decides : (flat : Flat) (b : ℕ) → Decides (is_flop_bit flat b) (IsFlopBit flat b)
is_flop_bit-Decides flat b = (
  λ t. let s = some_from_any (λ (f : FlatFlop). nat_eq b f.output ≡ true) flat.flops (Any-from_list_any (λ (f : FlatFlop). nat_eq b f.output) flat.flops t) in
      any_from_member (λ (f : FlatFlop). f.output ≡ b) flat.flops s.member s.listed (sym (eqb-true b s.member.output s.holds)),
  λ h. let s = some_from_any (λ (f : FlatFlop). f.output ≡ b) flat.flops h in
      list_any-from_Any (λ (f : FlatFlop). nat_eq b f.output) flat.flops
      (any_from_member (λ (f : FlatFlop). nat_eq b f.output ≡ true) flat.flops s.member s.listed (eq-eqb b s.member.output (sym s.holds))),
)

-- a bit that no flop drives
no_flop_by : (flat : Flat) → HasOneDriver flat → (bit : ℕ) (d : Driver) → IsDriver flat bit d → ((n : ℕ) → d ≢ Flop n) → IsFlopBit flat bit → ⊥
no_flop_by flat one bit d is other flop = go d is other
  where
    outputs : List ℕ
    outputs = map (λ (c : FlatCell). c.output) flat.cells

    among : Contains (map (λ (f : FlatFlop). f.output) flat.flops) bit
    among =
        let s = some_from_any (λ (f : FlatFlop). f.output ≡ bit) flat.flops flop in
        subst (Contains (map (λ (f : FlatFlop). f.output) flat.flops)) s.holds (Contains-map (λ (f : FlatFlop). f.output) flat.flops s.member s.listed)

    never : Contains (input_bits flat ++ map (λ (c : FlatCell). c.output) flat.cells) bit → ⊥
    never h = (apart_parts (input_bits flat ++ map (λ (c : FlatCell). c.output) flat.cells) (map (λ (f : FlatFlop). f.output) flat.flops) one.once).apart bit h among

    go : (d : Driver) → IsDriver flat bit d → ((n : ℕ) → d ≢ Flop n) → ⊥
    go (Port p) is other =
        never (Contains-append_left (input_bits flat) (map (λ (c : FlatCell). c.output) flat.cells) bit (port_input flat p bit is))
    go (Cell i) is other =
        never (Contains-append_right (input_bits flat) (map (λ (c : FlatCell). c.output) flat.cells) bit
        (subst (Contains (map (λ (c : FlatCell). c.output) flat.cells)) is.drives
        (Contains-map (λ (c : FlatCell). c.output) flat.cells is.cell (member_of_place flat.cells i is.cell is.at))))
    go (Flop n) is other = other n refl
    go Nothing is other = is.no_flop flop

pub false_by : {P : Type 0} (r : Bool) → Decides r P → (P → ⊥) → r ≡ false
false_by true d n = absurd (n (d.0 refl))
false_by false d n = refl

pub input_is : (flat : Flat) (b n : ℕ) → IsDriver flat b (Port n) → true ≡ is_input_bit flat b
input_is flat b n d = sym ((is_input_bit-Decides flat b).1 (port_input flat n b d))

pub no_input_is : (g : Gates) → IsBuilt g → (b : ℕ) (d : Driver) → IsDriver g.flat b d → ((n : ℕ) → d ≢ Port n) → false ≡ is_input_bit g.flat b
no_input_is g built b d is other =
    sym (false_by (is_input_bit g.flat b) (is_input_bit-Decides g.flat b) (no_input_by g.flat built.one_driver b d is other))

pub input_outside : (g : Gates) → IsBuilt g → (b : ℕ) → g.flat.bits ≤ b → false ≡ is_input_bit g.flat b
input_outside g built b above =
    sym (false_by (is_input_bit g.flat b) (is_input_bit-Decides g.flat b) (λ i. let l = input_below g.flat built.range b i in omega arith))

pub flop_is : (flat : Flat) (b n : ℕ) → IsDriver flat b (Flop n) → true ≡ is_flop_bit flat b
flop_is flat b n d =
    sym ((is_flop_bit-Decides flat b).1 (any_from_member (λ (f : FlatFlop). f.output ≡ b) flat.flops d.flop (member_of_place flat.flops n d.flop d.at) d.drives))

pub no_flop_is : (g : Gates) → IsBuilt g → (b : ℕ) (d : Driver) → IsDriver g.flat b d → ((n : ℕ) → d ≢ Flop n) → false ≡ is_flop_bit g.flat b
no_flop_is g built b d is other =
    sym (false_by (is_flop_bit g.flat b) (is_flop_bit-Decides g.flat b) (no_flop_by g.flat built.one_driver b d is other))

pub flop_outside : (g : Gates) → IsBuilt g → (b : ℕ) → g.flat.bits ≤ b → false ≡ is_flop_bit g.flat b
flop_outside g built b above =
    sym (false_by (is_flop_bit g.flat b) (is_flop_bit-Decides g.flat b) (λ i.
    let s = some_from_any (λ (f : FlatFlop). f.output ≡ b) g.flat.flops i in
    let l = built.range.flops s.member s.listed in let e = s.holds in omega arith))
