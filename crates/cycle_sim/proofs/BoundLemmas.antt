-- The bits that a setup binds are bits of the netlist.
use Rattle.std.proofs.Common.{◌≡◌, ℕ, ◌<◌, ◌⊎◌, inl, inr, Bool, true, false, cond, List, [], ◌∷◌, ◌++◌, map, subst}
use Rattle.std.specs.Prelude.{Contains, flat_map, option_to_list}
use Rattle.std.proofs.lemmas.List.Elements.{Contains-append_left, Contains-append_right}
use Rattle.coco_base.specs.declared.netlist.Flat.{Flat}
use Rattle.coco_base.specs.declared.netlist.FlatPort.{FlatPort}
use Rattle.coco_base.specs.declared.netlist.Wire.{Wire}
use Rattle.coco_base.specs.declared.netlist.Wire.TheVariants.{Const, Bit}
use Rattle.coco_base.specs.declared.setup.EchoPlan.{EchoPlan}
use Rattle.coco_base.specs.declared.setup.InputPlan.{InputPlan}
use Rattle.coco_base.specs.declared.setup.LeafPlan.{LeafPlan}
use Rattle.coco_base.specs.declared.setup.MemPlan.{MemPlan}
use Rattle.coco_base.specs.declared.setup.Setup.{Setup}
use Rattle.coco_model.specs.Carried.{bound_bits}
use Rattle.coco_model.specs.Known.{Row}
use Rattle.coco_model.specs.Netlist.{bits_in, IsInputBit, IsInRange, IsWireBelow}
use Rattle.coco_model.specs.Setups.{IsBoundTo}
use Rattle.coco_model.specs.Stepped.{HasNoOutside}
use Rattle.coco_model.proofs.Basics.{Contains-here, Contains-later, Contains-cases, Contains-none}
use Rattle.model_laws.proofs.Lists.{IsJoined, joined_of_flat_map, Contains-map, Contains-flat_map}
use Rattle.cycle_sim.specs.Writes.{IsAnswerPort, IsLeafWord}

bits_in_below : (n : ℕ) (ws : List Wire) → ((w : Wire) → Contains ws w → IsWireBelow n w) → (b : ℕ) → Contains (bits_in ws) b → b < n
bits_in_below n [] below b h = absurd (Contains-none b h)
bits_in_below n (Const x ∷ ws) below b h = bits_in_below n ws (λ w i. below w (Contains-later (Const x) w ws i)) b h
bits_in_below n (Bit a ∷ ws) below b h =
    go (Contains-cases a b (bits_in ws) h) (λ i. bits_in_below n ws (λ w j. below w (Contains-later (Bit a) w ws j)) b i)
  where
    go : (a ≡ b) ⊎ Contains (bits_in ws) b → (Contains (bits_in ws) b → b < n) → b < n
    go (inl e) rest = subst (λ x. x < n) e (below (Bit a) (Contains-here (Bit a) ws))
    go (inr i) rest = rest i

input_below : (flat : Flat) → IsInRange flat → (b : ℕ) → IsInputBit flat b → b < flat.bits
input_below flat range b h = go (joined_of_flat_map (λ (p : FlatPort). cond p.input (bits_in p.wires) []) flat.ports b h)
  where
    at_port : (p : FlatPort) → Contains flat.ports p → (x : Bool) → Contains (cond x (bits_in p.wires) []) b → b < flat.bits
    at_port p listed true i = bits_in_below flat.bits p.wires (range.ports p listed) b i
    at_port p listed false i = absurd (Contains-none b i)

    go : IsJoined (λ (p : FlatPort). cond p.input (bits_in p.wires) []) flat.ports b → b < flat.bits
    go r = at_port r.source r.listed r.source.input r.member

bound_below : (flat : Flat) (setup : Setup) → IsInRange flat → IsBoundTo flat setup → (b : ℕ) → Contains (bound_bits setup) b → b < flat.bits
bound_below flat setup range bound b h = input_below flat range b (bound.bound.only b h)

abbrev clocks : Setup → List ℕ
clocks setup = option_to_list setup.clock

abbrev plan_bits : Setup → List ℕ
plan_bits setup = map (λ (p : InputPlan). p.bit) setup.inputs

abbrev echo_bits : Setup → List ℕ
echo_bits setup = map (λ (e : EchoPlan). e.bit) setup.echoes

abbrev answer_bits : Setup → List ℕ
answer_bits setup = flat_map (λ (mem : MemPlan). mem.answer) setup.memories

abbrev leaf_bits : Setup → List ℕ
leaf_bits setup = flat_map (λ (leaf : LeafPlan). leaf.bits) setup.leaves

early : (setup : Setup) (b : ℕ) → Contains (clocks setup ++ plan_bits setup ++ echo_bits setup) b → Contains (bound_bits setup) b
early setup b h =
    Contains-append_left (clocks setup ++ plan_bits setup ++ echo_bits setup ++ answer_bits setup) (leaf_bits setup) b
    (Contains-append_left (clocks setup ++ plan_bits setup ++ echo_bits setup) (answer_bits setup) b h)

pub inputs_below : (flat : Flat) (setup : Setup) → IsInRange flat → IsBoundTo flat setup → (p : InputPlan) → Contains setup.inputs p → p.bit < flat.bits
inputs_below flat setup range bound p h =
    bound_below flat setup range bound p.bit (early setup p.bit (Contains-append_left (clocks setup ++ plan_bits setup) (echo_bits setup) p.bit
    (Contains-append_right (clocks setup) (plan_bits setup) p.bit (Contains-map (λ (q : InputPlan). q.bit) setup.inputs p h))))

pub echoes_below : (flat : Flat) (setup : Setup) → IsInRange flat → IsBoundTo flat setup → (e : EchoPlan) → Contains setup.echoes e → e.bit < flat.bits
echoes_below flat setup range bound e h =
    bound_below flat setup range bound e.bit (early setup e.bit (Contains-append_right (clocks setup ++ plan_bits setup) (echo_bits setup) e.bit
    (Contains-map (λ (d : EchoPlan). d.bit) setup.echoes e h)))

pub answer_ports : (flat : Flat) (setup : Setup) (old : Row) → IsInRange flat → IsBoundTo flat setup → HasNoOutside setup old
    → (mem : MemPlan) → Contains setup.memories mem → IsAnswerPort flat.bits old mem
answer_ports flat setup old range bound inside mem h = record {
  address = (bound.memories mem h).address;
  answer = (bound.memories mem h).answer;
  below = λ b i. bound_below flat setup range bound b
      (Contains-append_left (clocks setup ++ plan_bits setup ++ echo_bits setup ++ answer_bits setup) (leaf_bits setup) b
      (Contains-append_right (clocks setup ++ plan_bits setup ++ echo_bits setup) (answer_bits setup) b
      (Contains-flat_map (λ (m : MemPlan). m.answer) setup.memories mem b h i)));
  inside = inside mem h;
}

pub leaf_words : (flat : Flat) (setup : Setup) → IsInRange flat → IsBoundTo flat setup → (leaf : LeafPlan) → Contains setup.leaves leaf
    → IsLeafWord flat.bits leaf
leaf_words flat setup range bound leaf h = record {
  bits_are = (bound.leaves leaf h).bits;
  address = (bound.leaves leaf h).address;
  below = λ b i. bound_below flat setup range bound b
      (Contains-append_right (clocks setup ++ plan_bits setup ++ echo_bits setup ++ answer_bits setup) (leaf_bits setup) b
      (Contains-flat_map (λ (l : LeafPlan). l.bits) setup.leaves leaf b h i));
}
