-- Numbers in range, part by part.
use Rattle.std.proofs.Common.{◌≡◌, ℕ, refl, sym, ap, subst}
use Rattle.std.specs.Prelude.{Contains, Option, Some, None}
use Rattle.coco_base.specs.declared.netlist.Flat.{Flat}
use Rattle.coco_base.specs.declared.netlist.Wire.{Wire}
use Rattle.coco_model.specs.Netlist.{IsInRange, IsWireBelow}
use Rattle.gate_graph.specs.Numbers.{IsBelow, IsResetBelow}

reset_of : (bits : ℕ) (reset : Option Wire) (w : Wire) → IsResetBelow bits reset → reset ≡ Some w → IsWireBelow bits w
reset_of bits None w h e = absurd cc
reset_of bits (Some v) w h e = let f : v ≡ w = cc in subst (IsWireBelow bits) f h

reset_is : (bits : ℕ) (reset : Option Wire) → ((w : Wire) → reset ≡ Some w → IsWireBelow bits w) → IsResetBelow bits reset
reset_is bits None h = tt
reset_is bits (Some v) h = h v refl

pub range_from_below : (flat : Flat) → IsBelow flat → IsInRange flat
range_from_below flat b = record {
  outputs = λ c i. (b.gates.cells c i).output;
  inputs = λ c i w j. (b.gates.cells c i).inputs w j;
  flops = λ f i. (b.gates.flops f i).output;
  next = λ f i. (b.gates.flops f i).next;
  clocks = λ f i. (b.gates.flops f i).clock;
  resets = λ f i w e. reset_of flat.bits f.reset w (b.gates.flops f i).reset e;
  ports = b.names.ports;
  nets = b.names.nets;
}

pub below_from_range : (flat : Flat) → IsInRange flat → IsBelow flat
below_from_range flat r = record {
  gates = record {
    cells = λ c i. record { output = r.outputs c i; inputs = r.inputs c i };
    flops = λ f i. record { output = r.flops f i; next = r.next f i; clock = r.clocks f i; reset = reset_is flat.bits f.reset (λ w e. r.resets f i w e) };
  };
  names = record { ports = r.ports; nets = r.nets };
}
