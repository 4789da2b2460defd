-- A widened netlist has a graph where the netlist has one.
use Rattle.std.proofs.Common.{◌≡◌, ℕ, ◌+◌, ◌*◌, ◌<◌, ◌≤◌, ◌⊎◌, inl, inr, List, ◌++◌, map, length, subst, arith}
use Rattle.std.specs.Prelude.{Contains}
use Rattle.std.specs.List.{range_with_len}
use Rattle.std.proofs.lemmas.Bool.{cases_lt}
use Rattle.std.proofs.lemmas.List.Elements.{Contains-append_cases}
use Rattle.coco_base.specs.declared.netlist.Flat.{Flat}
use Rattle.coco_base.specs.declared.netlist.FlatCell.{FlatCell}
use Rattle.coco_base.specs.declared.netlist.FlatFlop.{FlatFlop}
use Rattle.coco_base.specs.declared.netlist.FlatPort.{FlatPort}
use Rattle.coco_base.specs.declared.netlist.Wire.{Wire}
use Rattle.coco_base.specs.declared.netlist.Wire.TheVariants.{Const, Bit}
use Rattle.coco_model.specs.Netlist.{HasOneDriver, IsInRange, IsWireBelow, driven_bits, input_bits}
use Rattle.gate_graph.proofs.WiredLemmas.{input_below}
use Rattle.model_laws.proofs.Lists.{image_of_map}
use Rattle.bind_run.specs.Widened.{leaf_bits, widened}
use Rattle.bind_run.proofs.Ranges.{range_once, range_place}
use Rattle.bind_run.proofs.Times.{none_times, once_times, times, times-append, times_once}
use Rattle.bind_run.proofs.WidePorts.{leaf_below, leaves_all, leaves_times}

-- ---- numbers in range

wire_wider : (small large : ℕ) → small ≤ large → (w : Wire) → IsWireBelow small w → IsWireBelow large w
wire_wider small large h (Const c) is = tt
wire_wider small large h (Bit n) is = omega (arith, h, is)

pub wide_range : (flat : Flat) (addresses : List ℕ) → IsInRange flat → IsInRange (widened flat addresses)
unfolding leaf_bits
wide_range flat addresses range =
    let more : flat.bits ≤ flat.bits + 32 * length addresses = omega arith in
    let wider = wire_wider flat.bits (flat.bits + 32 * length addresses) more in
    record {
      outputs = λ c i. let o = range.outputs c i in omega (arith, o);
      inputs = λ c i w j. wider w (range.inputs c i w j);
      flops = λ f i. let o = range.flops f i in omega (arith, o);
      next = λ f i. wider f.next (range.next f i);
      clocks = λ f i. wider f.clock (range.clocks f i);
      resets = λ f i w e. wider w (range.resets f i w e);
      ports =
          leaves_all (λ (q : FlatPort). (w : Wire) → Contains q.wires w → IsWireBelow (flat.bits + 32 * length addresses) w) flat.bits flat.ports addresses
          (λ q i w j. wider w (range.ports q i w j)) (leaf_below (flat.bits + 32 * length addresses));
      nets = λ n i w j. wider w (range.nets n i w j);
    }

-- ---- one driver

pub inputs_times : (flat : Flat) (addresses : List ℕ) (b : ℕ)
    → times b (input_bits (widened flat addresses)) ≡ times b (input_bits flat) + times b (range_with_len flat.bits (32 * length addresses))
inputs_times flat addresses b = leaves_times flat.bits flat.ports addresses b

driven_below : (flat : Flat) → IsInRange flat → (b : ℕ) → Contains (driven_bits flat) b → b < flat.bits
driven_below flat range b h = outer (Contains-append_cases (input_bits flat ++ outputs) flops b h)
  where
    outputs : List ℕ
    outputs = map (λ (c : FlatCell). c.output) flat.cells

    flops : List ℕ
    flops = map (λ (f : FlatFlop). f.output) flat.flops

    inner : Contains (input_bits flat) b ⊎ Contains outputs b → b < flat.bits
    inner (inl i) = input_below flat range b i
    inner (inr i) =
        let m = image_of_map (λ (c : FlatCell). c.output) flat.cells b i in subst (λ n. n < flat.bits) m.image (range.outputs m.source m.listed)

    outer : Contains (input_bits flat ++ outputs) b ⊎ Contains flops b → b < flat.bits
    outer (inl i) = inner (Contains-append_cases (input_bits flat) outputs b i)
    outer (inr i) =
        let m = image_of_map (λ (f : FlatFlop). f.output) flat.flops b i in subst (λ n. n < flat.bits) m.image (range.flops m.source m.listed)

pub wide_driver : (flat : Flat) (addresses : List ℕ) → IsInRange flat → HasOneDriver flat → HasOneDriver (widened flat addresses)
wide_driver flat addresses range one = record { once = times_once (driven_bits (widened flat addresses)) (λ b. at b (cases_lt b flat.bits)) }
  where
    outputs : List ℕ
    outputs = map (λ (c : FlatCell). c.output) flat.cells

    flops : List ℕ
    flops = map (λ (f : FlatFlop). f.output) flat.flops

    parts : (b : ℕ) → times b (driven_bits (widened flat addresses)) ≡ times b (driven_bits flat) + times b (range_with_len flat.bits (32 * length addresses))
    parts b =
        let i = inputs_times flat addresses b in
        let p = times-append b (input_bits (widened flat addresses)) outputs in
        let q = times-append b (input_bits (widened flat addresses) ++ outputs) flops in
        let r = times-append b (input_bits flat) outputs in
        let s = times-append b (input_bits flat ++ outputs) flops in
        omega (arith, i, p, q, r, s)

    at : (b : ℕ) → (b < flat.bits) ⊎ (flat.bits ≤ b) → times b (driven_bits (widened flat addresses)) ≤ 1
    at b (inl below) =
        let p = parts b in
        let o = once_times (driven_bits flat) one.once b in
        let z = none_times b (range_with_len flat.bits (32 * length addresses))
        (λ i. let r = (range_place flat.bits (32 * length addresses) b i).0 in omega (arith, r, below)) in
        omega (arith, p, o, z)
    at b (inr above) =
        let p = parts b in
        let o = once_times (range_with_len flat.bits (32 * length addresses)) (range_once flat.bits (32 * length addresses)) b in
        let z = none_times b (driven_bits flat) (λ i. let d = driven_below flat range b i in omega (arith, d, above)) in
        omega (arith, p, o, z)
