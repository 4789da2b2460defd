-- Nothing but want of memory refuses a widened netlist whose netlist has a graph.
use Rattle.std.proofs.Common.{◌≡◌, ℕ, suc, ◌+◌, ◌<◌, ◌^◌, Bool, true, false, cond, List, [], ◌∷◌, ◌++◌, map, length, refl, sym, ◌∙◌, ap, subst, nat_eq, arith}
use Rattle.std.specs.Prelude.{Contains, Option, Some, None, flat_map}
use Rattle.std.proofs.lemmas.Bool.{eqb-true, eq-eqb}
use Rattle.std.proofs.lemmas.List.{map-append}
use Rattle.coco_base.specs.declared.netlist.Flat.{Flat}
use Rattle.coco_base.specs.declared.netlist.FlatCell.{FlatCell}
use Rattle.coco_base.specs.declared.netlist.FlatFlop.{FlatFlop}
use Rattle.coco_base.specs.declared.netlist.FlatPort.{FlatPort}
use Rattle.coco_base.specs.declared.netlist.Wire.{Wire}
use Rattle.coco_base.specs.declared.netlist.Wire.TheVariants.{Const, Bit}
use Rattle.coco_model.specs.Netlist.{HasOneDriver, IsInputBit, driven_bits, input_bits, bits_in, wires_of}
use Rattle.coco_model.proofs.Basics.{Contains-none}
use Rattle.gate_graph.specs.declared.driver.Driver.{Driver}
use Rattle.gate_graph.specs.declared.driver.Driver.TheVariants.{Cell, Flop}
use Rattle.gate_graph.specs.declared.fault.GraphFault.{GraphFault}
use Rattle.gate_graph.specs.declared.fault.GraphFault.TheVariants.{TwoDrivers, Loop, SecondClock, Memory}
use Rattle.gate_graph.specs.Clocks.{IsClockFault, IsGraphClock, IsInputWire, ReadsAsValue, first_clock}
use Rattle.gate_graph.specs.Clocks.IsClockFault.{second, cell, flop}
use Rattle.gate_graph.specs.Drivers.{cell_drivings, drivers_among, drivers_of, drivings, flop_drivings, output_drivings, port_driving, port_drivings}
use Rattle.gate_graph.specs.Faults.{IsGraphFault}
use Rattle.gate_graph.specs.Graphs.{Gates, IsGraphOf}
use Rattle.gate_graph.specs.Levels.{HasLevel}
use Rattle.gate_graph.specs.Levels.HasLevel.{leaf, output}
use Rattle.model_laws.proofs.Lists.{member_of_place}
use Rattle.bind_run.specs.Widened.{HasGraph, widened}
use Rattle.bind_run.proofs.Times.{member_times, once_times, times, times_member}
use Rattle.bind_run.proofs.WideGraphs.{inputs_times, wide_driver, wide_range}

-- ---- no bit has two drivers in the order of drivers

turned : (a b : ℕ) → cond {A = ℕ} (nat_eq a b) 1 0 ≡ cond {A = ℕ} (nat_eq b a) 1 0
turned a b = go (nat_eq a b) (nat_eq b a) refl refl
  where
    go : (s t : Bool) → nat_eq a b ≡ s → nat_eq b a ≡ t → cond {A = ℕ} s 1 0 ≡ cond {A = ℕ} t 1 0
    go true true e f = refl
    go false false e f = refl
    go true false e f = let g : nat_eq b a ≡ true = eq-eqb b a (sym (eqb-true a b e)) in absurd cc
    go false true e f = let g : nat_eq a b ≡ true = eq-eqb a b (sym (eqb-true b a f)) in absurd cc

drivers_length : (b : ℕ) (ds : List _) → length (drivers_among b ds) ≡ times b (map (λ d. d.bit) ds)
drivers_length b [] = refl
drivers_length b (d ∷ ds) = go (nat_eq d.bit b) refl (drivers_length b ds)
  where
    go : (t : Bool) → nat_eq d.bit b ≡ t → length (drivers_among b ds) ≡ times b (map (λ x. x.bit) ds)
        → length (cond t (d.driver ∷ drivers_among b ds) (drivers_among b ds)) ≡ cond {A = ℕ} (nat_eq b d.bit) 1 0 + times b (map (λ x. x.bit) ds)
    go true e h = let o = sym (turned d.bit b) ∙ ap (λ t. cond {A = ℕ} t 1 0) e in omega (arith, h, o)
    go false e h = let o = sym (turned d.bit b) ∙ ap (λ t. cond {A = ℕ} t 1 0) e in omega (arith, h, o)

-- the bits of the places that drive one are the driven bits
bits_back : (n : ℕ) (bs : List ℕ) → map (λ d. d.bit) (map (port_driving n) bs) ≡ bs
bits_back n [] = refl
bits_back n (b ∷ bs) = ap (λ cs. b ∷ cs) (bits_back n bs)

ports_bits : (n : ℕ) (ps : List FlatPort) → map (λ d. d.bit) (port_drivings n ps) ≡ flat_map (λ (p : FlatPort). cond p.input (bits_in p.wires) []) ps
ports_bits n [] = refl
ports_bits n (p ∷ ps) =
    map-append (λ d. d.bit) (map (port_driving n) (cond p.input (bits_in p.wires) [])) (port_drivings (suc n) ps)
    ∙ ap (λ xs. xs ++ map (λ d. d.bit) (port_drivings (suc n) ps)) (bits_back n (cond p.input (bits_in p.wires) []))
    ∙ ap (λ xs. cond p.input (bits_in p.wires) [] ++ xs) (ports_bits (suc n) ps)

outputs_bits : {X : Type 0} (driver : ℕ → Driver) (driven : X → ℕ) (n : ℕ) (xs : List X) → map (λ d. d.bit) (output_drivings driver driven n xs) ≡ map driven xs
outputs_bits driver driven n [] = refl
outputs_bits driver driven n (x ∷ xs) = ap (λ bs. driven x ∷ bs) (outputs_bits driver driven (suc n) xs)

drivings_bits : (flat : Flat) → map (λ d. d.bit) (drivings flat) ≡ driven_bits flat
drivings_bits flat =
    map-append (λ d. d.bit) (port_drivings 0 flat.ports ++ cell_drivings 0 flat.cells) (flop_drivings 0 flat.flops)
    ∙ ap (λ xs. xs ++ map (λ d. d.bit) (flop_drivings 0 flat.flops))
    (map-append (λ d. d.bit) (port_drivings 0 flat.ports) (cell_drivings 0 flat.cells)
    ∙ ap (λ xs. xs ++ map (λ d. d.bit) (cell_drivings 0 flat.cells)) (ports_bits 0 flat.ports)
    ∙ ap (λ xs. input_bits flat ++ xs) (outputs_bits Cell (λ (c : FlatCell). c.output) 0 flat.cells))
    ∙ ap (λ xs. input_bits flat ++ map (λ (c : FlatCell). c.output) flat.cells ++ xs) (outputs_bits Flop (λ (f : FlatFlop). f.output) 0 flat.flops)

one_driver : (flat : Flat) → HasOneDriver flat → (b : ℕ) (first other : Driver) (rest : List Driver) → drivers_of flat b ≡ first ∷ other ∷ rest → ⊥
one_driver flat one b first other rest e =
    let l = drivers_length b (drivings flat) ∙ ap (times b) (drivings_bits flat) in
    let o = once_times (driven_bits flat) one.once b in
    let n = ap length e in
    omega (arith, l, o, n)

-- ---- levels and clocks

level_wide : (flat : Flat) (addresses : List ℕ) (b n : ℕ) → HasLevel flat b n → HasLevel (widened flat addresses) b n
level_wide flat addresses b n (leaf bit none) = leaf bit none
level_wide flat addresses b n (output c level i each) = output c level i (λ bit k. level_wide flat addresses bit (level bit) (each bit k))

input_wide : (flat : Flat) (addresses : List ℕ) (b : ℕ) → IsInputBit flat b → IsInputBit (widened flat addresses) b
input_wide flat addresses b i =
    let t = inputs_times flat addresses b in
    let m = member_times b (input_bits flat) i in
    times_member b (input_bits (widened flat addresses)) (omega (arith, t, m))

wire_wide : (flat : Flat) (addresses : List ℕ) (w : Wire) → IsInputWire flat w → IsInputWire (widened flat addresses) w
wire_wide flat addresses (Const b) i = i
wire_wide flat addresses (Bit n) i = input_wide flat addresses n i

no_flops : (flops : List FlatFlop) (f : FlatFlop) → flops ≡ [] → Contains flops f → ⊥
no_flops flops f e i = Contains-none f (subst (λ fs. Contains fs f) e i)

first_same : (flops : List FlatFlop) (a b : ℕ) → first_clock flops ≡ Some (Bit a) → first_clock flops ≡ Some (Bit b) → a ≡ b
first_same flops a b e f = let g : Some (Bit a) ≡ Some (Bit b) = sym e ∙ f in cc

no_clock_first : (flops : List FlatFlop) (bit : ℕ) → flops ≡ [] → first_clock flops ≡ Some (Bit bit) → ⊥
no_clock_first flops bit e f = let g : None ≡ Some (Bit bit) = sym (ap first_clock e) ∙ f in cc

clock_fault : (flat : Flat) (addresses : List ℕ) (clock : Option ℕ) → IsGraphClock flat clock → (name : List ℕ) → IsClockFault (widened flat addresses) name → ⊥
clock_fault flat addresses None graph name (second w f e first) =
    no_flops flat.flops first.first.member graph (member_of_place flat.flops first.place first.first.member first.first.at)
clock_fault flat addresses None graph name (cell bit c has first) = no_clock_first flat.flops bit graph has.first
clock_fault flat addresses None graph name (flop bit f has none first) = no_clock_first flat.flops bit graph has.first
clock_fault flat addresses (Some b) graph name (second w f e first) =
    let m = graph.has.flops first.first.member (member_of_place flat.flops first.place first.first.member first.first.at) in
    let same : Bit b ≡ w = (let g : Some (Bit b) ≡ Some w = sym graph.has.first ∙ e in cc) in
    first.first.holds (record { same = m.same ∙ same; input = wire_wide flat addresses first.first.member.clock m.input })
clock_fault flat addresses (Some b) graph name (cell bit c has first) =
    let same : bit ≡ b = first_same flat.flops bit b has.first graph.has.first in
    graph.no_value.cells first.first.member (member_of_place flat.cells first.place first.first.member first.first.at)
    (subst (λ n. Contains (wires_of first.first.member) (Bit n)) same first.first.holds)
clock_fault flat addresses (Some b) graph name (flop bit f has none first) =
    let same : bit ≡ b = first_same flat.flops bit b has.first graph.has.first in
    graph.no_value.flops first.first.member (member_of_place flat.flops first.place first.first.member first.first.at)
    (subst (λ n. ReadsAsValue first.first.member n) same first.first.holds)

-- ---- all of it

pub wide_graph : (flat : Flat) (addresses : List ℕ) (gates : Gates) → IsGraphOf flat gates → length (widened flat addresses).ports < 2 ^ 32
    → HasGraph (widened flat addresses)
wide_graph flat addresses gates graph few = go gates graph.flat_is graph
  where
    go : (gates : Gates) → gates.flat ≡ flat → IsGraphOf flat gates → HasGraph (widened flat addresses)
    go gates e graph = subst (λ (f : Flat). length (widened f addresses).ports < 2 ^ 32 → HasGraph (widened f addresses)) e (λ small. record {
      range = wide_range gates.flat addresses graph.built.range;
      numbers = record { ports = small; cells = graph.built.numbers.cells; flops = graph.built.numbers.flops };
      no_fault = λ f is. no f is (wide_driver gates.flat addresses graph.built.range graph.built.one_driver)
          (λ b. level_wide gates.flat addresses b (graph.built.level b) (graph.built.levels b))
          (λ name. clock_fault gates.flat addresses gates.clock graph.built.clock name);
    }) few
      where
        no : (f : GraphFault) → IsGraphFault (widened gates.flat addresses) f → HasOneDriver (widened gates.flat addresses)
            → ((b : ℕ) → HasLevel (widened gates.flat addresses) b (graph.built.level b))
            → ((name : List ℕ) → IsClockFault (widened gates.flat addresses) name → ⊥) → f ≡ Memory
        no (TwoDrivers bit first other) is one levels clocks =
            absurd (one_driver (widened gates.flat addresses) one is.bit is.one is.other is.twice.rest is.twice.drivers)
        no (Loop cells) is one levels clocks =
            absurd (is.1.start.lacks (graph.built.level is.1.start.cell.output) (levels is.1.start.cell.output))
        no (SecondClock name) is one levels clocks = absurd (clocks name is.2)
        no Memory is one levels clocks = refl
