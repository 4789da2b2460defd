-- The bits that a setup binds: every input port bit, once, and nothing else.
use Rattle.std.proofs.Common.{◌≡◌, ℕ, ◌+◌, ◌≤◌, ◌⊎◌, inl, inr, Bool, true, false, cond, List, [], ◌∷◌, ◌++◌, map, length, refl, ap, subst, arith}
use Rattle.std.specs.Prelude.{Contains, Option, flat_map, option_to_list, slice_get}
use Rattle.std.specs.List.{count_by, list_all}
use Rattle.std.proofs.lemmas.Bool.{eqb-true}
use Rattle.std.proofs.lemmas.List.{append-nil, length-append}
use Rattle.std.proofs.lemmas.List.Elements.{Contains-append_left}
use Rattle.std.proofs.lemmas.List.Sums.{sum_by-cons}
use Rattle.coco_base.specs.declared.netlist.Flat.{Flat}
use Rattle.coco_base.specs.declared.netlist.FlatCell.{FlatCell}
use Rattle.coco_base.specs.declared.netlist.FlatFlop.{FlatFlop}
use Rattle.coco_base.specs.declared.netlist.Wire.{Wire}
use Rattle.coco_base.specs.declared.netlist.Wire.TheVariants.{Bit}
use Rattle.coco_model.specs.Carried.{IsBound, bound_bits}
use Rattle.coco_model.specs.Netlist.{HasOneDriver, IsFlopBit, IsInRange, IsInputBit, bits_in, input_bits as flat_inputs}
use Rattle.coco_model.proofs.Basics.{Contains-none, some_from_any}
use Rattle.gate_graph.specs.Clocks.{IsGraphClock}
use Rattle.model_laws.proofs.Apart.{apart_parts}
use Rattle.model_laws.proofs.Lists.{Contains-flat_map, Contains-map, joined_of_flat_map}
use Rattle.label_file.specs.declared.line.LabelLine.{LabelLine}
use Rattle.label_file.specs.declared.line.LabelLine.TheVariants as line
use Rattle.label_file.specs.declared.line.Labels.{Labels}
use Rattle.label_file.specs.Conditions.{AreLabels}
use Rattle.label_file.specs.Statements.{is_clock}
use Rattle.rv_asm.specs.declared.image.Image.{Image}
use Rattle.bind_run.specs.declared.need.Role.{Role}
use Rattle.bind_run.specs.declared.need.Role.TheVariants as role
use Rattle.bind_run.specs.Binding.{IsUnbound, drives_wire, has_bit, is_driven}
use Rattle.bind_run.specs.Inputs.{inputs_of}
use Rattle.bind_run.specs.Memories.{line_echoes, line_leaves, line_memories}
use Rattle.bind_run.specs.Needs.{leaf_name, needs_of}
use Rattle.bind_run.specs.Nets.{wires_of}
use Rattle.bind_run.specs.SetupParts.{line_clock, setup_of}
use Rattle.bind_run.specs.Outcomes.{AreAllBound}
use Rattle.bind_run.proofs.AtBits.{all_driven, bits_in-length, bits_in-wire}
use Rattle.bind_run.proofs.BoundLemmas.{AreBits, bound_bits as different_bits}
use Rattle.bind_run.proofs.DriverLemmas.{has_bit-Decides, is_flop_bit-Decides, is_input_bit-Decides}
use Rattle.bind_run.proofs.LineTimes.{answer_bits, echo_bits, input_bits, leaf_bits, lines_times, reg_bits}
use Rattle.bind_run.proofs.TakenLemmas.{AreTaken, LinesTaken, line_bits, line_taken, lines_taken}
use Rattle.bind_run.proofs.Times.{member_times, none_times, once_times, times, times-append, times_member, times_once}

-- labels that bind all input port bits of a netlist without a fault
pub record Binds (flat : Flat) (clock : Option ℕ) (labels : Labels) : Type 0 where
  pub range : IsInRange flat
  pub one_driver : HasOneDriver flat
  pub graph_clock : IsGraphClock flat clock
  pub are : AreLabels labels
  pub taken : LinesTaken flat clock labels.lines
  pub bits : AreBits flat (flat_map (line_bits flat) labels.lines)
  pub all : (b : ℕ) → IsUnbound flat (flat_map (line_bits flat) labels.lines) b → ⊥

pub binds_of : (flat : Flat) (clock : Option ℕ) (labels : Labels) → IsInRange flat → HasOneDriver flat → IsGraphClock flat clock → AreLabels labels
    → AreAllBound flat clock labels → Binds flat clock labels
binds_of flat clock labels range one graph are all =
    let t = lines_taken flat clock labels.lines all.bound all.by_lines in
    record {
      range = range;
      one_driver = one;
      graph_clock = graph;
      are = are;
      taken = t.taken;
      bits = subst (AreBits flat) t.bits (different_bits flat range clock labels.lines all.bound all.by_lines);
      all = λ b. subst (λ bs. IsUnbound flat bs b → ⊥) t.bits (all.all b);
    }

-- ---- the clock line

line_clock_few : (flat : Flat) (clock : Option ℕ) (l : LabelLine) → AreTaken flat clock (needs_of flat l) → length (line_clock flat l) ≤ cond {A = ℕ} (is_clock l) 1 0
line_clock_few flat clock (line.Clock net) t =
    let w : length (wires_of flat net) ≡ 1 = eqb-true (length (wires_of flat net)) 1 t.0.wide in
    let b = bits_in-length flat role.Clock (wires_of flat net) (t.0.driven refl) in omega (arith, w, b)
line_clock_few flat clock l t = omega arith

clock_few : (flat : Flat) (clock : Option ℕ) (ls : List LabelLine) → LinesTaken flat clock ls → length (flat_map (line_clock flat) ls) ≤ count_by is_clock ls
clock_few flat clock [] t = omega arith
clock_few flat clock (l ∷ ls) t =
    let h = clock_few flat clock ls t.1 in
    let o = line_clock_few flat clock l t.0 in
    let e = length-append (line_clock flat l) (flat_map (line_clock flat) ls) in
    let s = sum_by-cons (λ x. cond {A = ℕ} (is_clock x) 1 0) l ls in
    omega (arith, h, o, e, s)

one_or_none : (xs : List ℕ) → length xs ≤ 1 → option_to_list (slice_get xs 0) ≡ xs
one_or_none [] few = refl
one_or_none (x ∷ []) few = refl
one_or_none (x ∷ y ∷ xs) few = absurd (omega (arith, few))

-- ---- how often a bit is bound

pub bits_times : (flat : Flat) (clock : Option ℕ) (image : Image) (labels : Labels) → Binds flat clock labels → (b : ℕ)
    → times b (flat_map (line_bits flat) labels.lines)
    ≡ times b (bound_bits (setup_of flat image labels)) + times b (flat_map (reg_bits flat) labels.lines)
bits_times flat clock image labels binds b =
    let ls = labels.lines in
    let cs = flat_map (line_clock flat) ls in
    let is = input_bits (inputs_of flat 0 ls) in
    let es = echo_bits (flat_map (line_echoes flat) ls) in
    let ms = answer_bits (flat_map (line_memories flat) ls) in
    let fs = leaf_bits (flat_map (line_leaves flat) ls) in
    let few = clock_few flat clock ls binds.taken in
    let once = binds.are.once.clock in
    let c : times b (option_to_list (slice_get cs 0)) ≡ times b cs = ap (times b) (one_or_none cs (omega (arith, few, once))) in
    let t = lines_times flat 0 ls b in
    let p = times-append b (option_to_list (slice_get cs 0)) is in
    let q = times-append b (option_to_list (slice_get cs 0) ++ is) es in
    let r = times-append b (option_to_list (slice_get cs 0) ++ is ++ es) ms in
    let s = times-append b (option_to_list (slice_get cs 0) ++ is ++ es ++ ms) fs in
    omega (arith, c, t, p, q, r, s)

-- ---- flops and inputs

not_both : (flat : Flat) → HasOneDriver flat → (b : ℕ) → IsInputBit flat b → IsFlopBit flat b → ⊥
not_both flat one b input flop =
    let outputs = map (λ (c : FlatCell). c.output) flat.cells in
    let s = some_from_any (λ (f : FlatFlop). f.output ≡ b) flat.flops flop in
    let among = subst (Contains (map (λ (f : FlatFlop). f.output) flat.flops)) s.holds (Contains-map (λ (f : FlatFlop). f.output) flat.flops s.member s.listed) in
    (apart_parts (flat_inputs flat ++ outputs) (map (λ (f : FlatFlop). f.output) flat.flops) one.once).apart b
    (Contains-append_left (flat_inputs flat) outputs b input) among

wire_driven : (flat : Flat) (r : Role) (ws : List Wire) (b : ℕ) → list_all (drives_wire flat r) ws ≡ true → Contains (bits_in ws) b → is_driven flat r b ≡ true
wire_driven flat r ws b h i = all_driven flat r ws (Bit b) h (bits_in-wire ws b i)

pub input_driven : (flat : Flat) (ws : List Wire) (b : ℕ) → list_all (drives_wire flat role.Input) ws ≡ true → Contains (bits_in ws) b → IsInputBit flat b
input_driven flat ws b h i = (is_input_bit-Decides flat b).0 (wire_driven flat role.Input ws b h i)

pub clock_driven : (flat : Flat) (ws : List Wire) (b : ℕ) → list_all (drives_wire flat role.Clock) ws ≡ true → Contains (bits_in ws) b → IsInputBit flat b
clock_driven flat ws b h i = (is_input_bit-Decides flat b).0 (wire_driven flat role.Clock ws b h i)

reg_flop : (flat : Flat) (clock : Option ℕ) (l : LabelLine) (b : ℕ) → AreTaken flat clock (needs_of flat l) → Contains (reg_bits flat l) b → IsFlopBit flat b
reg_flop flat clock (line.Reg net value) b t i = (is_flop_bit-Decides flat b).0 (wire_driven flat role.Flop (wires_of flat net) b (t.0.driven refl) i)
reg_flop flat clock l b t i = absurd (Contains-none b i)

regs_flops : (flat : Flat) (clock : Option ℕ) (ls : List LabelLine) (b : ℕ) → LinesTaken flat clock ls → Contains (flat_map (reg_bits flat) ls) b → IsFlopBit flat b
regs_flops flat clock ls b t i =
    let j = joined_of_flat_map (reg_bits flat) ls b i in
    reg_flop flat clock j.source b (line_taken flat clock ls j.source t j.listed) j.member

alone : (ws : List Wire) (b : ℕ) → Contains (bits_in ws ++ []) b → Contains (bits_in ws) b
alone ws b i = subst (λ xs. Contains xs b) (append-nil (bits_in ws)) i

-- a bit that a line binds is an input port bit, or the line gives it to a flop
line_bit : (flat : Flat) (clock : Option ℕ) (l : LabelLine) (b : ℕ) → AreTaken flat clock (needs_of flat l) → Contains (line_bits flat l) b
    → IsInputBit flat b ⊎ Contains (reg_bits flat l) b
line_bit flat clock (line.Fresh net name) b t i = inl (input_driven flat (wires_of flat net) b (t.0.driven refl) (alone (wires_of flat net) b i))
line_bit flat clock (line.Reg net value) b t i = inr (alone (wires_of flat net) b i)
line_bit flat clock (line.Input net values) b t i = inl (input_driven flat (wires_of flat net) b (t.0.driven refl) (alone (wires_of flat net) b i))
line_bit flat clock (line.Leaf address) b t i =
    inl (input_driven flat (wires_of flat (leaf_name address)) b (t.0.driven refl) (alone (wires_of flat (leaf_name address)) b i))
line_bit flat clock (line.Echo net source) b t i = inl (input_driven flat (wires_of flat net) b (t.0.driven refl) (alone (wires_of flat net) b i))
line_bit flat clock (line.Clock net) b t i = inl (clock_driven flat (wires_of flat net) b (t.0.driven refl) (alone (wires_of flat net) b i))
line_bit flat clock (line.Imem request address answer) b t i =
    inl (input_driven flat (wires_of flat answer) b (t.1.1.0.driven refl) (alone (wires_of flat answer) b i))
line_bit flat clock (line.Dmem request write enables address value answer) b t i =
    inl (input_driven flat (wires_of flat answer) b (t.1.1.1.1.1.0.driven refl) (alone (wires_of flat answer) b i))
line_bit flat clock l b t i = absurd (Contains-none b i)

-- ---- every input port bit, once, and nothing else

found_or_not : (bits : List ℕ) (b : ℕ) → (has_bit bits b ≡ false → ⊥) → Contains bits b
found_or_not bits b h = go (has_bit bits b) refl
  where
    go : (t : Bool) → has_bit bits b ≡ t → Contains bits b
    go true e = (has_bit-Decides bits b).0 e
    go false e = absurd (h e)

pub is_bound : (flat : Flat) (clock : Option ℕ) (image : Image) (labels : Labels) → Binds flat clock labels → IsBound flat (setup_of flat image labels)
is_bound flat clock image labels binds = record {
  each = λ b i.
      let t = bits_times flat clock image labels binds b in
      let m = member_times b (flat_map (line_bits flat) labels.lines)
      (found_or_not (flat_map (line_bits flat) labels.lines) b
      (λ f. binds.all b (record { input = (is_input_bit-Decides flat b).1 i; free = f }))) in
      let z = none_times b (flat_map (reg_bits flat) labels.lines) (λ r. not_both flat binds.one_driver b i (regs_flops flat clock labels.lines b binds.taken r)) in
      times_member b (bound_bits (setup_of flat image labels)) (omega (arith, t, m, z));
  only = λ b i. bit_is b i (λ l k. line_taken flat clock labels.lines l binds.taken k);
  once = times_once (bound_bits (setup_of flat image labels)) (λ b.
      let t = bits_times flat clock image labels binds b in
      let o = once_times (flat_map (line_bits flat) labels.lines) binds.bits.once b in
      omega (arith, t, o));
}
  where
    bit_is : (b : ℕ) → Contains (bound_bits (setup_of flat image labels)) b
        → ((l : LabelLine) → Contains labels.lines l → AreTaken flat clock (needs_of flat l)) → IsInputBit flat b
    bit_is b i each =
        let t = bits_times flat clock image labels binds b in
        let m = member_times b (bound_bits (setup_of flat image labels)) i in
        let o = once_times (flat_map (line_bits flat) labels.lines) binds.bits.once b in
        let j = joined_of_flat_map (line_bits flat) labels.lines b (times_member b (flat_map (line_bits flat) labels.lines) (omega (arith, t, m))) in
        of j.source j.listed (omega (arith, t, m, o)) (line_bit flat clock j.source b (each j.source j.listed) j.member)
      where
        of : (l : LabelLine) → Contains labels.lines l → times b (flat_map (reg_bits flat) labels.lines) ≡ 0
            → IsInputBit flat b ⊎ Contains (reg_bits flat l) b → IsInputBit flat b
        of l k z (inl input) = input
        of l k z (inr r) =
            let p = member_times b (flat_map (reg_bits flat) labels.lines) (Contains-flat_map (reg_bits flat) labels.lines l b k r) in
            absurd (omega (arith, p, z))
