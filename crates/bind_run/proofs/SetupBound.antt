-- The setup of lines without a fault, which bind all input port bits, is bound to the netlist.
use Rattle.std.proofs.Common.{◌≡◌, ℕ, ◌+◌, ◌*◌, ◌<◌, ◌≤◌, ◌^◌, cond, List, [], ◌∷◌, length, sym, ◌∙◌, subst, arith}
use Rattle.std.specs.Prelude.{Contains, Option, Some, flat_map, slice_get}
use Rattle.std.specs.List.{count_by}
use Rattle.std.proofs.lemmas.List.{length-append}
use Rattle.std.proofs.lemmas.List.Sums.{sum_by-cons}
use Rattle.std.proofs.lemmas.Option.{slice_get_within}
use Rattle.coco_base.specs.declared.netlist.Flat.{Flat}
use Rattle.coco_base.specs.declared.netlist.Wire.{Wire}
use Rattle.coco_base.specs.declared.setup.Setup.{Setup}
use Rattle.coco_base.specs.declared.setup.MemPlan.{MemPlan}
use Rattle.coco_base.specs.declared.setup.When.TheVariants.{Always, Requested, Written}
use Rattle.coco_model.specs.Controls.{HasControls, HasControlsOf}
use Rattle.coco_model.specs.Netlist.{HasOneDriver, IsInRange, IsWireBelow}
use Rattle.coco_model.specs.Setups.{IsBoundTo, IsWhenBelow}
use Rattle.coco_model.proofs.Basics.{Contains-none}
use Rattle.gate_graph.specs.Clocks.{IsGraphClock}
use Rattle.model_laws.proofs.Lists.{joined_of_flat_map}
use Rattle.label_file.specs.declared.line.LabelLine.{LabelLine}
use Rattle.label_file.specs.declared.line.LabelLine.TheVariants as line
use Rattle.label_file.specs.declared.line.Labels.{Labels}
use Rattle.label_file.specs.Conditions.{AreLabels}
use Rattle.label_file.specs.Statements.{is_pc}
use Rattle.rv_asm.specs.declared.image.Image.{Image}
use Rattle.bind_run.specs.Controls.{controls_of, lines_controls, resets_of}
use Rattle.bind_run.specs.Memories.{line_memories}
use Rattle.bind_run.specs.Needs.{needs_of}
use Rattle.bind_run.specs.Nets.{wires_of}
use Rattle.bind_run.specs.Outcomes.{IsSetupOf}
use Rattle.bind_run.specs.SetupParts.{line_pc, setup_of, table_of}
use Rattle.bind_run.proofs.BitsBound.{Binds, binds_of, is_bound}
use Rattle.bind_run.proofs.BoundLemmas.{few_fresh}
use Rattle.bind_run.proofs.BoundStarts.{answer_start, echo_start, first_value, leaf_is, leaves_apart, lines_are, starts_label, starts_long, words_label}
use Rattle.bind_run.proofs.ClockBound.{clock_is}
use Rattle.bind_run.proofs.ControlsBound.{among_left, among_right, controls_good, pc_among, ports_controls, ports_length, resets_among}
use Rattle.bind_run.proofs.MemoriesBound.{one_writer, ports_are, some_wires, sources_below, wires_below}
use Rattle.bind_run.proofs.StartsBound.{inputs_labelled}
use Rattle.bind_run.proofs.TableBound.{table_is}
use Rattle.bind_run.proofs.TakenLemmas.{AreTaken, LinesTaken}
use Rattle.bind_run.proofs.WordsBound.{memory_word, word_is, words_apart}

-- ---- the program counter

line_pc_few : (flat : Flat) (clock : Option ℕ) (l : LabelLine) → AreTaken flat clock (needs_of flat l) → length (line_pc flat l) ≤ 32 * cond {A = ℕ} (is_pc l) 1 0
line_pc_few flat clock (line.Pc net) t = let w = (some_wires (length (wires_of flat net)) t.0.wide).1 in omega (arith, w)
line_pc_few flat clock l t = omega arith

pc_few : (flat : Flat) (clock : Option ℕ) (ls : List LabelLine) → LinesTaken flat clock ls → length (flat_map (line_pc flat) ls) ≤ 32 * count_by is_pc ls
pc_few flat clock [] t = omega arith
pc_few flat clock (l ∷ ls) t =
    let h = pc_few flat clock ls t.1 in
    let o = line_pc_few flat clock l t.0 in
    let e = length-append (line_pc flat l) (flat_map (line_pc flat) ls) in
    let s = sum_by-cons (λ x. cond {A = ℕ} (is_pc x) 1 0) l ls in
    omega (arith, h, o, e, s)

line_pc_below : (flat : Flat) → IsInRange flat → (l : LabelLine) (w : Wire) → Contains (line_pc flat l) w → IsWireBelow flat.bits w
line_pc_below flat range (line.Pc net) w h = wires_below flat range net w h
line_pc_below flat range l w h = absurd (Contains-none w h)

pc_below : (flat : Flat) → IsInRange flat → (ls : List LabelLine) (w : Wire) → Contains (flat_map (line_pc flat) ls) w → IsWireBelow flat.bits w
pc_below flat range ls w h = let j = joined_of_flat_map (line_pc flat) ls w h in line_pc_below flat range j.source w j.member

-- ---- the controls

port_has : (flat : Flat) (clock : Option ℕ) (image : Image) (labels : Labels) → Binds flat clock labels → (i : ℕ) (mem : MemPlan)
    → slice_get (flat_map (line_memories flat) labels.lines) i ≡ Some mem → HasControlsOf (setup_of flat image labels) i mem
port_has flat clock image labels binds i mem e =
    let z : 0 + i ≡ i = omega arith in
    let cs = lines_controls flat 0 labels.lines in
    let rs = resets_of flat flat.flops in
    let p = ports_controls flat clock 0 labels.lines binds.taken i mem e in
    subst (λ n. HasControlsOf (setup_of flat image labels) n mem) z (record {
      request = among_left cs rs mem.request Always p.request;
      address = λ w h. among_left cs rs w (Requested (0 + i)) (p.address w h);
      write = λ w h. among_left cs rs w (Requested (0 + i)) (p.write w h);
      enables = λ w h. among_left cs rs w (Written (0 + i)) (p.enables w h);
    })

has_controls : (flat : Flat) (clock : Option ℕ) (image : Image) (labels : Labels) → Binds flat clock labels → HasControls flat (setup_of flat image labels)
has_controls flat clock image labels binds = record {
  each = port_has flat clock image labels binds;
  pc = λ w h. among_left (lines_controls flat 0 labels.lines) (resets_of flat flat.flops) w Always (pc_among flat 0 labels.lines w h);
  resets = λ f i w e.
      among_right (lines_controls flat 0 labels.lines) (resets_of flat flat.flops) w Always (resets_among flat flat.flops f i w e);
}

-- ---- all of it

pub is_bound_to : (flat : Flat) (clock : Option ℕ) (image : Image) (labels : Labels) → Binds flat clock labels → (table_of flat labels).per_cycle ≤ flat.bits
    → length (controls_of flat labels.lines) < 2 ^ 32 → IsBoundTo flat (setup_of flat image labels)
is_bound_to flat clock image labels binds fresh few = record {
  table = table_is flat labels binds.are.table;
  fresh_labels = fresh;
  starts = starts_long flat image labels;
  labels = starts_label flat image labels binds.are.lines;
  input_labels = inputs_labelled flat (table_of flat labels) 0 labels.lines (lines_are flat labels binds.are.lines) (omega arith);
  word_labels = words_label flat image labels binds.are.lines;
  first_values = λ p i. let f = first_value flat clock image labels binds p i in f.first ∙ sym f.bit;
  some_values = λ p i. let f = first_value flat clock image labels binds p i in slice_get_within p.values 0 f.start f.first;
  echoes = echo_start flat clock image labels binds;
  answers = answer_start flat clock image labels binds;
  sources = sources_below flat binds.range labels.lines;
  memories = ports_are flat clock binds.range labels.lines binds.taken;
  one_writer = one_writer flat labels.lines binds.are.once.dmem;
  words = λ w i. memory_word labels.lines w (word_is image labels.lines w i);
  apart = words_apart image labels.lines;
  leaves = leaf_is flat clock image labels binds;
  leaves_apart = leaves_apart flat labels.lines binds.are.once.leaves;
  pc = let p = pc_few flat clock labels.lines binds.taken in let o = binds.are.once.pc in omega (arith, p, o);
  pc_below = pc_below flat binds.range labels.lines;
  controls = has_controls flat clock image labels binds;
  controls_below = λ c i. (controls_good flat binds.range labels.lines c i).wire;
  few_controls = few;
  controls_when = λ c i.
      subst (λ n. IsWhenBelow n c.when) (sym (ports_length flat labels.lines)) (controls_good flat binds.range labels.lines c i).times;
  clock = clock_is flat clock binds.graph_clock labels.lines binds.taken;
  bound = is_bound flat clock image labels binds;
}

-- the setup that is bound
pub setup_bound : (flat : Flat) (clock : Option ℕ) (image : Image) (labels : Labels) (setup : Setup) → IsInRange flat → HasOneDriver flat → IsGraphClock flat clock
    → AreLabels labels → IsSetupOf flat clock image labels setup → length setup.controls < 2 ^ 32 → IsBoundTo flat setup
setup_bound flat clock image labels setup range one graph are is few =
    subst (IsBoundTo flat) (sym is.is)
    (is_bound_to flat clock image labels (binds_of flat clock labels range one graph are is.bound)
    (few_fresh flat range clock labels.lines is.bound.bound is.bound.by_lines)
    (subst (λ (s : Setup). length s.controls < 2 ^ 32) is.is few))
