-- How often the parts of a setup have a bit: together as often as the lines bind it.
use Rattle.std.proofs.Common.{◌≡◌, ℕ, ◌+◌, false, List, [], ◌∷◌, ◌++◌, map, refl, ◌∙◌, ap, arith, get_or}
use Rattle.std.specs.Prelude.{flat_map}
use Rattle.std.proofs.lemmas.Grind.{flat_map-append}
use Rattle.std.proofs.lemmas.List.{append-nil, map-append}
use Rattle.coco_base.specs.declared.netlist.Flat.{Flat}
use Rattle.coco_base.specs.declared.setup.EchoPlan.{EchoPlan}
use Rattle.coco_base.specs.declared.setup.InputPlan.{InputPlan}
use Rattle.coco_base.specs.declared.setup.LeafPlan.{LeafPlan}
use Rattle.coco_base.specs.declared.setup.MemPlan.{MemPlan}
use Rattle.coco_base.specs.declared.setup.Start.TheVariants.{Public, Fresh}
use Rattle.coco_base.specs.declared.setup.WordPlan.{WordPlan}
use Rattle.coco_model.specs.Carried.{word_start}
use Rattle.coco_model.specs.Netlist.{bits_in}
use Rattle.label_file.specs.declared.line.LabelLine.{LabelLine}
use Rattle.label_file.specs.declared.line.LabelLine.TheVariants as line
use Rattle.bind_run.specs.Inputs.{Given, fresh_width, given, given_starts, input_plan, inputs_of, line_inputs, line_starts, starts_at}
use Rattle.bind_run.specs.Memories.{echo_plan, line_echoes, line_leaves, line_memories, wire_of}
use Rattle.bind_run.specs.Needs.{leaf_name}
use Rattle.bind_run.specs.Nets.{wires_of}
use Rattle.bind_run.specs.SetupParts.{line_clock}
use Rattle.bind_run.specs.Values.{value_start}
use Rattle.bind_run.proofs.AtBits.{bits_at}
use Rattle.bind_run.proofs.TakenLemmas.{line_bits}
use Rattle.bind_run.proofs.Times.{times, times-append}

abbrev pub input_bits : List InputPlan → List ℕ
input_bits ps = map (λ (p : InputPlan). p.bit) ps

abbrev pub echo_bits : List EchoPlan → List ℕ
echo_bits es = map (λ (e : EchoPlan). e.bit) es

abbrev pub answer_bits : List MemPlan → List ℕ
answer_bits ms = flat_map (λ (mem : MemPlan). mem.answer) ms

abbrev pub leaf_bits : List LeafPlan → List ℕ
leaf_bits ls = flat_map (λ (leaf : LeafPlan). leaf.bits) ls

abbrev pub given_bits : List Given → List ℕ
given_bits gs = map (λ (g : Given). g.bit) gs

-- the flop outputs that a line gives starts
abbrev pub reg_bits : Flat → LabelLine → List ℕ
reg_bits flat (line.Reg net value) = bits_in (wires_of flat net)
reg_bits flat l = []

times-nil : (b : ℕ) (xs : List ℕ) → times b (xs ++ []) ≡ times b xs
times-nil b xs = ap (times b) (append-nil xs)

line_times : (flat : Flat) (first : ℕ) (l : LabelLine) (b : ℕ)
    → times b (line_bits flat l)
    ≡ times b (line_clock flat l) + times b (input_bits (line_inputs flat first l)) + times b (echo_bits (line_echoes flat l))
    + times b (answer_bits (line_memories flat l)) + times b (leaf_bits (line_leaves flat l)) + times b (reg_bits flat l)
line_times flat first (line.Clock net) b = let n = times-nil b (bits_in (wires_of flat net)) in omega arith
line_times flat first (line.Fresh net name) b =
    let n = times-nil b (bits_in (wires_of flat net)) in
    let i = ap (times b) (bits_at (λ (p : InputPlan). p.bit) (λ k b. input_plan b (Fresh (first + k) ∷ [])) (λ k b. refl) 0 (wires_of flat net)) in
    omega arith
line_times flat first (line.Input net values) b =
    let n = times-nil b (bits_in (wires_of flat net)) in
    let i = ap (times b) (bits_at (λ (p : InputPlan). p.bit) (λ k b. input_plan b (starts_at values k)) (λ k b. refl) 0 (wires_of flat net)) in
    omega arith
line_times flat first (line.Echo net source) b =
    let n = times-nil b (bits_in (wires_of flat net)) in
    let i = ap (times b) (bits_at (λ (e : EchoPlan). e.bit) (λ k b. echo_plan b (wire_of (wires_of flat source) k)) (λ k b. refl) 0 (wires_of flat net)) in
    omega arith
line_times flat first (line.Reg net value) b = let n = times-nil b (bits_in (wires_of flat net)) in omega arith
line_times flat first (line.Leaf address) b = omega arith
line_times flat first (line.Imem request address answer) b = omega arith
line_times flat first (line.Dmem request write enables address value answer) b = omega arith
line_times flat first l b = omega arith

-- the clock, inputs, echoes, memory answers, word leaves and flops with starts
pub lines_times : (flat : Flat) (first : ℕ) (ls : List LabelLine) (b : ℕ)
    → times b (flat_map (line_bits flat) ls)
    ≡ times b (flat_map (line_clock flat) ls) + times b (input_bits (inputs_of flat first ls)) + times b (echo_bits (flat_map (line_echoes flat) ls))
    + times b (answer_bits (flat_map (line_memories flat) ls)) + times b (leaf_bits (flat_map (line_leaves flat) ls)) + times b (flat_map (reg_bits flat) ls)
lines_times flat first [] b = omega arith
lines_times flat first (l ∷ ls) b =
    let h = lines_times flat (first + fresh_width flat l) ls b in
    let one = line_times flat first l b in
    let t = times-append b (line_bits flat l) (flat_map (line_bits flat) ls) in
    let c = times-append b (line_clock flat l) (flat_map (line_clock flat) ls) in
    let i =
    ap (times b) (map-append (λ (p : InputPlan). p.bit) (line_inputs flat first l) (inputs_of flat (first + fresh_width flat l) ls))
    ∙ times-append b (input_bits (line_inputs flat first l)) (input_bits (inputs_of flat (first + fresh_width flat l) ls)) in
    let e =
    ap (times b) (map-append (λ (e : EchoPlan). e.bit) (line_echoes flat l) (flat_map (line_echoes flat) ls))
    ∙ times-append b (echo_bits (line_echoes flat l)) (echo_bits (flat_map (line_echoes flat) ls)) in
    let m =
    ap (times b) (flat_map-append (λ (mem : MemPlan). mem.answer) (line_memories flat l) (flat_map (line_memories flat) ls))
    ∙ times-append b (answer_bits (line_memories flat l)) (answer_bits (flat_map (line_memories flat) ls)) in
    let f =
    ap (times b) (flat_map-append (λ (leaf : LeafPlan). leaf.bits) (line_leaves flat l) (flat_map (line_leaves flat) ls))
    ∙ times-append b (leaf_bits (line_leaves flat l)) (leaf_bits (flat_map (line_leaves flat) ls)) in
    let r = times-append b (reg_bits flat l) (flat_map (reg_bits flat) ls) in
    omega (arith, h, one, t, c, i, e, m, f, r)

line_starts_times : (flat : Flat) (words : List WordPlan) (first : ℕ) (l : LabelLine) (b : ℕ)
    → times b (given_bits (line_starts flat words first l))
    ≡ times b (input_bits (line_inputs flat first l)) + times b (leaf_bits (line_leaves flat l)) + times b (reg_bits flat l)
line_starts_times flat words first (line.Fresh net name) b =
    let i = ap (times b) (bits_at (λ (p : InputPlan). p.bit) (λ k b. input_plan b (Fresh (first + k) ∷ [])) (λ k b. refl) 0 (wires_of flat net)) in
    let g = ap (times b) (bits_at (λ (g : Given). g.bit) (λ k b. given b (Fresh (first + k))) (λ k b. refl) 0 (wires_of flat net)) in
    omega arith
line_starts_times flat words first (line.Input net values) b =
    let i = ap (times b) (bits_at (λ (p : InputPlan). p.bit) (λ k b. input_plan b (starts_at values k)) (λ k b. refl) 0 (wires_of flat net)) in
    let g = ap (times b) (bits_at (λ (g : Given). g.bit) (λ k b. given b (get_or (starts_at values k) 0 (Public false))) (λ k b. refl) 0 (wires_of flat net)) in
    omega arith
line_starts_times flat words first (line.Reg net value) b =
    let g = ap (times b) (bits_at (λ (g : Given). g.bit) (λ k b. given b (value_start value k)) (λ k b. refl) 0 (wires_of flat net)) in
    omega arith
line_starts_times flat words first (line.Leaf address) b =
    let n = times-nil b (bits_in (wires_of flat (leaf_name address))) in
    let g = ap (times b) (bits_at (λ (g : Given). g.bit) (λ k b. given b (word_start words address k)) (λ k b. refl) 0 (wires_of flat (leaf_name address))) in
    omega arith
line_starts_times flat words first l b = omega arith

-- starts are given to inputs, word leaves and flops
pub starts_times : (flat : Flat) (words : List WordPlan) (first : ℕ) (ls : List LabelLine) (b : ℕ)
    → times b (given_bits (given_starts flat words first ls))
    ≡ times b (input_bits (inputs_of flat first ls)) + times b (leaf_bits (flat_map (line_leaves flat) ls)) + times b (flat_map (reg_bits flat) ls)
starts_times flat words first [] b = omega arith
starts_times flat words first (l ∷ ls) b =
    let h = starts_times flat words (first + fresh_width flat l) ls b in
    let one = line_starts_times flat words first l b in
    let g =
    ap (times b) (map-append (λ (g : Given). g.bit) (line_starts flat words first l) (given_starts flat words (first + fresh_width flat l) ls))
    ∙ times-append b (given_bits (line_starts flat words first l)) (given_bits (given_starts flat words (first + fresh_width flat l) ls)) in
    let i =
    ap (times b) (map-append (λ (p : InputPlan). p.bit) (line_inputs flat first l) (inputs_of flat (first + fresh_width flat l) ls))
    ∙ times-append b (input_bits (line_inputs flat first l)) (input_bits (inputs_of flat (first + fresh_width flat l) ls)) in
    let f =
    ap (times b) (flat_map-append (λ (leaf : LeafPlan). leaf.bits) (line_leaves flat l) (flat_map (line_leaves flat) ls))
    ∙ times-append b (leaf_bits (line_leaves flat l)) (leaf_bits (flat_map (line_leaves flat) ls)) in
    let r = times-append b (reg_bits flat l) (flat_map (reg_bits flat) ls) in
    omega (arith, h, one, g, i, f, r)
