-- The starts of a bound setup, bit by bit: what is given to a bit, and public 0 where it is an echo or a memory answer.
use Rattle.std.proofs.Common.{◌≡◌, ℕ, ◌+◌, ◌<◌, ◌≤◌, ◌⊎◌, inl, inr, false, List, [], ◌∷◌, ◌++◌, map, length, get_or, replicate, refl, sym, ◌∙◌, ap, subst, arith}
use Rattle.std.specs.Prelude.{All, Contains, Option, Some, flat_map, slice_get}
use Rattle.std.proofs.lemmas.Bool.{eqb-true}
use Rattle.std.proofs.lemmas.List.{get_or-replicate, length-replicate}
use Rattle.std.proofs.lemmas.List.Elements.{All-contains, All-replicate, Contains-append_left, Contains-append_right}
use Rattle.std.proofs.lemmas.Option.{slice_get-get_or}
use Rattle.coco_base.specs.declared.netlist.Flat.{Flat}
use Rattle.coco_base.specs.declared.setup.EchoPlan.{EchoPlan}
use Rattle.coco_base.specs.declared.setup.InputPlan.{InputPlan}
use Rattle.coco_base.specs.declared.setup.LeafPlan.{LeafPlan}
use Rattle.coco_base.specs.declared.setup.MemPlan.{MemPlan}
use Rattle.coco_base.specs.declared.setup.Start.{Start}
use Rattle.coco_base.specs.declared.setup.Start.TheVariants.{Public}
use Rattle.coco_base.specs.declared.setup.WordPlan.{WordPlan}
use Rattle.coco_model.specs.Carried.{IsLabelled, word_start}
use Rattle.coco_model.specs.Netlist.{HasNoRepeat}
use Rattle.coco_model.specs.Setups.{IsWordLeaf}
use Rattle.coco_model.proofs.Basics.{Contains-cases, Contains-none, only_member}
use Rattle.model_laws.proofs.Lists.{Contains-flat_map, Contains-map, joined_of_flat_map}
use Rattle.label_file.specs.declared.line.LabelLine.{LabelLine}
use Rattle.label_file.specs.declared.line.LabelLine.TheVariants as line
use Rattle.label_file.specs.declared.line.Labels.{Labels}
use Rattle.label_file.specs.Conditions.{IsLine, named_leaves}
use Rattle.rv_asm.specs.declared.image.Image.{Image}
use Rattle.bind_run.specs.declared.need.Role.TheVariants as role
use Rattle.bind_run.specs.Inputs.{Given, fresh_width, given, given_starts, inputs_of, line_starts, starts_of}
use Rattle.bind_run.specs.Memories.{line_echoes, line_leaves, line_memories}
use Rattle.bind_run.specs.Needs.{leaf_name}
use Rattle.bind_run.specs.Nets.{wires_of}
use Rattle.bind_run.specs.SetupParts.{setup_of, table_of}
use Rattle.bind_run.specs.WordPlans.{words_of}
use Rattle.bind_run.proofs.AtBits.{at_member, bits_in-length, bits_in-place}
use Rattle.bind_run.proofs.BitsBound.{Binds}
use Rattle.bind_run.proofs.GivenStarts.{start_given, start_kept, starts_all, starts_length}
use Rattle.bind_run.proofs.LineTimes.{answer_bits, echo_bits, given_bits, lines_times, starts_times}
use Rattle.bind_run.proofs.StartsBound.{given_labelled, inputs_first, words_labelled}
use Rattle.bind_run.proofs.TakenLemmas.{line_bits, line_taken}
use Rattle.bind_run.proofs.Times.{member_times, once_times, times, times_member, times_none, times_once}
use Rattle.bind_run.proofs.WordsBound.{word_is}

abbrev all_given : Flat → Image → Labels → List Given
all_given flat image labels = given_starts flat (words_of image labels.lines) 0 labels.lines

abbrev pub starts : Flat → Image → Labels → List Start
starts flat image labels = starts_of flat (words_of image labels.lines) labels.lines

pub lines_are : (flat : Flat) (labels : Labels) → All (IsLine labels.table.declared) labels.lines → (l : LabelLine) → Contains labels.lines l
    → IsLine (table_of flat labels).declared l
lines_are flat labels all l i = All-contains (IsLine labels.table.declared) labels.lines l all i

pub words_label : (flat : Flat) (image : Image) (labels : Labels) → All (IsLine labels.table.declared) labels.lines → (w : WordPlan)
    → Contains (words_of image labels.lines) w → (s : Start) → Contains w.bits s → IsLabelled (table_of flat labels) s
words_label flat image labels all w i =
    words_labelled (table_of flat labels) labels.lines w (lines_are flat labels all) (word_is image labels.lines w i)

-- a start for each bit, each of which names a label
pub starts_long : (flat : Flat) (image : Image) (labels : Labels) → length (starts flat image labels) ≡ flat.bits
starts_long flat image labels =
    starts_length (replicate flat.bits (Public false)) (all_given flat image labels) ∙ length-replicate flat.bits (Public false)

pub starts_label : (flat : Flat) (image : Image) (labels : Labels) → All (IsLine labels.table.declared) labels.lines → (s : Start)
    → Contains (starts flat image labels) s → IsLabelled (table_of flat labels) s
starts_label flat image labels all s i =
    All-contains (IsLabelled (table_of flat labels)) (starts flat image labels) s
    (starts_all (IsLabelled (table_of flat labels)) (replicate flat.bits (Public false)) (all_given flat image labels)
    (All-replicate (IsLabelled (table_of flat labels)) flat.bits (Public false) tt)
    (given_labelled flat (table_of flat labels) (words_of image labels.lines) 0 labels.lines (words_label flat image labels all) (lines_are flat labels all) (omega arith))) i

-- ---- bit by bit

start_at : (flat : Flat) (image : Image) (labels : Labels) (b : ℕ) → b < flat.bits
    → slice_get (starts flat image labels) b ≡ Some (get_or (starts flat image labels) b (Public false))
start_at flat image labels b below =
    slice_get-get_or (starts flat image labels) b (Public false) (let l = starts_long flat image labels in omega (arith, l, below))

bound_below : (flat : Flat) (clock : Option ℕ) (labels : Labels) → Binds flat clock labels → (b : ℕ) → 0 < times b (flat_map (line_bits flat) labels.lines) → b < flat.bits
bound_below flat clock labels binds b m = binds.bits.below b (times_member b (flat_map (line_bits flat) labels.lines) m)

bound_once : (flat : Flat) (clock : Option ℕ) (labels : Labels) → Binds flat clock labels → (b : ℕ) → times b (flat_map (line_bits flat) labels.lines) ≤ 1
bound_once flat clock labels binds b = once_times (flat_map (line_bits flat) labels.lines) binds.bits.once b

given_once : (flat : Flat) (clock : Option ℕ) (image : Image) (labels : Labels) → Binds flat clock labels → HasNoRepeat (given_bits (all_given flat image labels))
given_once flat clock image labels binds = times_once (given_bits (all_given flat image labels)) (λ b.
    let t = lines_times flat 0 labels.lines b in
    let g = starts_times flat (words_of image labels.lines) 0 labels.lines b in
    let o = bound_once flat clock labels binds b in
    omega (arith, t, g, o))

-- a bit starts as is given to it
given_start : (flat : Flat) (clock : Option ℕ) (image : Image) (labels : Labels) → Binds flat clock labels → (g : Given) → Contains (all_given flat image labels) g
    → slice_get (starts flat image labels) g.bit ≡ Some g.start
given_start flat clock image labels binds g i =
    let t = lines_times flat 0 labels.lines g.bit in
    let s = starts_times flat (words_of image labels.lines) 0 labels.lines g.bit in
    let m = member_times g.bit (given_bits (all_given flat image labels)) (Contains-map (λ (x : Given). x.bit) (all_given flat image labels) g i) in
    let below : g.bit < flat.bits = bound_below flat clock labels binds g.bit (omega (arith, t, s, m)) in
    start_at flat image labels g.bit below
    ∙ ap Some (start_given (replicate flat.bits (Public false)) (all_given flat image labels) (given_once flat clock image labels binds) g i
    (let l = length-replicate flat.bits (Public false) in omega (arith, l, below)) (Public false))

-- a bit to which nothing is given starts at public 0
other_start : (flat : Flat) (image : Image) (labels : Labels) (b : ℕ) → b < flat.bits → times b (given_bits (all_given flat image labels)) ≡ 0
    → slice_get (starts flat image labels) b ≡ Some (Public false)
other_start flat image labels b below none =
    start_at flat image labels b below
    ∙ ap Some (start_kept (replicate flat.bits (Public false)) (all_given flat image labels) b (Public false)
    (times_none b (given_bits (all_given flat image labels)) none)
    ∙ get_or-replicate flat.bits b (Public false) (Public false) below)

pub echo_start : (flat : Flat) (clock : Option ℕ) (image : Image) (labels : Labels) → Binds flat clock labels → (e : EchoPlan)
    → Contains (flat_map (line_echoes flat) labels.lines) e → slice_get (starts flat image labels) e.bit ≡ Some (Public false)
echo_start flat clock image labels binds e i =
    let t = lines_times flat 0 labels.lines e.bit in
    let s = starts_times flat (words_of image labels.lines) 0 labels.lines e.bit in
    let o = bound_once flat clock labels binds e.bit in
    let m = member_times e.bit (echo_bits (flat_map (line_echoes flat) labels.lines)) (Contains-map (λ (x : EchoPlan). x.bit) (flat_map (line_echoes flat) labels.lines) e i) in
    other_start flat image labels e.bit (bound_below flat clock labels binds e.bit (omega (arith, t, m))) (omega (arith, t, s, o, m))

pub answer_start : (flat : Flat) (clock : Option ℕ) (image : Image) (labels : Labels) → Binds flat clock labels → (mem : MemPlan)
    → Contains (flat_map (line_memories flat) labels.lines) mem → (b : ℕ) → Contains mem.answer b
    → slice_get (starts flat image labels) b ≡ Some (Public false)
answer_start flat clock image labels binds mem i b j =
    let t = lines_times flat 0 labels.lines b in
    let s = starts_times flat (words_of image labels.lines) 0 labels.lines b in
    let o = bound_once flat clock labels binds b in
    let m = member_times b (answer_bits (flat_map (line_memories flat) labels.lines))
    (Contains-flat_map (λ (x : MemPlan). x.answer) (flat_map (line_memories flat) labels.lines) mem b i j) in
    other_start flat image labels b (bound_below flat clock labels binds b (omega (arith, t, m))) (omega (arith, t, s, o, m))

-- ---- inputs and word leaves

pub record HasFirstValue (starts : List Start) (p : InputPlan) : Type 0 where
  pub start : Start
  pub first : slice_get p.values 0 ≡ Some start
  pub bit : slice_get starts p.bit ≡ Some start

pub first_value : (flat : Flat) (clock : Option ℕ) (image : Image) (labels : Labels) → Binds flat clock labels → (p : InputPlan)
    → Contains (inputs_of flat 0 labels.lines) p → HasFirstValue (starts flat image labels) p
first_value flat clock image labels binds p i =
    let f = inputs_first flat (words_of image labels.lines) (table_of flat labels) 0 labels.lines (lines_are flat labels binds.are.lines) p i in
    record { start = f.start; first = f.is; bit = given_start flat clock image labels binds (given p.bit f.start) f.listed }

leaf_given : (flat : Flat) (words : List WordPlan) (first : ℕ) (ls : List LabelLine) (address : ℕ) → Contains ls (line.Leaf address) → (g : Given)
    → Contains (line_starts flat words 0 (line.Leaf address)) g → Contains (given_starts flat words first ls) g
leaf_given flat words first [] address h g i = absurd (Contains-none (line.Leaf address) h)
leaf_given flat words first (l ∷ ls) address h g i =
    go (Contains-cases l (line.Leaf address) ls h) (λ j. leaf_given flat words (first + fresh_width flat l) ls address j g i)
  where
    more : List Given
    more = given_starts flat words (first + fresh_width flat l) ls

    go : (l ≡ line.Leaf address) ⊎ Contains ls (line.Leaf address) → (Contains ls (line.Leaf address) → Contains more g)
        → Contains (line_starts flat words first l ++ more) g
    go (inl e) rest = Contains-append_left (line_starts flat words first l) more g (subst (λ k. Contains (line_starts flat words first k) g) (sym e) i)
    go (inr j) rest = Contains-append_right (line_starts flat words first l) more g (rest j)

leaf_start : (flat : Flat) (clock : Option ℕ) (image : Image) (labels : Labels) → Binds flat clock labels → (address : ℕ) → Contains labels.lines (line.Leaf address)
    → (leaf : LeafPlan) → Contains (line_leaves flat (line.Leaf address)) leaf → IsWordLeaf (setup_of flat image labels) leaf
leaf_start flat clock image labels binds address i leaf h =
    let t = (line_taken flat clock labels.lines (line.Leaf address) binds.taken i).0 in
    let ws = wires_of flat (leaf_name address) in
    let words = words_of image labels.lines in
    let at = lines_are flat labels binds.are.lines (line.Leaf address) i in
    only_member (IsWordLeaf (setup_of flat image labels)) _ (record {
      bits = bits_in-length flat role.Input ws (t.driven refl) ∙ eqb-true (length ws) 32 t.wide;
      address = record { word = at.word; aligned = at.aligned; inside = at.inside };
      starts = λ k b e.
          given_start flat clock image labels binds (given b (word_start words address (0 + k)))
          (leaf_given flat words 0 labels.lines address i (given b (word_start words address (0 + k)))
          (at_member (λ k b. given b (word_start words address k)) 0 ws k b (bits_in-place flat role.Input ws (t.driven refl) k b e)))
          ∙ ap (λ n. Some (word_start words address n)) (let z : 0 + k ≡ k = omega arith in z);
    }) leaf h

pub leaf_is : (flat : Flat) (clock : Option ℕ) (image : Image) (labels : Labels) → Binds flat clock labels → (leaf : LeafPlan)
    → Contains (flat_map (line_leaves flat) labels.lines) leaf → IsWordLeaf (setup_of flat image labels) leaf
leaf_is flat clock image labels binds leaf h =
    let j = joined_of_flat_map (line_leaves flat) labels.lines leaf h in
    go j.source j.listed j.member (leaf_start flat clock image labels binds)
  where
    go : (l : LabelLine) → Contains labels.lines l → Contains (line_leaves flat l) leaf
        → ((address : ℕ) → Contains labels.lines (line.Leaf address) → (leaf : LeafPlan) → Contains (line_leaves flat (line.Leaf address)) leaf
        → IsWordLeaf (setup_of flat image labels) leaf)
        → IsWordLeaf (setup_of flat image labels) leaf
    go (line.Leaf address) i k each = each address i leaf k
    go l i k each = absurd (Contains-none leaf k)

-- the words that are leaves are those of `leaf` lines
leaves_named : (flat : Flat) (ls : List LabelLine) → map (λ (leaf : LeafPlan). leaf.address) (flat_map (line_leaves flat) ls) ≡ flat_map named_leaves ls
leaves_named flat [] = refl
leaves_named flat (line.Leaf address ∷ ls) = ap (λ ns. address ∷ ns) (leaves_named flat ls)
leaves_named flat (l ∷ ls) = leaves_named flat ls

pub leaves_apart : (flat : Flat) (ls : List LabelLine) → HasNoRepeat (flat_map named_leaves ls)
    → HasNoRepeat (map (λ (leaf : LeafPlan). leaf.address) (flat_map (line_leaves flat) ls))
leaves_apart flat ls once = subst HasNoRepeat (sym (leaves_named flat ls)) once
