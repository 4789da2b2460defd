-- The starts and inputs of a setup: they name labels of its table, and what is bound starts as its plan says.
use Rattle.std.proofs.Common.{◌≡◌, ℕ, ◌+◌, ◌<◌, ◌≤◌, ◌⊎◌, inl, inr, false, List, [], ◌∷◌, ◌++◌, length, get_or, refl, sym, subst, arith}
use Rattle.std.specs.Prelude.{All, Contains, slice_get, Some}
use Rattle.std.proofs.lemmas.Option.{slice_get-get_or, slice_get_within}
use Rattle.std.proofs.lemmas.List.{length-map}
use Rattle.std.proofs.lemmas.List.Elements.{All-contains, Contains-append_cases, Contains-append_left, Contains-append_right}
use Rattle.coco_base.specs.declared.labels.LabelTable.{LabelTable}
use Rattle.coco_base.specs.declared.netlist.Flat.{Flat}
use Rattle.coco_base.specs.declared.netlist.Wire.{Wire}
use Rattle.coco_base.specs.declared.setup.InputPlan.{InputPlan}
use Rattle.coco_base.specs.declared.setup.Start.{Start}
use Rattle.coco_base.specs.declared.setup.Start.TheVariants.{Public, Fresh}
use Rattle.coco_base.specs.declared.setup.WordPlan.{WordPlan}
use Rattle.coco_model.specs.Carried.{IsLabelled, word_start}
use Rattle.coco_model.proofs.Basics.{Contains-here, Contains-later, Contains-cases, Contains-none}
use Rattle.model_laws.proofs.Lists.{image_of_map}
use Rattle.label_file.specs.declared.line.LabelLine.{LabelLine}
use Rattle.label_file.specs.declared.line.LabelLine.TheVariants as line
use Rattle.label_file.specs.declared.line.LabelValue.{LabelValue}
use Rattle.label_file.specs.Conditions.{IsLine, IsValue}
use Rattle.bind_run.specs.Inputs.{Given, fresh_count, fresh_width, given, given_starts, input_plan, inputs_of, line_inputs, line_starts, starts_at}
use Rattle.bind_run.specs.Needs.{leaf_name}
use Rattle.bind_run.specs.Nets.{wires_of}
use Rattle.bind_run.specs.Values.{value_start}
use Rattle.bind_run.proofs.AtBits.{IsAt, at_member, at_of}
use Rattle.bind_run.proofs.GivenStarts.{each_get_or, value_labelled, word_labelled}
use Rattle.bind_run.proofs.WordsBound.{IsGiven, IsWordOf, word_bit}

-- labels of words, of a line's values, and of the labels that a fresh line adds to a cycle
abbrev WordsLabelled : LabelTable → List WordPlan → Type 0
WordsLabelled table words = (w : WordPlan) → Contains words w → (s : Start) → Contains w.bits s → IsLabelled table s

values_labelled : (table : LabelTable) (values : List LabelValue) → All (IsValue table.declared) values → (k : ℕ) (s : Start)
    → Contains (starts_at values k) s → IsLabelled table s
values_labelled table values each k s h =
    let m = image_of_map (λ (v : LabelValue). value_start v k) values s h in
    subst (IsLabelled table) m.image (value_labelled table m.source (All-contains (IsValue table.declared) values m.source each m.listed) k)

fresh_labelled : (table : LabelTable) (first : ℕ) (ws : List Wire) → first + length ws ≤ table.per_cycle → {X : Type 0} (make : ℕ → ℕ → X) (x : X)
    → (a : IsAt make 0 ws x) → first + (0 + a.at) < table.per_cycle
fresh_labelled table first ws few make x a = let w = slice_get_within ws a.at _ a.wired in omega (arith, w, few)

-- ---- what lines give to bits

line_labelled : (flat : Flat) (table : LabelTable) (words : List WordPlan) (first : ℕ) (l : LabelLine) → WordsLabelled table words → IsLine table.declared l
    → first + fresh_width flat l ≤ table.per_cycle → (g : Given) → Contains (line_starts flat words first l) g → IsLabelled table g.start
line_labelled flat table words first (line.Reg net value) labelled is few g h =
    let a = at_of (λ k b. given b (value_start value k)) 0 (wires_of flat net) g h in
    subst (λ (x : Given). IsLabelled table x.start) a.is (value_labelled table value is (0 + a.at))
line_labelled flat table words first (line.Input net values) labelled is few g h =
    let a = at_of (λ k b. given b (get_or (starts_at values k) 0 (Public false))) 0 (wires_of flat net) g h in
    subst (λ (x : Given). IsLabelled table x.start) a.is
    (each_get_or (IsLabelled table) (starts_at values (0 + a.at)) (Public false) (values_labelled table values is.each (0 + a.at)) tt 0)
line_labelled flat table words first (line.Fresh net name) labelled is few g h =
    let a = at_of (λ k b. given b (Fresh (first + k))) 0 (wires_of flat net) g h in
    subst (λ (x : Given). IsLabelled table x.start) a.is (fresh_labelled table first (wires_of flat net) few _ g a)
line_labelled flat table words first (line.Leaf address) labelled is few g h =
    let a = at_of (λ k b. given b (word_start words address k)) 0 (wires_of flat (leaf_name address)) g h in
    subst (λ (x : Given). IsLabelled table x.start) a.is (word_labelled table words labelled address (0 + a.at))
line_labelled flat table words first l labelled is few g h = absurd (Contains-none g h)

abbrev LinesAre : LabelTable → List LabelLine → Type 0
LinesAre table ls = (l : LabelLine) → Contains ls l → IsLine table.declared l

-- what is given to bits names labels
pub given_labelled : (flat : Flat) (table : LabelTable) (words : List WordPlan) (first : ℕ) (ls : List LabelLine) → WordsLabelled table words → LinesAre table ls
    → first + fresh_count flat ls ≤ table.per_cycle → (g : Given) → Contains (given_starts flat words first ls) g → IsLabelled table g.start
given_labelled flat table words first [] labelled are few g h = absurd (Contains-none g h)
given_labelled flat table words first (l ∷ ls) labelled are few g h =
    go (Contains-append_cases (line_starts flat words first l) (given_starts flat words (first + fresh_width flat l) ls) g h)
    (given_labelled flat table words (first + fresh_width flat l) ls labelled (λ k i. are k (Contains-later l k ls i)) (omega (arith, few)) g)
  where
    go : Contains (line_starts flat words first l) g ⊎ Contains (given_starts flat words (first + fresh_width flat l) ls) g
        → (Contains (given_starts flat words (first + fresh_width flat l) ls) g → IsLabelled table g.start) → IsLabelled table g.start
    go (inl i) rest = line_labelled flat table words first l labelled (are l (Contains-here l ls)) (omega (arith, few)) g i
    go (inr i) rest = rest i

-- ---- inputs

line_inputs_labelled : (flat : Flat) (table : LabelTable) (first : ℕ) (l : LabelLine) → IsLine table.declared l → first + fresh_width flat l ≤ table.per_cycle
    → (p : InputPlan) → Contains (line_inputs flat first l) p → (s : Start) → Contains p.values s → IsLabelled table s
line_inputs_labelled flat table first (line.Input net values) is few p h s i =
    let a = at_of (λ k b. input_plan b (starts_at values k)) 0 (wires_of flat net) p h in
    values_labelled table values is.each (0 + a.at) s (subst (λ (x : InputPlan). Contains x.values s) (sym a.is) i)
line_inputs_labelled flat table first (line.Fresh net name) is few p h s i =
    let a = at_of (λ k b. input_plan b (Fresh (first + k) ∷ [])) 0 (wires_of flat net) p h in
    go (Contains-cases (Fresh (first + (0 + a.at))) s [] (subst (λ (x : InputPlan). Contains x.values s) (sym a.is) i))
    (fresh_labelled table first (wires_of flat net) few _ p a)
  where
    go : {n : ℕ} → (Fresh n ≡ s) ⊎ Contains [] s → n < table.per_cycle → IsLabelled table s
    go (inl e) below = subst (IsLabelled table) e below
    go (inr n) below = absurd (Contains-none s n)
line_inputs_labelled flat table first l is few p h s i = absurd (Contains-none p h)

pub inputs_labelled : (flat : Flat) (table : LabelTable) (first : ℕ) (ls : List LabelLine) → LinesAre table ls → first + fresh_count flat ls ≤ table.per_cycle
    → (p : InputPlan) → Contains (inputs_of flat first ls) p → (s : Start) → Contains p.values s → IsLabelled table s
inputs_labelled flat table first [] are few p h s i = absurd (Contains-none p h)
inputs_labelled flat table first (l ∷ ls) are few p h s i =
    go (Contains-append_cases (line_inputs flat first l) (inputs_of flat (first + fresh_width flat l) ls) p h)
    (λ j. inputs_labelled flat table (first + fresh_width flat l) ls (λ k i. are k (Contains-later l k ls i)) (omega (arith, few)) p j s i)
  where
    go : Contains (line_inputs flat first l) p ⊎ Contains (inputs_of flat (first + fresh_width flat l) ls) p
        → (Contains (inputs_of flat (first + fresh_width flat l) ls) p → IsLabelled table s) → IsLabelled table s
    go (inl j) rest = line_inputs_labelled flat table first l (are l (Contains-here l ls)) (omega (arith, few)) p j s i
    go (inr j) rest = rest j

-- ---- the first value of an input is given to its bit

pub record HasFirst (gs : List Given) (p : InputPlan) : Type 0 where
  pub start : Start
  pub listed : Contains gs (given p.bit start)
  pub is : slice_get p.values 0 ≡ Some start

some_first : (values : List LabelValue) (k : ℕ) → 0 < length values → slice_get (starts_at values k) 0 ≡ Some (get_or (starts_at values k) 0 (Public false))
some_first values k some =
    slice_get-get_or (starts_at values k) 0 (Public false) (let l = length-map values (λ (v : LabelValue). value_start v k) in omega (arith, l, some))

line_first : (flat : Flat) (words : List WordPlan) (declared first : ℕ) (l : LabelLine) → IsLine declared l → (p : InputPlan) → Contains (line_inputs flat first l) p
    → HasFirst (line_starts flat words first l) p
line_first flat words declared first (line.Input net values) is p h =
    let a = at_of (λ k b. input_plan b (starts_at values k)) 0 (wires_of flat net) p h in
    subst (HasFirst (line_starts flat words first (line.Input net values))) a.is (record {
      start = get_or (starts_at values (0 + a.at)) 0 (Public false);
      listed = at_member (λ k b. given b (get_or (starts_at values k) 0 (Public false))) 0 (wires_of flat net) a.at a.bit a.wired;
      is = some_first values (0 + a.at) is.some;
    })
line_first flat words declared first (line.Fresh net name) is p h =
    let a = at_of (λ k b. input_plan b (Fresh (first + k) ∷ [])) 0 (wires_of flat net) p h in
    subst (HasFirst (line_starts flat words first (line.Fresh net name))) a.is (record {
      start = Fresh (first + (0 + a.at));
      listed = at_member (λ k b. given b (Fresh (first + k))) 0 (wires_of flat net) a.at a.bit a.wired;
      is = refl;
    })
line_first flat words declared first l is p h = absurd (Contains-none p h)

pub inputs_first : (flat : Flat) (words : List WordPlan) (table : LabelTable) (first : ℕ) (ls : List LabelLine) → LinesAre table ls → (p : InputPlan)
    → Contains (inputs_of flat first ls) p → HasFirst (given_starts flat words first ls) p
inputs_first flat words table first [] are p h = absurd (Contains-none p h)
inputs_first flat words table first (l ∷ ls) are p h =
    go (Contains-append_cases (line_inputs flat first l) (inputs_of flat (first + fresh_width flat l) ls) p h)
    (inputs_first flat words table (first + fresh_width flat l) ls (λ k i. are k (Contains-later l k ls i)) p)
  where
    more : List Given
    more = given_starts flat words (first + fresh_width flat l) ls

    go : Contains (line_inputs flat first l) p ⊎ Contains (inputs_of flat (first + fresh_width flat l) ls) p
        → (Contains (inputs_of flat (first + fresh_width flat l) ls) p → HasFirst more p) → HasFirst (line_starts flat words first l ++ more) p
    go (inl i) rest =
        let f = line_first flat words table.declared first l (are l (Contains-here l ls)) p i in
        record { start = f.start; listed = Contains-append_left (line_starts flat words first l) more (given p.bit f.start) f.listed; is = f.is }
    go (inr i) rest =
        let f = rest i in
        record { start = f.start; listed = Contains-append_right (line_starts flat words first l) more (given p.bit f.start) f.listed; is = f.is }

-- ---- words

word_value : (table : LabelTable) (lines : List LabelLine) (v : LabelValue) → LinesAre table lines → IsGiven lines v → IsValue table.declared v
word_value table lines v are (inl (n, e)) = subst (IsValue table.declared) (sym e) tt
word_value table lines v are (inr (a, i)) = (are (line.Mem a v) i).given

pub words_labelled : (table : LabelTable) (lines : List LabelLine) (w : WordPlan) → LinesAre table lines → IsWordOf lines w → (s : Start) → Contains w.bits s
    → IsLabelled table s
words_labelled table lines w are is s h =
    let (k, e) = word_bit is.plan.value s (subst (λ xs. Contains xs s) is.plan.bits h) in
    subst (IsLabelled table) e (value_labelled table is.plan.value (word_value table lines is.plan.value are is.plan.given) k)
