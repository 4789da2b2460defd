-- What inputs and starts come of lines.
use Rattle.std.specs.Prelude.{ℕ, ◌+◌, false, List, [], ◌∷◌, ◌++◌, length, map, fold, get_or, replicate, slice_set}
use Rattle.coco_base.specs.declared.labels.MaskPlan.{MaskPlan}
use Rattle.coco_base.specs.declared.netlist.Flat.{Flat}
use Rattle.coco_base.specs.declared.setup.InputPlan.{InputPlan}
use Rattle.coco_base.specs.declared.setup.Start.{Start}
use Rattle.coco_base.specs.declared.setup.Start.TheVariants.{Public, Fresh}
use Rattle.coco_base.specs.declared.setup.WordPlan.{WordPlan}
use Rattle.coco_model.specs.Carried.{word_start}
use Rattle.label_file.specs.declared.line.LabelLine.{LabelLine}
use Rattle.label_file.specs.declared.line.LabelLine.TheVariants as line
use Rattle.label_file.specs.declared.line.LabelValue.{LabelValue}
use Rattle.bind_run.specs.Needs.{leaf_name}
use Rattle.bind_run.specs.Nets.{wires_of}
use Rattle.bind_run.specs.Values.{at_bits, value_start}

-- how many labels a line adds to each cycle
abbrev pub fresh_width : Flat → LabelLine → ℕ
fresh_width flat (line.Fresh net name) = length (wires_of flat net)
fresh_width flat l = 0

-- how many labels lines add to each cycle
abbrev pub fresh_count : Flat → List LabelLine → ℕ
fresh_count flat [] = 0
fresh_count flat (l ∷ ls) = fresh_width flat l + fresh_count flat ls

-- the fresh masks of a line, where the labels of a cycle before it are so many
abbrev pub line_masks : Flat → ℕ → LabelLine → List MaskPlan
line_masks flat first (line.Fresh net name) =
    record { name = name; width = length (wires_of flat net); first = first } ∷ []
line_masks flat first l = []

-- the fresh masks of lines, in order; the first label of each is the number of those before
abbrev pub fresh_masks : Flat → ℕ → List LabelLine → List MaskPlan
fresh_masks flat first [] = []
fresh_masks flat first (l ∷ ls) = line_masks flat first l ++ fresh_masks flat (first + fresh_width flat l) ls

abbrev pub input_plan : ℕ → List Start → InputPlan
input_plan bit values = record { bit = bit; values = values }

-- the starts of bit k of values
abbrev pub starts_at : List LabelValue → ℕ → List Start
starts_at values k = map (λ (v : LabelValue). value_start v k) values

-- the inputs of a line, where the labels of a cycle before it are so many
abbrev pub line_inputs : Flat → ℕ → LabelLine → List InputPlan
line_inputs flat first (line.Input net values) =
    at_bits (λ k b. input_plan b (starts_at values k)) 0 (wires_of flat net)
line_inputs flat first (line.Fresh net name) =
    at_bits (λ k b. input_plan b (Fresh (first + k) ∷ [])) 0 (wires_of flat net)
line_inputs flat first l = []

-- the inputs of lines, in the order of the lines and of the places of each net
abbrev pub inputs_of : Flat → ℕ → List LabelLine → List InputPlan
inputs_of flat first [] = []
inputs_of flat first (l ∷ ls) = line_inputs flat first l ++ inputs_of flat (first + fresh_width flat l) ls

-- a bit, and what a line has it start at
pub record Given : Type 0 where
  pub bit : ℕ
  pub start : Start

abbrev pub given : ℕ → Start → Given
given bit start = record { bit = bit; start = start }

-- the starts that a line gives to bits: a word leaf starts as its word does
abbrev pub line_starts : Flat → List WordPlan → ℕ → LabelLine → List Given
line_starts flat words first (line.Reg net value) = at_bits (λ k b. given b (value_start value k)) 0 (wires_of flat net)
line_starts flat words first (line.Input net values) =
    at_bits (λ k b. given b (get_or (starts_at values k) 0 (Public false))) 0 (wires_of flat net)
line_starts flat words first (line.Fresh net name) = at_bits (λ k b. given b (Fresh (first + k))) 0 (wires_of flat net)
line_starts flat words first (line.Leaf address) =
    at_bits (λ k b. given b (word_start words address k)) 0 (wires_of flat (leaf_name address))
line_starts flat words first l = []

abbrev pub given_starts : Flat → List WordPlan → ℕ → List LabelLine → List Given
given_starts flat words first [] = []
given_starts flat words first (l ∷ ls) =
    line_starts flat words first l ++ given_starts flat words (first + fresh_width flat l) ls

abbrev pub with_start : List Start → Given → List Start
with_start starts g = slice_set starts g.bit g.start

abbrev pub with_starts : List Start → List Given → List Start
with_starts starts gs = fold with_start starts gs

-- what each bit starts at: as a line says, and else public 0
abbrev pub starts_of : Flat → List WordPlan → List LabelLine → List Start
starts_of flat words lines = with_starts (replicate flat.bits (Public false)) (given_starts flat words 0 lines)
