-- The memory words that a program and lines give.
use Rattle.std.specs.Prelude.{ℕ, ◌+◌, ◌*◌, nat_eq, if◌then◌else◌, List, [], ◌∷◌, ◌++◌, flat_map, slice_get, Option, Some, None}
use Rattle.std.specs.List.{range_with_len}
use Rattle.coco_base.specs.declared.setup.WordPlan.{WordPlan}
use Rattle.label_file.specs.declared.line.LabelLine.{LabelLine}
use Rattle.label_file.specs.declared.line.LabelLine.TheVariants as line
use Rattle.label_file.specs.declared.line.LabelValue.{LabelValue}
use Rattle.label_file.specs.declared.line.LabelValue.TheVariants.{Number}
use Rattle.rv_asm.specs.declared.image.Image.{Image}
use Rattle.bind_run.specs.Values.{word_bits}

-- how many words the regions of text and of data have, and where data begin
unfoldable pub text_words : ℕ
text_words = 4096

unfoldable pub data_words : ℕ
data_words = 1024

unfoldable pub data_start : ℕ
data_start = 65536

abbrev pub line_value : ℕ → LabelLine → Option LabelValue
line_value address (line.Mem a value) = if nat_eq address a then Some value else None
line_value address l = None

abbrev pub first_of : {X : Type 0} → Option X → Option X → Option X
first_of (Some x) other = Some x
first_of None other = other

-- a `mem` line, and no other
abbrev pub mem_line : LabelLine → List LabelLine
mem_line (line.Mem a value) = line.Mem a value ∷ []
mem_line l = []

-- the `mem` lines among lines
abbrev pub mem_lines : List LabelLine → List LabelLine
mem_lines lines = flat_map mem_line lines

-- the value that a `mem` line gives a word
abbrev pub mem_value : ℕ → List LabelLine → Option LabelValue
mem_value address [] = None
mem_value address (l ∷ ls) = first_of (line_value address l) (mem_value address ls)

abbrev pub number_value : Option ℕ → Option LabelValue
number_value None = None
number_value (Some n) = Some (Number n)

-- the word of the program at a place
abbrev pub image_value : List ℕ → ℕ → Option LabelValue
image_value words k = number_value (slice_get words k)

abbrev pub plans_of : ℕ → Option LabelValue → List WordPlan
plans_of address None = []
plans_of address (Some value) = record { address = address; bits = word_bits value } ∷ []

-- word k of a region that starts at an address, where the program has words: what a `mem` line gives stands in place
-- of the program's word, and a last value, if any, where neither gives one
abbrev pub region_plans : ℕ → List ℕ → Option LabelValue → List LabelLine → ℕ → List WordPlan
region_plans start words fill lines k =
    plans_of (start + 4 * k) (first_of (first_of (mem_value (start + 4 * k) lines) (image_value words k)) fill)

-- the words of the text that are given, and all words of the data, by address
abbrev pub words_of : Image → List LabelLine → List WordPlan
words_of image lines =
    flat_map (region_plans 0 image.text None lines) (range_with_len 0 text_words)
    ++ flat_map (region_plans data_start image.values (Some (Number 0)) lines) (range_with_len 0 data_words)
