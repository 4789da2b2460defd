-- Where the starts of bits come from, as the code has it.
use Rattle.std.specs.Prelude.{ℕ, ◌+◌, ◌<◌, ◌^◌, false, List, All, get_or}
use Rattle.coco_base.specs.declared.netlist.Wire.{Wire}
use Rattle.coco_base.specs.declared.setup.Start.{Start}
use Rattle.coco_base.specs.declared.setup.Start.TheVariants.{Public, Fresh}
use Rattle.coco_model.specs.Carried.{word_start}
use Rattle.bind_run.specs.declared.starts.Source.{Source}
use Rattle.bind_run.specs.declared.starts.Source.TheVariants as source
use Rattle.bind_run.specs.Inputs.{Given, given, starts_at}
use Rattle.bind_run.specs.Values.{HasRoom, at_bits, value_start}

abbrev pub source_start : Source → ℕ → Start
source_start (source.Value value) k = value_start value k
source_start (source.First values) k = get_or (starts_at values.now k) 0 (Public false)
source_start (source.Fresh first) k = Fresh (first + k)
source_start (source.Word words address) k = word_start words.now address k

-- the starts of the bits among wires of which the first has the place given
abbrev pub source_starts : Source → ℕ → List Wire → List Given
source_starts s place wires = at_bits (λ k b. given b (source_start s k)) place wires

-- so many bits have label numbers of 32 bits
abbrev pub SourceHasRoom : ℕ → Source → Type 0
SourceHasRoom count (source.Value value) = HasRoom value
SourceHasRoom count (source.First values) = All HasRoom values.now
SourceHasRoom count (source.Fresh first) = first + count < 2 ^ 32
SourceHasRoom count (source.Word words address) = Unit {0}
