-- The files of a call: bytes of them that the shelf does not contradict, and why they are not read.
use Rattle.std.specs.Prelude.{◌≡◌, ℕ, ◌<◌, ◌≤◌, Bool, false, nat_eq, length, ◌⊎◌, Option, Some, None, codes, option_map}
use Rattle.std.specs.List.{ends_with}
use Rattle.coco_base.specs.Causes.{Rose}
use Rattle.coco_base.specs.Outside.{IsContent}
use Rattle.command_words.specs.Commands.{Files as Names}
use Rattle.leak_report.specs.Texts.{Text}
use Rattle.run_inputs.specs.Inputs.{Files}
use Rattle.coco_engine.specs.Files.{IsLonger, file_limit}
use Rattle.coco_engine.specs.declared.files.FileBytes.{FileBytes}
use Rattle.coco_engine.specs.declared.reading.ReadStop.{ReadStop}
use Rattle.coco_engine.specs.declared.reading.ReadStop.TheVariants.{Long, Failed, Memory}

-- a file whose name ends in `.hex` is a file of words
abbrev pub is_word_file : Option Text → Bool
is_word_file None = false
is_word_file (Some name) = ends_with nat_eq name (codes ".hex")

-- ---- bytes that the shelf does not contradict

-- the bytes of the program's file, if one is named
abbrev pub IsProgramContent : (Text → Option Text) → Option Text → Option Text → Type 0
IsProgramContent told None program = program ≡ None
IsProgramContent told (Some name) None = ⊥
IsProgramContent told (Some name) (Some bytes) = IsContent (told name) bytes

-- bytes of the files of these names
pub record AreContents (told : Text → Option Text) (names : Names) (files : Files) : Type 0 where
  pub netlist : IsContent (told names.netlist) files.netlist
  pub labels : IsContent (told names.labels) files.labels
  pub program : IsProgramContent told names.program files.program
  pub word_file : files.word_file ≡ is_word_file names.program
  pub top : files.top ≡ names.top

-- ---- how long they are

-- a file has more bytes than are read
abbrev pub IsLongFile : Text → Type 0
IsLongFile bytes = file_limit < length bytes

abbrev pub IsShortProgram : Option Text → Type 0
IsShortProgram None = Unit {0}
IsShortProgram (Some bytes) = length bytes ≤ file_limit

-- no file has
pub record AreShort (files : Files) : Type 0 where
  pub netlist : length files.netlist ≤ file_limit
  pub labels : length files.labels ≤ file_limit
  pub program : IsShortProgram files.program

-- the first file that has: the netlist, the label file, or the program
pub data IsFirstLong (names : Names) (files : Files) : Text → Type 0 where
  netlist : IsLongFile files.netlist → IsFirstLong names files names.netlist
  labels : length files.netlist ≤ file_limit → IsLongFile files.labels
      → IsFirstLong names files names.labels
  program : (name bytes : Text) → length files.netlist ≤ file_limit → length files.labels ≤ file_limit
      → names.program ≡ Some name → files.program ≡ Some bytes → IsLongFile bytes → IsFirstLong names files name

-- ---- what was read

-- the files as they are judged
abbrev pub files_from : Names → FileBytes → Files
files_from names bytes = record {
  netlist = bytes.netlist.items;
  labels = bytes.labels.items;
  program = option_map (λ v. v.items) bytes.program;
  word_file = is_word_file names.program;
  top = names.top;
}

-- they are read whole
pub record HasRead (told : Text → Option Text) (names : Names) (bytes : FileBytes) : Type 0 where
  pub contents : AreContents told names (files_from names bytes)
  pub short : AreShort (files_from names bytes)

-- or the program alone is
abbrev pub IsShortContent : (Text → Option Text) → Option Text → Option Text → Type 0
IsShortContent told name bytes = IsProgramContent told name bytes × IsShortProgram bytes

-- ---- what was not

-- there are bytes of the files of which that of this name is the first with more bytes than are read
pub record HasLong (told : Text → Option Text) (names : Names) (name : Text) : Type 0 where
  pub files : Files
  pub contents : AreContents told names files
  pub first : IsFirstLong names files name

-- one of the files has this name
abbrev pub IsNamed : Names → Text → Type 0
IsNamed names name = (name ≡ names.netlist) ⊎ ((name ≡ names.labels) ⊎ (names.program ≡ Some name))

-- a file of the name is not read: it has more bytes than are read, or the count of faults rose; want of memory has no
-- cause here
abbrev pub StopsFile : (Text → Option Text) → ℕ → ℕ → Text → ReadStop → Type 0
StopsFile told before now name Long = IsLonger file_limit (told name)
StopsFile told before now name Failed = Rose before now
StopsFile told before now name Memory = Unit {0}

-- the files are not read, because of that of this name
abbrev pub StopsFiles : (Text → Option Text) → ℕ → ℕ → Names → Text → ReadStop → Type 0
StopsFiles told before now names name Long = HasLong told names name
StopsFiles told before now names name Failed = IsNamed names name × Rose before now
StopsFiles told before now names name Memory = Unit {0}
