-- The arguments of the three programs, as tables.
use Rattle.std.specs.Prelude.{ℕ, List, [], ◌∷◌, Option, Some, None, Bool, true, false, codes}
use Rattle.command_words.specs.declared.table.Meaning.{Meaning}
use Rattle.command_words.specs.declared.table.Meaning.TheVariants.{Name, OptionalName, Number, OptionalNumber, Flag}

abbrev pub Text : Type 0
Text = List ℕ

-- an option: its name, without the two minus signs before it, what stands for its value in the usage line, and what
-- the value means
pub record Argument : Type 0 where
  pub name : Text
  pub letter : Text
  pub meaning : Meaning

-- a program's name, its options, and what a word that belongs to none of them stands for
pub record Table : Type 0 where
  pub program : Text
  pub options : List Argument
  pub place : Option Argument

-- a flag is the only option without a value
abbrev pub has_value : Meaning → Bool
has_value Flag = false
has_value _ = true

abbrev pub argument : Text → Text → Meaning → Argument
argument name letter meaning = record { name = name; letter = letter; meaning = meaning }

-- ---- the options

abbrev pub netlist : Argument
netlist = argument (codes "netlist") (codes "N") Name

abbrev pub labels : Argument
labels = argument (codes "labels") (codes "L") Name

abbrev pub program : Argument
program = argument (codes "program") (codes "P") OptionalName

abbrev pub top : Argument
top = argument (codes "top") (codes "M") OptionalName

abbrev pub order : Argument
order = argument (codes "order") (codes "D") (OptionalNumber 1 64 1)

abbrev pub window : Argument
window = argument (codes "window") (codes "W") (OptionalNumber 1 64 1)

abbrev pub cycles : Argument
cycles = argument (codes "cycles") (codes "C") (OptionalNumber 1 65536 1)

abbrev pub steps : Argument
steps = argument (codes "steps") (codes "B") (OptionalNumber 1 1000000000 1000000)

abbrev pub restart : Argument
restart = argument (codes "restart") (codes "R") (OptionalNumber 1 1000000000 1000000000)

abbrev pub proof : Argument
proof = argument (codes "proof") [] Flag

abbrev pub proof_file : Argument
proof_file = argument (codes "proof") (codes "F") Name

abbrev pub stages : Argument
stages = argument (codes "stages") (codes "N") (Number 1 64)

-- ---- the programs

abbrev pub check_table : Table
check_table = record {
  program = codes "coco_check";
  options = netlist ∷ labels ∷ program ∷ top ∷ order ∷ window ∷ cycles ∷ steps ∷ restart ∷ proof ∷ [];
  place = None;
}

abbrev pub recheck_table : Table
recheck_table = record {
  program = codes "coco_recheck";
  options = netlist ∷ labels ∷ program ∷ top ∷ order ∷ window ∷ cycles ∷ proof_file ∷ [];
  place = None;
}

abbrev pub made_table : Table
made_table = record { program = codes "coco_made"; options = []; place = Some stages }
