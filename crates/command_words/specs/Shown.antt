-- Tables and commands as the code keeps them.
use Rattle.std.specs.Prelude.{List, Option, map, option_map}
use Rattle.std.specs.Borrow.{Bor}
use Rattle.command_words.specs.Commands.{Check, Files, Recheck, Sizes}
use Rattle.command_words.specs.Tables.{Argument, Table, Text}
use Rattle.command_words.specs.declared.command.CheckRequest.{CheckRequest}
use Rattle.command_words.specs.declared.command.Files.{Files as CodedFiles}
use Rattle.command_words.specs.declared.command.RecheckRequest.{RecheckRequest}
use Rattle.command_words.specs.declared.command.Sizes.{Sizes as CodedSizes}
use Rattle.command_words.specs.declared.table.Argument.{Argument as CodedArgument}
use Rattle.command_words.specs.declared.table.Table.{Table as CodedTable}

abbrev pub shown_argument : CodedArgument → Argument
shown_argument a = record { name = a.name.now; letter = a.letter.now; meaning = a.meaning }

abbrev pub shown_arguments : List CodedArgument → List Argument
shown_arguments arguments = map shown_argument arguments

abbrev pub shown_table : CodedTable → Table
shown_table t = record {
  program = t.program.now;
  options = shown_arguments t.options.now;
  place = option_map shown_argument t.place;
}

abbrev pub shown_name : Option (Bor Text) → Option Text
shown_name name = option_map (λ s. s.now) name

abbrev pub shown_files : CodedFiles → Files
shown_files f = record {
  netlist = f.netlist.now;
  labels = f.labels.now;
  program = shown_name f.program;
  top = shown_name f.top;
}

abbrev pub shown_sizes : CodedSizes → Sizes
shown_sizes s = record { order = s.order; window = s.window; cycles = s.cycles }

abbrev pub shown_check : CheckRequest → Check
shown_check r = record {
  files = shown_files r.files;
  sizes = shown_sizes r.sizes;
  steps = r.steps;
  restart = r.restart;
  proof = r.proof;
}

abbrev pub shown_recheck : RecheckRequest → Recheck
shown_recheck r = record { files = shown_files r.files; sizes = shown_sizes r.sizes; proof = r.proof.now }
