-- What is handed in to be judged, as contracts see it.
use Rattle.std.specs.Prelude.{ℕ, Bool, List, Option, option_map}
use Rattle.run_inputs.specs.declared.inputs.Inputs.{Inputs}

-- the bytes of the netlist's file, of the label file and of the program's, which may be a file of words, and the name of
-- the top module
pub record Files : Type 0 where
  pub netlist : List ℕ
  pub labels : List ℕ
  pub program : Option (List ℕ)
  pub word_file : Bool
  pub top : Option (List ℕ)

abbrev pub files_in : Inputs → Files
files_in inputs = record {
  netlist = inputs.netlist.now;
  labels = inputs.labels.now;
  program = option_map (λ bytes. bytes.now) inputs.program;
  word_file = inputs.word_file;
  top = option_map (λ name. name.now) inputs.top;
}
