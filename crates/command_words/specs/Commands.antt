-- What the words of the three programs mean.
use Rattle.std.specs.Prelude.{ℕ, Bool, List, Option, Some}
use Rattle.command_words.specs.Tables as table
use Rattle.command_words.specs.Tables.{Text, check_table, made_table, recheck_table}
use Rattle.command_words.specs.Values.{◌>>=◌, is_given, name_of, number_at, optional_name_of}
use Rattle.command_words.specs.Words.{Values, values_by}

-- the names of the netlist's file, of the label file and of the program's, and the name of the top module
pub record Files : Type 0 where
  pub netlist : Text
  pub labels : Text
  pub program : Option Text
  pub top : Option Text

pub record Sizes : Type 0 where
  pub order : ℕ
  pub window : ℕ
  pub cycles : ℕ

-- a call of coco_check
pub record Check : Type 0 where
  pub files : Files
  pub sizes : Sizes
  pub steps : ℕ
  pub restart : ℕ
  pub proof : Bool

-- a call of coco_recheck
pub record Recheck : Type 0 where
  pub files : Files
  pub sizes : Sizes
  pub proof : Text

abbrev pub files_of : Values → Option Files
files_of values = do
  netlist ← name_of table.netlist values
  labels ← name_of table.labels values
  program ← optional_name_of table.program values
  top ← optional_name_of table.top values
  Some (record { netlist = netlist; labels = labels; program = program; top = top })

abbrev pub sizes_of : Values → Option Sizes
sizes_of values = do
  order ← number_at table.order values
  window ← number_at table.window values
  cycles ← number_at table.cycles values
  Some (record { order = order; window = window; cycles = cycles })

abbrev pub check_of : Values → Option Check
check_of values = do
  files ← files_of values
  sizes ← sizes_of values
  steps ← number_at table.steps values
  restart ← number_at table.restart values
  Some (record { files = files; sizes = sizes; steps = steps; restart = restart; proof = is_given table.proof values })

abbrev pub recheck_of : Values → Option Recheck
recheck_of values = do
  files ← files_of values
  sizes ← sizes_of values
  proof ← name_of table.proof_file values
  Some (record { files = files; sizes = sizes; proof = proof })

abbrev pub stages_of : Values → Option ℕ
stages_of values = number_at table.stages values

-- ---- the meaning of the words, where they are words of the grammar

abbrev pub check_command : List Text → Option Check
check_command words = values_by check_table words >>= check_of

abbrev pub recheck_command : List Text → Option Recheck
recheck_command words = values_by recheck_table words >>= recheck_of

-- the number of stages of a call of coco_made
abbrev pub made_command : List Text → Option ℕ
made_command words = values_by made_table words >>= stages_of
