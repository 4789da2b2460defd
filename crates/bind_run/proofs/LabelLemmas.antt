-- The labels of a file may be bound.
use Rattle.std.proofs.Common.{ℕ, ◌+◌, ◌<◌, ◌≤◌, ◌^◌, List, [], ◌∷◌, cond, length, arith}
use Rattle.std.specs.List.{count_by}
use Rattle.std.proofs.lemmas.List.Elements.{All-weaker}
use Rattle.std.proofs.lemmas.List.Sums.{sum_by-cons}
use Rattle.label_file.specs.declared.line.LabelLine.{LabelLine}
use Rattle.label_file.specs.declared.line.LabelLine.TheVariants as line
use Rattle.label_file.specs.declared.line.LabelValue.{LabelValue}
use Rattle.label_file.specs.declared.line.LabelValue.TheVariants.{Number, Bits}
use Rattle.label_file.specs.declared.line.Labels.{Labels}
use Rattle.label_file.specs.Conditions.{AreLabels, IsLine, IsValue}
use Rattle.label_file.specs.Statements.{is_dmem, is_imem}
use Rattle.bind_run.specs.Controls.{port_count, ports_count}
use Rattle.bind_run.specs.Values.{HasRoom, HaveRoom, LineHasRoom}
use Rattle.bind_run.specs.Widened.{leaf_addresses}
use Rattle.bind_run.proofs.LeafLemmas.{few_leaves}

value_room : (declared : ℕ) → declared ≤ 4096 → (v : LabelValue) → IsValue declared v → HasRoom v
value_room declared few (Number n) is = tt
value_room declared few (Bits first width) is = let b = is.below in omega arith

line_room : (declared : ℕ) → declared ≤ 4096 → (l : LabelLine) → IsLine declared l → LineHasRoom l
line_room declared few (line.Reg net value) is = value_room declared few value is
line_room declared few (line.Input net values) is = All-weaker (IsValue declared) HasRoom (value_room declared few) values is.each
line_room declared few (line.Mem address value) is = value_room declared few value is.given
line_room declared few l is = tt

port_step : (l : LabelLine) → port_count l ≤ cond (is_imem l) 1 0 + cond (is_dmem l) 1 0
port_step (line.Imem request address answer) = omega arith
port_step (line.Dmem request write enables address value answer) = omega arith
port_step l = omega arith

ports_few : (ls : List LabelLine) → ports_count ls ≤ count_by is_imem ls + count_by is_dmem ls
ports_few [] = omega arith
ports_few (l ∷ ls) =
    let h = ports_few ls in
    let s = port_step l in
    let i = sum_by-cons (λ x. cond (is_imem x) 1 0) l ls in
    let d = sum_by-cons (λ x. cond (is_dmem x) 1 0) l ls in
    omega arith

-- the labels of values have room
pub labels_room : (labels : Labels) → AreLabels labels → HaveRoom labels.lines
labels_room labels are = All-weaker (IsLine labels.table.declared) LineHasRoom (line_room labels.table.declared are.table.few) labels.lines are.lines

-- there are at most two memory ports
pub labels_ports : (labels : Labels) → AreLabels labels → ports_count labels.lines < 2 ^ 32
labels_ports labels are = let p = ports_few labels.lines in let a = are.once.imem in let b = are.once.dmem in omega arith

pub labels_leaves : (labels : Labels) → AreLabels labels → length (leaf_addresses labels.lines) < 2 ^ 32
labels_leaves labels are = let f = few_leaves labels are in omega arith
