use Rattle.std.proofs.Common.{◌≡◌, true, false, List, sym, ◌∙◌, ap}
use Rattle.std.specs.Prelude.{slice_get}
use Rattle.coco_base.specs.declared.setup.MemPlan.{MemPlan}
use Rattle.coco_model.specs.Carried.{number_on}
use Rattle.coco_model.specs.Controls.{IsOutside}
use Rattle.coco_model.specs.Known.{ones}
use Rattle.coco_model.specs.Stepped.{row_of}
use Rattle.gate_graph.proofs.Items.{read_at}
use Rattle.cycle_sim.proofs.CheckLemmas.{none_more, none_at_all}
use Rattle.cycle_sim.proofs.checks.outside_address.Goals as goal

pub returns-then-is_outside : goal.returns-then-is_outside
returns-then-is_outside c =
    let r = row_of c.args.row.now in
    let x = c.index-memories-number.result in
    let at = ap (λ (ms : List MemPlan). slice_get ms c.ports.number) (sym c.as_slice-memories.ensures) ∙ read_at c.as_slice-memories.result.now c.ports.number x c.ports-test.true c.index-memories-number.is in
    record {
      place = c.ports.number;
      first = record { member = x; at = at; holds = c.is_outside.ensures.0 c.if-is_outside.true; none_before = c.ports.invariant };
      asked = c.number_on-address.ensures ∙ ap (number_on (ones r)) c.as_slice.ensures;
    }

pub ports-preserved : goal.ports-preserved
ports-preserved c =
    let r = row_of c.args.row.now in
    let x = c.index-memories-number.result in
    let at = ap (λ (ms : List MemPlan). slice_get ms c.ports.number) (sym c.as_slice-memories.ensures) ∙ read_at c.as_slice-memories.result.now c.ports.number x c.ports-test.true c.index-memories-number.is in
    none_more (IsOutside r) c.args.setup.now.memories c.ports.number x at
    (λ is. let f : false ≡ true = sym c.if-is_outside.false ∙ c.is_outside.ensures.1 is in cc) c.ports.invariant

pub returns : goal.returns
returns c = none_at_all (IsOutside (row_of c.args.row.now)) c.args.setup.now.memories c.ports.number (rw c.as_slice-memories.ensures at c.ports-test.false) c.ports.invariant
