use Rattle.std.proofs.Common.{◌≡◌, ◌+◌, ◌<◌, ◌≤◌, false, length, get_or, refl, sym, ◌∙◌, ap, subst, arith}
use Rattle.std.specs.Prelude.{Contains, Some, slice_get}
use Rattle.std.proofs.lemmas.List.{take_more}
use Rattle.std.proofs.lemmas.List.Elements.{Contains-get_or}
use Rattle.coco_base.specs.declared.netlist.Wire.TheVariants.{Const}
use Rattle.coco_model.specs.Netlist.{wires_of}
use Rattle.model_laws.proofs.Lists.{member_of_place}
use Rattle.gate_graph.proofs.Items.{read_at, some_at}
use Rattle.gate_graph.proofs.StepLemmas.{IsScanned, scanned_more, scanned_all, stops}
use Rattle.gate_graph.proofs.WalkLemmas.{level_room}
use Rattle.gate_graph.proofs.step.step_at.Goals as goal

pub input_step-requires-clause-below : goal.input_step-requires-clause-below
input_step-requires-clause-below c =
    let at : slice_get c.args.flat.now.cells c.args.cell ≡ Some c.index-as_slice-cell.result = ap (λ ys. slice_get ys c.args.cell) (sym c.as_slice.ensures) ∙ read_at c.as_slice.result.now c.args.cell c.index-as_slice-cell.result (rw c.as_slice.ensures (let l = c.requires.marks.as_long in let i = c.requires.inside in omega arith)) c.index-as_slice-cell.is in
    c.requires.wired.range.inputs c.index-as_slice-cell.result (member_of_place c.args.flat.now.cells c.args.cell c.index-as_slice-cell.result at) _
    (subst (λ ws. Contains ws (get_or c.wires_of-wires.result.now c.inputs.wire-index (Const false))) c.wires_of-wires.ensures
    (Contains-get_or c.wires_of-wires.result.now c.inputs.wire-index (Const false) c.inputs-test.true))

pub returns-in_default : goal.returns-in_default
returns-in_default c =
    let at : slice_get c.args.flat.now.cells c.args.cell ≡ Some c.index-as_slice-cell.result = ap (λ ys. slice_get ys c.args.cell) (sym c.as_slice.ensures) ∙ read_at c.as_slice.result.now c.args.cell c.index-as_slice-cell.result (rw c.as_slice.ensures (let l = c.requires.marks.as_long in let i = c.requires.inside in omega arith)) c.index-as_slice-cell.is in
    stops c.args.flat.now c.args.drivers.now c.args.marks.now c.args.cell c.inputs.wire-index c.inputs.greatest c.index-as_slice-cell.result (get_or c.wires_of-wires.result.now c.inputs.wire-index (Const false)) c.input_step.result at
    (subst (λ ws. slice_get ws c.inputs.wire-index ≡ Some (get_or c.wires_of-wires.result.now c.inputs.wire-index (Const false))) c.wires_of-wires.ensures
    (some_at c.wires_of-wires.result.now c.inputs.wire-index (Const false) c.inputs-test.true))
    (subst (λ ws. IsScanned c.args.flat.now c.args.drivers.now c.args.marks.now ws c.inputs.wire-index c.inputs.greatest) c.wires_of-wires.ensures c.inputs.invariant)
    c.input_step.ensures c.in_default.not-Up

pub inputs-preserved : goal.inputs-preserved
inputs-preserved c =
    subst (IsScanned c.args.flat.now c.args.drivers.now c.args.marks.now c.wires_of-wires.result.now (c.inputs.wire-index + 1)) (sym c.larger-greatest.ensures)
    (scanned_more c.args.flat.now c.args.drivers.now c.args.marks.now c.wires_of-wires.result.now c.inputs.wire-index c.inputs.greatest c.in-Up.level (get_or c.wires_of-wires.result.now c.inputs.wire-index (Const false))
    (take_more c.wires_of-wires.result.now c.inputs.wire-index (Const false) c.inputs-test.true) (some_at c.wires_of-wires.result.now c.inputs.wire-index (Const false) c.inputs-test.true)
    c.in-Up.ensures c.inputs.invariant)

pub overflow_add-result : goal.overflow_add-result
overflow_add-result c =
    let b = c.inputs.invariant.bound in
    let r = level_room c.args.marks.now c.args.cell c.requires.walked in
    let l = c.requires.marks.as_long in
    let n = c.requires.wired.numbers.cells in omega arith

pub returns : goal.returns
returns c =
    let at : slice_get c.args.flat.now.cells c.args.cell ≡ Some c.index-as_slice-cell.result = ap (λ ys. slice_get ys c.args.cell) (sym c.as_slice.ensures) ∙ read_at c.as_slice.result.now c.args.cell c.index-as_slice-cell.result (rw c.as_slice.ensures (let l = c.requires.marks.as_long in let i = c.requires.inside in omega arith)) c.index-as_slice-cell.is in (
      scanned_all c.args.flat.now c.args.drivers.now c.args.marks.now c.args.cell c.inputs.wire-index c.inputs.greatest c.index-as_slice-cell.result at
          (subst (λ ws. length ws ≤ c.inputs.wire-index) c.wires_of-wires.ensures c.inputs-test.false)
          (subst (λ ws. IsScanned c.args.flat.now c.args.drivers.now c.args.marks.now ws c.inputs.wire-index c.inputs.greatest) c.wires_of-wires.ensures c.inputs.invariant),
      (let b = c.inputs.invariant.bound in omega arith),
    )
