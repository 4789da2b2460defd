-- one element more
use Rattle.std.proofs.Common.{◌≡◌, ◌∷◌, ◌+◌, ◌<◌, ◌∙◌, Ok, false, add-one, ap, drop, get_or, length, sym}
use Rattle.std.proofs.Math.Seq.{drop-cons}
use Rattle.netlist_json.specs.Elements.{element_of, elements_of, is_scope}
use Rattle.netlist_json.specs.declared.source.SourceCell.{SourceCell}
use Rattle.netlist_json.proofs.OneMore.{elements_more}
use Rattle.netlist_json.proofs.elements.elements.Goals as goal

pub cells-preserved : goal.cells-preserved
cells-preserved c =
    let cells = c.args.cells.now in
    let index = c.cells.cell-index in
    let cell = c.cell-item.result in
    let within : index < length cells = c.cells-test.true in
    let cons : drop index cells ≡ get_or cells index cell ∷ drop (index + 1) cells = rw add-one (drop-cons cells index cell within) in
    let left : drop index cells ≡ cell ∷ drop (index + 1) cells = cons ∙ ap (λ (x : SourceCell). x ∷ drop (index + 1) cells) (sym c.cell-item.is) in
    let part : is_scope cell ≡ false = sym c.is_scope.ensures ∙ c.if-is_scope.false in
    rw c.in_ok-push.ensures.ok
    (elements_more c.cells.all cell (drop (index + 1) cells) c.in_ok-element.field-0 (elements_of cells) (rw left at c.cells.invariant) part c.in_ok-element.ensures)
