-- One element more, behind those of the cells before.
use Rattle.std.proofs.Common.{◌≡◌, ◌∙◌, List, [], ◌∷◌, ◌++◌, false, Result, Ok}
use Rattle.netlist_json.specs.Elements.{element_of, elements_of, is_scope}
use Rattle.netlist_json.specs.declared.element.Element.{Element}
use Rattle.netlist_json.specs.declared.fault.NetFault.{NetFault}
use Rattle.netlist_json.specs.declared.source.SourceCell.{SourceCell}
use Rattle.netlist_json.proofs.Faults.{with_front, with_front-cons}

pub elements_more : (front : List Element) (cell : SourceCell) (cells : List SourceCell) (e : Element) (all : Result (List Element) NetFault) →
    with_front front (elements_of (cell ∷ cells)) ≡ all → is_scope cell ≡ false → element_of cell ≡ Ok e →
    with_front (front ++ e ∷ []) (elements_of cells) ≡ all
elements_more front cell cells e all before part read = with_front-cons front e (elements_of cells) ∙ (rw (part, read) at before)
