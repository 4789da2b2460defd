use Rattle.std.proofs.Common.{◌≡◌, false, List, [], ◌∷◌, map, length, get_or, arith}
use Rattle.coco_base.specs.declared.cell.Part.{Part}
use Rattle.coco_base.specs.declared.netlist.Wire.{Wire}
use Rattle.coco_base.specs.declared.netlist.Wire.TheVariants.{Const}
use Rattle.coco_model.specs.Known.{wire_part}
use Rattle.calm_reach.specs.CalmRows.{row_of}
use Rattle.calm_reach.proofs.wires.wire_parts.Goals as goal

four : (f : Wire → Part) (ws : List Wire) → length ws ≡ 4
    → f (get_or ws 0 (Const false)) ∷ f (get_or ws 1 (Const false)) ∷ f (get_or ws 2 (Const false)) ∷ f (get_or ws 3 (Const false)) ∷ [] ≡ map f ws
four f [] e = absurd (omega arith)
four f (a ∷ []) e = absurd (omega arith)
four f (a ∷ b ∷ []) e = absurd (omega arith)
four f (a ∷ b ∷ c ∷ []) e = absurd (omega arith)
four f (a ∷ b ∷ c ∷ d ∷ []) e = cc
four f (a ∷ b ∷ c ∷ d ∷ x ∷ xs) e = absurd (omega arith)

pub returns-clause-parts : goal.returns-clause-parts
returns-clause-parts c =
    rw (c.wire_part.ensures, c.wire_part-2.ensures, c.wire_part-3.ensures, c.wire_part-4.ensures)
    (four (wire_part (row_of c.args.row.now)) c.args.wires.now c.requires)
