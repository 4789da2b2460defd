-- What cells compute and force, by what they read.
use Rattle.std.proofs.Common.{◌≡◌, ℕ, Bool, true, false, List, [], ◌∷◌, map, refl, sym, ◌∙◌, ap, subst}
use Rattle.std.specs.Prelude.{Contains}
use Rattle.coco_base.specs.declared.cell.Kind.{Kind}
use Rattle.coco_base.specs.declared.cell.Part.{Part}
use Rattle.coco_base.specs.declared.cell.Part.TheVariants.{Zero, One, Vary}
use Rattle.coco_base.specs.declared.netlist.Flat.{Flat}
use Rattle.coco_base.specs.declared.netlist.FlatCell.{FlatCell}
use Rattle.coco_base.specs.declared.netlist.Wire.{Wire}
use Rattle.coco_base.specs.declared.netlist.Wire.TheVariants.{Const, Bit}
use Rattle.coco_model.specs.Cells.{output_of, Allows, AllowsAll, IsForced}
use Rattle.coco_model.specs.Netlist.{wires_of, on_wire, Valuation, wire_value, IsSettled, IsRanked, IsCellBit}
use Rattle.coco_model.specs.Known.{Row, part_of, wire_part, cell_parts, IsForcedRow}
use Rattle.coco_model.proofs.Basics.{Contains-here, Contains-later}
use Rattle.model_laws.proofs.Ranks.{by_rank}

-- wires have the same where their bits have the same
pub on_wires-cong : {X : Type 0} (constant : Bool → X) (s t : ℕ → X) (ws : List Wire) → ((b : ℕ) → Contains ws (Bit b) → s b ≡ t b)
    → map (on_wire constant s) ws ≡ map (on_wire constant t) ws
on_wires-cong constant s t [] same = refl
on_wires-cong constant s t (Const b ∷ ws) same =
    ap (λ rest. constant b ∷ rest) (on_wires-cong constant s t ws (λ a h. same a (Contains-later (Const b) (Bit a) ws h)))
on_wires-cong constant s t (Bit n ∷ ws) same =
    let head : s n ≡ t n = same n (Contains-here (Bit n) ws) in
    let tail : map (on_wire constant s) ws ≡ map (on_wire constant t) ws =
    on_wires-cong constant s t ws (λ a h. same a (Contains-later (Bit n) (Bit a) ws h)) in
    cc

pub one_settled : (flat : Flat) (rank : ℕ → ℕ) (v w : Valuation) → IsRanked flat rank → IsSettled flat v → IsSettled flat w
    → ((b : ℕ) → (IsCellBit flat b → ⊥) → v b ≡ w b) → (b : ℕ) → v b ≡ w b
one_settled flat rank v w ranked settled other leaves = by_rank flat rank (λ b. v b ≡ w b) ranked leaves (record { cells = cells })
  where
    cells : (c : FlatCell) → Contains flat.cells c → ((b : ℕ) → Contains (wires_of c) (Bit b) → v b ≡ w b) → v c.output ≡ w c.output
    cells c h same = settled.cells c h ∙ ap (output_of c.kind) (on_wires-cong (λ b. b) v w (wires_of c) same) ∙ sym (other.cells c h)

-- parts allow some input values
pub record HasInputs (ps : List Part) : Type 0 where
  pub inputs : List Bool
  pub allowed : AllowsAll ps inputs

pub some_inputs : (ps : List Part) → HasInputs ps
some_inputs [] = record { inputs = []; allowed = tt }
some_inputs (Zero ∷ ps) = let r = some_inputs ps in record { inputs = false ∷ r.inputs; allowed = (refl, r.allowed) }
some_inputs (One ∷ ps) = let r = some_inputs ps in record { inputs = true ∷ r.inputs; allowed = (refl, r.allowed) }
some_inputs (Vary ∷ ps) = let r = some_inputs ps in record { inputs = false ∷ r.inputs; allowed = (tt, r.allowed) }

-- at most one part is forced
pub one_forced : (kind : Kind) (ps : List Part) (p q : Part) → IsForced kind ps p → IsForced kind ps q → p ≡ q
one_forced kind ps Zero Zero f g = refl
one_forced kind ps One One f g = refl
one_forced kind ps Vary Vary f g = refl
one_forced kind ps Zero Vary f g = absurd (g.0 f)
one_forced kind ps One Vary f g = absurd (g.1 f)
one_forced kind ps Vary Zero f g = absurd (f.0 g)
one_forced kind ps Vary One f g = absurd (f.1 g)
one_forced kind ps Zero One f g = absurd (let r = some_inputs ps in let a = f r.inputs r.allowed in let b = g r.inputs r.allowed in cc)
one_forced kind ps One Zero f g = absurd (let r = some_inputs ps in let a = f r.inputs r.allowed in let b = g r.inputs r.allowed in cc)

pub one_forced_row : (flat : Flat) (rank : ℕ → ℕ) (p q : Row) → IsRanked flat rank → IsForcedRow flat p → IsForcedRow flat q
    → ((b : ℕ) → (IsCellBit flat b → ⊥) → p b ≡ q b) → (b : ℕ) → p b ≡ q b
one_forced_row flat rank p q ranked forced other leaves = by_rank flat rank (λ b. p b ≡ q b) ranked leaves (record { cells = cells })
  where
    cells : (c : FlatCell) → Contains flat.cells c → ((b : ℕ) → Contains (wires_of c) (Bit b) → p b ≡ q b) → p c.output ≡ q c.output
    cells c h same = one_forced c.kind (cell_parts p c) (p c.output) (q c.output) (forced.cells c h)
        (subst (λ ps. IsForced c.kind ps (q c.output)) (sym (on_wires-cong part_of p q (wires_of c) same)) (other.cells c h))

-- what is forced allows what is computed
pub forced-allows : (kind : Kind) (ps : List Part) (p : Part) (inputs : List Bool) → IsForced kind ps p → AllowsAll ps inputs
    → Allows p (output_of kind inputs)
forced-allows kind ps Zero inputs f allowed = f inputs allowed
forced-allows kind ps One inputs f allowed = f inputs allowed
forced-allows kind ps Vary inputs f allowed = tt

pub part_of-allows : (b : Bool) → Allows (part_of b) b
part_of-allows false = refl
part_of-allows true = refl

pub wires-allow : (row : Row) (v : Valuation) (ws : List Wire) → ((b : ℕ) → Contains ws (Bit b) → Allows (row b) (v b))
    → AllowsAll (map (wire_part row) ws) (map (wire_value v) ws)
wires-allow row v [] allows = tt
wires-allow row v (Const b ∷ ws) allows = (part_of-allows b, wires-allow row v ws (λ a h. allows a (Contains-later (Const b) (Bit a) ws h)))
wires-allow row v (Bit n ∷ ws) allows =
    (allows n (Contains-here (Bit n) ws), wires-allow row v ws (λ a h. allows a (Contains-later (Bit n) (Bit a) ws h)))

pub wire-allows : (row : Row) (v : Valuation) (w : Wire) → ((b : ℕ) → Allows (row b) (v b)) → Allows (wire_part row w) (wire_value v w)
wire-allows row v (Const b) allows = part_of-allows b
wire-allows row v (Bit n) allows = allows n

-- a forced row allows a settled valuation where it allows the leaves
pub row-allows : (flat : Flat) (rank : ℕ → ℕ) (row : Row) (v : Valuation) → IsRanked flat rank → IsForcedRow flat row → IsSettled flat v
    → ((b : ℕ) → (IsCellBit flat b → ⊥) → Allows (row b) (v b)) → (b : ℕ) → Allows (row b) (v b)
row-allows flat rank row v ranked forced settled leaves =
    by_rank flat rank (λ b. Allows (row b) (v b)) ranked leaves (record { cells = cells })
  where
    cells : (c : FlatCell) → Contains flat.cells c → ((b : ℕ) → Contains (wires_of c) (Bit b) → Allows (row b) (v b))
        → Allows (row c.output) (v c.output)
    cells c h allows = subst (Allows (row c.output)) (sym (settled.cells c h))
        (forced-allows c.kind (cell_parts row c) (row c.output) (map (wire_value v) (wires_of c)) (forced.cells c h) (wires-allow row v (wires_of c) allows))
