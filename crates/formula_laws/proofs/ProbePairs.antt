-- What a leaf that a probe shows is: driven by a port or a flop, not the clock, and unknown by its node.
use Rattle.std.proofs.Common.{◌≡◌, ◌≢◌, ℕ, Bool, true, false, not, ◌||◌, nat_eq, refl, sym, ◌∙◌, ap}
use Rattle.std.specs.Prelude.{Option, Some, None}
use Rattle.std.proofs.lemmas.Bool.{eqb-true, eq-eqb}
use Rattle.coco_base.specs.declared.netlist.Flat.{Flat}
use Rattle.coco_base.specs.declared.cell.Part.TheVariants.{Zero, Vary}
use Rattle.coco_base.specs.declared.unrolled.Node.{Node}
use Rattle.coco_base.specs.declared.unrolled.Node.TheVariants.{Nothing, Label, Copy, Gate}
use Rattle.coco_model.specs.Netlist.{IsCellBit, IsUndriven, HasOneDriver}
use Rattle.coco_model.specs.UnrolledRuns.{node_part}
use Rattle.model_laws.proofs.Lists.{member_of_place}
use Rattle.gate_graph.specs.declared.driver.Driver.{Driver}
use Rattle.gate_graph.specs.declared.driver.Driver.TheVariants as driver
use Rattle.gate_graph.specs.Drivers.{IsDriver}
use Rattle.gate_graph.proofs.LevelLemmas.{cell_bit}
use Rattle.gate_graph.proofs.StepLemmas.{no_cell_by}
use Rattle.probe_clauses.specs.Probings.{drives_leaf, is_clock, is_nothing}

-- ---- what drives a leaf

pub no_cell_drives : (flat : Flat) (b : ℕ) (d : Driver) → HasOneDriver flat → IsDriver flat b d → drives_leaf d ≡ true → IsCellBit flat b → ⊥
no_cell_drives flat b d one is e = no_cell_by flat one b d is (λ i f. let w : false ≡ true = ap drives_leaf (sym f) ∙ e in cc)

pub leaf_drives : (flat : Flat) (b : ℕ) (d : Driver) → IsDriver flat b d → (IsCellBit flat b → ⊥) → (IsUndriven flat b → ⊥) → drives_leaf d ≡ true
leaf_drives flat b (driver.Port number) is no_cell driven = refl
leaf_drives flat b (driver.Flop number) is no_cell driven = refl
leaf_drives flat b (driver.Cell number) is no_cell driven =
    absurd (no_cell (cell_bit flat is.cell b (member_of_place flat.cells number is.cell is.at) is.drives))
leaf_drives flat b driver.Nothing is no_cell driven = absurd (driven is)

-- ---- the clock

pub can_of : (clock : Option ℕ) (b : ℕ) → clock ≢ Some b → not (is_clock clock b) ≡ true
can_of None b other = refl
can_of (Some c) b other = go (nat_eq c b) refl
  where
    go : (v : Bool) → nat_eq c b ≡ v → not v ≡ true
    go true e = absurd (other (ap Some (eqb-true c b e)))
    go false e = refl

pub no_clock_of : (clock : Option ℕ) (b : ℕ) → not (is_clock clock b) ≡ true → clock ≢ Some b
no_clock_of None b can e = absurd cc
no_clock_of (Some c) b can e =
    let same : c ≡ b = cc in
    let is : not true ≡ true = ap not (sym (eq-eqb c b same)) ∙ can in
    let w : false ≡ true = is in cc

-- ---- what a node tells

pub unknown_of : (node : Node) → is_nothing node ≡ false → node_part node ≡ Vary
unknown_of Nothing e = absurd (let w : true ≡ false = e in cc)
unknown_of (Label l) e = refl
unknown_of (Copy i) e = refl
unknown_of (Gate kind parts operands) e = refl

pub known_not : (node : Node) → node_part node ≡ Vary → is_nothing node ≡ false
known_not Nothing e = absurd (let w : Zero ≡ Vary = e in cc)
known_not (Label l) e = refl
known_not (Copy i) e = refl
known_not (Gate kind parts operands) e = refl

-- ---- tests

pub not_false : (v : Bool) → not v ≡ true → v ≡ false
not_false true e = absurd (let w : false ≡ true = e in cc)
not_false false e = refl

pub or_left : (x y : Bool) → x ≡ true → (x || y) ≡ true
or_left true y e = refl
or_left false y e = absurd (let w : false ≡ true = e in cc)

pub or_right : (x y : Bool) → y ≡ true → (x || y) ≡ true
or_right true y e = refl
or_right false y e = e
