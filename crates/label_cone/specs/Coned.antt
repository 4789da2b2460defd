-- The cones of an unrolled run, which nodes matter, and the need: what contracts see, and what it is.
use Rattle.std.specs.Prelude.{◌≡◌, ℕ, ◌≤◌, Bool, false, List, length, get_or}
use Rattle.coco_base.specs.declared.unrolled.Unrolled.{Unrolled}
use Rattle.coco_model.specs.Cones.{AreCones, run_weight, IsFirstSumAbove}
use Rattle.coco_model.specs.Matters.{AreMattering, run_need}
use Rattle.label_cone.specs.NodeCones.{cone_at, cones_in}
use Rattle.label_cone.specs.declared.fault.ConeFault.{ConeFault}
use Rattle.label_cone.specs.declared.fault.ConeFault.TheVariants.{TooLarge, Memory}

pub record Coned : Type 0 where
  pub cones : List (List ℕ)
  pub matters : List Bool
  pub need : ℕ

-- what contracts see, from the parts
abbrev pub coned_of : List (List ℕ) → List ℕ → List Bool → ℕ → Coned
coned_of sets places marks need = record { cones = cones_in sets places; matters = marks; need = need }

abbrev pub mark_at : List Bool → ℕ → Bool
mark_at marks i = get_or marks i false

-- the cones of an unrolled run, the nodes that matter, and the need at an order
pub record IsConedRun (u : Unrolled) (order : ℕ) (coned : Coned) : Type 0 where
  pub as_long : length coned.cones ≡ length u.nodes
  pub cones : AreCones u.nodes (cone_at coned.cones)
  pub marks_long : length coned.matters ≡ length u.nodes
  pub matters : AreMattering u.nodes (mark_at coned.matters)
  pub need : coned.need ≡ run_need u.bits u.cycles order u.nodes (mark_at coned.matters) (cone_at coned.cones)

-- the weight of an unrolled run at an order is within a limit
abbrev pub IsWithinWeight : Unrolled → ℕ → ℕ → Coned → Type 0
IsWithinWeight u order limit coned = run_weight u.bits u.cycles order u.nodes (cone_at coned.cones) ≤ limit

-- the first sum above a limit, over the cones of an unrolled run
pub record HasSumAbove (u : Unrolled) (order limit count : ℕ) : Type 0 where
  pub cones : ℕ → List ℕ
  pub are_cones : AreCones u.nodes cones
  pub sum : IsFirstSumAbove u.bits u.cycles order u.nodes cones limit count

-- the weight is above a limit, and the first sum that is tells by how much; want of memory says nothing
abbrev pub IsTooLarge : Unrolled → ℕ → ℕ → ConeFault → Type 0
IsTooLarge u order limit (TooLarge count at) = (at ≡ limit) × HasSumAbove u order limit count
IsTooLarge u order limit Memory = Unit {0}
