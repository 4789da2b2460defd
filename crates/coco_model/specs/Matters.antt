-- Which nodes matter for a finding, and the choice of a node that does not.
use Rattle.std.specs.Prelude.{◌≡◌, ℕ, suc, ◌+◌, ◌*◌, ◌<◌, Bool, true, cond, List, [], ◌∷◌, get_or, length, ◌↔◌}
use Rattle.coco_base.specs.declared.cell.Kind.{Kind}
use Rattle.coco_base.specs.declared.cell.Part.{Part}
use Rattle.coco_base.specs.declared.cell.Part.TheVariants.{Zero, Vary}
use Rattle.coco_base.specs.declared.finding.Probe.{Probe}
use Rattle.coco_base.specs.declared.unrolled.Node.{Node}
use Rattle.coco_base.specs.declared.unrolled.Node.TheVariants.{Nothing, Label, Copy, Gate}
use Rattle.coco_model.specs.Cells.{input_places}
use Rattle.coco_model.specs.Findings.{Labels}
use Rattle.coco_model.specs.Nodes.{IsAllowedChoice}
use Rattle.coco_model.specs.WrittenFindings.{ProbedRun, IsTry, IsLeakingSet, set_of_nodes}

-- a node matters: it is a label, or a gate to which a copy leads or that is an operand of a gate that matters
pub data Matters (nodes : ℕ → Node) : ℕ → Type 0 where
  labelled : (i l : ℕ) → nodes i ≡ Label l → Matters nodes i
  copied : (i j : ℕ) (kind : Kind) (parts : List Part) (operands : List ℕ) → nodes i ≡ Gate kind parts operands
      → nodes j ≡ Copy i → Matters nodes i
  read : (i j place : ℕ) (kind other : Kind) (parts others : List Part) (operands reads : List ℕ)
      → nodes i ≡ Gate kind parts operands → nodes j ≡ Gate other others reads → Matters nodes j
      → get_or (input_places other others) place Zero ≡ Vary → get_or reads place 0 ≡ i → Matters nodes i

-- which of the nodes of a list matter
pub record AreMattering (nodes : List Node) (matters : ℕ → Bool) : Type 0 where
  pub each : (i : ℕ) → i < length nodes → (matters i ≡ true) ↔ Matters (λ j. get_or nodes j Nothing) i

-- the cone sizes of the nodes that matter, from node i on
abbrev pub mattering_weight : (ℕ → Bool) → (ℕ → List ℕ) → ℕ → List Node → ℕ
mattering_weight matters cones i [] = 0
mattering_weight matters cones i (n ∷ ns) =
    cond (matters i) (length (cones i)) 0 + mattering_weight matters cones (suc i) ns

-- the need of a run: its weight without the nodes that do not matter
abbrev pub run_need : ℕ → ℕ → ℕ → List Node → (ℕ → Bool) → (ℕ → List ℕ) → ℕ
run_need bits cycles order nodes matters cones = bits * cycles * (order + 1) + mattering_weight matters cones 0 nodes

-- the least number that is a choice for a node
pub record IsLeastChoice (number : ℕ) (node : Node) : Type 0 where
  pub allowed : IsAllowedChoice number node
  pub least : (other : ℕ) → other < number → IsAllowedChoice other node → ⊥

-- each node that does not matter has its least choice; for a node that is no gate that is 0
pub record AreLeastElsewhere (nodes : List Node) (numbers : List ℕ) : Type 0 where
  pub each : (i : ℕ) → i < length nodes → (Matters (λ j. get_or nodes j Nothing) i → ⊥)
      → IsLeastChoice (get_or numbers i 0) (get_or nodes i Nothing)

-- a try that is free at nodes that matter alone: each other node has its least choice
pub record IsNeededTry (run : ProbedRun) (d : ℕ) (probes pairs : List Probe) (numbers : List ℕ)
    (sets : ℕ → Labels) : Type 0 where
  pub is_try : IsTry run d probes pairs numbers sets
  pub elsewhere : AreLeastElsewhere run.nodes numbers

-- such a try exists whose set shows a leak
pub record HasNeededTry (run : ProbedRun) (d : ℕ) : Type 0 where
  pub probes : List Probe
  pub pairs : List Probe
  pub numbers : List ℕ
  pub sets : ℕ → Labels
  pub is_try : IsNeededTry run d probes pairs numbers sets
  pub leaks : IsLeakingSet run.table (set_of_nodes run.index sets pairs)
