-- Which labels have variables in a formula, and its goal: that the set of a try shows a leak.
use Rattle.std.specs.Prelude.{ℕ, suc, Bool, true, false, cond, not, ◌&&◌, nat_eq, List, [], ◌∷◌, ◌++◌, map, flat_map, filter, get_or, Contains, ◌↔◌}
use Rattle.std.specs.List.{list_any}
use Rattle.std.specs.List.Sorted.{IsStrictlyIncreasing}
use Rattle.coco_base.specs.declared.labels.LabelTable.{LabelTable}
use Rattle.coco_base.specs.declared.finding.Probe.{Probe}
use Rattle.coco_base.specs.declared.unrolled.Node.TheVariants.{Nothing}
use Rattle.coco_model.specs.Labels.{secret_labels}
use Rattle.coco_model.specs.Secure.{IsProbe, lasting}
use Rattle.coco_model.specs.Findings.{Shows}
use Rattle.coco_model.specs.Cones.{IsInCone}
use Rattle.coco_model.specs.WrittenFindings.{ProbedRun}

-- some probe of a run has a label in its cone: in that of the node of a leaf in a cycle that the probe shows
pub record IsProbedLabel (run : ProbedRun) (l : ℕ) : Type 0 where
  pub probe : Probe
  pub is_probe : IsProbe run.bits run.clock run.cycles probe
  pub moment : Probe
  pub lasts : Contains (lasting run.cycles run.window probe) moment
  pub leaf : ℕ
  pub cycle : ℕ
  pub shows : Shows run.reach moment leaf cycle
  pub member : IsInCone (λ i. get_or run.nodes i Nothing) l (run.index cycle leaf)

-- the labels in the cones of all probes, in ascending order: these have the variables 0, 1, 2 and so on
pub record AreProbedLabels (run : ProbedRun) (labels : List ℕ) : Type 0 where
  pub ascending : IsStrictlyIncreasing labels
  pub members : (l : ℕ) → Contains labels l ↔ IsProbedLabel run l

-- a label is among some
abbrev pub is_among : List ℕ → ℕ → Bool
is_among labels l = list_any (nat_eq l) labels

-- labels are all among some
abbrev pub all_among : List ℕ → List ℕ → Bool
all_among labels [] = true
all_among labels (l ∷ ls) = is_among labels l && all_among labels ls

-- the variable of a label: its place among those with variables
abbrev pub variable_of : List ℕ → ℕ → ℕ
variable_of [] l = 0
variable_of (k ∷ ks) l = cond (nat_eq k l) 0 (suc (variable_of ks l))

-- of the secret bits of a list, those whose share 0 is this label and whose shares all have variables
abbrev pub whole_with : List ℕ → List (List ℕ) → ℕ → List (List ℕ)
whole_with labels shares l = filter (λ (ls : List ℕ). all_among labels ls && nat_eq (get_or ls 0 (suc l)) l) shares

-- the secret bits whose shares all have variables, by the label of share 0
abbrev pub whole_bits : LabelTable → List ℕ → List (List ℕ)
whole_bits table labels = flat_map (whole_with labels (secret_labels table.secrets)) labels

-- a label is a share of one of these secret bits
abbrev pub is_share_of : List (List ℕ) → ℕ → Bool
is_share_of bits l = list_any (λ (ls : List ℕ). is_among ls l) bits

-- for each two successive shares, the clauses that both are in the set or none: "the first is not, or the second is"
-- and "the first is, or the second is not"; literal gives that of a label and a sign
abbrev pub same_pairs : {X : Type 0} → (ℕ → Bool → X) → List ℕ → List (List X)
same_pairs literal [] = []
same_pairs literal (k ∷ []) = []
same_pairs literal (k ∷ l ∷ ls) =
    (literal k false ∷ literal l true ∷ []) ∷ (literal k true ∷ literal l false ∷ []) ∷ same_pairs literal (l ∷ ls)

-- the goal over the labels with variables and the secret bits whose shares all have some: no other label is in the set;
-- of each of these secret bits all shares are or none; and share 0 of one of them is
abbrev pub goal_clauses : {X : Type 0} → (ℕ → Bool → X) → List ℕ → List (List ℕ) → List (List X)
goal_clauses literal labels bits =
    map (λ l. literal l false ∷ []) (filter (λ l. not (is_share_of bits l)) labels)
    ++ flat_map (same_pairs literal) bits
    ++ map (λ (ls : List ℕ). literal (get_or ls 0 0) true) bits ∷ []

-- the goal, where literal makes that of a variable and a sign
abbrev pub goal : {X : Type 0} → (ℕ → Bool → X) → LabelTable → List ℕ → List (List X)
goal literal table labels =
    goal_clauses (λ l positive. literal (variable_of labels l) positive) labels (whole_bits table labels)
