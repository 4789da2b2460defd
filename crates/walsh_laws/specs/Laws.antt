-- The laws of correlation and of counts, as facts that contracts name.
use Rattle.std.specs.Prelude.{List, length, filter, map, Contains, ◌≡◌, ◌≢◌, ℕ, ◌<◌, ◌≤◌, Bool, true, false, pos}
use Rattle.coco_base.specs.declared.labels.LabelTable.{LabelTable}
use Rattle.coco_base.specs.declared.unrolled.Node.{Node}
use Rattle.coco_base.specs.declared.unrolled.Node.TheVariants.{Nothing}
use Rattle.coco_model.specs.Cells.{xor, sign_total}
use Rattle.coco_model.specs.Labels.{Choice, choices, label_bit, label_count, choices_with, secret_bit_count, same_bits, IsLabelTable}
use Rattle.coco_model.specs.Findings.{Labels, IsWhole}
use Rattle.coco_model.specs.Nodes.{IsNodeSet}
use Rattle.walsh_laws.specs.Sums.{parity_below}
use Rattle.walsh_laws.specs.NodeValues.{AreNodeValues}

-- whether a set of nodes and a set of labels have together an odd number of ones under a choice
abbrev pub is_odd : ℕ → (ℕ → Bool) → ℕ → Labels → (Choice → ℕ → Bool) → Choice → Bool
is_odd n members label_number labels value choice = xor (parity_below n members (value choice))
    (parity_below label_number labels (label_bit choice))

-- a selection of sets for nodes by which a set of labels is the symmetric difference of the sets of some nodes
pub record IsSelected (n : ℕ) (nodes : ℕ → Node) (members : ℕ → Bool) (labels : Labels) : Type 0 where
  pub sets : ℕ → Labels
  pub selection : (i : ℕ) → i < n → IsNodeSet sets i (nodes i)
  pub difference : (l : ℕ) → labels l ≡ parity_below n members (λ i. sets i l)

-- correlation: where the values of some nodes correlate with the bits of some labels, so that the sum over all
-- choices of -1 to the power of their ones is not 0, some selection has these labels as the symmetric difference of
-- the nodes' sets
unfoldable pub CorrelationLaw : Type 0
CorrelationLaw =
    (n : ℕ) (nodes : ℕ → Node) (label_number : ℕ) (value : Choice → ℕ → Bool) → AreNodeValues n nodes label_number value
    → (members : ℕ → Bool) (labels : Labels) → ((l : ℕ) → label_number ≤ l → labels l ≡ false)
    → sign_total (is_odd n members label_number labels value) (choices label_number) ≢ pos 0
    → IsSelected n nodes members labels

-- a set of nodes, all shown and none of them nothing
pub record IsShownSet (shown : List ℕ) (nodes : ℕ → Node) (members : ℕ → Bool) : Type 0 where
  pub shown_nodes : (i : ℕ) → members i ≡ true → Contains shown i
  pub unknown : (i : ℕ) → members i ≡ true → nodes i ≢ Nothing

-- no set of shown nodes correlates with the labels of secret bits: with a set of labels that is not empty and has all
-- shares or none of each secret bit, and nothing else
pub record IsUncorrelated (table : LabelTable) (cycles n : ℕ) (nodes : ℕ → Node) (value : Choice → ℕ → Bool)
    (shown : List ℕ) : Type 0 where
  pub each : (members : ℕ → Bool) → IsShownSet shown nodes members → (labels : Labels) → IsWhole table labels
      → (l : ℕ) → labels l ≡ true
      → sign_total (is_odd n members (label_count table cycles) labels value) (choices (label_count table cycles))
      ≡ pos 0

-- how many choices with these secrets give these values to nodes
abbrev pub count_with_values : LabelTable → ℕ → (Choice → ℕ → Bool) → List ℕ → List Bool → List Bool → ℕ
count_with_values table cycles value shown secrets seen = length
    (filter (λ (c : Choice). same_bits (map (value c) shown) seen) (choices_with table cycles secrets))

-- counting: where no set of shown nodes correlates with secret bits, equally many choices give the nodes any values,
-- whatever the secrets are
unfoldable pub CountingLaw : Type 0
CountingLaw =
    (table : LabelTable) (cycles : ℕ) → IsLabelTable table
    → (n : ℕ) (nodes : ℕ → Node) (value : Choice → ℕ → Bool) → AreNodeValues n nodes (label_count table cycles) value
    → (shown : List ℕ) → ((i : ℕ) → Contains shown i → i < n) → IsUncorrelated table cycles n nodes value shown
    → (secrets others : List Bool) → length secrets ≡ secret_bit_count table → length others ≡ secret_bit_count table
    → (seen : List Bool)
    → count_with_values table cycles value shown secrets seen ≡ count_with_values table cycles value shown others seen
