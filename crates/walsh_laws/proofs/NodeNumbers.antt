-- Numbers that choose the sets of nodes.
use Rattle.std.proofs.Common.{◌≡◌, ◌≢◌, ℕ, ◌+◌, ◌*◌, ◌^◌, ◌/◌, ◌<◌, Bool, true, false, cond, List, [], ◌∷◌, length, refl, sym, ◌∙◌, ap, subst, arith, nat_eq, lit≤, pow-suc}
use Rattle.std.proofs.lemmas.Nat.{div-mul-add, mod-mul-add}
use Rattle.coco_base.specs.declared.cell.Kind.{Kind}
use Rattle.coco_base.specs.declared.cell.Part.{Part}
use Rattle.coco_base.specs.declared.unrolled.Node.{Node}
use Rattle.coco_base.specs.declared.unrolled.Node.TheVariants.{Nothing, Label, Copy, Gate}
use Rattle.coco_model.specs.Cells.{input_count, input_places, Subset, subset_of_number}
use Rattle.coco_model.specs.Findings.{Labels, chosen_set}
use Rattle.coco_model.specs.Nodes.{IsGateChoice, IsNodeSet, IsAllowedChoice, node_set}
use Rattle.cell_table.proofs.Sums.{length-input_places}

-- the number whose bits are a subset
abbrev pub number_of_subset : Subset → ℕ
number_of_subset [] = 0
number_of_subset (s ∷ ss) = number_of_subset ss * 2 + cond s 1 0

bit_below : (s : Bool) → cond s 1 0 < 2
bit_below true = lit≤ tt
bit_below false = lit≤ tt

bit_is : (s : Bool) → nat_eq (cond s 1 0) 1 ≡ s
bit_is true = refl
bit_is false = refl

pub subset-number : (ss : Subset) → subset_of_number (length ss) (number_of_subset ss) ≡ ss
subset-number [] = refl
subset-number (s ∷ ss) =
    ap (λ b. nat_eq b 1 ∷ subset_of_number (length ss) ((number_of_subset ss * 2 + cond s 1 0) / 2))
    (mod-mul-add (number_of_subset ss) 2 (cond s 1 0) (bit_below s))
    ∙ ap (λ n. nat_eq (cond s 1 0) 1 ∷ subset_of_number (length ss) n) (div-mul-add (number_of_subset ss) 2 (cond s 1 0) (bit_below s))
    ∙ ap (λ b. b ∷ subset_of_number (length ss) (number_of_subset ss)) (bit_is s) ∙ ap (λ rest. s ∷ rest) (subset-number ss)

pub number-below : (ss : Subset) → number_of_subset ss < 2 ^ length ss
number-below [] = lit≤ tt
number-below (s ∷ ss) = rw (pow-suc 2 (length ss)) (let e = number-below ss in let b = bit_below s in omega arith)

-- a number for the set of a node, which is 0 where the node is no gate
pub record IsNumberFor (sets : ℕ → Labels) (i : ℕ) (node : Node) : Type 0 where
  pub number : ℕ
  pub allowed : IsAllowedChoice number node
  pub follows : (l : ℕ) → sets i l ≡ node_set sets number node l
  pub elsewhere : ((kind : Kind) (parts : List Part) (operands : List ℕ) → node ≢ Gate kind parts operands) → number ≡ 0

pub number_for : (sets : ℕ → Labels) (i : ℕ) (node : Node)
    → ((kind : Kind) (parts : List Part) (operands : List ℕ) → node ≡ Gate kind parts operands → length parts ≡ 4)
    → IsNodeSet sets i node → IsNumberFor sets i node
number_for sets i Nothing four set = record { number = 0; allowed = tt; follows = set; elsewhere = λ n. refl }
number_for sets i (Label k) four set = record { number = 0; allowed = tt; follows = set; elsewhere = λ n. refl }
number_for sets i (Copy j) four set = record { number = 0; allowed = tt; follows = set; elsewhere = λ n. refl }
number_for sets i (Gate kind parts operands) four set = record {
  number = number_of_subset set.subset;
  allowed = (
    subst (λ n. number_of_subset set.subset < 2 ^ n) as_many (number-below set.subset),
    subst (IsGateChoice kind parts) (sym same)
        set.choice,
  );
  follows = λ l. set.set l ∙ ap (λ ss. chosen_set sets ss (input_places kind operands) l) (sym same);
  elsewhere = λ n. absurd (n kind parts operands refl);
}
  where
    as_many : length set.subset ≡ input_count kind
    as_many = set.choice.varies.as_long ∙ length-input_places kind parts (four kind parts operands refl)

    same : subset_of_number (input_count kind) (number_of_subset set.subset) ≡ set.subset
    same = ap (λ n. subset_of_number n (number_of_subset set.subset)) (sym as_many) ∙ subset-number set.subset

-- and back
pub node_set_by : (sets : ℕ → Labels) (i number : ℕ) (node : Node) → IsAllowedChoice number node
    → ((l : ℕ) → sets i l ≡ node_set sets number node l) → IsNodeSet sets i node
node_set_by sets i number Nothing allowed follows = follows
node_set_by sets i number (Label k) allowed follows = follows
node_set_by sets i number (Copy j) allowed follows = follows
node_set_by sets i number (Gate kind parts operands) allowed follows =
    record { subset = subset_of_number (input_count kind) number; choice = allowed.1; set = follows }
