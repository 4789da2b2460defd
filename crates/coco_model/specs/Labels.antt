-- Labels, choices of their bits, and secrets.
use Rattle.std.specs.Prelude.{ℕ, zero, suc, ◌+◌, ◌*◌, ◌<◌, ◌≤◌, Bool, true, false, ◌&&◌, not, List, [], ◌∷◌, ◌++◌, map, flat_map, filter, length, get_or, Contains, ◌↔◌}
use Rattle.std.specs.List.{range_with_len}
use Rattle.coco_base.specs.declared.labels.SecretPlan.{SecretPlan}
use Rattle.coco_base.specs.declared.labels.MaskPlan.{MaskPlan}
use Rattle.coco_base.specs.declared.labels.LabelTable.{LabelTable}
use Rattle.coco_model.specs.Cells.{xor}
use Rattle.coco_model.specs.Netlist.{HasNoRepeat}

-- a choice: a bit of every label, by its number
abbrev pub Choice : Type 0
Choice = List Bool

abbrev pub label_bit : Choice → ℕ → Bool
label_bit choice label = get_or choice label false

-- every list of n bits, each once
abbrev pub choices : ℕ → List Choice
choices zero = [] ∷ []
choices (suc n) = map (λ (c : Choice). false ∷ c) (choices n) ++ map (λ (c : Choice). true ∷ c) (choices n)

-- the number of labels in a run of n cycles: those declared, and in each cycle those of fresh masks
abbrev pub label_count : LabelTable → ℕ → ℕ
label_count table cycles = table.declared + cycles * table.per_cycle

-- the exclusive or of bits
abbrev pub parity : List Bool → Bool
parity [] = false
parity (b ∷ bs) = xor b (parity bs)

-- the label of share i of bit k of a secret
abbrev pub share_label : SecretPlan → ℕ → ℕ → ℕ
share_label secret i k = secret.first + i * secret.width + k

-- the labels of the shares of bit k of a secret
abbrev pub share_labels : SecretPlan → ℕ → List ℕ
share_labels secret k = map (λ i. share_label secret i k) (range_with_len 0 secret.shares)

-- for each bit of each secret, the labels of its shares
abbrev pub secret_labels : List SecretPlan → List (List ℕ)
secret_labels secrets = flat_map (λ (s : SecretPlan). map (share_labels s) (range_with_len 0 s.width)) secrets

-- the labels of a mask
abbrev pub mask_labels : MaskPlan → List ℕ
mask_labels mask = range_with_len mask.first mask.width

-- the value of each secret bit under a choice: the exclusive or of its shares (Boolean masking)
abbrev pub secret_bits : LabelTable → Choice → List Bool
secret_bits table choice = map (λ (ls : List ℕ). parity (map (label_bit choice) ls)) (secret_labels table.secrets)

abbrev pub secret_bit_count : LabelTable → ℕ
secret_bit_count table = length (secret_labels table.secrets)

-- two lists of bits are the same
abbrev pub same_bits : List Bool → List Bool → Bool
same_bits [] [] = true
same_bits [] (y ∷ ys) = false
same_bits (x ∷ xs) [] = false
same_bits (x ∷ xs) (y ∷ ys) = not (xor x y) && same_bits xs ys

-- the choices whose secrets have these values; shares, masks and fresh masks are else free
abbrev pub choices_with : LabelTable → ℕ → List Bool → List Choice
choices_with table cycles secrets =
    filter (λ (c : Choice). same_bits (secret_bits table c) secrets) (choices (label_count table cycles))

-- the labels of all shares and masks, and those of the fresh masks of a cycle
abbrev pub declared_labels : LabelTable → List ℕ
declared_labels table = flat_map (λ (ls : List ℕ). ls) (secret_labels table.secrets) ++ flat_map mask_labels table.masks

abbrev pub fresh_labels : LabelTable → List ℕ
fresh_labels table = flat_map mask_labels table.fresh

-- a table that numbers labels: each label below the declared number, which is at most 4,096, is of one share or mask
-- bit, and each label of a cycle is of one bit of a fresh mask
pub record IsLabelTable (table : LabelTable) : Type 0 where
  pub wide : (s : SecretPlan) → Contains table.secrets s → 0 < s.width
  pub shared : (s : SecretPlan) → Contains table.secrets s → 0 < s.shares
  pub mask_wide : (m : MaskPlan) → Contains table.masks m → 0 < m.width
  pub few : table.declared ≤ 4096
  pub once : HasNoRepeat (declared_labels table)
  pub each : (l : ℕ) → Contains (declared_labels table) l ↔ (l < table.declared)
  pub fresh_once : HasNoRepeat (fresh_labels table)
  pub fresh_each : (l : ℕ) → Contains (fresh_labels table) l ↔ (l < table.per_cycle)
