-- The names of labels.
use Rattle.std.specs.Prelude.{ℕ, ◌+◌, ◌-◌, ◌*◌, ◌/◌, ◌%◌, ◌&&◌, ◌++◌, Bool, List, [], flat_map, find, Option, Some, None, nat_le, nat_lt, codes, if◌then◌else◌}
use Rattle.std.specs.Fmt.{decimal}
use Rattle.coco_base.specs.declared.labels.LabelTable.{LabelTable}
use Rattle.coco_base.specs.declared.labels.MaskPlan.{MaskPlan}
use Rattle.coco_base.specs.declared.labels.SecretPlan.{SecretPlan}
use Rattle.leak_report.specs.Texts.{Text, printed}

-- one of `count` labels from `first` on
abbrev pub is_among : ℕ → ℕ → ℕ → Bool
is_among first count label = nat_le first label && nat_lt label (first + count)

-- `[K]` for bit K
abbrev pub bit_text : ℕ → Text
bit_text k = codes "[" ++ decimal k ++ codes "]"

-- `NAME.I[K]` for the label of share I of bit K of a secret
abbrev pub share_text : SecretPlan → ℕ → Text
share_text s label =
    printed s.name ++ codes "." ++ decimal ((label - s.first) / s.width) ++ bit_text ((label - s.first) % s.width)

-- `NAME[K]` for the label of bit K of a mask
abbrev pub mask_text : MaskPlan → ℕ → Text
mask_text m label = printed m.name ++ bit_text (label - m.first)

-- `NAME@T[K]` for the label of bit K of a fresh mask in cycle T
abbrev pub fresh_text : MaskPlan → ℕ → ℕ → Text
fresh_text m cycle place = printed m.name ++ codes "@" ++ decimal cycle ++ bit_text (place - m.first)

abbrev pub is_share : ℕ → SecretPlan → Bool
is_share label s = is_among s.first (s.shares * s.width) label

abbrev pub is_mask_bit : ℕ → MaskPlan → Bool
is_mask_bit label m = is_among m.first m.width label

-- a label that belongs to nothing has no name; a table that numbers its labels has none such
abbrev pub mask_or_none : Option MaskPlan → ℕ → Text
mask_or_none None label = []
mask_or_none (Some m) label = mask_text m label

abbrev pub share_or_mask : LabelTable → Option SecretPlan → ℕ → Text
share_or_mask table None label = mask_or_none (find (is_mask_bit label) table.masks) label
share_or_mask table (Some s) label = share_text s label

abbrev pub declared_text : LabelTable → ℕ → Text
declared_text table label = share_or_mask table (find (is_share label) table.secrets) label

abbrev pub fresh_or_none : Option MaskPlan → ℕ → ℕ → Text
fresh_or_none None cycle place = []
fresh_or_none (Some m) cycle place = fresh_text m cycle place

-- the labels of fresh masks follow the declared ones, cycle by cycle; `later` counts from the first of them
abbrev pub later_text : LabelTable → ℕ → Text
later_text table later =
    fresh_or_none (find (is_mask_bit (later % table.per_cycle)) table.fresh) (later / table.per_cycle) (later % table.per_cycle)

abbrev pub label_text : LabelTable → ℕ → Text
label_text table label = if nat_lt label table.declared then declared_text table label else later_text table (label - table.declared)

abbrev pub spaced_label : LabelTable → ℕ → Text
spaced_label table label = codes " " ++ label_text table label

-- a set of labels, each after a space
abbrev pub set_line : LabelTable → List ℕ → Text
set_line table labels = codes "set" ++ flat_map (spaced_label table) labels ++ codes "\n"
