-- Sets of labels by shares of secret bits: members that are shares, and bits of which a set has all shares or none.
use Rattle.std.specs.Prelude.{◌≡◌, ℕ, ◌^◌, ◌<◌, List, Contains}
use Rattle.coco_base.specs.declared.labels.SecretPlan.{SecretPlan}
use Rattle.coco_model.specs.Labels.{share_label}
use Rattle.coco_model.specs.Findings.{Labels}

-- a label is a share of a bit of a secret
pub record IsShareOf (secret : SecretPlan) (label : ℕ) : Type 0 where
  pub share : ℕ
  pub bit : ℕ
  pub share_below : share < secret.shares
  pub bit_below : bit < secret.width
  pub is : label ≡ share_label secret share bit

-- a label is a share of a bit of one of the secrets
pub record IsSomeShare (secrets : List SecretPlan) (label : ℕ) : Type 0 where
  pub secret : SecretPlan
  pub listed : Contains secrets secret
  pub share_of : IsShareOf secret label

-- each label of a list is a share
abbrev pub AllShares : List SecretPlan → List ℕ → Type 0
AllShares secrets labels = (l : ℕ) → Contains labels l → IsSomeShare secrets l

-- a set has all shares of a bit of a secret, or none
abbrev pub AreBitAlike : SecretPlan → Labels → ℕ → Type 0
AreBitAlike secret labels bit =
    (share : ℕ) → share < secret.shares → labels (share_label secret share bit) ≡ labels (share_label secret 0 bit)

-- a set has all shares or none of each bit of a secret
abbrev pub AllAlike : SecretPlan → Labels → Type 0
AllAlike secret labels = (bit : ℕ) → bit < secret.width → AreBitAlike secret labels bit

-- a set has all shares or none of each bit of each secret
abbrev pub AllOrNone : List SecretPlan → Labels → Type 0
AllOrNone secrets labels = (s : SecretPlan) → Contains secrets s → AllAlike s labels

-- a secret has shares, and their labels are 32-bit numbers
pub record FitsLabels (secret : SecretPlan) : Type 0 where
  pub shared : 0 < secret.shares
  pub small : (share bit : ℕ) → share < secret.shares → bit < secret.width → share_label secret share bit < 2 ^ 32
