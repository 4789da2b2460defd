-- The labels of a table's secrets are small.
use Rattle.std.proofs.Common.{◌≡◌, ℕ, zero, suc, ◌+◌, ◌<◌, ◌^◌, List, [], ◌∷◌, map, length, get_or, subst, arith}
use Rattle.std.specs.Prelude.{Contains, flat_map}
use Rattle.std.specs.List.{range_with_len}
use Rattle.std.proofs.lemmas.List.Elements.{Contains-append_left}
use Rattle.coco_base.specs.declared.labels.SecretPlan.{SecretPlan}
use Rattle.coco_base.specs.declared.labels.LabelTable.{LabelTable}
use Rattle.coco_model.specs.Labels.{share_label, share_labels, secret_labels, mask_labels, declared_labels, IsLabelTable}
use Rattle.coco_model.proofs.Basics.{Contains-here, Contains-later}
use Rattle.model_laws.proofs.Lists.{Contains-map, Contains-flat_map}
use Rattle.probe_encode.specs.Shares.{AreSmall}

in_range_from : (a n k : ℕ) → k < n → Contains (range_with_len a n) (a + k)
in_range_from a zero k h = absurd (omega arith)
in_range_from a (suc n) zero h = subst (Contains (range_with_len a (suc n))) (let e : a ≡ a + 0 = omega arith in e) (Contains-here a (range_with_len (a + 1) n))
in_range_from a (suc n) (suc k) h =
    let e : a + 1 + k ≡ a + suc k = omega arith in
    subst (Contains (range_with_len a (suc n))) e (Contains-later a (a + 1 + k) (range_with_len (a + 1) n) (in_range_from (a + 1) n k (omega arith)))

in_range : (n k : ℕ) → k < n → Contains (range_with_len 0 n) k
in_range n k h = subst (Contains (range_with_len 0 n)) (let e : 0 + k ≡ k = omega arith in e) (in_range_from 0 n k h)

-- of a bit of a secret, where the labels of all its bits are small
pub small_share : (s : SecretPlan) (bit share : ℕ) → bit < s.width → share < s.shares → AreSmall (map (share_labels s) (range_with_len 0 s.width)) → share_label s share bit < 2 ^ 32
small_share s bit share below lower small =
    small (share_labels s bit) (Contains-map (share_labels s) (range_with_len 0 s.width) bit (in_range s.width bit below))
    (share_label s share bit) (Contains-map (λ i. share_label s i bit) (range_with_len 0 s.shares) share (in_range s.shares share lower))

-- of a secret among others
pub small_secret : (secrets : List SecretPlan) (s : SecretPlan) → Contains secrets s → AreSmall (secret_labels secrets) → AreSmall (map (share_labels s) (range_with_len 0 s.width))
small_secret secrets s listed small labels i l j =
    small labels (Contains-flat_map (λ (t : SecretPlan). map (share_labels t) (range_with_len 0 t.width)) secrets s labels listed i) l j

-- of a table
pub small_table : (table : LabelTable) → IsLabelTable table → AreSmall (secret_labels table.secrets)
small_table table is labels listed l member =
    let inside : Contains (declared_labels table) l =
    Contains-append_left (flat_map (λ (ls : List ℕ). ls) (secret_labels table.secrets)) (flat_map mask_labels table.masks) l
    (Contains-flat_map (λ (ls : List ℕ). ls) (secret_labels table.secrets) labels l listed member) in
    let below = (is.each l).0 inside in
    let few = is.few in
    omega (arith, below, few)

-- what stands at a place of a list is a member
pub member_at : {X : Type 0} (xs : List X) (i : ℕ) (x : X) → i < length xs → x ≡ get_or xs i x → Contains xs x
member_at [] i x h e = absurd (omega arith)
member_at (y ∷ ys) zero x h e = rw e (Contains-here y ys)
member_at (y ∷ ys) (suc i) x h e = Contains-later y x ys (member_at ys i x (omega arith) e)
