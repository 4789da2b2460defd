-- Labels that are shares of secret bits, and sets that have all shares or none of each.
use Rattle.std.proofs.Common.{◌≡◌, ◌≢◌, ℕ, zero, suc, ◌+◌, ◌-◌, ◌*◌, ◌/◌, ◌%◌, ◌<◌, ◌≤◌, ◌⊎◌, inl, inr, Bool, true, false, ◌||◌, nat_eq, List, [], ◌∷◌, ◌++◌, map, refl, sym, ◌∙◌, ap, subst, arith}
use Rattle.std.proofs.Math.Nat.{mod-add-div', mod-lt, div-lt_iff_lt-mul, mul-le-mul_right}
use Rattle.std.specs.Prelude.{◌↔◌, IsTrue, Contains, flat_map}
use Rattle.std.specs.List.{range_with_len}
use Rattle.std.proofs.lemmas.Bool.{cases_eq, cases_lt, eq-eqb}
use Rattle.std.proofs.lemmas.List.Elements.{Contains-append_left}
use Rattle.coco_base.specs.LabelSets.{has}
use Rattle.coco_base.specs.declared.labels.SecretPlan.{SecretPlan}
use Rattle.coco_base.specs.declared.labels.LabelTable.{LabelTable}
use Rattle.coco_model.specs.Labels.{share_label, share_labels, secret_labels, mask_labels, declared_labels, IsLabelTable}
use Rattle.coco_model.specs.Findings.{IsWhole}
use Rattle.coco_model.proofs.Basics.{Contains-here, Contains-later, Contains-cases, Contains-none}
use Rattle.model_laws.proofs.Lists.{Contains-map, Contains-flat_map, image_of_map, joined_of_flat_map}
use Rattle.calm_reach.proofs.WalkLemmas.{member_of_any, pushed}
use Rattle.stable_sets.specs.Shares.{AllOrNone, AllShares, FitsLabels, IsShareOf, IsSomeShare}

pub has_of_member : (l : ℕ) (xs : List ℕ) → Contains xs l → has xs l ≡ true
has_of_member l [] h = absurd (Contains-none l h)
has_of_member l (x ∷ xs) h = go (Contains-cases x l xs h) (λ i. has_of_member l xs i)
  where
    left : (a b : Bool) → a ≡ true → (a || b) ≡ true
    left true b e = refl
    left false b e = absurd cc

    right : (a b : Bool) → b ≡ true → (a || b) ≡ true
    right true b e = refl
    right false b e = e

    go : (x ≡ l) ⊎ Contains xs l → (Contains xs l → has xs l ≡ true) → has (x ∷ xs) l ≡ true
    go (inl e) later = left (nat_eq l x) (has xs l) (eq-eqb l x (sym e))
    go (inr i) later = right (nat_eq l x) (has xs l) (later i)

-- the numbers of a range from 0
pub below_of_range : (from count n : ℕ) → Contains (range_with_len from count) n → n < from + count
below_of_range from zero n h = absurd (Contains-none n h)
below_of_range from (suc count) n h = go (Contains-cases from n (range_with_len (from + 1) count) h)
    (λ i. below_of_range (from + 1) count n i)
  where
    go : (from ≡ n) ⊎ Contains (range_with_len (from + 1) count) n
        → (Contains (range_with_len (from + 1) count) n → n < from + 1 + count) → n < from + suc count
    go (inl e) rest = omega (arith, e)
    go (inr i) rest = let b = rest i in omega (arith, b)

pub in_range : (from count n : ℕ) → from ≤ n → n < from + count → Contains (range_with_len from count) n
in_range from zero n least below = absurd (omega (arith, least, below))
in_range from (suc count) n least below = go (cases_eq from n) (λ l. in_range (from + 1) count n l (omega (arith, below)))
  where
    go : (from ≡ n) ⊎ (from ≢ n) → (from + 1 ≤ n → Contains (range_with_len (from + 1) count) n)
        → Contains (range_with_len from (suc count)) n
    go (inl e) rest = subst (Contains (range_with_len from (suc count))) e (Contains-here from (range_with_len (from + 1) count))
    go (inr other) rest = Contains-later from n (range_with_len (from + 1) count) (rest (let d = other in omega (arith, least, d)))

-- the shares of a bit of a secret, as a list
pub share_listed : (s : SecretPlan) (share bit : ℕ) → share < s.shares → Contains (share_labels s bit) (share_label s share bit)
share_listed s share bit below =
    Contains-map (λ i. share_label s i bit) (range_with_len 0 s.shares) share (in_range 0 s.shares share (omega arith) (omega (arith, below)))

pub record IsShareAt (s : SecretPlan) (bit label : ℕ) : Type 0 where
  pub share : ℕ
  pub below : share < s.shares
  pub is : share_label s share bit ≡ label

pub share_at : (s : SecretPlan) (bit label : ℕ) → Contains (share_labels s bit) label → IsShareAt s bit label
share_at s bit label h =
    let r = image_of_map (λ i. share_label s i bit) (range_with_len 0 s.shares) label h in
    record { share = r.source; below = (let b = below_of_range 0 s.shares r.source r.listed in omega (arith, b)); is = r.image }

pub bit_listed : (secrets : List SecretPlan) (s : SecretPlan) (bit : ℕ) → Contains secrets s → bit < s.width
    → Contains (secret_labels secrets) (share_labels s bit)
bit_listed secrets s bit listed below =
    Contains-flat_map (λ (t : SecretPlan). map (share_labels t) (range_with_len 0 t.width)) secrets s (share_labels s bit) listed
    (Contains-map (share_labels s) (range_with_len 0 s.width) bit (in_range 0 s.width bit (omega arith) (omega (arith, below))))

-- a list of shares is that of a bit of a secret
pub record IsBitOf (secrets : List SecretPlan) (shares : List ℕ) : Type 0 where
  pub secret : SecretPlan
  pub listed : Contains secrets secret
  pub bit : ℕ
  pub below : bit < secret.width
  pub is : share_labels secret bit ≡ shares

pub bit_of : (secrets : List SecretPlan) (shares : List ℕ) → Contains (secret_labels secrets) shares → IsBitOf secrets shares
bit_of secrets shares h =
    let r = joined_of_flat_map (λ (t : SecretPlan). map (share_labels t) (range_with_len 0 t.width)) secrets shares h in
    let b = image_of_map (share_labels r.source) (range_with_len 0 r.source.width) shares r.member in
    record {
      secret = r.source;
      listed = r.listed;
      bit = b.source;
      below = (let l = below_of_range 0 r.source.width b.source b.listed in omega (arith, l));
      is = b.image;
    }

some_share : (secrets : List SecretPlan) (shares : List ℕ) (l : ℕ) → Contains (secret_labels secrets) shares → Contains shares l
    → IsSomeShare secrets l
some_share secrets shares l h i =
    let b = bit_of secrets shares h in
    let a = share_at b.secret b.bit l (subst (λ ls. Contains ls l) (sym b.is) i) in
    record {
      secret = b.secret;
      listed = b.listed;
      share_of = record { share = a.share; bit = b.bit; share_below = a.below; bit_below = b.below; is = sym a.is };
    }

-- of sets that are whole
pub whole_set : (table : LabelTable) (secrets : List SecretPlan) (set : List ℕ) → secrets ≡ table.secrets
    → AllShares secrets set → AllOrNone secrets (has set) → IsWhole table (has set)
whole_set table secrets set same shares alike = subst (λ ss. (AllShares ss set) × (AllOrNone ss (has set)) → IsWhole table (has set)) (sym same) go (shares, alike)
  where
    go : (AllShares table.secrets set) × (AllOrNone table.secrets (has set)) → IsWhole table (has set)
    go p = record {
      no_mask = λ l h.
          let s = p.0 l (member_of_any l set h) in (
            share_labels s.secret s.share_of.bit,
            bit_listed table.secrets s.secret s.share_of.bit s.listed s.share_of.bit_below,
            subst (Contains (share_labels s.secret s.share_of.bit)) (sym s.share_of.is)
                (share_listed s.secret s.share_of.share s.share_of.bit s.share_of.share_below),
          );
      all_or_none = λ ls h a b ca cb.
          let i = bit_of table.secrets ls h in
          at i a (subst (λ ks. Contains ks a) (sym i.is) ca) ∙ sym (at i b (subst (λ ks. Contains ks b) (sym i.is) cb));
    }
      where
        at : {ls : List ℕ} (i : IsBitOf table.secrets ls) (a : ℕ) → Contains (share_labels i.secret i.bit) a
            → has set a ≡ has set (share_label i.secret 0 i.bit)
        at i a ca =
            let s = share_at i.secret i.bit a ca in
            ap (has set) (sym s.is) ∙ p.1 i.secret i.listed i.bit i.below s.share s.below

pub shares_of_whole : (table : LabelTable) (secrets : List SecretPlan) (set : List ℕ) → secrets ≡ table.secrets
    → IsWhole table (has set) → AllShares secrets set
shares_of_whole table secrets set same whole =
    subst (λ ss. AllShares ss set) (sym same) (λ l h.
    let m = whole.no_mask l (has_of_member l set h) in some_share table.secrets m.0 l m.1 m.2)

pub alike_of_whole : (table : LabelTable) (secrets : List SecretPlan) (set : List ℕ) → secrets ≡ table.secrets
    → IsWhole table (has set) → AllOrNone secrets (has set)
alike_of_whole table secrets set same whole =
    subst (λ ss. AllOrNone ss (has set)) (sym same) (λ s listed bit bit_below share below.
    whole.all_or_none (share_labels s bit) (bit_listed table.secrets s bit listed bit_below) (share_label s share bit) (share_label s 0 bit)
    (share_listed s share bit below) (share_listed s 0 bit (omega (arith, below))))

-- the labels of a secret of a table are small
pub table_fits : (table : LabelTable) → IsLabelTable table → (s : SecretPlan) → Contains table.secrets s → FitsLabels s
table_fits table is s listed = record {
  shared = is.shared s listed;
  small = λ share bit share_below bit_below.
      let l = share_label s share bit in
      let inside : Contains (declared_labels table) l =
      Contains-append_left (flat_map (λ (ls : List ℕ). ls) (secret_labels table.secrets)) (flat_map mask_labels table.masks) l
      (Contains-flat_map (λ (ls : List ℕ). ls) (secret_labels table.secrets) (share_labels s bit) l
      (bit_listed table.secrets s bit listed bit_below) (share_listed s share bit share_below)) in
      let below = (is.each l).0 inside in
      let few = is.few in
      omega (arith, below, few);
}

-- a label by its difference from the first
pub share_of_difference : (s : SecretPlan) (label : ℕ) → s.first ≤ label → label - s.first < s.shares * s.width → IsShareOf s label
share_of_difference s label low below = go (cases_lt 0 s.width)
  where
    go : (0 < s.width) ⊎ (s.width ≤ 0) → IsShareOf s label
    go (inl wide) = record {
      share = (label - s.first) / s.width;
      bit = (label - s.first) % s.width;
      share_below = (div-lt_iff_lt-mul wide).1 below;
      bit_below = mod-lt (label - s.first) wide;
      is = (let e = mod-add-div' (label - s.first) s.width in omega (arith, e, low));
    }
    go (inr none) = absurd (let z : s.width ≡ 0 = omega (arith, none) in
        let b : label - s.first < s.shares * 0 = subst (λ w. label - s.first < s.shares * w) z below in omega (arith, b))

pub difference_of_share : (s : SecretPlan) (label : ℕ) → IsShareOf s label → label - s.first < s.shares * s.width
difference_of_share s label o =
    let rows : (o.share + 1) * s.width ≤ s.shares * s.width = mul-le-mul_right s.width (let b = o.share_below in omega (arith, b)) in
    let e = o.is in let b = o.bit_below in omega (arith, rows, e, b)

pub first_of_share : (s : SecretPlan) (label : ℕ) → IsShareOf s label → s.first ≤ label
first_of_share s label o = let e = o.is in omega (arith, e)

-- labels of a list, one after the other
pub shares_more : (secrets : List SecretPlan) (labels : List ℕ) (l : ℕ) (b : Bool) → IsSomeShare secrets l
    → IsTrue b ↔ AllShares secrets labels → IsTrue b ↔ AllShares secrets (labels ++ l ∷ [])
shares_more secrets labels l b own known = (
  (λ h k m. go h k (pushed labels l k m)),
  (λ all. known.1 (λ k m. all k (Contains-append_left labels (l ∷ []) k m))),
)
  where
    go : IsTrue b → (k : ℕ) → Contains labels k ⊎ (k ≡ l) → IsSomeShare secrets k
    go h k (inl m) = known.0 h k m
    go h k (inr e) = subst (IsSomeShare secrets) (sym e) own
