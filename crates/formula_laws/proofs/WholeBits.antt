-- The secret bits whose shares all have variables.
use Rattle.std.proofs.Common.{◌≡◌, ℕ, suc, ◌⊎◌, inl, inr, Bool, true, ◌&&◌, nat_eq, List, [], ◌∷◌, get_or, refl, sym, ◌∙◌, subst}
use Rattle.std.specs.Prelude.{Contains}
use Rattle.std.proofs.lemmas.Bool.{and_parts, and_from, eq-eqb}
use Rattle.coco_base.specs.declared.labels.LabelTable.{LabelTable}
use Rattle.coco_model.specs.Goals.{all_among, is_among, is_share_of, whole_bits, whole_with}
use Rattle.coco_model.specs.Labels.{secret_labels, share_label, IsLabelTable}
use Rattle.coco_model.proofs.Basics.{Contains-here, Contains-cases, Contains-none, HasMember}
use Rattle.model_laws.proofs.Lists.{Contains-flat_map, joined_of_flat_map}
use Rattle.calm_reach.proofs.WalkLemmas.{member_of_any}
use Rattle.stable_sets.proofs.ShareLemmas.{bit_of, has_of_member, share_listed}
use Rattle.walsh_laws.proofs.WholeSets.{AreApart}
use Rattle.formula_laws.proofs.Members.{all_are_among, all_listed, is_kept, kept, passing, some_passes}

-- a list of shares is that of a secret bit, and all are among some labels
pub record IsWholeBit (table : LabelTable) (labels shares : List ℕ) : Type 0 where
  pub secret : Contains (secret_labels table.secrets) shares
  pub each : (l : ℕ) → Contains shares l → Contains labels l

-- share 0 of a secret bit
pub record HasFirst (shares : List ℕ) : Type 0 where
  pub label : ℕ
  pub listed : Contains shares label
  pub at : (d : ℕ) → get_or shares 0 d ≡ label

first_of : (shares : List ℕ) (l : ℕ) → Contains shares l → HasFirst shares
first_of [] l h = absurd (Contains-none l h)
first_of (k ∷ ks) l h = record { label = k; listed = Contains-here k ks; at = λ d. refl }

pub first_share : (table : LabelTable) → IsLabelTable table → (shares : List ℕ) → Contains (secret_labels table.secrets) shares
    → HasFirst shares
first_share table is shares h =
    let b = bit_of table.secrets shares h in
    let l = share_label b.secret 0 b.bit in
    first_of shares l (subst (λ ks. Contains ks l) b.is (share_listed b.secret 0 b.bit (is.shared b.secret b.listed)))

-- the test by which a secret bit is taken at the label of its share 0
abbrev starts_at : List ℕ → ℕ → List ℕ → Bool
starts_at labels l ls = all_among labels ls && nat_eq (get_or ls 0 (suc l)) l

pub whole_bit : (table : LabelTable) (labels shares : List ℕ) → Contains (whole_bits table labels) shares → IsWholeBit table labels shares
whole_bit table labels shares h =
    let j = joined_of_flat_map (whole_with labels (secret_labels table.secrets)) labels shares h in
    let k = is_kept (starts_at labels j.source) (secret_labels table.secrets) shares j.member in
    record {
      secret = k.listed;
      each = all_listed labels shares (and_parts (all_among labels shares) (nat_eq (get_or shares 0 (suc j.source)) j.source) k.passes).0;
    }

pub bit_whole : (table : LabelTable) → IsLabelTable table → (labels shares : List ℕ) → IsWholeBit table labels shares
    → Contains (whole_bits table labels) shares
bit_whole table is labels shares b =
    let f = first_share table is shares b.secret in
    Contains-flat_map (whole_with labels (secret_labels table.secrets)) labels f.label shares (b.each f.label f.listed)
    (kept (starts_at labels f.label) (secret_labels table.secrets) shares b.secret
    (and_from (all_among labels shares) (nat_eq (get_or shares 0 (suc f.label)) f.label) (all_are_among labels shares b.each)
    (eq-eqb (get_or shares 0 (suc f.label)) f.label (f.at (suc f.label)))))

-- lists that are apart and have a common label are the same
pub one_list : (lists : List (List ℕ)) → AreApart lists → (ls ks : List ℕ) (l : ℕ) → Contains lists ls → Contains lists ks → Contains ls l
    → Contains ks l → ls ≡ ks
one_list [] apart ls ks l h i a b = absurd (Contains-none ls h)
one_list (js ∷ lists) apart ls ks l h i a b =
    go (Contains-cases js ls lists h) (Contains-cases js ks lists i) (λ m n. one_list lists apart.2 ls ks l m n a b)
  where
    go : (js ≡ ls) ⊎ Contains lists ls → (js ≡ ks) ⊎ Contains lists ks → (Contains lists ls → Contains lists ks → ls ≡ ks) → ls ≡ ks
    go (inl e) (inl f) rest = sym e ∙ f
    go (inl e) (inr n) rest =
        absurd (apart.1 l (subst (λ ms. Contains ms l) (sym e) a) (Contains-flat_map (λ (ms : List ℕ). ms) lists ks l n b))
    go (inr m) (inl f) rest =
        absurd (apart.1 l (subst (λ ms. Contains ms l) (sym f) b) (Contains-flat_map (λ (ms : List ℕ). ms) lists ls l m a))
    go (inr m) (inr n) rest = rest m n

-- the shares of some secret bits
pub share_of : (secrets : List (List ℕ)) (l : ℕ) → is_share_of secrets l ≡ true → HasMember (λ (ls : List ℕ). Contains ls l) secrets
share_of secrets l e =
    let m = passing (λ (ls : List ℕ). is_among ls l) secrets e in
    record { member = m.member; listed = m.listed; holds = member_of_any l m.member m.holds }

pub is_share : (secrets : List (List ℕ)) (ls : List ℕ) (l : ℕ) → Contains secrets ls → Contains ls l → is_share_of secrets l ≡ true
is_share secrets ls l h i = some_passes (λ (ks : List ℕ). is_among ks l) secrets ls h (has_of_member l ls i)
