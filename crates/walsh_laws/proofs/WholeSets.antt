-- The labels of some secret bits make a whole set.
use Rattle.std.proofs.Common.{◌≡◌, ℕ, zero, suc, ◌+◌, ◌<◌, ◌≤◌, ◌⊎◌, inl, inr, Bool, true, false, ◌&&◌, List, [], ◌∷◌, ◌++◌, map, length, get_or, refl, sym, ◌∙◌, ap, subst, arith, nat_eq}
use Rattle.std.specs.Prelude.{Contains, flat_map}
use Rattle.std.specs.List.{range_with_len}
use Rattle.std.proofs.lemmas.Bool.{true≢false, false≢true, cases_Bool}
use Rattle.std.proofs.lemmas.List.Elements.{Contains-append_left, Contains-append_right}
use Rattle.coco_base.specs.declared.labels.LabelTable.{LabelTable}
use Rattle.coco_base.specs.declared.labels.SecretPlan.{SecretPlan}
use Rattle.coco_model.specs.Cells.{xor, chosen_parity, Subset}
use Rattle.coco_model.specs.Netlist.{HasNoRepeat}
use Rattle.coco_model.specs.Labels.{Choice, label_bit, parity, secret_labels, share_label, share_labels, mask_labels, label_count, IsLabelTable}
use Rattle.coco_model.specs.Findings.{Labels, IsWhole}
use Rattle.coco_model.proofs.Basics.{Contains-here, Contains-later, Contains-cases, Contains-none}
use Rattle.coco_model.proofs.ListedLabels.{listed, listed-none, listed-some}
use Rattle.model_laws.proofs.Apart.{apart_parts}
use Rattle.model_laws.proofs.Lists.{IsImage, image_of_map, IsJoined, joined_of_flat_map, contains_or_not}
use Rattle.coco_model.proofs.Bits.{xor-false, and-false, and-true}
use Rattle.walsh_laws.proofs.Parity.{label_parity, label_parity-xor, label_parity_none, label_parity_one}

-- the labels in the lists of a subset
abbrev pub labels_of : Subset → List (List ℕ) → Labels
labels_of subset lists l = chosen_parity subset (map (λ ls. listed ls l) lists)

label_parity_listed : (ls : List ℕ) (c : Choice) → label_parity (listed ls) c ≡ parity (map (label_bit c) ls)
label_parity_listed [] c = label_parity_none (listed []) (λ l. refl) c
label_parity_listed (k ∷ ls) c = label_parity-xor (nat_eq k) (listed ls) c ∙ rw (label_parity_one k c, label_parity_listed ls c) refl

pub label_parity_of : (subset : Subset) (lists : List (List ℕ)) (c : Choice)
    → label_parity (labels_of subset lists) c ≡ chosen_parity subset (map (λ ls. parity (map (label_bit c) ls)) lists)
label_parity_of [] lists c = label_parity_none (labels_of [] lists) (λ l. refl) c
label_parity_of (s ∷ ss) [] c = label_parity_none (labels_of (s ∷ ss) []) (λ l. refl) c
label_parity_of (true ∷ ss) (ls ∷ lists) c = label_parity-xor (listed ls) (labels_of ss lists) c
    ∙ rw (label_parity_listed ls c, label_parity_of ss lists c) refl
label_parity_of (false ∷ ss) (ls ∷ lists) c = label_parity_of ss lists c

-- a label that is in the set is listed
listed-true : (ls : List ℕ) (l : ℕ) → listed ls l ≡ true → Contains ls l
listed-true ls l e = go (contains_or_not ls l)
  where
    go : Contains ls l ⊎ (Contains ls l → ⊥) → Contains ls l
    go (inl h) = h
    go (inr n) = absurd (true≢false (sym e ∙ listed-none ls l n))

-- lists of labels none of which stands twice in them
abbrev pub AreApart : List (List ℕ) → Type 0
AreApart [] = Unit {0}
AreApart (ls ∷ lists) = HasNoRepeat ls × ((l : ℕ) → Contains ls l → Contains (flat_map (λ (ks : List ℕ). ks) lists) l → ⊥) × AreApart lists

apart_from_once : (lists : List (List ℕ)) → HasNoRepeat (flat_map (λ (ls : List ℕ). ls) lists) → AreApart lists
apart_from_once [] h = tt
apart_from_once (ls ∷ lists) h =
    let parts = apart_parts ls (flat_map (λ (ks : List ℕ). ks) lists) h in (parts.left, parts.apart, apart_from_once lists parts.right)

-- a label of a list
list_of_lists : (lists : List (List ℕ)) (ls : List ℕ) (l : ℕ) → Contains lists ls → Contains ls l
    → Contains (flat_map (λ (ks : List ℕ). ks) lists) l
list_of_lists [] ls l h i = absurd (Contains-none ls h)
list_of_lists (ks ∷ lists) ls l h i = go (Contains-cases ks ls lists h) (λ j. list_of_lists lists ls l j i)
  where
    go : (ks ≡ ls) ⊎ Contains lists ls → (Contains lists ls → Contains (flat_map (λ (ks : List ℕ). ks) lists) l)
        → Contains (ks ++ flat_map (λ (ks : List ℕ). ks) lists) l
    go (inl e) rest = Contains-append_left ks (flat_map (λ (ks : List ℕ). ks) lists) l (subst (λ js. Contains js l) (sym e) i)
    go (inr j) rest = Contains-append_right ks (flat_map (λ (ks : List ℕ). ks) lists) l (rest j)

labels_of-none : (subset : Subset) (lists : List (List ℕ)) (l : ℕ) → (Contains (flat_map (λ (ls : List ℕ). ls) lists) l → ⊥)
    → labels_of subset lists l ≡ false
labels_of-none [] lists l n = refl
labels_of-none (s ∷ ss) [] l n = refl
labels_of-none (s ∷ ss) (ls ∷ lists) l n =
    rw (
      listed-none ls l (λ h. n (Contains-append_left ls (flat_map (λ (ks : List ℕ). ks) lists) l h)),
      labels_of-none ss lists l (λ h. n (Contains-append_right ls (flat_map (λ (ks : List ℕ). ks) lists) l h)),
      and-false s,
    ) refl

labels_of-true : (subset : Subset) (lists : List (List ℕ)) (l : ℕ) → labels_of subset lists l ≡ true
    → (ls : List ℕ) × Contains lists ls × Contains ls l
labels_of-true [] lists l e = absurd (false≢true e)
labels_of-true (s ∷ ss) [] l e = absurd (false≢true e)
labels_of-true (s ∷ ss) (ls ∷ lists) l e = go (cases_Bool (listed ls l)) (labels_of-true ss lists l)
  where
    go : (listed ls l ≡ true) ⊎ (listed ls l ≡ false) → (labels_of ss lists l ≡ true → (ks : List ℕ) × Contains lists ks × Contains ks l)
        → (ks : List ℕ) × Contains (ls ∷ lists) ks × Contains ks l
    go (inl h) rest = (ls, Contains-here ls lists, listed-true ls l h)
    go (inr h) rest =
        let r = rest (sym (ap (λ b. xor b (labels_of ss lists l)) (ap (λ y. s && y) h ∙ and-false s)) ∙ e) in
        (r.0, Contains-later ls r.0 lists r.1, r.2)

-- a label of the first list, and one of another
labels_of-first : (s : Bool) (ss : Subset) (ls : List ℕ) (lists : List (List ℕ)) (l : ℕ) → AreApart (ls ∷ lists) → Contains ls l
    → labels_of (s ∷ ss) (ls ∷ lists) l ≡ s
labels_of-first s ss ls lists l apart h = rw (listed-some ls l apart.0 h, labels_of-none ss lists l (apart.1 l h), and-true s) (xor-false s)

labels_of-later : (s : Bool) (ss : Subset) (ls : List ℕ) (lists : List (List ℕ)) (l : ℕ) → AreApart (ls ∷ lists)
    → Contains (flat_map (λ (ks : List ℕ). ks) lists) l
    → labels_of (s ∷ ss) (ls ∷ lists) l ≡ labels_of ss lists l
labels_of-later s ss ls lists l apart h = rw (listed-none ls l (λ i. apart.1 l i h), and-false s) refl

all_or_none : (subset : Subset) (lists : List (List ℕ)) → AreApart lists → (ls : List ℕ) → Contains lists ls → (a b : ℕ) → Contains ls a
    → Contains ls b
    → labels_of subset lists a ≡ labels_of subset lists b
all_or_none [] lists apart ls h a b i j = refl
all_or_none (s ∷ ss) [] apart ls h a b i j = refl
all_or_none (s ∷ ss) (ks ∷ lists) apart ls h a b i j = go (Contains-cases ks ls lists h) (λ k. all_or_none ss lists apart.2 ls k a b i j)
  where
    go : (ks ≡ ls) ⊎ Contains lists ls → (Contains lists ls → labels_of ss lists a ≡ labels_of ss lists b)
        → labels_of (s ∷ ss) (ks ∷ lists) a ≡ labels_of (s ∷ ss) (ks ∷ lists) b
    go (inl e) rest = labels_of-first s ss ks lists a apart (subst (λ js. Contains js a) (sym e) i)
        ∙ sym (labels_of-first s ss ks lists b apart (subst (λ js. Contains js b) (sym e) j))
    go (inr k) rest = labels_of-later s ss ks lists a apart (list_of_lists lists ls a k i) ∙ rest k
        ∙ sym (labels_of-later s ss ks lists b apart (list_of_lists lists ls b k j))

-- a member of a subset of lists
pub record HasLabel (subset : Subset) (lists : List (List ℕ)) : Type 0 where
  pub label : ℕ
  pub listed : Contains (flat_map (λ (ls : List ℕ). ls) lists) label
  pub member : labels_of subset lists label ≡ true

has_label : (subset : Subset) (lists : List (List ℕ)) → AreApart lists → ((ls : List ℕ) → Contains lists ls → (l : ℕ) × Contains ls l)
    → (place : ℕ) → place < length lists → get_or subset place false ≡ true → HasLabel subset lists
has_label [] lists apart full place below e = absurd (false≢true e)
has_label (s ∷ ss) [] apart full place below e = absurd (omega arith)
has_label (s ∷ ss) (ls ∷ lists) apart full zero below e =
    let f = full ls (Contains-here ls lists) in
    record {
      label = f.0;
      listed = Contains-append_left ls (flat_map (λ (ks : List ℕ). ks) lists) f.0 f.1;
      member = labels_of-first s ss ls
          lists f.0 apart f.1 ∙ e;
    }
has_label (s ∷ ss) (ls ∷ lists) apart full (suc place) below e =
    go (has_label ss lists apart.2 (λ ks h. full ks (Contains-later ls ks lists h)) place (omega arith) e)
  where
    go : HasLabel ss lists → HasLabel (s ∷ ss) (ls ∷ lists)
    go r = record {
      label = r.label;
      listed = Contains-append_right ls (flat_map (λ (ks : List ℕ). ks) lists) r.label r.listed;
      member = labels_of-later s ss ls lists r.label apart r.listed ∙ r.member;
    }

some_in_range : (f : ℕ → ℕ) (a n : ℕ) → 0 < n → (l : ℕ) × Contains (map f (range_with_len a n)) l
some_in_range f a zero h = absurd (omega arith)
some_in_range f a (suc n) h = (f a, Contains-here (f a) (map f (range_with_len (a + 1) n)))

-- the secret bits of a table have labels, apart from each other
pub secrets_apart : (table : LabelTable) → IsLabelTable table → AreApart (secret_labels table.secrets)
secrets_apart table is = apart_from_once (secret_labels table.secrets)
    (apart_parts (flat_map (λ (ls : List ℕ). ls) (secret_labels table.secrets)) (flat_map mask_labels table.masks) is.once).left

secrets_full : (table : LabelTable) → IsLabelTable table → (ls : List ℕ) → Contains (secret_labels table.secrets) ls
    → (l : ℕ) × Contains ls l
secrets_full table is ls h = go (joined_of_flat_map (λ (s : SecretPlan). map (share_labels s) (range_with_len 0 s.width)) table.secrets ls
    h)
  where
    go : IsJoined (λ (s : SecretPlan). map (share_labels s) (range_with_len 0 s.width)) table.secrets ls → (l : ℕ) × Contains ls l
    go r = bit (image_of_map (share_labels r.source) (range_with_len 0 r.source.width) ls r.member)
      where
        bit : IsImage (share_labels r.source) (range_with_len 0 r.source.width) ls → (l : ℕ) × Contains ls l
        bit i = subst (λ ks. (l : ℕ)
            × Contains ks l) i.image (some_in_range (λ j. share_label r.source j i.source) 0 r.source.shares (is.shared r.source r.listed))

-- the labels of a subset of the secret bits
pub whole_set : (table : LabelTable) → IsLabelTable table → (subset : Subset)
    → IsWhole table (labels_of subset (secret_labels table.secrets))
whole_set table is subset = record {
  no_mask = labels_of-true subset (secret_labels table.secrets);
  all_or_none = all_or_none subset (secret_labels table.secrets) (secrets_apart table is);
}

pub whole_label : (table : LabelTable) → IsLabelTable table → (subset : Subset) (place : ℕ) → place < length (secret_labels table.secrets)
    → get_or subset place false ≡ true
    → HasLabel subset (secret_labels table.secrets)
whole_label table is subset place below e = has_label subset (secret_labels table.secrets) (secrets_apart table is) (secrets_full table is)
    place below e

-- the labels of a secret are declared
pub whole_inside : (table : LabelTable) → IsLabelTable table → (cycles : ℕ) (subset : Subset) (l : ℕ) → label_count table cycles ≤ l
    → labels_of subset (secret_labels table.secrets) l ≡ false
whole_inside table is cycles subset l past = labels_of-none subset (secret_labels table.secrets) l outside
  where
    outside : Contains (flat_map (λ (ls : List ℕ). ls) (secret_labels table.secrets)) l → ⊥
    outside h =
        let below : l < table.declared = (is.each l).0
        (Contains-append_left (flat_map (λ (ls : List ℕ). ls) (secret_labels table.secrets)) (flat_map mask_labels table.masks) l h) in
        omega arith

pub whole_outside : (table : LabelTable) → IsLabelTable table → (cycles : ℕ) (labels : Labels) → IsWhole table labels → (l : ℕ)
    → label_count table cycles ≤ l → labels l ≡ false
whole_outside table is cycles labels whole l past = go (cases_Bool (labels l))
  where
    go : (labels l ≡ true) ⊎ (labels l ≡ false) → labels l ≡ false
    go (inr e) = e
    go (inl e) = absurd (share (whole.no_mask l e))
      where
        share : (shares : List ℕ) × Contains (secret_labels table.secrets) shares × Contains shares l → ⊥
        share (shares, listed, member) =
            let below : l < table.declared = (is.each l).0
            (Contains-append_left (flat_map (λ (ls : List ℕ). ls) (secret_labels table.secrets)) (flat_map mask_labels table.masks) l
            (list_of_lists (secret_labels table.secrets) shares l listed member)) in
            omega arith
