-- Tables of labels with one more secret or mask of the next labels.
use Rattle.std.proofs.Common.{◌≡◌, ◌+◌, ◌*◌, ◌<◌, ◌≤◌, ◌⊎◌, inl, inr, ℕ, List, [], ◌∷◌, ◌++◌, map, refl, sym, ◌∙◌, ap, subst, arith, append-nil, append_assoc}
use Rattle.std.specs.Prelude.{Contains, flat_map, ◌↔◌}
use Rattle.std.specs.List.{range_with_len}
use Rattle.std.proofs.lemmas.Bool.{cases_lt}
use Rattle.std.proofs.lemmas.Grind.{flat_map-append}
use Rattle.std.proofs.lemmas.List.Elements.{Contains-append_cases, Contains-append_left, Contains-append_right}
use Rattle.coco_base.specs.declared.labels.SecretPlan.{SecretPlan}
use Rattle.coco_base.specs.declared.labels.MaskPlan.{MaskPlan}
use Rattle.coco_base.specs.declared.labels.LabelTable.{LabelTable}
use Rattle.coco_model.specs.Labels.{IsLabelTable, declared_labels, secret_labels, share_labels, mask_labels}
use Rattle.coco_model.specs.Netlist.{HasNoRepeat}
use Rattle.coco_model.proofs.Basics.{Contains-cases, Contains-none}
use Rattle.label_file.proofs.Grids.{AreFrom, grid, grid_from, range_from}
use Rattle.label_file.proofs.Members.{once_between}

-- the numbers below a number, each once
record AreBelow (labels : List ℕ) (count : ℕ) : Type 0 where
  once : HasNoRepeat labels
  each : (l : ℕ) → Contains labels l ↔ (l < count)

below_more : (xs ns ys : List ℕ) (a n : ℕ) → AreBelow (xs ++ ys) a → AreFrom ns a n → AreBelow (xs ++ ns ++ ys) (a + n)
below_more xs ns ys a n are new = record {
  once = once_between xs ns ys are.once new.once (λ l i j. let low = new.low l i in let high = (are.each l).0 j in omega (arith, low, high));
  each = λ l. ((λ h. whole l (Contains-append_cases (xs ++ ns) ys l h)), (λ below. member l below (cases_lt l a)));
}
  where
    old : (l : ℕ) → Contains (xs ++ ys) l → l < a + n
    old l i = let low = (are.each l).0 i in omega (arith, low)

    front : (l : ℕ) → Contains xs l ⊎ Contains ns l → l < a + n
    front l (inl i) = old l (Contains-append_left xs ys l i)
    front l (inr i) = new.high l i

    whole : (l : ℕ) → Contains (xs ++ ns) l ⊎ Contains ys l → l < a + n
    whole l (inl i) = front l (Contains-append_cases xs ns l i)
    whole l (inr i) = old l (Contains-append_right xs ys l i)

    spread : (l : ℕ) → Contains xs l ⊎ Contains ys l → Contains (xs ++ ns ++ ys) l
    spread l (inl i) = Contains-append_left (xs ++ ns) ys l (Contains-append_left xs ns l i)
    spread l (inr i) = Contains-append_right (xs ++ ns) ys l i

    member : (l : ℕ) → l < a + n → (l < a) ⊎ (a ≤ l) → Contains (xs ++ ns ++ ys) l
    member l below (inl low) = spread l (Contains-append_cases xs ys l ((are.each l).1 low))
    member l below (inr high) =
        Contains-append_left (xs ++ ns) ys l (Contains-append_right xs ns l (new.member l high below))

-- a fact of each item of a list and of one more
each_more : {X : Type 0} (P : X → Type 0) (xs : List X) (y : X) → ((x : X) → Contains xs x → P x) → P y → (x : X) → Contains (xs ++ y ∷ []) x → P x
each_more P xs y each last x h = go (Contains-append_cases xs (y ∷ []) x h)
  where
    new : (y ≡ x) ⊎ Contains [] x → P x
    new (inl e) = subst P e last
    new (inr i) = absurd (Contains-none x i)

    go : Contains xs x ⊎ Contains (y ∷ []) x → P x
    go (inl i) = each x i
    go (inr i) = new (Contains-cases y x [] i)

abbrev all_of : List (List ℕ) → List ℕ
all_of lists = flat_map (λ (ls : List ℕ). ls) lists

-- the lists of a function, joined
joined_map : (f : ℕ → List ℕ) (xs : List ℕ) → all_of (map f xs) ≡ flat_map f xs
joined_map f [] = refl
joined_map f (x ∷ xs) = ap (λ ls. f x ++ ls) (joined_map f xs)

-- the labels of a secret are a grid
secret_grid : (s : SecretPlan) → all_of (secret_labels (s ∷ [])) ≡ grid s.first s.width s.shares
secret_grid s =
    ap all_of (append-nil (map (share_labels s) (range_with_len 0 s.width))) ∙ joined_map (share_labels s) (range_with_len 0 s.width)

abbrev pub one_secret : LabelTable → SecretPlan → ℕ → LabelTable
one_secret table s declared = record table { secrets = table.secrets ++ s ∷ []; declared = declared }

abbrev pub one_mask : LabelTable → MaskPlan → ℕ → LabelTable
one_mask table m declared = record table { masks = table.masks ++ m ∷ []; declared = declared }

secret_below : (table : LabelTable) (s : SecretPlan) → AreBelow (declared_labels table) table.declared → s.first ≡ table.declared → 0 < s.width
    → AreBelow (declared_labels (one_secret table s (table.declared + s.shares * s.width))) (table.declared + s.shares * s.width)
secret_below table s are first some =
    let xs = all_of (secret_labels table.secrets) in
    let ys = flat_map mask_labels table.masks in
    let ns = grid s.first s.width s.shares in
    let new : AreFrom ns table.declared (s.shares * s.width) = subst (λ a. AreFrom ns a (s.shares * s.width)) first (grid_from s.first s.width s.shares some) in
    let lists : secret_labels (table.secrets ++ s ∷ []) ≡ secret_labels table.secrets ++ secret_labels (s ∷ []) =
    flat_map-append (λ (s : SecretPlan). map (share_labels s) (range_with_len 0 s.width)) table.secrets (s ∷ []) in
    let pushed : all_of (secret_labels (table.secrets ++ s ∷ [])) ≡ xs ++ ns =
    ap all_of lists ∙ flat_map-append (λ (ls : List ℕ). ls) (secret_labels table.secrets) (secret_labels (s ∷ [])) ∙ ap (λ ls. xs ++ ls) (secret_grid s) in
    subst (λ ls. AreBelow (ls ++ ys) (table.declared + s.shares * s.width)) (sym pushed) (below_more xs ns ys table.declared (s.shares * s.width) are new)

mask_below : (table : LabelTable) (m : MaskPlan) → AreBelow (declared_labels table) table.declared → m.first ≡ table.declared
    → AreBelow (declared_labels (one_mask table m (table.declared + m.width))) (table.declared + m.width)
mask_below table m are first =
    let xs = all_of (secret_labels table.secrets) in
    let ys = flat_map mask_labels table.masks in
    let ns = range_with_len m.first m.width in
    let new : AreFrom ns table.declared m.width = subst (λ a. AreFrom ns a m.width) first (range_from m.first m.width) in
    let before : AreBelow (xs ++ ys ++ []) table.declared = subst (λ ls. AreBelow ls table.declared) (sym (append-nil (xs ++ ys))) are in
    let pushed : flat_map mask_labels (table.masks ++ m ∷ []) ≡ ys ++ ns =
    flat_map-append mask_labels table.masks (m ∷ []) ∙ ap (λ ls. ys ++ ls) (append-nil ns) in
    let same : xs ++ ys ++ ns ++ [] ≡ xs ++ flat_map mask_labels (table.masks ++ m ∷ []) =
    append-nil (xs ++ ys ++ ns) ∙ append_assoc xs ys ns ∙ ap (λ ls. xs ++ ls) (sym pushed) in
    subst (λ ls. AreBelow ls (table.declared + m.width)) same (below_more (xs ++ ys) ns [] table.declared m.width before new)

table_below : (table : LabelTable) → IsLabelTable table → AreBelow (declared_labels table) table.declared
table_below table is = record { once = is.once; each = is.each }

-- one secret more
pub secret_more : (table : LabelTable) (s : SecretPlan) → IsLabelTable table → s.first ≡ table.declared → 0 < s.width → 0 < s.shares
    → table.declared + s.shares * s.width ≤ 4096 → IsLabelTable (one_secret table s (table.declared + s.shares * s.width))
secret_more table s is first wide shared few =
    let below = secret_below table s (table_below table is) first wide in
    record {
      wide = each_more (λ (t : SecretPlan). 0 < t.width) table.secrets s is.wide wide;
      shared = each_more (λ (t : SecretPlan). 0 < t.shares) table.secrets s is.shared shared;
      mask_wide = is.mask_wide;
      few = few;
      once = below.once;
      each = below.each;
      fresh_once = is.fresh_once;
      fresh_each = is.fresh_each;
    }

-- one mask more
pub mask_more : (table : LabelTable) (m : MaskPlan) → IsLabelTable table → m.first ≡ table.declared → 0 < m.width
    → table.declared + m.width ≤ 4096 → IsLabelTable (one_mask table m (table.declared + m.width))
mask_more table m is first wide few =
    let below = mask_below table m (table_below table is) first in
    record {
      wide = is.wide;
      shared = is.shared;
      mask_wide = each_more (λ (t : MaskPlan). 0 < t.width) table.masks m is.mask_wide wide;
      few = few;
      once = below.once;
      each = below.each;
      fresh_once = is.fresh_once;
      fresh_each = is.fresh_each;
    }
