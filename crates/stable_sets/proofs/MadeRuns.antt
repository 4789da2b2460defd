-- What the tests are made of: a label table of two secrets of one bit with two shares, a mask, and a fresh mask; and rows.
use Rattle.std.proofs.Common.{◌≡◌, ℕ, zero, suc, ◌+◌, ◌<◌, ◌≤◌, ◌⊎◌, inl, inr, List, [], ◌∷◌, ◌++◌, sym, ◌∙◌, subst, arith, lit≤, length-append}
use Rattle.std.specs.Prelude.{Contains, slice_get, Some}
use Rattle.std.specs.List.{range_with_len}
use Rattle.coco_base.specs.declared.labels.LabelTable.{LabelTable}
use Rattle.coco_base.specs.declared.labels.MaskPlan.{MaskPlan}
use Rattle.coco_base.specs.declared.labels.SecretPlan.{SecretPlan}
use Rattle.coco_base.specs.declared.netlist.Flat.{Flat}
use Rattle.coco_base.specs.declared.text.Text.{Text}
use Rattle.coco_model.specs.Labels.{IsLabelTable}
use Rattle.coco_model.specs.Netlist.{HasNoRepeat}
use Rattle.coco_model.proofs.Basics.{Contains-cases, Contains-none, only_member}
use Rattle.calm_reach.specs.CalmRows.{Calmness, HasPlaces}
use Rattle.stable_sets.specs.Reached.{AreRows}
use Rattle.stable_sets.proofs.ShareLemmas.{below_of_range, in_range}

least_of_range : (from count n : ℕ) → Contains (range_with_len from count) n → from ≤ n
least_of_range from zero n h = absurd (Contains-none n h)
least_of_range from (suc count) n h = go (Contains-cases from n (range_with_len (from + 1) count) h)
    (λ i. least_of_range (from + 1) count n i)
  where
    go : (from ≡ n) ⊎ Contains (range_with_len (from + 1) count) n
        → (Contains (range_with_len (from + 1) count) n → from + 1 ≤ n) → from ≤ n
    go (inl e) rest = omega (arith, e)
    go (inr i) rest = let b = rest i in omega (arith, b)

range_once : (from count : ℕ) → HasNoRepeat (range_with_len from count)
range_once from zero = tt
range_once from (suc count) = (
  (λ h. let b = least_of_range (from + 1) count from h in omega (arith, b)),
  range_once (from + 1) count,
)

abbrev made_table : Text → Text → Text → Text → LabelTable
made_table a b m f = record {
  secrets = record { name = a; width = 1; shares = 2; first = 0 } ∷ record { name = b; width = 1; shares = 2; first = 2 } ∷ [];
  masks = record { name = m; width = 1; first = 4 } ∷ [];
  fresh = record { name = f; width = 1; first = 0 } ∷ [];
  declared = 5;
  per_cycle = 1;
}

made_is_table : (a b m f : Text) → IsLabelTable (made_table a b m f)
made_is_table a b m f = record {
  wide = both (λ (s : SecretPlan). 0 < s.width) (lit≤ tt) (lit≤ tt);
  shared = both (λ (s : SecretPlan). 0 < s.shares) (lit≤ tt) (lit≤ tt);
  mask_wide = only_member (λ (k : MaskPlan). 0 < k.width) _ (lit≤ tt);
  few = lit≤ tt;
  once = range_once 0 5;
  each = λ l. (below_of_range 0 5 l, (λ h. in_range 0 5 l (omega arith) h));
  fresh_once = range_once 0 1;
  fresh_each = λ l. (below_of_range 0 1 l, (λ h. in_range 0 1 l (omega arith) h));
}
  where
    both : (P : SecretPlan → Type 0) → P (record { name = a; width = 1; shares = 2; first = 0 })
        → P (record { name = b; width = 1; shares = 2; first = 2 })
        → (s : SecretPlan) → Contains (made_table a b m f).secrets s → P s
    both P one other s h = go (Contains-cases (record { name = a; width = 1; shares = 2; first = 0 }) s
        (record { name = b; width = 1; shares = 2; first = 2 } ∷ []) h)
      where
        go : (record { name = a; width = 1; shares = 2; first = 0 } ≡ s)
            ⊎ Contains (record { name = b; width = 1; shares = 2; first = 2 } ∷ []) s → P s
        go (inl e) = subst P e one
        go (inr i) = only_member P (record { name = b; width = 1; shares = 2; first = 2 }) other s i

pub table_of : (secrets : List SecretPlan) (masks fresh : List MaskPlan) (a b m f : Text)
    → secrets ≡ (made_table a b m f).secrets → masks ≡ (made_table a b m f).masks → fresh ≡ (made_table a b m f).fresh
    → IsLabelTable (record { secrets = secrets; masks = masks; fresh = fresh; declared = 5; per_cycle = 1 })
table_of secrets masks fresh a b m f e g h =
    subst (λ ss. IsLabelTable (record { secrets = ss; masks = masks; fresh = fresh; declared = 5; per_cycle = 1 })) (sym e)
    (subst (λ ms. IsLabelTable (record { secrets = (made_table a b m f).secrets; masks = ms; fresh = fresh; declared = 5; per_cycle = 1 })) (sym g)
    (subst (λ ms. IsLabelTable (record { secrets = (made_table a b m f).secrets; masks = (made_table a b m f).masks; fresh = ms; declared = 5; per_cycle = 1 })) (sym h)
    (made_is_table a b m f)))

-- what stands in a list with one item more
pushed_at : {X : Type 0} (xs : List X) (x : X) (k : ℕ) (y : X) → slice_get (xs ++ x ∷ []) k ≡ Some y
    → (slice_get xs k ≡ Some y) ⊎ (x ≡ y)
pushed_at [] x zero y at = inr (let e : Some x ≡ Some y = at in cc)
pushed_at [] x (suc k) y at = absurd cc
pushed_at (z ∷ zs) x zero y at = inl at
pushed_at (z ∷ zs) x (suc k) y at = pushed_at zs x k y at

-- one row more
pub rows_more : (flat : Flat) (count : ℕ) (rows : List Calmness) (row : Calmness) → AreRows flat count rows → HasPlaces flat row
    → AreRows flat (count + 1) (rows ++ row ∷ [])
rows_more flat count rows row known own = record {
  as_long = length-append rows (row ∷ []) ∙ (let n = known.as_long in omega (arith, n));
  each = λ t r at. go t r (pushed_at rows row t r at);
}
  where
    go : (t : ℕ) (r : Calmness) → (slice_get rows t ≡ Some r) ⊎ (row ≡ r) → HasPlaces flat r
    go t r (inl at) = known.each t r at
    go t r (inr e) = subst (HasPlaces flat) e own
