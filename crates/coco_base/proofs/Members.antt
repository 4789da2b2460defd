-- Members of sets by the order of numbers, as std's sets tell them, and by equality.
use Rattle.std.proofs.Common.{◌≡◌, ◌∙◌, refl, sym, ℕ, true, List, [], ◌∷◌, nat_cmp}
use Rattle.std.proofs.lemmas.Bool.{eq-eqb}
use Rattle.std.specs.Cmp.{unsigned_tied}
use Rattle.std.specs.Ordering.{eq_by_cmp}
use Rattle.std.specs.Set.{is_member, IsUnion, IsSymmetricDifference}
use Rattle.coco_base.specs.LabelSets.{has}
use Rattle.coco_base.specs.LabelSets as sets

pub is_member-nat_cmp : (xs : List ℕ) (q : ℕ) → has xs q ≡ is_member (eq_by_cmp nat_cmp) xs q
is_member-nat_cmp [] q = refl
is_member-nat_cmp (x ∷ xs) q = rw (unsigned_tied q x, is_member-nat_cmp xs q) refl

pub IsSymmetricDifference-members : (xs ys zs : List ℕ) → IsSymmetricDifference (eq_by_cmp nat_cmp) xs ys zs
    → sets.IsSymmetricDifference xs ys zs
IsSymmetricDifference-members xs ys zs h = record {
  each = λ q. rw (is_member-nat_cmp xs q, is_member-nat_cmp ys q, is_member-nat_cmp zs q) (h q);
}

pub IsUnion-members : (xs ys zs : List ℕ) → IsUnion (eq_by_cmp nat_cmp) xs ys zs → sets.IsUnion xs ys zs
IsUnion-members xs ys zs h = record {
  each = λ q. rw (is_member-nat_cmp xs q, is_member-nat_cmp ys q, is_member-nat_cmp zs q) (h q);
}

-- a number's clone is the number
pub clones_are_equal : (x y : ℕ) → y ≡ x → eq_by_cmp nat_cmp x y ≡ true
clones_are_equal x y e = unsigned_tied x y ∙ eq-eqb x y (sym e)
