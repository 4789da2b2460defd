-- The set of a finding's pairs, and that it shows a leak.
use Rattle.std.proofs.Common.{◌≡◌, ℕ, ◌+◌, ◌*◌, ◌<◌, ◌≤◌, Bool, true, false, not, cond, List, [], ◌∷◌, ◌++◌, map, take, length, get_or, refl, sym, ◌∙◌, ap, arith}
use Rattle.std.proofs.Math.Nat.{mul-le-mul_right}
use Rattle.std.specs.Prelude.{◌↔◌, IsTrue, Contains}
use Rattle.std.proofs.lemmas.List.{get_or_default, map-append, take_more}
use Rattle.coco_base.specs.LabelSets.{has, IsSymmetricDifference}
use Rattle.coco_base.specs.declared.finding.Finding.{Finding}
use Rattle.coco_base.specs.declared.finding.Probe.{Probe}
use Rattle.coco_base.specs.declared.labels.LabelTable.{LabelTable}
use Rattle.coco_base.specs.declared.unrolled.Unrolled.{Unrolled}
use Rattle.coco_model.specs.Cells.{xor}
use Rattle.coco_model.specs.Labels.{parity}
use Rattle.coco_model.specs.Findings.{Labels, IsWhole}
use Rattle.coco_model.specs.Nodes.{IsNodeSelection}
use Rattle.coco_model.specs.UnrolledRuns.{index_of, IsUnrolledValue}
use Rattle.coco_model.specs.WrittenFindings.{IsLeakingSet, set_of_nodes}
use Rattle.coco_model.proofs.Basics.{Contains-here, Contains-later}
use Rattle.stable_sets.specs.Chosen.{AreAllowed, AreFollowed, sets_in}
use Rattle.stable_sets.specs.Shown.{AreSameLabels, HasLeakingSet, IsInside}
use Rattle.stable_sets.proofs.NodeSetLemmas.{sets_agree}
use Rattle.stable_sets.proofs.ShareLemmas.{has_of_member}

-- the number of a node that is in a run is in range
pub index_below : (u : Unrolled) (p : Probe) → IsUnrolledValue u → IsInside u p → index_of u p.cycle p.bit < length u.nodes
index_below u p is inside =
    let rows : (p.cycle + 1) * u.bits ≤ u.cycles * u.bits = mul-le-mul_right u.bits (let b = inside.cycle in omega (arith, b)) in
    let rank = is.ranks_below p.bit inside.bit in
    let long = is.as_long in
    omega (arith, rows, rank, long)

-- one bit more
parity_more : (bs : List Bool) (b : Bool) → parity (bs ++ b ∷ []) ≡ cond (parity bs) (not b) b
parity_more [] true = refl
parity_more [] false = refl
parity_more (true ∷ bs) b = ap not (parity_more bs b) ∙ flip (parity bs) b
  where
    flip : (p c : Bool) → not (cond p (not c) c) ≡ cond (not p) (not c) c
    flip true true = refl
    flip true false = refl
    flip false true = refl
    flip false false = refl
parity_more (false ∷ bs) b = parity_more bs b

-- the set of pairs and one pair more
pub set_more : (index : ℕ → ℕ → ℕ) (sets : List (List ℕ)) (pairs : List Probe) (place : ℕ) (d : Probe) (i : ℕ) (old own new : List ℕ)
    → place < length pairs → i ≡ index (get_or pairs place d).cycle (get_or pairs place d).bit → i < length sets
    → own ≡ get_or sets i own → IsSymmetricDifference old own new
    → ((l : ℕ) → has old l ≡ set_of_nodes index (sets_in sets) (take place pairs) l)
    → (l : ℕ) → has new l ≡ set_of_nodes index (sets_in sets) (take (place + 1) pairs) l
set_more index sets pairs place d i old own new inside number below is difference known l =
    difference.each l
    ∙ ap (λ b. cond b (not (has own l)) (has own l)) (known l)
    ∙ ap (λ b. cond (parity (map of (take place pairs))) (not b) b) same
    ∙ sym (parity_more (map of (take place pairs)) (of (get_or pairs place d)))
    ∙ ap parity (sym (map-append of (take place pairs) (get_or pairs place d ∷ [])))
    ∙ ap (λ ps. parity (map of ps)) (sym (take_more pairs place d inside))
  where
    of : Probe → Bool
    of u = sets_in sets (index u.cycle u.bit) l

    same : has own l ≡ sets_in sets (index (get_or pairs place d).cycle (get_or pairs place d).bit) l
    same = ap (λ s. has s l) (is ∙ get_or_default sets i own [] below) ∙ ap (λ k. sets_in sets k l) number

-- families of sets that agree at the nodes of pairs give them one set
set_of_nodes-cong : (index : ℕ → ℕ → ℕ) (f g : ℕ → Labels) (pairs : List Probe) (l : ℕ)
    → ((p : Probe) → Contains pairs p → f (index p.cycle p.bit) l ≡ g (index p.cycle p.bit) l)
    → set_of_nodes index f pairs l ≡ set_of_nodes index g pairs l
set_of_nodes-cong index f g [] l agree = refl
set_of_nodes-cong index f g (p ∷ ps) l agree =
    ap (λ b. xor b (set_of_nodes index f ps l)) (agree p (Contains-here p ps))
    ∙ ap (xor (g (index p.cycle p.bit) l)) (set_of_nodes-cong index f g ps l (λ q h. agree q (Contains-later p q ps h)))

-- sets with the same labels
whole_same : (table : LabelTable) (f g : Labels) → ((l : ℕ) → f l ≡ g l) → IsWhole table f → IsWhole table g
whole_same table f g same whole = record {
  no_mask = λ l h. whole.no_mask l (same l ∙ h);
  all_or_none = λ ls h a b ca cb. sym (same a) ∙ whole.all_or_none ls h a b ca cb ∙ same b;
}

leaking_same : (table : LabelTable) (f g : Labels) → ((l : ℕ) → f l ≡ g l) → IsLeakingSet table f → IsLeakingSet table g
leaking_same table f g same leaks = record {
  member = leaks.member;
  not_empty = sym (same leaks.member) ∙ leaks.not_empty;
  whole = whole_same table f g same leaks.whole;
}

pub leaking_set : (table : LabelTable) (set : List ℕ) → (set ≡ [] → ⊥) → IsWhole table (has set) → IsLeakingSet table (has set)
leaking_set table [] some whole = absurd (some refl)
leaking_set table (x ∷ xs) some whole = record {
  member = x;
  not_empty = has_of_member x (x ∷ xs) (Contains-here x xs);
  whole = whole;
}

-- a difference that is empty
same_labels : (a b c : List ℕ) → IsSymmetricDifference a b c → c ≡ [] → (l : ℕ) → has a l ≡ has b l
same_labels a b c difference none l = go (has a l) (has b l) (sym (difference.each l) ∙ ap (λ s. has s l) none)
  where
    go : (x y : Bool) → cond x (not y) y ≡ false → x ≡ y
    go true true e = refl
    go true false e = e
    go false true e = sym e
    go false false e = refl

no_difference : (a b c : List ℕ) → IsSymmetricDifference a b c → ((l : ℕ) → has a l ≡ has b l) → c ≡ []
no_difference a b [] difference same = refl
no_difference a b (x ∷ xs) difference same =
    absurd (let f : true ≡ false = sym (has_of_member x (x ∷ xs) (Contains-here x xs)) ∙ difference.each x
    ∙ ap (λ v. cond v (not (has b x)) (has b x)) (same x) ∙ go (has b x) in cc)
  where
    go : (y : Bool) → cond y (not y) y ≡ false
    go true = refl
    go false = refl

pub no_difference_is : (a b c : List ℕ) (t : Bool) → IsSymmetricDifference a b c → IsTrue t ↔ (c ≡ []) → IsTrue t ↔ AreSameLabels a b
no_difference_is a b c t difference empty =
    ((λ h. same_labels a b c difference (empty.0 h)), (λ same. empty.1 (no_difference a b c difference same)))

-- the set of pairs, by the sets of a selection, and those of a value that is a finding
module _ (u : Unrolled) (finding : Finding) (sets : List (List ℕ)) (set : List ℕ)
    (value : IsUnrolledValue u) (allowed : AreAllowed u.nodes finding.selection.choices)
    (inside : (p : Probe) → Contains finding.seen p → IsInside u p)
    (followed : AreFollowed u.nodes finding.selection.choices sets)
    (is_set : (l : ℕ) → has set l ≡ set_of_nodes (index_of u) (sets_in sets) finding.seen l) where
  -- whatever sets the selection gives, the pairs have this set
  pairs_set : (other : ℕ → Labels) → IsNodeSelection u.nodes finding.selection.choices other
      → (l : ℕ) → has set l ≡ set_of_nodes (index_of u) other finding.seen l
  pairs_set other selection l =
      is_set l ∙ set_of_nodes-cong (index_of u) (sets_in sets) other finding.seen l (λ p h.
      let below = index_below u p value (inside p h) in
      sets_agree u value finding.selection.choices allowed (sets_in sets) other followed.selection selection (length u.nodes)
      (index_of u p.cycle p.bit) l below below)

  leaking_found : AreSameLabels set finding.set × IsLeakingSet u.table (has set) → HasLeakingSet u finding
  leaking_found p = record {
    sets = sets_in sets;
    selection = followed.selection;
    leaks = leaking_same u.table (has set) (set_of_nodes (index_of u) (sets_in sets) finding.seen) is_set p.1;
    set = λ l. sym (p.0 l) ∙ is_set l;
  }

  found_leaking : HasLeakingSet u finding → AreSameLabels set finding.set × IsLeakingSet u.table (has set)
  found_leaking found = (
    (λ l. pairs_set found.sets found.selection l ∙ sym (found.set l)),
    leaking_same u.table (set_of_nodes (index_of u) found.sets finding.seen) (has set)
        (λ l. sym (pairs_set found.sets found.selection l)) found.leaks,
  )

  pub leak_is : (b : Bool) → IsTrue b ↔ (AreSameLabels set finding.set × IsLeakingSet u.table (has set))
      → IsTrue b ↔ HasLeakingSet u finding
  leak_is b told = ((λ h. leaking_found (told.0 h)), (λ found. told.1 (found_leaking found)))
