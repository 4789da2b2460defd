-- The weight and the need, node by node.
use Rattle.std.proofs.Common.{◌≡◌, ℕ, zero, suc, ◌+◌, ◌<◌, ◌≤◌, ◌⊎◌, inl, inr, Bool, true, false, cond, List, [], ◌∷◌, length, take, refl, sym, ◌∙◌, ap, subst, arith, add-one}
use Rattle.std.proofs.lemmas.List.{get_or_past}
use Rattle.std.proofs.lemmas.Bool.{cases_lt}
use Rattle.coco_base.specs.declared.unrolled.Node.{Node}
use Rattle.coco_base.specs.declared.unrolled.Node.TheVariants.{Nothing, Label, Copy, Gate}
use Rattle.coco_model.specs.Cones.{cone_weight, node_weight}
use Rattle.coco_model.specs.Matters.{AreMattering, Matters, mattering_weight}
use Rattle.coco_model.specs.Matters.Matters.{labelled, copied, read}
use Rattle.label_cone.specs.Coned.{mark_at}
use Rattle.label_cone.specs.NodeCones.{node_in}
use Rattle.label_cone.specs.Weights.{AreSumsTo, IsFirstAbove, weighs}

weight_more : (cones : ℕ → List ℕ) (start at : ℕ) (nodes : List Node) (p : ℕ) → p < length nodes → start + p ≡ at
    → cone_weight cones start (take (suc p) nodes) ≡ cone_weight cones start (take p nodes) + node_weight (node_in nodes p) (cones at)
weight_more cones start at [] p h e = absurd (omega (arith, h))
weight_more cones start at (n ∷ ns) zero h e =
    let s : start ≡ at = omega (arith, e) in
    ap (λ i. node_weight n (cones i) + 0) s ∙ omega arith
weight_more cones start at (n ∷ ns) (suc p) h e =
    let ih : cone_weight cones (suc start) (take (suc p) ns) ≡ cone_weight cones (suc start) (take p ns) + node_weight (node_in ns p) (cones at)
    = weight_more cones (suc start) at ns p (omega (arith, h)) (omega (arith, e)) in
    omega (arith, ih)

need_more : (matters : ℕ → Bool) (cones : ℕ → List ℕ) (start at : ℕ) (nodes : List Node) (p : ℕ) → p < length nodes → start + p ≡ at
    → mattering_weight matters cones start (take (suc p) nodes) ≡ mattering_weight matters cones start (take p nodes) + cond (matters at) (length (cones at)) 0
need_more matters cones start at [] p h e = absurd (omega (arith, h))
need_more matters cones start at (n ∷ ns) zero h e =
    let s : start ≡ at = omega (arith, e) in
    ap (λ i. cond (matters i) (length (cones i)) 0 + 0) s ∙ omega arith
need_more matters cones start at (n ∷ ns) (suc p) h e =
    let ih : mattering_weight matters cones (suc start) (take (suc p) ns) ≡ mattering_weight matters cones (suc start) (take p ns) + cond (matters at) (length (cones at)) 0
    = need_more matters cones (suc start) at ns p (omega (arith, h)) (omega (arith, e)) in
    omega (arith, ih)

weight_of : (node : Node) (cone : List ℕ) → node_weight node cone ≡ cond (weighs node) (length cone) 0
weight_of Nothing cone = refl
weight_of (Label l) cone = refl
weight_of (Copy j) cone = refl
weight_of (Gate kind parts operands) cone = refl

smaller_part : (m w : Bool) (size : ℕ) → (m ≡ true → w ≡ true) → cond m size 0 ≤ cond w size 0
smaller_part false w size h = omega arith
smaller_part true true size h = omega arith
smaller_part true false size h = absurd (let f : false ≡ true = h refl in cc)

-- one node more: x is what it adds to the need, y what it adds to the weight
module _ (base : ℕ) (nodes : List Node) (marks : List Bool) (cones : ℕ → List ℕ) (limit p sum need size x y : ℕ)
    (inside : p < length nodes)
    (weighing : (i : ℕ) → mark_at marks i ≡ true → weighs (node_in nodes i) ≡ true)
    (size_is : size ≡ length (cones p)) (x_is : x ≡ cond (mark_at marks p) size 0) (y_is : y ≡ cond (weighs (node_in nodes p)) size 0)
    (known : AreSumsTo base nodes (mark_at marks) cones limit p sum need) where
  sum_more : sum + y ≡ base + cone_weight cones 0 (take (p + 1) nodes)
  sum_more =
      let w : cone_weight cones 0 (take (suc p) nodes) ≡ cone_weight cones 0 (take p nodes) + node_weight (node_in nodes p) (cones p)
      = weight_more cones 0 p nodes p inside (omega arith) in
      let v : node_weight (node_in nodes p) (cones p) ≡ y
      = weight_of (node_in nodes p) (cones p) ∙ ap (λ n. cond (weighs (node_in nodes p)) n 0) (sym size_is) ∙ sym y_is in
      let s = known.sum_is in
      let t : cone_weight cones 0 (take (p + 1) nodes) ≡ cone_weight cones 0 (take (suc p) nodes) = ap (λ n. cone_weight cones 0 (take n nodes)) (add-one p) in
      omega (arith, w, v, s, t)

  needs_more : need + x ≡ base + mattering_weight (mark_at marks) cones 0 (take (p + 1) nodes)
  needs_more =
      let w : mattering_weight (mark_at marks) cones 0 (take (suc p) nodes) ≡ mattering_weight (mark_at marks) cones 0 (take p nodes) + cond (mark_at marks p) (length (cones p)) 0
      = need_more (mark_at marks) cones 0 p nodes p inside (omega arith) in
      let v : cond (mark_at marks p) (length (cones p)) 0 ≡ x = ap (λ n. cond (mark_at marks p) n 0) (sym size_is) ∙ sym x_is in
      let s = known.need_is in
      let t : mattering_weight (mark_at marks) cones 0 (take (p + 1) nodes) ≡ mattering_weight (mark_at marks) cones 0 (take (suc p) nodes)
      = ap (λ n. mattering_weight (mark_at marks) cones 0 (take n nodes)) (add-one p) in
      omega (arith, w, v, s, t)

  pub sums_more : sum + y ≤ limit → AreSumsTo base nodes (mark_at marks) cones limit (p + 1) (sum + y) (need + x)
  sums_more low = record {
    sum_is = sum_more;
    need_is = needs_more;
    smaller = (let a = known.smaller in let b = smaller_part (mark_at marks p) (weighs (node_in nodes p)) size (weighing p) in let c = x_is in let d = y_is in omega (arith, a, b, c, d));
    within = λ fewer h. within_case fewer (cases_lt p fewer) h;
  }
    where
      within_case : (fewer : ℕ) → (p < fewer) ⊎ (fewer ≤ p) → fewer ≤ p + 1 → base + cone_weight cones 0 (take fewer nodes) ≤ limit
      within_case fewer (inl above) h =
          let e : fewer ≡ p + 1 = omega (arith, above, h) in
          subst (λ f. base + cone_weight cones 0 (take f nodes) ≤ limit) (sym e) (subst (λ n. n ≤ limit) sum_more low)
      within_case fewer (inr below) h = known.within fewer below

  pub first_above : limit < sum + y → IsFirstAbove base nodes cones limit (sum + y)
  first_above high = record {
    added = p + 1;
    within = omega (arith, inside);
    is = sum_more;
    above = high;
    least = λ fewer h. known.within fewer (omega (arith, h));
  }

pub sums_none : (base : ℕ) (nodes : List Node) (matters : ℕ → Bool) (cones : ℕ → List ℕ) (limit : ℕ) → base ≤ limit
    → AreSumsTo base nodes matters cones limit 0 base base
sums_none base nodes matters cones limit low = record {
  sum_is = omega arith;
  need_is = omega arith;
  smaller = omega arith;
  within = λ fewer h.
      let e : fewer ≡ 0 = omega (arith, h) in
      subst (λ f. base + cone_weight cones 0 (take f nodes) ≤ limit) (sym e) (omega (arith, low));
}

pub base_above : (base : ℕ) (nodes : List Node) (cones : ℕ → List ℕ) (limit : ℕ) → limit < base → IsFirstAbove base nodes cones limit base
base_above base nodes cones limit high = record {
  added = 0;
  within = omega arith;
  is = omega arith;
  above = high;
  least = λ fewer h. absurd (omega (arith, h));
}

-- a node that matters has a weight
pub mattering_weighs : (nodes : List Node) (marks : List Bool) → AreMattering nodes (mark_at marks) → length marks ≡ length nodes
    → (i : ℕ) → mark_at marks i ≡ true → weighs (node_in nodes i) ≡ true
mattering_weighs nodes marks m long i on = go (cases_lt i (length nodes))
  where
    of_matters : Matters (node_in nodes) i → weighs (node_in nodes i) ≡ true
    of_matters (labelled k l e) = ap weighs e
    of_matters (copied k j kind parts operands e f) = ap weighs e
    of_matters (read k j place kind other parts others operands sources e g h v at) = ap weighs e

    go : (i < length nodes) ⊎ (length nodes ≤ i) → weighs (node_in nodes i) ≡ true
    go (inl below) = of_matters ((m.each i below).0 on)
    go (inr past) = absurd (let f : false ≡ true = sym (get_or_past marks i false (omega (arith, long, past))) ∙ on in cc)
