-- What is found of a run, in the words of its numbers of bits and cycles.
use Rattle.std.proofs.Common.{◌≡◌, ℕ, ◌+◌, ◌*◌, Bool, List, length, ◌∙◌, ap, subst}
use Rattle.coco_base.specs.declared.unrolled.Node.{Node}
use Rattle.coco_base.specs.declared.unrolled.Unrolled.{Unrolled}
use Rattle.coco_model.specs.Matters.{AreMattering, mattering_weight}
use Rattle.label_cone.specs.Coned.{HasSumAbove, IsConedRun, coned_of, mark_at}
use Rattle.label_cone.specs.NodeCones.{AreConesTo, AreSets, IsOrderedRun, cone_at, cones_in}
use Rattle.label_cone.specs.Weights.{IsFirstAbove}
use Rattle.label_cone.proofs.ConeLemmas.{cones_all}

pub coned_run : (u : Unrolled) (order : ℕ) (nodes : List Node) (sets : List (List ℕ)) (places : List ℕ) (marks : List Bool) (need base : ℕ)
    → IsOrderedRun u → nodes ≡ u.nodes → AreSets sets places → AreConesTo nodes (length nodes) (cones_in sets places)
    → AreMattering nodes (mark_at marks) → length marks ≡ length nodes → base ≡ length nodes * (order + 1)
    → need ≡ base + mattering_weight (mark_at marks) (cone_at (cones_in sets places)) 0 nodes
    → IsConedRun u order (coned_of sets places marks need)
coned_run u order nodes sets places marks need base run e s known m long b n =
    let here = subst (λ ns. AreConesTo ns (length ns) (cones_in sets places)) e known in
    record {
      as_long = here.as_long;
      cones = cones_all u.nodes sets places s here;
      marks_long = subst (λ ns. length marks ≡ length ns) e long;
      matters = subst (λ ns. AreMattering ns (mark_at marks)) e m;
      need = n ∙ ap (λ k. k + mattering_weight (mark_at marks) (cone_at (cones_in sets places)) 0 nodes) b
          ∙ ap (λ ns. length ns * (order + 1) + mattering_weight (mark_at marks) (cone_at (cones_in sets places)) 0 ns) e
          ∙ ap (λ k. k * (order + 1) + mattering_weight (mark_at marks) (cone_at (cones_in sets places)) 0 u.nodes) run.as_long;
    }

base_is : (u : Unrolled) (order : ℕ) (nodes : List Node) (base : ℕ) → IsOrderedRun u → nodes ≡ u.nodes → base ≡ length nodes * (order + 1)
    → base ≡ u.bits * u.cycles * (order + 1)
base_is u order nodes base run e b = b ∙ ap (λ ns. length ns * (order + 1)) e ∙ ap (λ k. k * (order + 1)) run.as_long

pub sum_above : (u : Unrolled) (order limit count : ℕ) (nodes : List Node) (sets : List (List ℕ)) (places : List ℕ) (base : ℕ)
    → IsOrderedRun u → nodes ≡ u.nodes → AreSets sets places → AreConesTo nodes (length nodes) (cones_in sets places)
    → base ≡ length nodes * (order + 1) → IsFirstAbove base nodes (cone_at (cones_in sets places)) limit count
    → HasSumAbove u order limit count
sum_above u order limit count nodes sets places base run e s known b above =
    let here = subst (λ ns. AreConesTo ns (length ns) (cones_in sets places)) e known in
    let first = subst (λ k. IsFirstAbove k u.nodes (cone_at (cones_in sets places)) limit count) (base_is u order nodes base run e b)
    (subst (λ ns. IsFirstAbove base ns (cone_at (cones_in sets places)) limit count) e above) in
    record {
      cones = cone_at (cones_in sets places);
      are_cones = cones_all u.nodes sets places s here;
      sum = record { added = first.added; within = first.within; is = first.is; above = first.above; least = first.least };
    }
