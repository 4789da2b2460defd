-- A bit of a word leaf has in each cycle what its word's bit has.
use Rattle.std.proofs.Common.{◌≡◌, ℕ, zero, suc, ◌<◌, sym, ◌∙◌, ap, arith}
use Rattle.std.specs.Prelude.{Contains, slice_get, Some}
use Rattle.coco_base.specs.declared.netlist.Flat.{Flat}
use Rattle.coco_base.specs.declared.setup.LeafPlan.{LeafPlan}
use Rattle.coco_base.specs.declared.setup.Setup.{Setup}
use Rattle.coco_model.specs.Netlist.{Valuation}
use Rattle.coco_model.specs.Carried.{States, stored_word, IsCarried}
use Rattle.coco_model.specs.Run.{values}
use Rattle.coco_model.specs.Known.{parts, ones}
use Rattle.coco_model.specs.Roots.{roots}
use Rattle.model_laws.specs.Laws.{WordLeafLaw}

leaf_as_word : {X : Type 0} (states : States X) (flat : Flat) (setup : Setup) (cycles : ℕ) (v : ℕ → Valuation) (state : ℕ → ℕ → X)
    (word : ℕ → ℕ → ℕ → X) → IsCarried states flat setup cycles v state word
    → (leaf : LeafPlan) → Contains setup.leaves leaf → (k b : ℕ) → slice_get leaf.bits k ≡ Some b
    → (t : ℕ) → t < cycles → state t b ≡ word t leaf.address k
leaf_as_word states flat setup cycles v state word carried leaf listed k b at zero below =
    carried.first.leaves leaf listed k b at
leaf_as_word states flat setup cycles v state word carried leaf listed k b at (suc t) below =
    (carried.next t below).leaves leaf listed k b at
    ∙ ap (stored_word states (v t) (state t) setup.memories leaf.address k)
    (leaf_as_word states flat setup cycles v state word carried leaf listed k b at t (omega arith))
    ∙ sym ((carried.next t below).words leaf.address k)

pub word_leaf_law : WordLeafLaw
unfolding WordLeafLaw
word_leaf_law flat setup cycles leaf listed k b at t below = record {
  runs = λ choice v m run. leaf_as_word (values choice) flat setup cycles v v m run.carried leaf listed k b at t below;
  known = λ row word is.
      leaf_as_word parts flat setup cycles (λ s. ones (row s)) row word is.carried leaf listed k b at t below;
  roots = λ row root word is.
      leaf_as_word roots flat setup cycles (λ s. ones (row s)) root word is.carried leaf listed k b at t below;
}
