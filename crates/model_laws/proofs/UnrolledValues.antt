-- The nodes of an unrolled run as a value stand for the roots of the run.
use Rattle.std.proofs.Common.{◌≡◌, ◌≢◌, ℕ, ◌+◌, ◌*◌, ◌/◌, ◌%◌, ◌<◌, ◌⊎◌, inl, inr, refl, sym, ◌∙◌, ap, subst}
use Rattle.std.specs.Prelude.{◌↔◌}
use Rattle.std.proofs.lemmas.Nat.{div-mul-add, mod-mul-add}
use Rattle.coco_base.specs.declared.cell.Part.TheVariants.{Vary}
use Rattle.coco_base.specs.declared.netlist.Flat.{Flat}
use Rattle.coco_base.specs.declared.netlist.FlatCell.{FlatCell}
use Rattle.coco_base.specs.declared.setup.Setup.{Setup}
use Rattle.coco_base.specs.declared.unrolled.Node.{Node}
use Rattle.coco_base.specs.declared.unrolled.Node.TheVariants.{Nothing, Label, Copy, Gate}
use Rattle.coco_base.specs.declared.unrolled.Unrolled.{Unrolled}
use Rattle.coco_model.specs.Netlist.{IsRanked, IsInRange}
use Rattle.coco_model.specs.Carried.{IsBound}
use Rattle.coco_model.specs.Controls.{HasControls}
use Rattle.coco_model.specs.Roots.Root.{nothing}
use Rattle.coco_model.specs.Nodes.{IsNodeOf, AreNodesOf}
use Rattle.coco_model.specs.UnrolledRuns.{rank_of, index_of, node_at, node_part, IsUnrolledOf}
use Rattle.coco_model.proofs.Basics.{any_from_member}
use Rattle.model_laws.proofs.Calms.{vary_or_not}
use Rattle.model_laws.proofs.Noded.{unrolled_law}
use Rattle.model_laws.proofs.Rooted.{IsNothingWhereKnown, nothing_where_known}
use Rattle.model_laws.specs.Laws.{IsChecked, UnrolledLaw}
use Rattle.model_laws.specs.NodeLaws.{StandsForRun, UnrolledRunLaw}

-- numbers of rows and columns are apart
pub number_apart : (n t p s q : ℕ) → p < n → q < n → t * n + p ≡ s * n + q → (t ≡ s) × (p ≡ q)
number_apart n t p s q below other e = (
  sym (div-mul-add t n p below) ∙ ap (λ i. i / n) e ∙ div-mul-add s n q other,
  sym (mod-mul-add t n p below) ∙ ap (λ i. i % n) e ∙ mod-mul-add s n q other,
)

module _ (flat : Flat) (setup : Setup) (cycles : ℕ) (rank : ℕ → ℕ) (ranked : IsRanked flat rank) (range : IsInRange flat)
    (bound : IsBound flat setup) (has_controls : HasControls flat setup) (u : Unrolled)
    (run : IsUnrolledOf flat setup cycles u) where
  checked : IsChecked flat setup cycles rank run.row run.word
  checked = record {
    ranked = ranked;
    bound = bound;
    has_controls = has_controls;
    known = run.stepped.known;
    controls = λ t below. (run.stepped.good t below).controls;
  }

  inside : (b : ℕ) → b < flat.bits → b < u.bits
  inside b below = subst (λ n. b < n) (sym run.bits) below

  apart : (t b s c : ℕ) → b < flat.bits → c < flat.bits → index_of u t b ≡ index_of u s c → (t ≡ s) × (b ≡ c)
  apart t b s c below other e =
      let p = number_apart u.bits t (rank_of u.ranks b) s (rank_of u.ranks c) (run.good.ranks_below b (inside b below))
      (run.good.ranks_below c (inside c other)) e in
      (p.0, run.good.ranks_apart b c (inside b below) (inside c other) p.1)

  stand : AreNodesOf flat cycles (index_of u) run.row run.root (node_at u)
  unfolding UnrolledLaw checked
  stand = unrolled_law flat setup cycles (record { rank = rank; row = run.row; word = run.word; is = checked }) range
      run.root run.rooted run.roots (index_of u) apart run.node run.node_word run.unrolled (node_at u) run.listed

  by_root : (t b : ℕ) → t < cycles → IsNothingWhereKnown (run.row t b) (run.root t b)
  by_root t b below =
      (nothing_where_known flat setup cycles rank run.row run.word checked run.root run.rooted run.roots t below).bits b

  varies : (t b : ℕ) → t < cycles → run.root t b ≢ nothing → run.row t b ≡ Vary
  varies t b below some = go (vary_or_not (run.row t b))
    where
      go : (run.row t b ≡ Vary) ⊎ (run.row t b ≢ Vary) → run.row t b ≡ Vary
      go (inl e) = e
      go (inr n) = absurd (some ((by_root t b below).nothing_if n))

  by_node : (t b : ℕ) → t < cycles → (node : Node) → IsNodeOf flat (index_of u) run.row run.root t b node
      → (node_part node ≡ Vary) ↔ (run.row t b ≡ Vary)
  by_node t b below Nothing h = ((λ e. absurd cc), (λ e. absurd ((by_root t b below).known_if h e)))
  by_node t b below (Label l) h = ((λ e. varies t b below (λ f. cc)), (λ e. refl))
  by_node t b below (Copy j) h = ((λ e. varies t b below h.5), (λ e. refl))
  by_node t b below (Gate kind parts operands) h = ((λ e. varies t b below (λ f. let g = h.3 in cc)), (λ e. refl))

  pub stands : StandsForRun flat setup cycles u run
  unfolding stand
  stands = record {
    stand = stand;
    unknown = λ t b below within. by_node t b below (node_at u (index_of u t b)) (stand.each t b below within);
    leaves = λ t b below within none kind parts operands e.
        let h : IsNodeOf flat (index_of u) run.row run.root t b (Gate kind parts operands) =
        subst (IsNodeOf flat (index_of u) run.row run.root t b) e (stand.each t b below within) in
        none (any_from_member (λ (c : FlatCell). c.output ≡ b) flat.cells h.0 h.1 h.2);
  }

pub unrolled_run_law : UnrolledRunLaw
unfolding UnrolledRunLaw
unrolled_run_law = stands
