-- The sets of a selection lie in the cones of the roots.
use Rattle.std.proofs.Common.{◌≡◌, ℕ, zero, suc, ◌<◌, ◌⊎◌, inl, inr, true, false, ◌&&◌, List, [], ◌∷◌, get_or, refl, sym, ◌∙◌, ap, subst, arith}
use Rattle.std.specs.Prelude.{Contains}
use Rattle.std.proofs.lemmas.Bool.{false≢true, cases_Bool, eqb-true}
use Rattle.coco_base.specs.declared.netlist.Flat.{Flat}
use Rattle.coco_base.specs.declared.netlist.FlatCell.{FlatCell}
use Rattle.coco_base.specs.declared.netlist.Wire.{Wire}
use Rattle.coco_base.specs.declared.netlist.Wire.TheVariants.{Const, Bit}
use Rattle.coco_base.specs.declared.setup.Setup.{Setup}
use Rattle.coco_model.specs.Cells.{xor, output_of, Subset}
use Rattle.coco_model.specs.Netlist.{wires_of}
use Rattle.coco_model.specs.Labels.{label_count}
use Rattle.coco_model.specs.Known.{Row, cell_parts}
use Rattle.coco_model.specs.Roots.{Root, wire_root}
use Rattle.coco_model.specs.Roots.Root.{nothing, label, output}
use Rattle.coco_model.specs.Findings.{Labels, chosen_set, IsChosen, IsSelection}
use Rattle.coco_model.specs.Cones.{IsInRootCone}
use Rattle.coco_model.specs.Cones.IsInRootCone.{here, through}
use Rattle.coco_model.proofs.Basics.{Contains-here, Contains-later, some_from_any, HasMember}
use Rattle.coco_model.proofs.LivePlaces.{live_input}
use Rattle.cell_table.proofs.LawLemmas.{sum_lives}
use Rattle.model_laws.specs.Laws.{IsRootInRange}
use Rattle.walsh_laws.specs.Covered.{SelectionConeLaw}
use Rattle.walsh_laws.proofs.Numbering.{number-earlier, number-lower}
use Rattle.walsh_laws.proofs.Homes.{root_home}
use Rattle.walsh_laws.proofs.RunNodes.{IsRootedRun, index_of, in_range, output_below}
use Rattle.coco_model.proofs.Bits.{and-false}
use Rattle.walsh_laws.proofs.Ready.{ready_of}

-- a place of a subset whose set has a label
pub record IsChosenPlace {X : Type 0} (set_of : X → Labels) (subset : Subset) (xs : List X) (l : ℕ) : Type 0 where
  pub place : ℕ
  pub chosen : get_or subset place false ≡ true
  pub item : X
  pub at : (d : X) → get_or xs place d ≡ item
  pub listed : Contains xs item
  pub has : set_of item l ≡ true

pub chosen_place : {X : Type 0} (set_of : X → Labels) (subset : Subset) (xs : List X) (l : ℕ) → chosen_set set_of subset xs l ≡ true
    → IsChosenPlace set_of subset xs l
chosen_place set_of [] xs l e = absurd (false≢true e)
chosen_place set_of (s ∷ ss) [] l e = absurd (false≢true e)
chosen_place set_of (s ∷ ss) (x ∷ xs) l e = go (cases_Bool s) (cases_Bool (set_of x l)) (chosen_place set_of ss xs l)
  where
    later : IsChosenPlace set_of ss xs l → IsChosenPlace set_of (s ∷ ss) (x ∷ xs) l
    later r = record {
      place = suc r.place;
      chosen = r.chosen;
      item = r.item;
      at = r.at;
      listed = Contains-later x r.item xs r.listed;
      has = r.has;
    }

    go : (s ≡ true) ⊎ (s ≡ false) → (set_of x l ≡ true) ⊎ (set_of x l ≡ false)
        → (chosen_set set_of ss xs l ≡ true → IsChosenPlace set_of ss xs l) → IsChosenPlace set_of (s ∷ ss) (x ∷ xs) l
    go (inl k) (inl h) rest = record { place = 0; chosen = k; item = x; at = λ d. refl; listed = Contains-here x xs; has = h }
    go (inr k) other rest = later (rest (sym (ap (λ b. xor (b && set_of x l) (chosen_set set_of ss xs l)) k) ∙ e))
    go (inl k) (inr h) rest = later (rest (sym (ap (λ b. xor (s && b) (chosen_set set_of ss xs l)) h
        ∙ ap (λ b. xor b (chosen_set set_of ss xs l)) (and-false s)) ∙ e))

module _ (flat : Flat) (setup : Setup) (cycles : ℕ) (rank : ℕ → ℕ) (row : ℕ → Row) (word : ℕ → ℕ → Row) (root : ℕ → ℕ → Root)
    (rooted : ℕ → ℕ → ℕ → Root) (ready : IsRootedRun flat setup cycles rank row word root rooted)
    (set_of : Root → Labels) (selection : IsSelection flat cycles row root set_of) where
  range_at : (t b : ℕ) → t < cycles → IsRootInRange flat (label_count setup.table cycles) t b (root t b)
  range_at = in_range flat setup cycles rank row word root rooted ready

  output_inside : (t b s c : ℕ) → t < cycles → root t b ≡ output s c → c < flat.bits
  output_inside = output_below flat setup cycles rank row word root rooted ready

  -- the cone of a root, by those of the outputs that are roots and have lower numbers than a bound
  by_lower : (bound t b l : ℕ) → t < cycles
      → ((s c : ℕ) → root t b ≡ output s c → index_of flat rank s c < bound)
      → ((s c : ℕ) → index_of flat rank s c < bound → s < cycles → c < flat.bits → root s c ≡ output s c → set_of (output s c) l ≡ true
      → IsInRootCone flat row root l (output s c))
      → (r : Root) → root t b ≡ r → set_of r l ≡ true → IsInRootCone flat row root l r
  by_lower bound t b l below lower cones nothing e has = absurd (false≢true (sym (selection.empty l) ∙ has))
  by_lower bound t b l below lower cones (label k) e has = here (label k) (ap label (eqb-true k l (sym (selection.single k l) ∙ has)))
  by_lower bound t b l below lower cones (output s c) e has =
      cones s c (lower s c e) (earlier ((range_at t b below).earlier s c e)) (output_inside t b s c below e)
      (root_home flat setup cycles rank row word ready.checked root rooted ready.is_rooted t below b s c e) has
    where
      earlier : (s < t) ⊎ ((s ≡ t) × (c ≡ b)) → s < cycles
      earlier (inl lt) = omega arith
      earlier (inr same) = let k = same.0 in omega arith

  output_cone : (bound t c l : ℕ) → index_of flat rank t c < bound → t < cycles → c < flat.bits → root t c ≡ output t c
      → set_of (output t c) l ≡ true → IsInRootCone flat row root l (output t c)
  output_cone zero t c l lt below inside own has = absurd (omega arith)
  output_cone (suc bound) t c l lt below inside own has = at_cell
      (some_from_any (λ (x : FlatCell). x.output ≡ c) flat.cells ((range_at t c below).cells t c own))
      (λ s d le. output_cone bound s d l (omega arith))
    where
      at_cell : HasMember (λ (x : FlatCell). x.output ≡ c) flat.cells
          → ((s d : ℕ) → index_of flat rank s d < index_of flat rank t c → s < cycles → d < flat.bits → root s d ≡ output s d
          → set_of (output s d) l ≡ true → IsInRootCone flat row root l (output s d))
          → IsInRootCone flat row root l (output t c)
      at_cell x cones = at_chosen (selection.outputs t below x.member x.listed (subst (λ y. root t y ≡ output t y) (sym x.holds) own))
        where
          at_chosen : IsChosen set_of (row t) (root t) x.member (set_of (output t x.member.output))
              → IsInRootCone flat row root l (output t c)
          at_chosen h = at_place (chosen_place (λ w. set_of (wire_root (root t) w)) h.subset (wires_of x.member) l
              (sym (h.set l) ∙ ap (λ y. set_of (output t y) l) x.holds ∙ has))
            where
              at_place : IsChosenPlace (λ w. set_of (wire_root (root t) w)) h.subset (wires_of x.member) l
                  → IsInRootCone flat row root l (output t c)
              at_place p = wire p.item (p.at (Const false)) p.listed p.has
                where
                  lower : (n : ℕ) → Contains (wires_of x.member) (Bit n) → (s d : ℕ) → root t n ≡ output s d
                      → (s < t) ⊎ ((s ≡ t) × (d ≡ n)) → index_of flat rank s d < index_of flat rank t c
                  lower n reads s d e (inl earlier) = number-earlier flat.bits rank s t c d earlier (output_inside t n s d below e)
                  lower n reads s d e (inr same) =
                      subst (λ u. index_of flat rank u d < index_of flat rank t c) (sym same.0)
                      (number-lower flat.bits rank t c d
                      (let r = ready.checked.ranked.cells x.member x.listed n reads in let a : rank d ≡ rank n = ap rank same.1 in
                      let b : rank x.member.output ≡ rank c = ap rank x.holds in omega arith)
                      (output_inside t n s d below e))

                  wire : (w : Wire) → get_or (wires_of x.member) p.place (Const false) ≡ w → Contains (wires_of x.member) w
                      → set_of (wire_root (root t) w) l ≡ true → IsInRootCone flat row root l (output t c)
                  wire (Const b) at reads is = absurd (false≢true (sym (selection.empty l) ∙ is))
                  wire (Bit n) at reads is = through (output t c) t x.member p.place n x.listed (ap (output t) (sym x.holds))
                      (live_input x.member.kind (cell_parts (row t) x.member) p.place (sum_lives (output_of x.member.kind) h.subset (cell_parts (row t) x.member) h.unknown h.signed p.place p.chosen)) at
                      (by_lower (index_of flat rank t c) t n l below (λ s d e. lower n reads s d e ((range_at t n below).earlier s d e))
                      cones (root t n) refl is)

  pub root_cone : (t b l : ℕ) → t < cycles → b < flat.bits → set_of (root t b) l ≡ true → IsInRootCone flat row root l (root t b)
  root_cone t b l below inside has =
      by_lower (suc (index_of flat rank t b)) t b l below (λ s c e. lower s c e ((range_at t b below).earlier s c e))
      (λ s c lt. output_cone (suc (index_of flat rank t b)) s c l lt) (root t b) refl has
    where
      lower : (s c : ℕ) → root t b ≡ output s c → (s < t) ⊎ ((s ≡ t) × (c ≡ b)) → index_of flat rank s c < suc (index_of flat rank t b)
      lower s c e (inl earlier) = let k = number-earlier flat.bits rank s t b c earlier (output_inside t b s c below e) in omega arith
      lower s c e (inr same) = let k : index_of flat rank s c ≡ index_of flat rank t b = ap (λ u. index_of flat rank u c) same.0
          ∙ ap (index_of flat rank t) same.1 in omega arith

pub selection_cone_law : SelectionConeLaw
unfolding SelectionConeLaw
selection_cone_law flat setup cycles sim root rooted is_rooted set_of selection =
    root_cone flat setup cycles sim.rank sim.row sim.word root rooted (ready_of flat setup cycles sim.rank sim.row sim.word sim.is root rooted is_rooted) set_of
    selection
