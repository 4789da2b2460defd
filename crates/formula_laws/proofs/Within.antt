-- The set of the pairs of a try has labels alone that have variables.
use Rattle.std.proofs.Common.{◌≡◌, ◌≢◌, ℕ, ◌<◌, Bool, true, false, List, [], ◌∷◌, map, length, sym, ap, ◌∙◌, ◌⊎◌, inl, inr}
use Rattle.std.specs.Prelude.{Contains}
use Rattle.std.proofs.lemmas.Bool.{cases_lt, cases_Bool, false≢true}
use Rattle.std.proofs.lemmas.List.{get_or_past}
use Rattle.coco_base.specs.declared.cell.Part.TheVariants.{Zero, Vary}
use Rattle.coco_base.specs.declared.finding.Probe.{Probe}
use Rattle.coco_base.specs.declared.unrolled.Node.TheVariants.{Nothing}
use Rattle.coco_base.specs.declared.unrolled.Unrolled.{Unrolled}
use Rattle.coco_model.specs.Cells.{xor}
use Rattle.coco_model.specs.Findings.{Labels, IsSeen}
use Rattle.coco_model.specs.Goals.{IsProbedLabel}
use Rattle.coco_model.specs.Labels.{parity}
use Rattle.coco_model.specs.Nodes.{IsNodeSelection}
use Rattle.coco_model.specs.Reach.{Reach}
use Rattle.coco_model.specs.Secure.{moments, lasting}
use Rattle.coco_model.specs.UnrolledRuns.{index_of, node_at, node_part}
use Rattle.coco_model.specs.WrittenFindings.{set_of_nodes}
use Rattle.coco_model.proofs.Basics.{Contains-here, Contains-later}
use Rattle.model_laws.proofs.Lists.{joined_of_flat_map}
use Rattle.label_cone.specs.Coned.{Coned}
use Rattle.probe_clauses.specs.RunViews.{RunView}
use Rattle.probe_encode.specs.Formulas.{labels_of}
use Rattle.probe_encode.specs.Sources.{encoding_of}
use Rattle.formula_laws.specs.Runs.{IsFormulaRun, seen_in}
use Rattle.formula_laws.specs.Probes.{AreProbesOf}
use Rattle.formula_laws.specs.Labelled.{LabelsLaw, NodeConesLaw}

-- an odd number of ones has a one
record HasOne {X : Type 0} (f : X → Bool) (xs : List X) : Type 0 where
  member : X
  listed : Contains xs member
  one : f member ≡ true

one_of : {X : Type 0} (f : X → Bool) (xs : List X) → parity (map f xs) ≡ true → HasOne f xs
one_of f [] e = absurd (false≢true e)
one_of f (x ∷ xs) e = go (cases_Bool (f x)) (one_of f xs)
  where
    go : (f x ≡ true) ⊎ (f x ≡ false) → (parity (map f xs) ≡ true → HasOne f xs) → HasOne f (x ∷ xs)
    go (inl here) rest = record { member = x; listed = Contains-here x xs; one = here }
    go (inr none) rest =
        let r = rest (sym (ap (λ b. xor b (parity (map f xs))) none) ∙ e) in
        record { member = r.member; listed = Contains-later x r.member xs r.listed; one = r.one }

inside : (u : Unrolled) (i : ℕ) → node_part (node_at u i) ≡ Vary → i < length u.nodes
inside u i e = elim (cases_lt i (length u.nodes)) [
  | inl lt ↦ lt
  | inr past ↦ absurd (no_vary (sym (ap node_part (get_or_past u.nodes i Nothing past)) ∙ e))
]
  where
    no_vary : Zero ≢ Vary
    no_vary f = absurd cc

pub labels_within : LabelsLaw → NodeConesLaw → (view : RunView) (u : Unrolled) (coned : Coned) (reach : Reach) → IsFormulaRun view u coned reach
    → (probes pairs : List Probe) → AreProbesOf (seen_in view u reach) view.order probes pairs
    → (numbers : List ℕ) (sets : ℕ → Labels) → IsNodeSelection u.nodes numbers sets
    → (l : ℕ) → set_of_nodes (index_of u) sets pairs l ≡ true → Contains (labels_of (encoding_of view u coned)) l
unfolding LabelsLaw NodeConesLaw
labels_within labels cones view u coned reach run probes pairs are numbers sets selection l e =
    go (one_of (λ (p : Probe). sets (index_of u p.cycle p.bit) l) pairs e)
  where
    go : HasOne (λ (p : Probe). sets (index_of u p.cycle p.bit) l) pairs → Contains (labels_of (encoding_of view u coned)) l
    go h = ((labels view u coned reach run).members l).1 (probed (are.seen h.member h.listed) (are.seen h.member h.listed).listed)
      where
        probed : (s : IsSeen (seen_in view u reach).row reach (moments u.cycles view.window probes) h.member)
            → Contains (moments u.cycles view.window probes) s.probe → IsProbedLabel (seen_in view u reach) l
        probed s listed =
            let j = joined_of_flat_map (lasting u.cycles view.window) probes s.probe listed in
            record {
              probe = j.source;
              is_probe = are.each j.source j.listed;
              moment = s.probe;
              lasts = j.member;
              leaf = h.member.bit;
              cycle = h.member.cycle;
              shows = s.shows;
              member = cones u run.source.unrolled_value numbers sets selection (index_of u h.member.cycle h.member.bit) l
                  (inside u (index_of u h.member.cycle h.member.bit) s.unknown) h.one;
            }
