-- The finding of a secret of one share, as a value.
use Rattle.std.proofs.Common.{◌≡◌, ℕ, zero, suc, ◌<◌, ◌⊎◌, inl, inr, true, false, ◌||◌, get_or, List, [], ◌∷◌, Some, nat_eq, refl, sym, ◌∙◌, ap, subst, arith}
use Rattle.std.specs.Prelude.{Contains}
use Rattle.std.proofs.lemmas.Bool.{false≢true}
use Rattle.std.proofs.lemmas.Bool.Decides.{nat_tests}
use Rattle.coco_base.specs.LabelSets.{has}
use Rattle.coco_base.specs.declared.text.Text.{Text}
use Rattle.coco_base.specs.declared.cell.Part.TheVariants.{Zero, Vary}
use Rattle.coco_base.specs.declared.finding.Probe.{Probe}
use Rattle.coco_base.specs.declared.unrolled.Node.{Node}
use Rattle.coco_base.specs.declared.unrolled.Node.TheVariants.{Nothing, Label}
use Rattle.coco_model.specs.Cells.{xor}
use Rattle.coco_model.specs.Labels.{secret_labels}
use Rattle.coco_model.specs.Known.{Row}
use Rattle.coco_model.specs.Secure.{IsProbe}
use Rattle.coco_model.specs.Findings.{Labels, IsWhole, IsSeen}
use Rattle.coco_model.specs.Nodes.{node_number, node_set, IsAllowedChoice, IsNodeSelection}
use Rattle.coco_model.specs.WrittenFindings.{set_of_nodes, IsFindingValue}
use Rattle.coco_model.specs.Examples.{known_bits, unshared_setup, unshared_reach, unshared_run, unshared_value}
use Rattle.coco_model.proofs.Basics.{Contains-here, Contains-cases, Contains-none}
use Rattle.coco_model.proofs.Unshared.{one_label, zero_apart}

abbrev index : ℕ → ℕ → ℕ
index = node_number 2 (λ b. b)

abbrev rows : ℕ → Row
rows t = known_bits (Zero ∷ Vary ∷ [])

abbrev nodes : List Node
nodes = Nothing ∷ Label 0 ∷ []

-- the sets of the two nodes
abbrev sets : ℕ → Labels
sets zero l = false
sets (suc i) l = nat_eq 0 l

abbrev the_probe : Probe
the_probe = record { bit = 1; cycle = 0 }

only : (u : Probe) → Contains (the_probe ∷ []) u → the_probe ≡ u
only u h = go (Contains-cases the_probe u [] h)
  where
    go : (the_probe ≡ u) ⊎ Contains [] u → the_probe ≡ u
    go (inl e) = e
    go (inr none) = absurd (Contains-none u none)

is_selection : IsNodeSelection nodes (0 ∷ 0 ∷ []) sets
is_selection = record { as_long = refl; allowed = allowed; follows = follows }
  where
    allowed : (i : ℕ) → i < 2 → IsAllowedChoice (get_or (0 ∷ 0 ∷ []) i 0) (get_or nodes i Nothing)
    allowed zero below = tt
    allowed (suc zero) below = tt
    allowed (suc (suc i)) below = absurd (omega arith)

    follows : (i : ℕ) → i < 2 → (l : ℕ) → sets i l ≡ node_set sets (get_or (0 ∷ 0 ∷ []) i 0) (get_or nodes i Nothing) l
    follows zero below l = refl
    follows (suc zero) below l = refl
    follows (suc (suc i)) below l = absurd (omega arith)

is_whole : (name : Text) → IsWhole (unshared_setup name).table (set_of_nodes index sets (the_probe ∷ []))
is_whole name = record { no_mask = no_mask; all_or_none = all_or_none }
  where
    no_mask : (l : ℕ) → set_of_nodes index sets (the_probe ∷ []) l ≡ true
        → (shares : List ℕ) × Contains (secret_labels (unshared_setup name).table.secrets) shares × Contains shares l
    no_mask zero e = (0 ∷ [], Contains-here (0 ∷ []) [], Contains-here 0 [])
    no_mask (suc l) e = absurd (false≢true (subst (λ b. xor b false ≡ true) (zero_apart l) e))

    all_or_none : (shares : List ℕ) → Contains (secret_labels (unshared_setup name).table.secrets) shares → (a b : ℕ)
        → Contains shares a → Contains shares b
        → set_of_nodes index sets (the_probe ∷ []) a ≡ set_of_nodes index sets (the_probe ∷ []) b
    all_or_none shares h a b in_a in_b =
        ap (set_of_nodes index sets (the_probe ∷ [])) (sym (one_label name shares h a in_a) ∙ one_label name shares h b in_b)

apart_zero : (l : ℕ) → nat_eq (suc l) 0 ≡ false
apart_zero l = grind (arith, nat_tests)

pub is_value : (name : Text) → IsFindingValue (unshared_run name) 1 (unshared_value (0 ∷ []))
is_value name = record {
  sets = sets;
  written = record {
    candidate = record {
      some = omega arith;
      most = omega arith;
      each = λ p h. subst (IsProbe 2 (Some 0) 1) (only p h)
          (record { bit = omega arith; no_clock = λ e. cc; cycle = omega arith });
      ascending = ((λ q h. absurd (Contains-none q h)), tt);
      in_order = ((λ q h. absurd (Contains-none q h)), tt);
      seen = λ u h. subst (IsSeen rows unshared_reach (the_probe ∷ [])) (only u h) (record {
        probe = the_probe;
        listed = Contains-here the_probe [];
        shows = record { reached = Contains-here 1 []; when = inl refl };
        unknown = refl;
      });
      selection = is_selection;
    };
    leaks = record { member = 0; not_empty = refl; whole = is_whole name };
  };
  set = set;
}
  where
    set : (l : ℕ) → has (0 ∷ []) l ≡ set_of_nodes index sets (the_probe ∷ []) l
    set zero = refl
    set (suc l) = ap (λ b. b || false) (apart_zero l) ∙ sym (ap (λ b. xor b false) (zero_apart l))

pub is_no_value : (name : Text) → IsFindingValue (unshared_run name) 1 (unshared_value []) → ⊥
is_no_value name v = false≢true (v.set 0 ∙ ap (λ b. xor b false) (v.written.candidate.selection.follows 1 (omega arith) 0))
