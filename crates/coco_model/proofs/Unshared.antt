-- A secret of one share in a register: the probe of the register is a finding.
use Rattle.std.proofs.Common.{◌≡◌, ℕ, zero, suc, ◌<◌, ◌⊎◌, inl, inr, Bool, true, false, get_or, List, [], ◌∷◌, Some, refl, sym, ◌∙◌, ap, subst, arith}
use Rattle.std.specs.Prelude.{Contains, ◌↔◌, nat_eq}
use Rattle.coco_base.specs.declared.text.Text.{Text}
use Rattle.coco_base.specs.declared.cell.Part.TheVariants.{Zero, Vary}
use Rattle.std.specs.List.Sorted.{IsStrictlyIncreasing}
use Rattle.coco_base.specs.declared.setup.Start.TheVariants.{Public}
use Rattle.coco_base.specs.declared.netlist.FlatCell.{FlatCell}
use Rattle.coco_base.specs.declared.netlist.FlatFlop.{FlatFlop}
use Rattle.coco_base.specs.declared.finding.Probe.{Probe}
use Rattle.std.proofs.lemmas.Bool.Decides.{nat_tests}
use Rattle.coco_model.specs.Cells.{xor}
use Rattle.coco_model.specs.Netlist.{IsUndriven, IsCellBit}
use Rattle.coco_model.specs.Carried.{States, IsCarried, start_state}
use Rattle.coco_model.specs.Known.{Row, parts, ones}
use Rattle.coco_model.specs.Calm.{both}
use Rattle.coco_model.specs.Reach.{Reach, Reaches}
use Rattle.coco_model.specs.Reach.Reaches.{here}
use Rattle.coco_model.specs.Secure.{IsProbe}
use Rattle.coco_model.specs.Roots.{Root, roots}
use Rattle.coco_model.specs.Roots.Root.{nothing, label, output}
use Rattle.coco_model.specs.Labels.{secret_labels}
use Rattle.coco_model.specs.Findings.{Labels, set_of_pairs, IsSeen, HasFinding}
use Rattle.coco_model.specs.Examples.{keeper, one_register, unshared_setup}
use Rattle.coco_model.proofs.Basics.{Contains-here, Contains-cases, Contains-none, any_from_member, some_from_any}
use Rattle.coco_model.proofs.Walks.{same_leaf, walk_cases, IsAtLeaf, IsStep}

no_cells : (name : Text) (b : ℕ) → IsCellBit (one_register name) b → ⊥
no_cells name b h = let s = some_from_any (λ (c : FlatCell). c.output ≡ b) (one_register name).cells h in Contains-none s.member s.listed

-- a state of the register alone
abbrev at_register : {X : Type 0} → X → X → ℕ → X
at_register register other zero = other
at_register register other (suc zero) = register
at_register register other (suc (suc b)) = other

is_carried : {X : Type 0} (states : States X) (v : ℕ → ℕ → Bool) (register other : X) (name : Text) → register ≡ states.label 0
    → other ≡ states.constant false
    → IsCarried states (one_register name) (unshared_setup name) 1 v (λ t. at_register register other) (λ t address k. other)
is_carried states v register other name named plain = record {
  given = λ t below. record {
    undriven = undriven;
    clock = λ b e. clock b e;
    inputs = λ p h. absurd (Contains-none p h);
  };
  first = record {
    flops = flops;
    echoes = λ e h. absurd (Contains-none e h);
    answers = λ mem h. absurd (Contains-none mem h);
    leaves = λ leaf h. absurd (Contains-none leaf h);
    words = λ address k. plain;
  };
  next = λ t below. absurd (omega arith);
}
  where
    undriven : (b : ℕ) → IsUndriven (one_register name) b → at_register register other b ≡ states.constant false
    undriven zero u = plain
    undriven (suc zero) u =
        absurd (u.no_flop (any_from_member (λ (f : FlatFlop). f.output ≡ 1) (one_register name).flops (keeper name 1) (Contains-here (keeper name 1) []) refl))
    undriven (suc (suc b)) u = plain

    clock : (b : ℕ) → Some 0 ≡ Some b → at_register register other b ≡ states.constant false
    clock zero e = plain
    clock (suc b) e = absurd cc

    flops : (f : FlatFlop) → Contains (one_register name).flops f
        → at_register register other f.output
        ≡ start_state states (unshared_setup name).table 0 (get_or (unshared_setup name).starts f.output (Public false))
    flops f h = go (Contains-cases (keeper name 1) f [] h)
      where
        go : (keeper name 1 ≡ f) ⊎ Contains [] f
            → at_register register other f.output
            ≡ start_state states (unshared_setup name).table 0 (get_or (unshared_setup name).starts f.output (Public false))
        go (inl e) =
            subst (λ (f : FlatFlop). at_register register other f.output ≡ start_state states (unshared_setup name).table 0 (get_or (unshared_setup name).starts f.output (Public false))) e named
        go (inr none) = absurd (Contains-none f none)

abbrev row : Row
row = at_register Vary Zero

abbrev reach : Reach
reach t = at_register (1 ∷ []) []

abbrev root : ℕ → ℕ → Root
root t = at_register (label 0) nothing

abbrev set_of : Root → Labels
set_of nothing l = false
set_of (label k) l = nat_eq k l
set_of (output t b) l = false

abbrev the_probe : Probe
the_probe = record { bit = 1; cycle = 0 }

calm_row : (b : ℕ) → row b ≡ both (row b) (row b)
calm_row zero = refl
calm_row (suc zero) = refl
calm_row (suc (suc b)) = refl

reached : (name : Text) (b : ℕ) → b < 2 → (leaf : ℕ) → Contains (reach 0 b) leaf ↔ Reaches (one_register name) row leaf b
reached name zero below leaf = ((λ h. absurd (Contains-none leaf h)), λ walk. absurd (none walk))
  where
    none : Reaches (one_register name) row leaf 0 → ⊥
    none walk = go (walk_cases (one_register name) row leaf 0 walk)
      where
        go : IsAtLeaf (one_register name) row leaf 0 ⊎ IsStep (one_register name) row leaf 0 → ⊥
        go (inl a) = let e : row 0 ≡ Vary = subst (λ b. row b ≡ Vary) a.same a.varies in cc
        go (inr s) = Contains-none s.cell s.listed
reached name (suc zero) below leaf = (to, from)
  where
    to : Contains (1 ∷ []) leaf → Reaches (one_register name) row leaf 1
    to h = go (Contains-cases 1 leaf [] h)
      where
        go : (1 ≡ leaf) ⊎ Contains [] leaf → Reaches (one_register name) row leaf 1
        go (inl e) = subst (λ l. Reaches (one_register name) row l 1) e (here (no_cells name 1) refl)
        go (inr none) = absurd (Contains-none leaf none)

    from : Reaches (one_register name) row leaf 1 → Contains (1 ∷ []) leaf
    from walk =
        subst (Contains {X = ℕ} (1 ∷ [])) (sym (same_leaf (one_register name) row leaf 1 (no_cells name 1) walk)) (Contains-here 1 [])
reached name (suc (suc b)) below leaf = absurd (omega arith)

pub zero_apart : (l : ℕ) → nat_eq 0 (suc l) ≡ false
zero_apart l = grind (arith, nat_tests)

-- the one secret has the label 0 alone
pub one_label : (name : Text) (shares : List ℕ) → Contains (secret_labels (unshared_setup name).table.secrets) shares → (l : ℕ)
    → Contains shares l → 0 ≡ l
one_label name shares h l i = go (Contains-cases (0 ∷ []) shares [] h)
  where
    last : (0 ≡ l) ⊎ Contains [] l → 0 ≡ l
    last (inl e) = e
    last (inr none) = absurd (Contains-none l none)

    go : ((0 ∷ []) ≡ shares) ⊎ Contains [] shares → 0 ≡ l
    go (inl e) = last (Contains-cases 0 l [] (subst (λ s. Contains s l) (sym e) i))
    go (inr none) = absurd (Contains-none shares none)

pub unshared_finding : (name : Text) → HasFinding (one_register name) (unshared_setup name) 1 1 1
unshared_finding name = record {
  row = λ t. row;
  word = λ t address k. Zero;
  calm = λ t. row;
  reach = reach;
  root = root;
  rooted_word = λ t address k. nothing;
  known = record {
    forced = λ t below. record { cells = λ c h. absurd (Contains-none c h) };
    carried = is_carried parts (λ t. ones row) Vary Zero name refl refl;
  };
  still = λ t below. record { leaves = λ b none. calm_row b; forced = record { cells = λ c h. absurd (Contains-none c h) } };
  reached = λ t below b inside. (ascending b, reached name b inside);
  rooted = record {
    cells = λ t below c h. absurd (Contains-none c h);
    carried = is_carried roots (λ t. ones row) (label 0) nothing name refl refl;
  };
  probes = the_probe ∷ [];
  pairs = the_probe ∷ [];
  set_of = set_of;
  finding = record {
    some = omega arith;
    most = omega arith;
    each = each;
    different = ((λ h. Contains-none the_probe h), tt);
    once = ((λ h. Contains-none the_probe h), tt);
    seen = seen;
    selection = record {
      empty = λ l. refl;
      single = λ l m. refl;
      outputs = λ t below c h. absurd (Contains-none c h);
    };
    member = 0;
    not_empty = refl;
    whole = record { no_mask = no_mask; all_or_none = all_or_none };
  };
}
  where
    ascending : (b : ℕ) → IsStrictlyIncreasing (reach 0 b)
    ascending zero = λ k below. absurd (omega arith)
    ascending (suc zero) = λ k below. absurd (omega arith)
    ascending (suc (suc b)) = λ k below. absurd (omega arith)

    only : (u : Probe) → Contains (the_probe ∷ []) u → the_probe ≡ u
    only u h = go (Contains-cases the_probe u [] h)
      where
        go : (the_probe ≡ u) ⊎ Contains [] u → the_probe ≡ u
        go (inl e) = e
        go (inr none) = absurd (Contains-none u none)

    each : (p : Probe) → Contains (the_probe ∷ []) p → IsProbe 2 (Some 0) 1 p
    each p h = subst (IsProbe 2 (Some 0) 1) (only p h)
        (record { bit = omega arith; no_clock = λ e. cc; cycle = omega arith })

    seen : (u : Probe) → Contains (the_probe ∷ []) u → IsSeen (λ t. row) reach (the_probe ∷ []) u
    seen u h = subst (IsSeen (λ t. row) reach (the_probe ∷ [])) (only u h) (record {
      probe = the_probe;
      listed = Contains-here the_probe [];
      shows = record { reached = Contains-here 1 []; when = inl refl };
      unknown = refl;
    })

    no_mask : (l : ℕ) → set_of_pairs root set_of (the_probe ∷ []) l ≡ true
        → (shares : List ℕ) × Contains (secret_labels (unshared_setup name).table.secrets) shares × Contains shares l
    no_mask zero e = (0 ∷ [], Contains-here (0 ∷ []) [], Contains-here 0 [])
    no_mask (suc l) e = absurd (let f : ◌≡◌ {A = Bool} (xor false false) true = subst (λ b. xor b false ≡ true) (zero_apart l) e in cc)

    all_or_none : (shares : List ℕ) → Contains (secret_labels (unshared_setup name).table.secrets) shares → (a b : ℕ) → Contains shares a
        → Contains shares b
        → set_of_pairs root set_of (the_probe ∷ []) a ≡ set_of_pairs root set_of (the_probe ∷ []) b
    all_or_none shares h a b in_a in_b =
        ap (set_of_pairs root set_of (the_probe ∷ [])) (sym (one_label name shares h a in_a) ∙ one_label name shares h b in_b)
