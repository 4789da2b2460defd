-- A word leaf that is overwritten: a probe of its bit sees the old and the new share.
use Rattle.std.proofs.Common.{◌≡◌, ℕ, zero, suc, ◌<◌, ◌⊎◌, inl, inr, Bool, true, false, List, [], ◌∷◌, Some, get_or, refl, sym, ◌∙◌, ap, subst, arith}
use Rattle.std.specs.Prelude.{Contains, ◌↔◌, slice_get, nat_eq}
use Rattle.std.specs.List.Sorted.{IsStrictlyIncreasing}
use Rattle.std.proofs.lemmas.Bool.Decides.{nat_tests}
use Rattle.coco_base.specs.declared.text.Text.{Text}
use Rattle.coco_base.specs.declared.cell.Part.TheVariants.{Zero, Vary}
use Rattle.coco_base.specs.declared.netlist.FlatCell.{FlatCell}
use Rattle.coco_base.specs.declared.netlist.FlatFlop.{FlatFlop}
use Rattle.coco_base.specs.declared.setup.Start.TheVariants.{Public}
use Rattle.coco_base.specs.declared.setup.MemPlan.{MemPlan}
use Rattle.coco_base.specs.declared.setup.LeafPlan.{LeafPlan}
use Rattle.coco_base.specs.declared.finding.Probe.{Probe}
use Rattle.coco_model.specs.Cells.{xor}
use Rattle.coco_model.specs.Netlist.{Valuation, IsUndriven, IsCellBit, on_wire}
use Rattle.coco_model.specs.Labels.{secret_labels}
use Rattle.coco_model.specs.Carried.{States, IsCarried, IsGiven, IsFirst, IsNext, start_state, start_word, stored_word}
use Rattle.coco_model.specs.Run.{before}
use Rattle.coco_model.specs.Known.{Row, parts, ones}
use Rattle.coco_model.specs.Calm.{both}
use Rattle.coco_model.specs.Reach.{Reach, Reaches}
use Rattle.coco_model.specs.Reach.Reaches.{here}
use Rattle.coco_model.specs.Secure.{IsProbe, moments}
use Rattle.coco_model.specs.Roots.{Root, roots, IsRooted}
use Rattle.coco_model.specs.Roots.Root.{nothing, label, output}
use Rattle.coco_model.specs.Findings.{Labels, set_of_pairs, IsSeen, HasFinding}
use Rattle.coco_model.specs.Examples.{keeper, writing_port, overwritten_word, overwritten_setup}
use Rattle.coco_model.proofs.Basics.{Contains-here, Contains-later, Contains-cases, Contains-none, only_member, any_from_member, some_from_any}
use Rattle.coco_model.proofs.Walks.{walk_cases, same_leaf, IsAtLeaf, IsStep}

abbrev the_leaf : LeafPlan
the_leaf = record { address = 0x10000; bits = 2 ∷ [] }

-- a state of the clock and all further bits, of the register and of the leaf
abbrev at_bits : {X : Type 0} → X → X → X → ℕ → X
at_bits other register leaf zero = other
at_bits other register leaf (suc zero) = register
at_bits other register leaf (suc (suc zero)) = leaf
at_bits other register leaf (suc (suc (suc b))) = other

-- in each of two cycles: the leaf has label 0 and then label 1
abbrev state_of : {X : Type 0} → States X → ℕ → ℕ → X
state_of states zero = at_bits (states.constant false) (states.label 1) (states.label 0)
state_of states (suc t) = at_bits (states.constant false) (states.label 1) (states.label 1)

abbrev memory_of : {X : Type 0} → States X → Text → (ℕ → Valuation) → ℕ → ℕ → ℕ → X
memory_of states name v zero address k =
    start_word states (overwritten_setup name).table (overwritten_setup name).words address k
memory_of states name v (suc t) address k =
    stored_word states (v t) (state_of states t) (writing_port ∷ []) address k (memory_of states name v t address k)

no_cells : (name : Text) (b : ℕ) → IsCellBit (overwritten_word name) b → ⊥
no_cells name b h =
    let s = some_from_any (λ (c : FlatCell). c.output ≡ b) (overwritten_word name).cells h in Contains-none s.member s.listed

is_given : {X : Type 0} (states : States X) (name : Text) (t : ℕ) (register leaf : X)
    → IsGiven states (overwritten_word name) (overwritten_setup name) t (at_bits (states.constant false) register leaf)
is_given states name t register leaf = record {
  undriven = undriven;
  clock = clock;
  inputs = λ p h. absurd (Contains-none p h);
}
  where
    undriven : (b : ℕ) → IsUndriven (overwritten_word name) b
        → at_bits (states.constant false) register leaf b ≡ states.constant false
    undriven zero u = refl
    undriven (suc zero) u = absurd (u.no_flop
        (any_from_member (λ (f : FlatFlop). f.output ≡ 1) (overwritten_word name).flops (keeper name 1) (Contains-here (keeper name 1) []) refl))
    undriven (suc (suc zero)) u = absurd (u.no_input (Contains-later 0 2 (2 ∷ []) (Contains-here 2 [])))
    undriven (suc (suc (suc b))) u = refl

    clock : (b : ℕ) → Some 0 ≡ Some b → at_bits (states.constant false) register leaf b ≡ states.constant false
    clock zero e = refl
    clock (suc b) e = absurd cc

-- the one place of a list of one number
one_place : (P : ℕ → ℕ → Type 0) (n k b : ℕ) → P 0 n → slice_get (n ∷ []) k ≡ Some b → P k b
one_place P n zero b p e = subst (P 0) (let same : n ≡ b = cc in same) p
one_place P n (suc k) b p e = absurd cc

is_carried : {X : Type 0} (states : States X) (name : Text) (v : ℕ → Valuation)
    → IsCarried states (overwritten_word name) (overwritten_setup name) 2 v (state_of states) (memory_of states name v)
is_carried {X} states name v = record { given = given; first = first; next = next }
  where
    given : (t : ℕ) → t < 2 → IsGiven states (overwritten_word name) (overwritten_setup name) t (state_of states t)
    given zero below = is_given states name 0 (states.label 1) (states.label 0)
    given (suc t) below = is_given states name (suc t) (states.label 1) (states.label 1)

    first : IsFirst states (overwritten_word name) (overwritten_setup name) (state_of states 0) (memory_of states name v 0)
    first = record {
      flops = only_member (λ (f : FlatFlop). state_of states 0 f.output
          ≡ start_state states (overwritten_setup name).table 0 (get_or (overwritten_setup name).starts f.output (Public false)))
          (keeper name 1) refl;
      echoes = λ e h. absurd (Contains-none e h);
      answers = only_member (λ (mem : MemPlan). (k b : ℕ) → slice_get mem.answer k ≡ Some b → state_of states 0 b ≡ states.constant false)
          writing_port (λ k b e. absurd cc);
      leaves = only_member (λ (leaf : LeafPlan). (k b : ℕ) → slice_get leaf.bits k ≡ Some b
          → state_of states 0 b ≡ memory_of states name v 0 leaf.address k) the_leaf
          (λ k b e. one_place (λ k b. state_of states 0 b ≡ memory_of states name v 0 0x10000 k) 2 k b refl e);
      words = λ address k. refl;
    }

    next : (t : ℕ) → suc t < 2 → IsNext states (overwritten_word name) (overwritten_setup name) (v t) (state_of states t)
        (memory_of states name v t) (state_of states (suc t)) (memory_of states name v (suc t))
    next zero below = record {
      flops = only_member (λ (f : FlatFlop). state_of states 1 f.output ≡ on_wire states.constant (state_of states 0) f.next) (keeper name 1) refl;
      echoes = λ e h. absurd (Contains-none e h);
      answers = only_member (λ (mem : MemPlan). (k b : ℕ) → slice_get mem.answer k ≡ Some b → _) writing_port (λ k b e. absurd cc);
      leaves = only_member (λ (leaf : LeafPlan). (k b : ℕ) → slice_get leaf.bits k ≡ Some b
          → state_of states 1 b ≡ stored_word states (v 0) (state_of states 0) (writing_port ∷ []) leaf.address k (state_of states 0 b)) the_leaf
          (λ k b e. one_place (λ k b. state_of states 1 b
          ≡ stored_word states (v 0) (state_of states 0) (writing_port ∷ []) 0x10000 k (state_of states 0 b)) 2 k b refl e);
      words = λ address k. refl;
    }
    next (suc t) below = absurd (omega arith)

-- ---- roots

-- whatever is known, the leaf's bit has the root of its word's bit, and then that of the value that was written
pub leaf_roots : (name : Text) (row : ℕ → Row) (root : ℕ → ℕ → Root) (word : ℕ → ℕ → ℕ → Root)
    → IsRooted (overwritten_word name) (overwritten_setup name) 2 row root word → (root 0 2 ≡ label 0) × (root 1 2 ≡ label 1)
leaf_roots name row root word is = (
  first.leaves the_leaf listed 0 2 refl ∙ first.words 0x10000 0,
  (is.carried.next 0 (omega arith)).leaves the_leaf listed 0 2 refl ∙ first.flops (keeper name 1) (Contains-here (keeper name 1) []),
)
  where
    listed : Contains (overwritten_setup name).leaves the_leaf
    listed = Contains-here the_leaf []

    first : IsFirst roots (overwritten_word name) (overwritten_setup name) (root 0) (word 0)
    first = is.carried.first

-- ---- the finding

abbrev row : ℕ → Row
row = state_of parts

abbrev calm : Row
calm = at_bits Zero Vary Vary

abbrev reach : Reach
reach t = at_bits [] (1 ∷ []) (2 ∷ [])

abbrev set_of : Root → Labels
set_of nothing l = false
set_of (label k) l = nat_eq k l
set_of (output t b) l = false

abbrev the_probe : Probe
the_probe = record { bit = 2; cycle = 1 }

abbrev old_pair : Probe
old_pair = record { bit = 2; cycle = 0 }

calm_row : (t : ℕ) → t < 2 → (b : ℕ) → calm b ≡ both (row (before t) b) (row t b)
calm_row zero below zero = refl
calm_row zero below (suc zero) = refl
calm_row zero below (suc (suc zero)) = refl
calm_row zero below (suc (suc (suc b))) = refl
calm_row (suc zero) below zero = refl
calm_row (suc zero) below (suc zero) = refl
calm_row (suc zero) below (suc (suc zero)) = refl
calm_row (suc zero) below (suc (suc (suc b))) = refl
calm_row (suc (suc t)) below b = absurd (omega arith)

-- a bit that is not calm reaches itself alone
reached_self : (name : Text) (b : ℕ) → calm b ≡ Vary → (leaf : ℕ)
    → Contains (b ∷ []) leaf ↔ Reaches (overwritten_word name) calm leaf b
reached_self name b varies leaf = (to, from)
  where
    to : Contains (b ∷ []) leaf → Reaches (overwritten_word name) calm leaf b
    to h = only_member (λ l. Reaches (overwritten_word name) calm l b) b (here (no_cells name b) varies) leaf h

    from : Reaches (overwritten_word name) calm leaf b → Contains (b ∷ []) leaf
    from walk = subst (Contains (b ∷ [])) (sym (same_leaf (overwritten_word name) calm leaf b (no_cells name b) walk)) (Contains-here b [])

reached : (name : Text) (b : ℕ) → b < 3 → (leaf : ℕ) → Contains (reach 0 b) leaf ↔ Reaches (overwritten_word name) calm leaf b
reached name zero below leaf = ((λ h. absurd (Contains-none leaf h)), λ walk. absurd (none walk))
  where
    none : Reaches (overwritten_word name) calm leaf 0 → ⊥
    none walk = go (walk_cases (overwritten_word name) calm leaf 0 walk)
      where
        go : IsAtLeaf (overwritten_word name) calm leaf 0 ⊎ IsStep (overwritten_word name) calm leaf 0 → ⊥
        go (inl a) = let e : calm 0 ≡ Vary = subst (λ b. calm b ≡ Vary) a.same a.varies in cc
        go (inr s) = Contains-none s.cell s.listed
reached name (suc zero) below leaf = reached_self name 1 refl leaf
reached name (suc (suc zero)) below leaf = reached_self name 2 refl leaf
reached name (suc (suc (suc b))) below leaf = absurd (omega arith)

ascending : (b : ℕ) → IsStrictlyIncreasing (reach 0 b)
ascending zero = λ k below. absurd (omega arith)
ascending (suc zero) = λ k below. absurd (omega arith)
ascending (suc (suc zero)) = λ k below. absurd (omega arith)
ascending (suc (suc (suc b))) = λ k below. absurd (omega arith)

-- what holds of both pairs holds of each
each_pair : (P : Probe → Type 0) → P old_pair → P the_probe → (u : Probe) → Contains (old_pair ∷ the_probe ∷ []) u → P u
each_pair P p q u h = go (Contains-cases old_pair u (the_probe ∷ []) h)
  where
    go : (old_pair ≡ u) ⊎ Contains (the_probe ∷ []) u → P u
    go (inl e) = subst P e p
    go (inr i) = only_member P the_probe q u i

abbrev pairs : List Probe
pairs = old_pair ∷ the_probe ∷ []

abbrev the_set : Labels
the_set = set_of_pairs (state_of roots) set_of pairs

apart_zero : (l : ℕ) → nat_eq 0 (suc l) ≡ false
apart_zero l = grind (arith, nat_tests)

apart_one : (l : ℕ) → nat_eq 1 (suc (suc l)) ≡ false
apart_one l = grind (arith, nat_tests)

past_set : (l : ℕ) → the_set (suc (suc l)) ≡ false
past_set l = ap (λ b. xor b (xor (nat_eq 1 (suc (suc l))) false)) (apart_zero (suc l)) ∙ ap (λ b. xor false (xor b false)) (apart_one l)

no_mask : (name : Text) (l : ℕ) → the_set l ≡ true
    → (shares : List ℕ) × Contains (secret_labels (overwritten_setup name).table.secrets) shares × Contains shares l
no_mask name zero e = (0 ∷ 1 ∷ [], Contains-here (0 ∷ 1 ∷ []) [], Contains-here 0 (1 ∷ []))
no_mask name (suc zero) e = (0 ∷ 1 ∷ [], Contains-here (0 ∷ 1 ∷ []) [], Contains-later 0 1 (1 ∷ []) (Contains-here 1 []))
no_mask name (suc (suc l)) e = absurd (let f : ◌≡◌ {A = Bool} false true = sym (past_set l) ∙ e in cc)

share_in : (l : ℕ) → Contains (0 ∷ 1 ∷ []) l → the_set l ≡ true
share_in l h = go (Contains-cases 0 l (1 ∷ []) h)
  where
    go : (0 ≡ l) ⊎ Contains (1 ∷ []) l → the_set l ≡ true
    go (inl e) = subst (λ k. the_set k ≡ true) e refl
    go (inr i) = only_member (λ k. the_set k ≡ true) 1 refl l i

pub overwritten_finding : (name : Text) → HasFinding (overwritten_word name) (overwritten_setup name) 2 1 1
overwritten_finding name = record {
  row = row;
  word = memory_of parts name (λ t. ones (row t));
  calm = λ t. calm;
  reach = reach;
  root = state_of roots;
  rooted_word = memory_of roots name (λ t. ones (row t));
  known = record {
    forced = λ t below. record { cells = λ c h. absurd (Contains-none c h) };
    carried = is_carried parts name (λ t. ones (row t));
  };
  still = λ t below. record { leaves = λ b none. calm_row t below b; forced = record { cells = λ c h. absurd (Contains-none c h) } };
  reached = λ t below b inside. (ascending b, reached name b inside);
  rooted = record {
    cells = λ t below c h. absurd (Contains-none c h);
    carried = is_carried roots name (λ t. ones (row t));
  };
  probes = the_probe ∷ [];
  pairs = pairs;
  set_of = set_of;
  finding = record {
    some = omega arith;
    most = omega arith;
    each = only_member (IsProbe 3 (Some 0) 2) the_probe (record { bit = omega arith; no_clock = λ e. cc; cycle = omega arith });
    different = ((λ h. Contains-none the_probe h), tt);
    once = (
      (λ h. only_member (λ u. u ≡ old_pair → ⊥) the_probe (λ e. let f : ◌≡◌ {A = ℕ} 1 0 = ap (λ (p : Probe). p.cycle) e in omega arith) old_pair h refl),
      ((λ h. Contains-none the_probe h), tt),
    );
    seen = each_pair (IsSeen row reach (moments 2 1 (the_probe ∷ [])))
        (record { probe = the_probe; listed = Contains-here the_probe []; shows = record { reached = Contains-here 2 []; when = inr refl }; unknown = refl })
        (record { probe = the_probe; listed = Contains-here the_probe []; shows = record { reached = Contains-here 2 []; when = inl refl }; unknown = refl });
    selection = record {
      empty = λ l. refl;
      single = λ l m. refl;
      outputs = λ t below c h. absurd (Contains-none c h);
    };
    member = 0;
    not_empty = refl;
    whole = record {
      no_mask = no_mask name;
      all_or_none = λ shares h a b in_a in_b. only_member (λ ls. Contains ls a → Contains ls b → the_set a ≡ the_set b) (0 ∷ 1 ∷ [])
          (λ i j. share_in a i ∙ sym (share_in b j)) shares h in_a in_b;
    };
  };
}
