-- Runs, what is known, and roots are one.
use Rattle.std.proofs.Common.{◌≡◌, ◌≢◌, ℕ, zero, suc, ◌<◌, ◌⊎◌, inl, inr, refl, sym, ◌∙◌, ap, subst, arith}
use Rattle.std.specs.Prelude.{Contains}
use Rattle.std.proofs.Math.Path.{fun_ext}
use Rattle.coco_base.specs.declared.cell.Part.{Part}
use Rattle.coco_base.specs.declared.cell.Part.TheVariants.{Zero, One, Vary}
use Rattle.coco_base.specs.declared.netlist.Flat.{Flat}
use Rattle.coco_base.specs.declared.netlist.FlatCell.{FlatCell}
use Rattle.coco_base.specs.declared.netlist.Wire.{Wire}
use Rattle.coco_base.specs.declared.netlist.Wire.TheVariants.{Const, Bit}
use Rattle.coco_base.specs.declared.setup.MemPlan.{MemPlan}
use Rattle.coco_base.specs.declared.setup.Setup.{Setup}
use Rattle.coco_model.specs.Netlist.{Valuation, wires_of, IsRanked}
use Rattle.coco_model.specs.Labels.{Choice}
use Rattle.coco_model.specs.Carried.{IsBound}
use Rattle.coco_model.specs.Run.{Memory, IsRun, values, before}
use Rattle.coco_model.specs.Known.{Row, ones, parts, wire_part, IsKnown}
use Rattle.coco_model.specs.Roots.{Root, roots, wire_root, IsSteady, IsKept, HasCellRoot, IsRooted}
use Rattle.coco_model.specs.Roots.Root.{nothing, label, output}
use Rattle.std.proofs.lemmas.Bool.{cases_eq}
use Rattle.model_laws.proofs.Lists.{all_or_not}
use Rattle.model_laws.proofs.Ranks.{by_rank}
use Rattle.model_laws.proofs.Forced.{one_settled, one_forced_row}
use Rattle.model_laws.proofs.Carry.{IsLinked, carried-linked}
use Rattle.model_laws.proofs.Knowing.{IsAnyStart, any_starts}
use Rattle.model_laws.proofs.Calms.{vary_or_not}
use Rattle.model_laws.specs.Laws.{AreSameRequests, OneSettledLaw, OneForcedLaw, OneRunLaw, OneKnownLaw, OneRootedLaw}

pub one_settled_law : OneSettledLaw
unfolding OneSettledLaw
one_settled_law = one_settled

pub one_forced_law : OneForcedLaw
unfolding OneForcedLaw
one_forced_law = one_forced_row

-- memory ports do the same in valuations that are the same
pub same_requests : (v w : Valuation) → v ≡ w → (mem : MemPlan) → AreSameRequests v w mem
same_requests v w e mem = subst (λ u. AreSameRequests v u mem) e (record { read = refl; address = λ i. refl; stored = λ address k. refl })

pub one_run : (flat : Flat) (setup : Setup) (cycles : ℕ) (rank : ℕ → ℕ) → IsRanked flat rank → IsBound flat setup
    → (choice : Choice) (v w : ℕ → Valuation) (m n : ℕ → Memory) → IsRun flat setup cycles choice v m → IsRun flat setup cycles choice w n
    → (t : ℕ) → t < cycles → IsLinked flat (v t) (w t) (m t) (n t) (λ a b. a ≡ b) (λ a b. a ≡ b)
one_run flat setup cycles rank ranked bound choice v w m n run_v run_w =
    carried-linked (values choice) (values choice) IsAnyStart flat setup cycles v w v w m n (λ _ a b. a ≡ b)
    (λ _ a b. a ≡ b) bound (any_starts flat setup)
    (record {
      constants = λ t b. refl;
      starts = λ t below start any. refl;
      settles = λ t below lower leaves. one_settled flat rank (v t) (w t) ranked (run_v.settled t below) (run_w.settled t below) leaves;
      passes = λ t x y h. h;
      stays = λ t x y h. h;
      requests = λ t below same mem listed. same_requests (v t) (w t) (fun_ext same) mem;
    })
    run_v.carried run_w.carried

pub one_run_law : OneRunLaw
unfolding OneRunLaw
one_run_law flat setup cycles rank ranked bound choice v w m n run_v run_w = record {
  bits = λ t below. (one_run flat setup cycles rank ranked bound choice v w m n run_v run_w t below).bits;
  words = λ t below. (one_run flat setup cycles rank ranked bound choice v w m n run_v run_w t below).words;
}

one_known : (flat : Flat) (setup : Setup) (cycles : ℕ) (rank : ℕ → ℕ) → IsRanked flat rank → IsBound flat setup
    → (row other : ℕ → Row) (word others : ℕ → ℕ → Row) → IsKnown flat setup cycles row word
    → IsKnown flat setup cycles other others
    → (t : ℕ) → t < cycles → IsLinked flat (row t) (other t) (word t) (others t) (λ a b. a ≡ b) (λ a b. a ≡ b)
one_known flat setup cycles rank ranked bound row other word others known known_other =
    carried-linked parts parts IsAnyStart flat setup cycles (λ t. ones (row t)) (λ t. ones (other t)) row other word others (λ _ a b. a ≡ b) (λ _ a b. a ≡ b) bound (any_starts flat setup)
    (record {
      constants = λ t b. refl;
      starts = λ t below start any. refl;
      settles =
          λ t below lower leaves. one_forced_row flat rank (row t) (other t) ranked (known.forced t below)
          (known_other.forced t below) leaves;
      passes = λ t x y h. h;
      stays = λ t x y h. h;
      requests = λ t below same mem listed. same_requests (ones (row t)) (ones (other t)) (ap ones (fun_ext same)) mem;
    })
    known.carried known_other.carried

pub one_known_law : OneKnownLaw
unfolding OneKnownLaw
one_known_law flat setup cycles rank ranked bound row other word others known known_other t below =
    let h = one_known flat setup cycles rank ranked bound row other word others known known_other t below in (h.bits, h.words)

pub wire_root-cong : (s u : ℕ → Root) (w : Wire) → ((b : ℕ) → w ≡ Bit b → s b ≡ u b) → wire_root s w ≡ wire_root u w
wire_root-cong s u (Const b) same = refl
wire_root-cong s u (Bit n) same = same n refl

-- a cell keeps its root where its inputs' roots are the same in both cycles
kept_also : (row : ℕ → Row) (root other : ℕ → ℕ → Root) (t : ℕ) (c : FlatCell)
    → ((b : ℕ) → Contains (wires_of c) (Bit b) → root t b ≡ other t b)
    → ((r : ℕ) → r < t → (b : ℕ) → root r b ≡ other r b) → IsKept row root t c → IsKept row other t c
kept_also row root other zero c same lower kept = kept
kept_also row root other (suc t) c same lower kept = λ w listed. record {
  part = (kept w listed).part;
  root = sym (wire_root-cong (root t) (other t) w (λ b e. lower t (omega arith) b)) ∙ (kept w listed).root
      ∙ wire_root-cong (root (suc t)) (other (suc t)) w (λ b e. same b (subst (Contains (wires_of c)) e listed));
}

pub before_earlier : (row : ℕ → Row) (root : ℕ → ℕ → Root) (t : ℕ) (c : FlatCell) → IsKept row root t c → before t < t
before_earlier row root zero c kept = absurd kept
before_earlier row root (suc t) c kept = omega arith

-- roots are the same or not
Root_same : (r s : Root) → (r ≡ s) ⊎ (r ≢ s)
Root_same nothing nothing = inl refl
Root_same nothing (label m) = inr (λ e. cc)
Root_same nothing (output t c) = inr (λ e. cc)
Root_same (label l) nothing = inr (λ e. cc)
Root_same (label l) (label m) = go (cases_eq l m)
  where
    go : (l ≡ m) ⊎ (l ≢ m) → (label l ≡ label m) ⊎ (label l ≢ label m)
    go (inl e) = inl (ap label e)
    go (inr n) = inr (λ e. n cc)
Root_same (label l) (output t c) = inr (λ e. cc)
Root_same (output s b) nothing = inr (λ e. cc)
Root_same (output s b) (label m) = inr (λ e. cc)
Root_same (output s b) (output t c) = go (cases_eq s t) (cases_eq b c)
  where
    go : (s ≡ t) ⊎ (s ≢ t) → (b ≡ c) ⊎ (b ≢ c) → (output s b ≡ output t c) ⊎ (output s b ≢ output t c)
    go (inl e) (inl f) = inl cc
    go (inl e) (inr n) = inr (λ f. n cc)
    go (inr n) f = inr (λ e. n cc)

pub Part_same : (p q : Part) → (p ≡ q) ⊎ (p ≢ q)
Part_same Zero Zero = inl refl
Part_same One One = inl refl
Part_same Vary Vary = inl refl
Part_same Zero One = inr (λ e. cc)
Part_same Zero Vary = inr (λ e. cc)
Part_same One Zero = inr (λ e. cc)
Part_same One Vary = inr (λ e. cc)
Part_same Vary Zero = inr (λ e. cc)
Part_same Vary One = inr (λ e. cc)

-- a wire is the same in two cycles or not
pub steady_or_not : (old now : Row) (old_root now_root : ℕ → Root) (w : Wire)
    → IsSteady old now old_root now_root w ⊎ (IsSteady old now old_root now_root w → ⊥)
steady_or_not old now old_root now_root w =
    go (Part_same (wire_part old w) (wire_part now w)) (Root_same (wire_root old_root w) (wire_root now_root w))
  where
    go : (wire_part old w ≡ wire_part now w) ⊎ (wire_part old w ≢ wire_part now w)
        → (wire_root old_root w ≡ wire_root now_root w) ⊎ (wire_root old_root w ≢ wire_root now_root w)
        → IsSteady old now old_root now_root w ⊎ (IsSteady old now old_root now_root w → ⊥)
    go (inl e) (inl f) = inl (record { part = e; root = f })
    go (inl e) (inr n) = inr (λ s. n s.root)
    go (inr n) f = inr (λ s. n s.part)

-- a cell keeps its root or not
pub kept_or_not : (row : ℕ → Row) (root : ℕ → ℕ → Root) (t : ℕ) (c : FlatCell) → IsKept row root t c ⊎ (IsKept row root t c → ⊥)
kept_or_not row root zero c = inr (λ h. h)
kept_or_not row root (suc t) c =
    all_or_not (λ w. IsSteady (row t) (row (suc t)) (root t) (root (suc t)) w)
    (λ w. steady_or_not (row t) (row (suc t)) (root t) (root (suc t)) w) (wires_of c)

-- a cell's root is one
one_cell_root : (row : ℕ → Row) (root other : ℕ → ℕ → Root) (t : ℕ) (c : FlatCell) → HasCellRoot row root t c → HasCellRoot row other t c
    → ((b : ℕ) → Contains (wires_of c) (Bit b) → root t b ≡ other t b) → ((r : ℕ) → r < t → (b : ℕ) → root r b ≡ other r b)
    → root t c.output ≡ other t c.output
one_cell_root row root other t c has has_other same lower = go (vary_or_not (row t c.output)) (kept_or_not row root t c)
  where
    go : (row t c.output ≡ Vary) ⊎ (row t c.output ≢ Vary) → IsKept row root t c ⊎ (IsKept row root t c → ⊥)
        → root t c.output ≡ other t c.output
    go (inr known) kept = has.known known ∙ sym (has_other.known known)
    go (inl varies) (inl kept) = has.kept varies kept ∙ lower (before t) (before_earlier row root t c kept) c.output
        ∙ sym (has_other.kept varies (kept_also row root other t c same lower kept))
    go (inl varies) (inr own) = has.own varies own ∙ sym (has_other.own varies
        (λ kept. own (kept_also row other root t c (λ b h. sym (same b h)) (λ r below b. sym (lower r below b)) kept)))

one_rooted : (flat : Flat) (setup : Setup) (cycles : ℕ) (rank : ℕ → ℕ) → IsRanked flat rank → IsBound flat setup
    → (row : ℕ → Row) (root other : ℕ → ℕ → Root) (word others : ℕ → ℕ → ℕ → Root)
    → IsRooted flat setup cycles row root word → IsRooted flat setup cycles row other others
    → (t : ℕ) → t < cycles → IsLinked flat (root t) (other t) (word t) (others t) (λ a b. a ≡ b) (λ a b. a ≡ b)
one_rooted flat setup cycles rank ranked bound row root other word others rooted rooted_other =
    carried-linked roots roots IsAnyStart flat setup cycles (λ t. ones (row t)) (λ t. ones (row t)) root other word others (λ _ a b. a ≡ b) (λ _ a b. a ≡ b) bound (any_starts flat setup)
    (record {
      constants = λ t b. refl;
      starts = λ t below start any. refl;
      settles = λ t below lower leaves. by_rank flat rank (λ b. root t b ≡ other t b) ranked leaves
          (record { cells = λ c listed same. one_cell_root row root other t c (rooted.cells t below c listed) (rooted_other.cells t below c listed) same lower });
      passes = λ t x y h. h;
      stays = λ t x y h. h;
      requests = λ t below same mem listed. same_requests (ones (row t)) (ones (row t)) refl mem;
    })
    rooted.carried rooted_other.carried

pub one_rooted_law : OneRootedLaw
unfolding OneRootedLaw
one_rooted_law flat setup cycles rank ranked bound row root other word others rooted rooted_other t below =
    let h = one_rooted flat setup cycles rank ranked bound row root other word others rooted rooted_other t below in (h.bits, h.words)
