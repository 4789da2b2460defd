-- Runs, what is known, roots and reaches exist.
use Rattle.std.proofs.Common.{◌≡◌, ℕ, zero, suc, ◌⊎◌, inl, inr, refl, sym, ◌∙◌, ap, subst}
use Rattle.std.specs.Prelude.{Contains}
use Rattle.coco_base.specs.declared.cell.Part.{Part}
use Rattle.coco_base.specs.declared.netlist.Flat.{Flat}
use Rattle.coco_base.specs.declared.netlist.FlatCell.{FlatCell}
use Rattle.coco_base.specs.declared.netlist.Wire.{Wire}
use Rattle.coco_base.specs.declared.netlist.Wire.TheVariants.{Bit}
use Rattle.coco_base.specs.declared.setup.Setup.{Setup}
use Rattle.coco_model.specs.Cells.{output_of, IsForced}
use Rattle.coco_model.specs.Netlist.{wires_of, cell_value, IsRanked, HasOneDriver}
use Rattle.coco_model.specs.Labels.{Choice}
use Rattle.coco_model.specs.Carried.{IsBound}
use Rattle.coco_model.specs.Run.{values, before}
use Rattle.coco_model.specs.Known.{Row, part_of, cell_parts, ones, parts, IsKnown}
use Rattle.coco_model.specs.Calm.{both, IsCalm}
use Rattle.coco_model.specs.Roots.{Root, roots, IsSteady, IsKept, HasCellRoot}
use Rattle.coco_model.specs.Roots.Root.{nothing, output}
use Rattle.model_laws.proofs.Forced.{on_wires-cong}
use Rattle.model_laws.proofs.Calms.{vary_or_not}
use Rattle.model_laws.proofs.Unique.{steady_or_not, wire_root-cong}
use Rattle.model_laws.proofs.Lists.{all_or_not}
use Rattle.model_laws.proofs.Lives.{forced_exists, HasReached, reached_exists}
use Rattle.model_laws.proofs.Solved.{ReadsWires, HasStates, states_exist}
use Rattle.model_laws.proofs.Exists.{old_of, HasCarried, carried_exists}
use Rattle.model_laws.specs.Laws.{MeaningLaw}

pub value_reads : ReadsWires (λ c v. cell_value v c)
value_reads = record { reads = λ c v w same. ap (output_of c.kind) (on_wires-cong (λ b. b) v w (wires_of c) same) }

run_exists : (flat : Flat) (setup : Setup) (rank : ℕ → ℕ) → IsRanked flat rank → IsBound flat setup → HasOneDriver flat → (choice : Choice)
    → HasCarried (values choice) flat setup (λ t old c v. cell_value v c) (λ t v. v)
run_exists flat setup rank ranked bound driven choice =
    carried_exists (values choice) flat setup rank (λ t old c v. cell_value v c) (λ t v. v) ranked bound driven (λ t old. value_reads)

-- what a cell's known inputs force
abbrev forced_part : FlatCell → Row → Part
forced_part c row = (forced_exists c.kind (cell_parts row c)).part

forced_reads : ReadsWires forced_part
forced_reads = record { reads = λ c p q same. ap (λ ps. (forced_exists c.kind ps).part) (on_wires-cong part_of p q (wires_of c) same) }

forced_at : (row : Row) (c : FlatCell) → row c.output ≡ forced_part c row → IsForced c.kind (cell_parts row c) (row c.output)
forced_at row c e = subst (IsForced c.kind (cell_parts row c)) (sym e) (forced_exists c.kind (cell_parts row c)).forced

known_exists : (flat : Flat) (setup : Setup) (rank : ℕ → ℕ) → IsRanked flat rank → IsBound flat setup → HasOneDriver flat
    → HasCarried parts flat setup (λ t old c row. forced_part c row) (λ t row. ones row)
known_exists flat setup rank ranked bound driven =
    carried_exists parts flat setup rank (λ t old c row. forced_part c row) (λ t row. ones row) ranked bound driven (λ t old. forced_reads)

-- a cell keeps its root, by the roots of its wires and of the cycle before
abbrev pub KeepsNow : (ℕ → Row) → ℕ → (ℕ → Root) → (ℕ → Root) → FlatCell → Type 0
KeepsNow row zero old now c = ⊥
KeepsNow row (suc t) old now c = (w : Wire) → Contains (wires_of c) w → IsSteady (row t) (row (suc t)) old now w

keeps_or_not : (row : ℕ → Row) (t : ℕ) (old now : ℕ → Root) (c : FlatCell) → KeepsNow row t old now c ⊎ (KeepsNow row t old now c → ⊥)
keeps_or_not row zero old now c = inr (λ h. h)
keeps_or_not row (suc t) old now c =
    all_or_not (λ w. IsSteady (row t) (row (suc t)) old now w) (λ w. steady_or_not (row t) (row (suc t)) old now w) (wires_of c)

-- one of three roots, by two decisions
abbrev pick : {A B : Type 0} → A ⊎ (A → ⊥) → B ⊎ (B → ⊥) → Root → Root → Root
pick (inr known) kept old own = nothing
pick (inl varies) (inl kept) old own = old
pick (inl varies) (inr n) old own = own

abbrev cell_root : (ℕ → Row) → ℕ → (ℕ → Root) → FlatCell → (ℕ → Root) → Root
cell_root row t old c now = pick (vary_or_not (row t c.output)) (keeps_or_not row t old now c) (old c.output) (output t c.output)

keeps_also : (row : ℕ → Row) (t : ℕ) (old now other : ℕ → Root) (c : FlatCell) → ((b : ℕ) → Contains (wires_of c) (Bit b) → now b ≡ other b)
    → KeepsNow row t old now c → KeepsNow row t old other c
keeps_also row zero old now other c same kept = kept
keeps_also row (suc t) old now other c same kept = λ w h. record {
  part = (kept w h).part;
  root = (kept w h).root ∙ wire_root-cong now other w (λ b e. same b (subst (Contains (wires_of c)) e h));
}

pick_same : {A B C : Type 0} (v : A ⊎ (A → ⊥)) (k : B ⊎ (B → ⊥)) (l : C ⊎ (C → ⊥)) (old own : Root) → (B → C) → (C → B)
    → pick v k old own ≡ pick v l old own
pick_same (inr known) k l old own there back = refl
pick_same (inl varies) (inl b) (inl c) old own there back = refl
pick_same (inl varies) (inr b) (inr c) old own there back = refl
pick_same (inl varies) (inl b) (inr c) old own there back = absurd (c (there b))
pick_same (inl varies) (inr b) (inl c) old own there back = absurd (b (back c))

root_reads : (row : ℕ → Row) (t : ℕ) (old : ℕ → Root) → ReadsWires (cell_root row t old)
root_reads row t old = record {
  reads =
      λ c now other same. pick_same (vary_or_not (row t c.output)) (keeps_or_not row t old now c) (keeps_or_not row t old other c)
      (old c.output) (output t c.output)
      (keeps_also row t old now other c same) (keeps_also row t old other now c (λ b h. sym (same b h)));
}

roots_exist : (flat : Flat) (setup : Setup) (rank : ℕ → ℕ) → IsRanked flat rank → IsBound flat setup → HasOneDriver flat → (row : ℕ → Row)
    → HasCarried roots flat setup (cell_root row) (λ t root. ones (row t))
roots_exist flat setup rank ranked bound driven row =
    carried_exists roots flat setup rank (cell_root row) (λ t root. ones (row t)) ranked bound driven (λ t old. root_reads row t old)

pick_known : {A B : Type 0} (v : A ⊎ (A → ⊥)) (k : B ⊎ (B → ⊥)) (old own : Root) → (A → ⊥) → pick v k old own ≡ nothing
pick_known (inr n) k old own lost = refl
pick_known (inl a) k old own lost = absurd (lost a)

pick_kept : {A B : Type 0} (v : A ⊎ (A → ⊥)) (k : B ⊎ (B → ⊥)) (old own : Root) → A → B → pick v k old own ≡ old
pick_kept (inr n) k old own a b = absurd (n a)
pick_kept (inl v) (inl k) old own a b = refl
pick_kept (inl v) (inr n) old own a b = absurd (n b)

pick_own : {A B : Type 0} (v : A ⊎ (A → ⊥)) (k : B ⊎ (B → ⊥)) (old own : Root) → A → (B → ⊥) → pick v k old own ≡ own
pick_own (inr n) k old own a lost = absurd (n a)
pick_own (inl v) (inl k) old own a lost = absurd (lost k)
pick_own (inl v) (inr n) old own a lost = refl

keeps_now : (row : ℕ → Row) (root : ℕ → ℕ → Root) (t : ℕ) (c : FlatCell) → IsKept row root t c
    → KeepsNow row t (old_of nothing root t) (root t) c
keeps_now row root zero c kept = kept
keeps_now row root (suc t) c kept = kept

kept_before : (row : ℕ → Row) (root : ℕ → ℕ → Root) (t : ℕ) (c : FlatCell) → KeepsNow row t (old_of nothing root t) (root t) c
    → IsKept row root t c
kept_before row root zero c kept = kept
kept_before row root (suc t) c kept = kept

old_before : (row : ℕ → Row) (root : ℕ → ℕ → Root) (t : ℕ) (c : FlatCell) → IsKept row root t c
    → old_of nothing root t c.output ≡ root (before t) c.output
old_before row root zero c kept = absurd kept
old_before row root (suc t) c kept = refl

cell_rooted : (row : ℕ → Row) (root : ℕ → ℕ → Root) (t : ℕ) (c : FlatCell)
    → root t c.output ≡ cell_root row t (old_of nothing root t) c (root t) → HasCellRoot row root t c
cell_rooted row root t c is = record {
  known = λ n. is ∙ pick_known (vary_or_not (row t c.output)) (keeps_or_not row t (old_of nothing root t) (root t) c) _ _ n;
  kept =
      λ v k. is ∙ pick_kept (vary_or_not (row t c.output))
      (keeps_or_not row t (old_of nothing root t) (root t) c) _ _ v (keeps_now row root t c k) ∙ old_before row root t c k;
  own =
      λ v n. is ∙ pick_own (vary_or_not (row t c.output))
      (keeps_or_not row t (old_of nothing root t) (root t) c) _ _ v (λ k. n (kept_before row root t c k));
}

-- what is calm between two cycles
pub record HasCalm (flat : Flat) (old now : Row) : Type 0 where
  pub calm : Row
  pub still : IsCalm flat old now calm

calm_exists : (flat : Flat) (rank : ℕ → ℕ) → IsRanked flat rank → HasOneDriver flat → (old now : Row) → HasCalm flat old now
calm_exists flat rank ranked driven old now =
    let s : HasStates flat forced_part (λ b. both (old b) (now b)) =
    states_exist flat rank forced_part (λ b. both (old b) (now b)) ranked driven forced_reads in
    record { calm = s.state; still = record { leaves = s.leaves; forced = record { cells = λ c h. forced_at s.state c (s.cells c h) } } }

pub meaning_law : MeaningLaw
unfolding MeaningLaw
meaning_law flat setup cycles rank ranked bound driven range = record {
  run = λ choice. (runs choice).state;
  memory = λ choice. (runs choice).word;
  row = known.state;
  word = known.word;
  root = rooted.state;
  rooted = rooted.word;
  reach = λ t. (reached t).reached;
  runs = record {
    each = λ choice. record {
      settled = λ t below. record { cells = (runs choice).cells t; undriven = (((runs choice).carried cycles).given t below).undriven };
      carried = (runs choice).carried cycles;
    };
  };
  known = is_known;
  roots = record { cells = λ t below c h. cell_rooted known.state rooted.state t c (rooted.cells t c h); carried = rooted.carried cycles };
  reaches = record {
    row = known.state;
    word = known.word;
    calm = λ t. (calm t).calm;
    known = is_known;
    still = λ t below. (calm t).still;
    reached = λ t below. (reached t).row;
  };
}
  where
    runs : (choice : Choice) → HasCarried (values choice) flat setup (λ t old c v. cell_value v c) (λ t v. v)
    runs choice = run_exists flat setup rank ranked bound driven choice

    known : HasCarried parts flat setup (λ t old c row. forced_part c row) (λ t row. ones row)
    known = known_exists flat setup rank ranked bound driven

    is_known : IsKnown flat setup cycles known.state known.word
    is_known =
        record { forced = λ t below. record { cells = λ c h. forced_at (known.state t) c (known.cells t c h) }; carried = known.carried cycles }

    rooted : HasCarried roots flat setup (cell_root known.state) (λ t root. ones (known.state t))
    rooted = roots_exist flat setup rank ranked bound driven known.state

    calm : (t : ℕ) → HasCalm flat (known.state (before t)) (known.state t)
    calm t = calm_exists flat rank ranked driven (known.state (before t)) (known.state t)

    reached : (t : ℕ) → HasReached flat (calm t).calm
    reached t = reached_exists flat rank (calm t).calm ranked range
