-- An unknown bit has the value of its root in every run, and its root is a label of the run or an output of no later cycle.
use Rattle.std.proofs.Common.{◌≡◌, ◌≢◌, ℕ, zero, suc, ◌+◌, ◌*◌, ◌<◌, ◌≤◌, ◌⊎◌, inl, inr, Bool, true, false, List, [], ◌∷◌, map, refl, sym, ◌∙◌, ap, subst, arith}
use Rattle.std.specs.Prelude.{Contains}
use Rattle.std.proofs.Math.Nat.{mul-le-mul_right}
use Rattle.coco_base.specs.declared.cell.Part.{Part}
use Rattle.coco_base.specs.declared.cell.Part.TheVariants.{Vary}
use Rattle.coco_base.specs.declared.labels.LabelTable.{LabelTable}
use Rattle.coco_base.specs.declared.netlist.Flat.{Flat}
use Rattle.coco_base.specs.declared.netlist.FlatCell.{FlatCell}
use Rattle.coco_base.specs.declared.netlist.Wire.{Wire}
use Rattle.coco_base.specs.declared.netlist.Wire.TheVariants.{Const, Bit}
use Rattle.coco_base.specs.declared.setup.Start.{Start}
use Rattle.coco_base.specs.declared.setup.Start.TheVariants.{Public, Label, Fresh}
use Rattle.coco_base.specs.declared.setup.Setup.{Setup}
use Rattle.coco_model.specs.Cells.{output_of, IsForced, Allows}
use Rattle.coco_model.specs.Netlist.{Valuation, wires_of, wire_value, IsCellBit}
use Rattle.coco_model.specs.Labels.{Choice, label_count}
use Rattle.coco_model.specs.Carried.{start_state, IsLabelled, AreStarts}
use Rattle.coco_model.specs.Run.{Memory, IsRun, values, before}
use Rattle.coco_model.specs.Known.{Row, part_of, wire_part, ones, parts, cell_parts, IsKnown}
use Rattle.coco_model.specs.Roots.{Root, roots, wire_root, IsSteady, IsKept, HasCellRoot, IsRooted, root_value}
use Rattle.coco_model.specs.Roots.Root.{nothing, label, output}
use Rattle.coco_model.proofs.Basics.{Contains-here, Contains-later, some_from_any, any_from_member}
use Rattle.model_laws.proofs.Ranks.{by_rank, cell_bit_or_not}
use Rattle.model_laws.proofs.Forced.{one_forced, wire-allows}
use Rattle.model_laws.proofs.Carry.{IsLinked, carried-linked}
use Rattle.model_laws.proofs.Requests.{known_requests}
use Rattle.model_laws.proofs.Knowing.{IsAnyStart, any_starts, known_run}
use Rattle.model_laws.proofs.Calms.{vary_or_not, allowed_once}
use Rattle.model_laws.proofs.Unique.{same_requests, before_earlier, kept_or_not}
use Rattle.model_laws.specs.Laws.{IsChecked, RootLaw}

-- a part is known exactly where the root is nothing
pub record IsNothingWhereKnown (p : Part) (r : Root) : Type 0 where
  pub nothing_if : p ≢ Vary → r ≡ nothing
  pub known_if : r ≡ nothing → p ≢ Vary

const_known : (b : Bool) → part_of b ≢ Vary
const_known true = λ e. cc
const_known false = λ e. cc

nothing_starts : (table : LabelTable) (t : ℕ) (start : Start)
    → IsNothingWhereKnown (start_state parts table t start) (start_state roots table t start)
nothing_starts table t (Public b) = record { nothing_if = λ n. refl; known_if = λ e. const_known b }
nothing_starts table t (Label l) = record { nothing_if = λ n. absurd (n refl); known_if = λ e. absurd cc }
nothing_starts table t (Fresh j) = record { nothing_if = λ n. absurd (n refl); known_if = λ e. absurd cc }

-- a cell that keeps its root is known as before
kept_parts : (row : ℕ → Row) (root : ℕ → ℕ → Root) (t : ℕ) (c : FlatCell) → IsKept row root t c
    → cell_parts (row (before t)) c ≡ cell_parts (row t) c
kept_parts row root zero c kept = absurd kept
kept_parts row root (suc t) c kept = all (wires_of c) (λ w h. (kept w h).part)
  where
    all : (ws : List Wire) → ((w : Wire) → Contains ws w → wire_part (row t) w ≡ wire_part (row (suc t)) w)
        → map (wire_part (row t)) ws ≡ map (wire_part (row (suc t))) ws
    all [] same = refl
    all (w ∷ ws) same =
        ap (λ p. p ∷ map (wire_part (row t)) ws) (same w (Contains-here w ws))
        ∙ ap (λ rest. wire_part (row (suc t)) w ∷ rest) (all ws (λ x h. same x (Contains-later w x ws h)))

kept_part : (flat : Flat) (setup : Setup) (cycles : ℕ) (row : ℕ → Row) (word : ℕ → ℕ → Row) → IsKnown flat setup cycles row word
    → (root : ℕ → ℕ → Root)
    → (t : ℕ) → t < cycles → (c : FlatCell) → Contains flat.cells c → IsKept row root t c → row (before t) c.output ≡ row t c.output
kept_part flat setup cycles row word known root t below c listed kept =
    one_forced c.kind (cell_parts (row t) c) (row (before t) c.output) (row t c.output)
    (subst (λ ps. IsForced c.kind ps (row (before t) c.output)) (kept_parts row root t c kept)
    ((known.forced (before t) (let e : before t < t = before_earlier row root t c kept in omega arith)).cells c listed))
    ((known.forced t below).cells c listed)

-- what holds of the bits that no cell drives, and of each cell's output, holds of every bit
pub by_driver : (flat : Flat) (P : ℕ → Type 0) → ((b : ℕ) → (IsCellBit flat b → ⊥) → P b)
    → ((c : FlatCell) → Contains flat.cells c → P c.output) → (b : ℕ) → P b
by_driver flat P leaves cells b = go (cell_bit_or_not flat b)
  where
    go : IsCellBit flat b ⊎ (IsCellBit flat b → ⊥) → P b
    go (inr none) = leaves b none
    go (inl h) = let s = some_from_any (λ (c : FlatCell). c.output ≡ b) flat.cells h in subst P s.holds (cells s.member s.listed)

pub nothing_where_known : (flat : Flat) (setup : Setup) (cycles : ℕ) (rank : ℕ → ℕ) (row : ℕ → Row) (word : ℕ → ℕ → Row)
    → IsChecked flat setup cycles rank row word
    → (root : ℕ → ℕ → Root) (rooted : ℕ → ℕ → ℕ → Root) → IsRooted flat setup cycles row root rooted
    → (t : ℕ) → t < cycles → IsLinked flat (row t) (root t) (word t) (rooted t) IsNothingWhereKnown IsNothingWhereKnown
nothing_where_known flat setup cycles rank row word checked root rooted is_rooted =
    carried-linked parts roots IsAnyStart flat setup cycles (λ t. ones (row t))
    (λ t. ones (row t)) row root word rooted (λ _. IsNothingWhereKnown) (λ _. IsNothingWhereKnown)
    checked.bound (any_starts flat setup)
    (record {
      constants = λ t b. record { nothing_if = λ n. refl; known_if = λ e. const_known b };
      starts = λ t below start any. nothing_starts setup.table t start;
      settles =
          λ t below lower leaves. by_driver flat (λ b. IsNothingWhereKnown (row t b) (root t b)) leaves (λ c listed. cell t below lower c listed);
      passes = λ t x y h. h;
      stays = λ t x y h. h;
      requests = λ t below h mem listed. same_requests (ones (row t)) (ones (row t)) refl mem;
    })
    checked.known.carried is_rooted.carried
  where
    cell : (t : ℕ) → t < cycles → ((r : ℕ) → r < t → (b : ℕ) → IsNothingWhereKnown (row r b) (root r b)) → (c : FlatCell)
        → Contains flat.cells c
        → IsNothingWhereKnown (row t c.output) (root t c.output)
    cell t below lower c listed = go (vary_or_not (row t c.output)) (kept_or_not row root t c)
      where
        has : HasCellRoot row root t c
        has = is_rooted.cells t below c listed

        go : (row t c.output ≡ Vary) ⊎ (row t c.output ≢ Vary) → IsKept row root t c ⊎ (IsKept row root t c → ⊥)
            → IsNothingWhereKnown (row t c.output) (root t c.output)
        go (inr known) kept = record { nothing_if = has.known; known_if = λ e. known }
        go (inl varies) (inl kept) =
            let old : IsNothingWhereKnown (row (before t) c.output) (root (before t) c.output) =
            lower (before t) (before_earlier row root t c kept) c.output in
            let same : row (before t) c.output ≡ row t c.output =
            kept_part flat setup cycles row word checked.known root t below c listed kept in
            record {
              nothing_if = has.known;
              known_if = λ e. absurd (old.known_if (sym (has.kept varies kept) ∙ e) (same ∙ varies));
            }
        go (inl varies) (inr own) = record {
          nothing_if = has.known;
          known_if = λ e. absurd (let f = has.own varies own in cc);
        }

-- a root that is not nothing has the value
pub record HasRootValue (choice : Choice) (v : ℕ → Valuation) (r : Root) (x : Bool) : Type 0 where
  pub value : r ≢ nothing → x ≡ root_value choice v r

value_starts : (choice : Choice) (v : ℕ → Valuation) (table : LabelTable) (t : ℕ) (start : Start)
    → HasRootValue choice v (start_state roots table t start) (start_state (values choice) table t start)
value_starts choice v table t (Public b) = record { value = λ n. absurd (n refl) }
value_starts choice v table t (Label l) = record { value = λ n. refl }
value_starts choice v table t (Fresh j) = record { value = λ n. refl }

-- what is known of a wire holds in a run
wire_allowed : (row : Row) (v : Valuation) → ((b : ℕ) → Allows (row b) (v b)) → (w : Wire) → Allows (wire_part row w) (wire_value v w)
wire_allowed row v allows w = wire-allows row v w allows

-- a wire has in a cycle the value of its root, where it is unknown
wire_has_root : (choice : Choice) (v : ℕ → Valuation) (row : Row) (root : ℕ → Root) (x : Valuation) (w : Wire) → wire_part row w ≡ Vary
    → ((b : ℕ) → w ≡ Bit b → IsNothingWhereKnown (row b) (root b)) → ((b : ℕ) → w ≡ Bit b → HasRootValue choice v (root b) (x b))
    → wire_value x w ≡ root_value choice v (wire_root root w)
wire_has_root choice v row root x (Const b) varies nothings has = absurd (const_known b varies)
wire_has_root choice v row root x (Bit n) varies nothings has = (has n refl).value (λ e. (nothings n refl).known_if e varies)

pub root_values : (flat : Flat) (setup : Setup) (cycles : ℕ) (rank : ℕ → ℕ) (row : ℕ → Row) (word : ℕ → ℕ → Row)
    → IsChecked flat setup cycles rank row word
    → (root : ℕ → ℕ → Root) (rooted : ℕ → ℕ → ℕ → Root) → IsRooted flat setup cycles row root rooted
    → (choice : Choice) (v : ℕ → Valuation) (m : ℕ → Memory) → IsRun flat setup cycles choice v m
    → (t : ℕ) → t < cycles → IsLinked flat (root t) (v t) (rooted t) (m t) (HasRootValue choice v) (HasRootValue choice v)
root_values flat setup cycles rank row word checked root rooted is_rooted choice v m run =
    carried-linked roots (values choice) IsAnyStart flat setup cycles (λ t. ones (row t)) v root v rooted m (λ _. HasRootValue choice v)
    (λ _. HasRootValue choice v)
    checked.bound (any_starts flat setup)
    (record {
      constants = λ t b. record { value = λ n. absurd (n refl) };
      starts = λ t below start any. value_starts choice v setup.table t start;
      settles = λ t below lower leaves. by_rank flat rank (λ b. HasRootValue choice v (root t b) (v t b)) checked.ranked leaves
          (record { cells = λ c listed inputs. cell t below lower c listed inputs });
      passes = λ t x y h. h;
      stays = λ t x y h. h;
      requests =
          λ t below h. known_requests flat setup (row t) (v t) checked.has_controls (checked.controls t (omega arith))
          (known t (omega arith));
    })
    is_rooted.carried run.carried
  where
    known : (t : ℕ) → t < cycles → (b : ℕ) → Allows (row t b) (v t b)
    known t below = (known_run flat setup cycles rank row word checked choice v m run t below).bits

    nothings : (t : ℕ) → t < cycles → (b : ℕ) → IsNothingWhereKnown (row t b) (root t b)
    nothings t below = (nothing_where_known flat setup cycles rank row word checked root rooted is_rooted t below).bits

    steady : (t : ℕ) → suc t < cycles → ((b : ℕ) → HasRootValue choice v (root t b) (v t b)) → (w : Wire)
        → ((b : ℕ) → w ≡ Bit b → HasRootValue choice v (root (suc t) b) (v (suc t) b))
        → IsSteady (row t) (row (suc t)) (root t) (root (suc t)) w → wire_value (v (suc t)) w ≡ wire_value (v t) w
    steady t below old w new s = go (vary_or_not (wire_part (row (suc t)) w))
      where
        go : (wire_part (row (suc t)) w ≡ Vary) ⊎ (wire_part (row (suc t)) w ≢ Vary) → wire_value (v (suc t)) w ≡ wire_value (v t) w
        go (inr is_known) =
            allowed_once (wire_part (row (suc t)) w) _ _ is_known (wire_allowed (row (suc t)) (v (suc t)) (known (suc t) below) w)
            (subst (λ p. Allows p (wire_value (v t) w)) s.part (wire_allowed (row t) (v t) (known t (omega arith)) w))
        go (inl varies) = wire_has_root choice v (row (suc t)) (root (suc t)) (v (suc t)) w varies (λ b e. nothings (suc t) below b) new
            ∙ ap (root_value choice v) (sym s.root)
            ∙ sym (wire_has_root choice v (row t) (root t) (v t) w (s.part ∙ varies) (λ b e. nothings t (omega arith) b) (λ b e. old b))

    same_inputs : (t : ℕ) → t < cycles → ((r : ℕ) → r < t → (b : ℕ) → HasRootValue choice v (root r b) (v r b)) → (c : FlatCell)
        → ((b : ℕ) → Contains (wires_of c) (Bit b) → HasRootValue choice v (root t b) (v t b)) → IsKept row root t c
        → map (wire_value (v t)) (wires_of c) ≡ map (wire_value (v (before t))) (wires_of c)
    same_inputs zero below lower c inputs kept = absurd kept
    same_inputs (suc t) below lower c inputs kept = all (wires_of c) (λ w h. h)
      where
        all : (ws : List Wire) → ((w : Wire) → Contains ws w → Contains (wires_of c) w)
            → map (wire_value (v (suc t))) ws ≡ map (wire_value (v t)) ws
        all [] within = refl
        all (w ∷ ws) within =
            ap (λ x. x ∷ map (wire_value (v (suc t))) ws)
            (steady t below (lower t (omega arith)) w (λ b e. inputs b (subst (Contains (wires_of c)) e (within w (Contains-here w ws)))) (kept w (within w (Contains-here w ws))))
            ∙ ap (λ rest. wire_value (v t) w ∷ rest) (all ws (λ x h. within x (Contains-later w x ws h)))

    cell : (t : ℕ) → t < cycles → ((r : ℕ) → r < t → (b : ℕ) → HasRootValue choice v (root r b) (v r b)) → (c : FlatCell)
        → Contains flat.cells c
        → ((b : ℕ) → Contains (wires_of c) (Bit b) → HasRootValue choice v (root t b) (v t b))
        → HasRootValue choice v (root t c.output) (v t c.output)
    cell t below lower c listed inputs = go (vary_or_not (row t c.output)) (kept_or_not row root t c)
      where
        has : HasCellRoot row root t c
        has = is_rooted.cells t below c listed

        go : (row t c.output ≡ Vary) ⊎ (row t c.output ≢ Vary) → IsKept row root t c ⊎ (IsKept row root t c → ⊥)
            → HasRootValue choice v (root t c.output) (v t c.output)
        go (inr is_known) kept = record { value = λ n. absurd (n (has.known is_known)) }
        go (inl varies) (inr own) = record { value = λ n. ap (root_value choice v) (sym (has.own varies own)) }
        go (inl varies) (inl kept) = record {
          value = λ n.
              (run.settled t below).cells c listed
              ∙ ap (output_of c.kind) (same_inputs t below lower c inputs kept)
              ∙ sym ((run.settled (before t) earlier).cells c listed)
              ∙ (lower (before t) (before_earlier row root t c kept) c.output).value (λ e. n (has.kept varies kept ∙ e))
              ∙ ap (root_value choice v) (sym (has.kept varies kept));
        }
          where
            earlier : before t < cycles
            earlier = let e : before t < t = before_earlier row root t c kept in omega arith

-- a root is nothing, a label below a number, or a cell's output in a cycle below another
pub record IsRootBelow (flat : Flat) (count t : ℕ) (r : Root) : Type 0 where
  pub labels : (l : ℕ) → r ≡ label l → l < count
  pub cycles : (s c : ℕ) → r ≡ output s c → s < t
  pub cells : (s c : ℕ) → r ≡ output s c → IsCellBit flat c

nothing_below : (flat : Flat) (count t : ℕ) → IsRootBelow flat count t nothing
nothing_below flat count t = record { labels = λ l e. absurd cc; cycles = λ s c e. absurd cc; cells = λ s c e. absurd cc }

label_below : (flat : Flat) (count t l : ℕ) → l < count → IsRootBelow flat count t (label l)
label_below flat count t l below = record {
  labels = λ m e. let f : l ≡ m = cc in subst (λ n. n < count) f below;
  cycles = λ s c e. absurd cc;
  cells = λ s c e. absurd cc;
}

root_below_later : (flat : Flat) (count t later : ℕ) (r : Root) → t ≤ later → IsRootBelow flat count t r → IsRootBelow flat count later r
root_below_later flat count t later r le h =
    record { labels = h.labels; cycles = λ s c e. let f = h.cycles s c e in omega arith; cells = h.cells }

starts_below : (flat : Flat) (setup : Setup) (cycles t : ℕ) → t < cycles → (start : Start) → IsLabelled setup.table start
    → IsRootBelow flat (label_count setup.table cycles) t (start_state roots setup.table t start)
starts_below flat setup cycles t below (Public b) good = nothing_below flat _ t
starts_below flat setup cycles t below (Label l) good = label_below flat _ t l (omega arith)
starts_below flat setup cycles t below (Fresh j) good =
    label_below flat _ t (setup.table.declared + t * setup.table.per_cycle + j)
    (let e : suc t * setup.table.per_cycle ≤ cycles * setup.table.per_cycle = mul-le-mul_right setup.table.per_cycle below in omega arith)

pub roots_below : (flat : Flat) (setup : Setup) (cycles : ℕ) (rank : ℕ → ℕ) (row : ℕ → Row) (word : ℕ → ℕ → Row)
    → IsChecked flat setup cycles rank row word
    → AreStarts (IsLabelled setup.table) flat setup
    → (root : ℕ → ℕ → Root) (rooted : ℕ → ℕ → ℕ → Root) → IsRooted flat setup cycles row root rooted
    → (t : ℕ) → t < cycles
    → IsLinked flat (root t) (root t) (rooted t) (rooted t) (λ r s. IsRootBelow flat (label_count setup.table cycles) t r)
    (λ r s. IsRootBelow flat (label_count setup.table cycles) (suc t) r)
roots_below flat setup cycles rank row word checked starts root rooted is_rooted =
    carried-linked roots roots (IsLabelled setup.table) flat setup cycles (λ t. ones (row t)) (λ t. ones (row t)) root root rooted rooted
    (λ t r s. IsRootBelow flat count t r) (λ t r s. IsRootBelow flat count (suc t) r) checked.bound starts
    (record {
      constants = λ t b. nothing_below flat count t;
      starts = λ t below start good. starts_below flat setup cycles t below start good;
      settles = λ t below lower leaves. by_driver flat (λ b. IsRootBelow flat count (suc t) (root t b))
          (λ b none. root_below_later flat count t (suc t) (root t b) (omega arith) (leaves b none))
          (λ c listed. cell t below lower c listed);
      passes = λ t x y h. h;
      stays = λ t x y h. root_below_later flat count t (suc t) x (omega arith) h;
      requests = λ t below h mem listed. same_requests (ones (row t)) (ones (row t)) refl mem;
    })
    is_rooted.carried is_rooted.carried
  where
    count : ℕ
    count = label_count setup.table cycles

    cell : (t : ℕ) → t < cycles → ((r : ℕ) → r < t → (b : ℕ) → IsRootBelow flat count (suc r) (root r b)) → (c : FlatCell)
        → Contains flat.cells c
        → IsRootBelow flat count (suc t) (root t c.output)
    cell t below lower c listed = go (vary_or_not (row t c.output)) (kept_or_not row root t c)
      where
        has : HasCellRoot row root t c
        has = is_rooted.cells t below c listed

        go : (row t c.output ≡ Vary) ⊎ (row t c.output ≢ Vary) → IsKept row root t c ⊎ (IsKept row root t c → ⊥)
            → IsRootBelow flat count (suc t) (root t c.output)
        go (inr known) kept = subst (IsRootBelow flat count (suc t)) (sym (has.known known)) (nothing_below flat count (suc t))
        go (inl varies) (inl kept) =
            let e : before t < t = before_earlier row root t c kept in
            subst (IsRootBelow flat count (suc t)) (sym (has.kept varies kept))
            (root_below_later flat count (suc (before t)) (suc t) (root (before t) c.output) (omega arith) (lower (before t) e c.output))
        go (inl varies) (inr own) = subst (IsRootBelow flat count (suc t)) (sym (has.own varies own)) (record {
          labels = λ l e. absurd cc;
          cycles = λ s d e. let f : t ≡ s = cc in omega arith;
          cells = λ s d e. any_from_member (λ (x : FlatCell). x.output ≡ d) flat.cells c listed cc;
        })

-- an output that is a root of a bit is of an earlier cycle, or the bit itself
pub root_earlier : (flat : Flat) (setup : Setup) (cycles : ℕ) (rank : ℕ → ℕ) (row : ℕ → Row) (word : ℕ → ℕ → Row)
    → IsChecked flat setup cycles rank row word
    → AreStarts (IsLabelled setup.table) flat setup
    → (root : ℕ → ℕ → Root) (rooted : ℕ → ℕ → ℕ → Root) → IsRooted flat setup cycles row root rooted
    → (t : ℕ) → t < cycles → (b s d : ℕ) → root t b ≡ output s d → (s < t) ⊎ ((s ≡ t) × (d ≡ b))
root_earlier flat setup cycles rank row word checked starts root rooted is_rooted t below b s d e =
    by_driver flat (λ b. root t b ≡ output s d → (s < t) ⊎ ((s ≡ t) × (d ≡ b))) leaves cells b e
  where
    linked : (t : ℕ) → t < cycles
        → IsLinked flat (root t) (root t) (rooted t) (rooted t) (λ r s. IsRootBelow flat (label_count setup.table cycles) t r)
        (λ r s. IsRootBelow flat (label_count setup.table cycles) (suc t) r)
    linked = roots_below flat setup cycles rank row word checked starts root rooted is_rooted

    leaves : (b : ℕ) → (IsCellBit flat b → ⊥) → root t b ≡ output s d → (s < t) ⊎ ((s ≡ t) × (d ≡ b))
    leaves b none e = inl (((linked t below).leaves b none).cycles s d e)

    cells : (c : FlatCell) → Contains flat.cells c → root t c.output ≡ output s d → (s < t) ⊎ ((s ≡ t) × (d ≡ c.output))
    cells c listed e = go (vary_or_not (row t c.output)) (kept_or_not row root t c)
      where
        has : HasCellRoot row root t c
        has = is_rooted.cells t below c listed

        go : (row t c.output ≡ Vary) ⊎ (row t c.output ≢ Vary) → IsKept row root t c ⊎ (IsKept row root t c → ⊥)
            → (s < t) ⊎ ((s ≡ t) × (d ≡ c.output))
        go (inr known) kept = absurd (let f = has.known known in cc)
        go (inl varies) (inl kept) =
            let lt : before t < t = before_earlier row root t c kept in
            let f : s < suc (before t) =
            ((linked (before t) (omega arith)).bits c.output).cycles s d (sym (has.kept varies kept) ∙ e) in inl (omega arith)
        go (inl varies) (inr own) = inr (let f = has.own varies own in (cc, cc))

pub root_law : RootLaw
unfolding RootLaw
root_law flat setup cycles sim starts root rooted is_rooted t b below = (
  (λ choice v m run varies. ((root_values flat setup cycles sim.rank sim.row sim.word sim.is root rooted is_rooted choice v m run t below).bits b).value (λ e. known_nothing.known_if e varies)),
  known_nothing.nothing_if,
  known_nothing.known_if,
  record {
    labels = ((roots_below flat setup cycles sim.rank sim.row sim.word sim.is starts root rooted is_rooted t below).bits b).labels;
    earlier = root_earlier flat setup cycles sim.rank sim.row sim.word sim.is starts root rooted is_rooted t below b;
    cells = ((roots_below flat setup cycles sim.rank sim.row sim.word sim.is starts root rooted is_rooted t below).bits b).cells;
  },
)
  where
    known_nothing : IsNothingWhereKnown (sim.row t b) (root t b)
    known_nothing = (nothing_where_known flat setup cycles sim.rank sim.row sim.word sim.is root rooted is_rooted t below).bits b
