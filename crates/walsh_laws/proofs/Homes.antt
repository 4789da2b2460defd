-- A cell's output that is a root of some bit is its own root.
use Rattle.std.proofs.Common.{◌≡◌, ◌≢◌, ℕ, ◌<◌, ◌⊎◌, inl, inr, refl, sym, ◌∙◌, subst}
use Rattle.std.specs.Prelude.{Contains}
use Rattle.coco_base.specs.declared.cell.Part.TheVariants.{Vary}
use Rattle.coco_base.specs.declared.labels.LabelTable.{LabelTable}
use Rattle.coco_base.specs.declared.netlist.Flat.{Flat}
use Rattle.coco_base.specs.declared.netlist.FlatCell.{FlatCell}
use Rattle.coco_base.specs.declared.setup.Start.{Start}
use Rattle.coco_base.specs.declared.setup.Start.TheVariants.{Public, Label, Fresh}
use Rattle.coco_base.specs.declared.setup.Setup.{Setup}
use Rattle.coco_model.specs.Carried.{start_state}
use Rattle.coco_model.specs.Run.{before}
use Rattle.coco_model.specs.Known.{Row, ones}
use Rattle.coco_model.specs.Roots.{Root, roots, IsKept, HasCellRoot, IsRooted}
use Rattle.coco_model.specs.Roots.Root.{output}
use Rattle.model_laws.proofs.Carry.{IsLinked, carried-linked}
use Rattle.model_laws.proofs.Knowing.{IsAnyStart, any_starts}
use Rattle.model_laws.proofs.Calms.{vary_or_not}
use Rattle.model_laws.proofs.Unique.{same_requests, before_earlier, kept_or_not}
use Rattle.model_laws.proofs.Rooted.{by_driver}
use Rattle.model_laws.specs.Laws.{IsChecked}

-- a root that is an output is that output's root
pub record IsHome (root : ℕ → ℕ → Root) (r : Root) : Type 0 where
  pub home : (s c : ℕ) → r ≡ output s c → root s c ≡ output s c

start_home : (root : ℕ → ℕ → Root) (table : LabelTable) (t : ℕ) (start : Start) → IsHome root (start_state roots table t start)
start_home root table t (Public b) = record { home = λ s c e. absurd cc }
start_home root table t (Label l) = record { home = λ s c e. absurd cc }
start_home root table t (Fresh j) = record { home = λ s c e. absurd cc }

roots_home : (flat : Flat) (setup : Setup) (cycles : ℕ) (rank : ℕ → ℕ) (row : ℕ → Row) (word : ℕ → ℕ → Row)
    → IsChecked flat setup cycles rank row word
    → (root : ℕ → ℕ → Root) (rooted : ℕ → ℕ → ℕ → Root) → IsRooted flat setup cycles row root rooted
    → (t : ℕ) → t < cycles → IsLinked flat (root t) (root t) (rooted t) (rooted t) (λ r s. IsHome root r) (λ r s. IsHome root r)
roots_home flat setup cycles rank row word checked root rooted is_rooted =
    carried-linked roots roots IsAnyStart flat setup cycles (λ t. ones (row t)) (λ t. ones (row t)) root root rooted rooted
    (λ t r s. IsHome root r) (λ t r s. IsHome root r)
    checked.bound (any_starts flat setup)
    (record {
      constants = λ t b. record { home = λ s c e. absurd cc };
      starts = λ t below start any. start_home root setup.table t start;
      settles = λ t below lower leaves. by_driver flat (λ b. IsHome root (root t b)) leaves (λ c listed. cell t below lower c listed);
      passes = λ t x y h. h;
      stays = λ t x y h. h;
      requests = λ t below h mem listed. same_requests (ones (row t)) (ones (row t)) refl mem;
    })
    is_rooted.carried is_rooted.carried
  where
    cell : (t : ℕ) → t < cycles → ((r : ℕ) → r < t → (b : ℕ) → IsHome root (root r b)) → (c : FlatCell) → Contains flat.cells c
        → IsHome root (root t c.output)
    cell t below lower c listed = go (vary_or_not (row t c.output)) (kept_or_not row root t c)
      where
        has : HasCellRoot row root t c
        has = is_rooted.cells t below c listed

        own_home : root t c.output ≡ output t c.output → (s d : ℕ) → root t c.output ≡ output s d → root s d ≡ output s d
        own_home own s d e =
            let f : t ≡ s = cc in let g : c.output ≡ d = cc in
            subst (λ x. root x d ≡ output x d) f (subst (λ x. root t x ≡ output t x) g own)

        go : (row t c.output ≡ Vary) ⊎ (row t c.output ≢ Vary) → IsKept row root t c ⊎ (IsKept row root t c → ⊥)
            → IsHome root (root t c.output)
        go (inr known) kept = record { home = λ s d e. absurd (let f = has.known known in cc) }
        go (inl varies) (inl kept) = record {
          home = λ s d e. (lower (before t) (before_earlier row root t c kept) c.output).home s d
              (sym (has.kept varies kept) ∙ e);
        }
        go (inl varies) (inr own) = record { home = own_home (has.own varies own) }

pub root_home : (flat : Flat) (setup : Setup) (cycles : ℕ) (rank : ℕ → ℕ) (row : ℕ → Row) (word : ℕ → ℕ → Row)
    → IsChecked flat setup cycles rank row word
    → (root : ℕ → ℕ → Root) (rooted : ℕ → ℕ → ℕ → Root) → IsRooted flat setup cycles row root rooted
    → (t : ℕ) → t < cycles → (b s c : ℕ) → root t b ≡ output s c → root s c ≡ output s c
root_home flat setup cycles rank row word checked root rooted is_rooted t below b =
    ((roots_home flat setup cycles rank row word checked root rooted is_rooted t below).bits b).home
