-- The setup of the register is bound to it.
use Rattle.std.proofs.Common.{◌≡◌, ℕ, ◌<◌, ◌⊎◌, inl, inr, false, [], ◌∷◌, refl, subst, arith}
use Rattle.std.specs.Prelude.{Contains, slice_get, Some}
use Rattle.coco_base.specs.declared.labels.MaskPlan.{MaskPlan}
use Rattle.coco_base.specs.declared.netlist.FlatFlop.{FlatFlop}
use Rattle.coco_base.specs.declared.netlist.Wire.{Wire}
use Rattle.coco_base.specs.declared.netlist.Wire.TheVariants.{Bit}
use Rattle.coco_base.specs.declared.setup.Start.{Start}
use Rattle.coco_base.specs.declared.setup.Start.TheVariants.{Public, Label}
use Rattle.coco_model.specs.Carried.{IsBound, IsLabelled}
use Rattle.coco_model.specs.Labels.{IsLabelTable}
use Rattle.coco_model.specs.Setups.{IsBoundTo, IsClock}
use Rattle.coco_model.proofs.Basics.{Contains-here, Contains-cases, Contains-none, only_member}
use Rattle.unroll.specs.Examples.{keeping_flop, one_mask, register, masked}

no_place : {X : Type 0} (i : ℕ) (x : X) → slice_get [] i ≡ Some x → ⊥
no_place i x e = absurd cc

table_is : IsLabelTable masked.table
table_is = record {
  wide = λ s h. absurd (Contains-none s h);
  shared = λ s h. absurd (Contains-none s h);
  mask_wide = only_member (λ (m : MaskPlan). 0 < m.width) one_mask (omega arith);
  few = omega arith;
  once = (Contains-none 0, tt);
  each = λ l. (only_member (λ (n : ℕ). n < 1) 0 (omega arith) l, (λ h. subst (Contains (0 ∷ [])) (let e : 0 ≡ l = omega arith in e) (Contains-here 0 [])));
  fresh_once = tt;
  fresh_each = λ l. ((λ h. absurd (Contains-none l h)), (λ h. absurd (omega arith)));
}

start_is : (s : Start) → Contains masked.starts s → IsLabelled masked.table s
start_is s h = go (Contains-cases (Public false) s (Label 0 ∷ []) h)
  where
    go : (Public false ≡ s) ⊎ Contains (Label 0 ∷ []) s → IsLabelled masked.table s
    go (inl e) = subst (IsLabelled masked.table) e tt
    go (inr i) = only_member (IsLabelled masked.table) (Label 0) (omega arith) s i

bound_is : IsBound register masked
bound_is = record { each = λ b h. h; only = λ b h. h; once = (Contains-none 0, tt) }

clock_is : IsClock register 0
clock_is = record {
  input = Contains-here 0 [];
  no_cell = λ c h. absurd (Contains-none c h);
  no_next = only_member (λ (f : FlatFlop). f.next ≡ Bit 0 → ⊥) keeping_flop (λ e. cc);
  no_reset = only_member (λ (f : FlatFlop). f.reset ≡ Some (Bit 0) → ⊥) keeping_flop (λ e. cc);
}

pub masked_bound : IsBoundTo register masked
masked_bound = record {
  table = table_is;
  fresh_labels = omega arith;
  starts = refl;
  labels = start_is;
  input_labels = λ p h. absurd (Contains-none p h);
  word_labels = λ w h. absurd (Contains-none w h);
  first_values = λ p h. absurd (Contains-none p h);
  some_values = λ p h. absurd (Contains-none p h);
  echoes = λ e h. absurd (Contains-none e h);
  answers = λ m h. absurd (Contains-none m h);
  sources = λ e h. absurd (Contains-none e h);
  memories = λ m h. absurd (Contains-none m h);
  one_writer = λ i j one other at. absurd (no_place i one at);
  words = λ w h. absurd (Contains-none w h);
  apart = tt;
  leaves = λ l h. absurd (Contains-none l h);
  leaves_apart = tt;
  pc = omega arith;
  pc_below = λ w h. absurd (Contains-none w h);
  controls = record {
    each = λ i m at. absurd (no_place i m at);
    pc = λ w h. absurd (Contains-none w h);
    resets = λ f h w e. absurd (only_member (λ (x : FlatFlop). (u : Wire) → x.reset ≡ Some u → ⊥) keeping_flop (λ u d. cc) f h w e);
  };
  controls_below = λ c h. absurd (Contains-none c h);
  few_controls = omega arith;
  controls_when = λ c h. absurd (Contains-none c h);
  clock = λ b e. subst (IsClock register) (let f : 0 ≡ b = cc in f) clock_is;
  bound = bound_is;
}
