-- Induction on the cells of a netlist in order of rank.
use Rattle.std.proofs.Common.{◌≡◌, ℕ, zero, suc, ◌<◌, ◌⊎◌, inl, inr, ap, subst, arith}
use Rattle.std.specs.Prelude.{Contains, Any}
use Rattle.std.proofs.lemmas.Bool.{cases_eq}
use Rattle.coco_base.specs.declared.netlist.Flat.{Flat}
use Rattle.coco_base.specs.declared.netlist.FlatCell.{FlatCell}
use Rattle.coco_base.specs.declared.netlist.FlatFlop.{FlatFlop}
use Rattle.coco_base.specs.declared.netlist.Wire.TheVariants.{Bit}
use Rattle.coco_model.specs.Netlist.{wires_of, IsCellBit, IsFlopBit, IsInputBit, input_bits, IsRanked}
use Rattle.coco_model.proofs.Basics.{HasMember, some_from_any, any_from_member}
use Rattle.model_laws.proofs.Lists.{some_or_none, contains_or_not}

pub any_or_none : {X : Type 0} (P : X → Type 0) → ((x : X) → P x ⊎ (P x → ⊥)) → (xs : _) → Any P xs ⊎ (Any P xs → ⊥)
any_or_none P decide xs = go (some_or_none P decide xs)
  where
    go : HasMember P xs ⊎ ((x : _) → Contains xs x → P x → ⊥) → Any P xs ⊎ (Any P xs → ⊥)
    go (inl s) = inl (any_from_member P xs s.member s.listed s.holds)
    go (inr none) = inr (λ h. let s = some_from_any P xs h in none s.member s.listed s.holds)

pub cell_bit_or_not : (flat : Flat) (b : ℕ) → IsCellBit flat b ⊎ (IsCellBit flat b → ⊥)
cell_bit_or_not flat b = any_or_none (λ (c : FlatCell). c.output ≡ b) (λ c. cases_eq c.output b) flat.cells

pub flop_bit_or_not : (flat : Flat) (b : ℕ) → IsFlopBit flat b ⊎ (IsFlopBit flat b → ⊥)
flop_bit_or_not flat b = any_or_none (λ (f : FlatFlop). f.output ≡ b) (λ f. cases_eq f.output b) flat.flops

pub input_bit_or_not : (flat : Flat) (b : ℕ) → IsInputBit flat b ⊎ (IsInputBit flat b → ⊥)
input_bit_or_not flat b = contains_or_not (input_bits flat) b

-- P goes from what a cell reads to its output
pub record IsPassedOn (flat : Flat) (P : ℕ → Type 0) : Type 0 where
  pub cells : (c : FlatCell) → Contains flat.cells c → ((b : ℕ) → Contains (wires_of c) (Bit b) → P b) → P c.output

-- what holds of the bits that no cell drives, and goes from what a cell reads to its output, holds of every bit
pub by_rank : (flat : Flat) (rank : ℕ → ℕ) (P : ℕ → Type 0) → IsRanked flat rank → ((b : ℕ) → (IsCellBit flat b → ⊥) → P b)
    → IsPassedOn flat P → (b : ℕ) → P b
by_rank flat rank P ranked leaves passed b = below (suc (rank b)) b (omega arith)
  where
    below : (n : ℕ) (b : ℕ) → rank b < n → P b
    below zero b lt = absurd (omega arith)
    below (suc n) b lt = go (cell_bit_or_not flat b) (below n)
      where
        go : IsCellBit flat b ⊎ (IsCellBit flat b → ⊥) → ((b : ℕ) → rank b < n → P b) → P b
        go (inr none) lower = leaves b none
        go (inl h) lower = let s = some_from_any (λ (c : FlatCell). c.output ≡ b) flat.cells h in
            let at : rank s.member.output ≡ rank b = ap rank s.holds in
            subst P s.holds (passed.cells s.member s.listed (λ a read. lower a (let r = ranked.cells s.member s.listed a read in omega arith)))
