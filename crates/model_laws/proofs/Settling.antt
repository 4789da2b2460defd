-- Settled valuations exist.
use Rattle.std.proofs.Common.{◌≡◌, ℕ, ◌⊎◌, inl, inr, Bool, false, refl, sym, ◌∙◌, subst}
use Rattle.coco_base.specs.declared.netlist.Flat.{Flat}
use Rattle.coco_base.specs.declared.netlist.FlatFlop.{FlatFlop}
use Rattle.coco_model.specs.Netlist.{Valuation, cell_value, IsRanked, HasOneDriver, IsUndriven, IsInputBit, IsFlopBit, IsCellBit}
use Rattle.coco_model.proofs.Basics.{some_from_any}
use Rattle.model_laws.proofs.Ranks.{flop_bit_or_not, input_bit_or_not}
use Rattle.model_laws.proofs.Sources.{input_no_cell, flop_no_cell}
use Rattle.model_laws.proofs.Solved.{HasStates, states_exist}
use Rattle.model_laws.proofs.Meanings.{value_reads}
use Rattle.model_laws.specs.Laws.{HasSettled, SomeSettledLaw}

-- a flop or an input port drives the bit
abbrev IsGivenBit : Flat → ℕ → Type 0
IsGivenBit flat b = IsFlopBit flat b ⊎ IsInputBit flat b

given_or_not : (flat : Flat) (b : ℕ) → IsGivenBit flat b ⊎ (IsGivenBit flat b → ⊥)
given_or_not flat b = go (flop_bit_or_not flat b) (input_bit_or_not flat b)
  where
    go : IsFlopBit flat b ⊎ (IsFlopBit flat b → ⊥) → IsInputBit flat b ⊎ (IsInputBit flat b → ⊥)
        → IsGivenBit flat b ⊎ (IsGivenBit flat b → ⊥)
    go (inl flop) input = inl (inl flop)
    go (inr no_flop) (inl input) = inl (inr input)
    go (inr no_flop) (inr no_input) = inr neither
      where
        neither : IsGivenBit flat b → ⊥
        neither (inl flop) = no_flop flop
        neither (inr input) = no_input input

given_no_cell : (flat : Flat) → HasOneDriver flat → (b : ℕ) → IsGivenBit flat b → IsCellBit flat b → ⊥
given_no_cell flat driven b (inl flop) cell =
    let s = some_from_any (λ (f : FlatFlop). f.output ≡ b) flat.flops flop in
    flop_no_cell flat driven s.member s.listed (subst (IsCellBit flat) (sym s.holds) cell)
given_no_cell flat driven b (inr input) cell = input_no_cell flat driven b input cell

-- the given value of a bit, and 0 where it is not given
abbrev value_if : {A : Type 0} → Bool → A ⊎ (A → ⊥) → Bool
value_if value (inl given) = value
value_if value (inr none) = false

value_if-given : {A : Type 0} (value : Bool) (d : A ⊎ (A → ⊥)) → A → value_if value d ≡ value
value_if-given value (inl given) a = refl
value_if-given value (inr none) a = absurd (none a)

value_if-none : {A : Type 0} (value : Bool) (d : A ⊎ (A → ⊥)) → (A → ⊥) → value_if value d ≡ false
value_if-none value (inl given) n = absurd (n given)
value_if-none value (inr none) n = refl

undriven_not_given : (flat : Flat) (b : ℕ) → IsUndriven flat b → IsGivenBit flat b → ⊥
undriven_not_given flat b u (inl flop) = u.no_flop flop
undriven_not_given flat b u (inr input) = u.no_input input

settled_exists : (flat : Flat) (rank : ℕ → ℕ) → IsRanked flat rank → HasOneDriver flat → (leaves : Valuation) → HasSettled flat leaves
settled_exists flat rank ranked driven leaves = record {
  valuation = states.state;
  settled = record {
    cells = states.cells;
    undriven = λ b u. states.leaves b u.no_cell ∙ value_if-none (leaves b) (given_or_not flat b) (undriven_not_given flat b u);
  };
  agrees = λ b g. states.leaves b (given_no_cell flat driven b g) ∙ value_if-given (leaves b) (given_or_not flat b) g;
}
  where
    states : HasStates flat (λ c v. cell_value v c) (λ b. value_if (leaves b) (given_or_not flat b))
    states = states_exist flat rank (λ c v. cell_value v c) (λ b. value_if (leaves b) (given_or_not flat b)) ranked driven value_reads

pub some_settled_law : SomeSettledLaw
unfolding SomeSettledLaw
some_settled_law = settled_exists
