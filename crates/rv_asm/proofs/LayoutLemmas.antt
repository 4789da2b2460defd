-- Layouts, one line after the other.
use Rattle.std.proofs.Common.{◌≡◌, ◌⊎◌, inl, inr, ℕ, ◌+◌, List, [], ◌∷◌, ◌++◌, length, min, Some, Ok, Err, refl, ap, sym, ◌∙◌, arith, append_assoc, length-append}
use Rattle.rv_asm.specs.declared.fault.AsmFault.{AsmFault}
use Rattle.rv_asm.specs.declared.fault.AsmFault.TheVariants as fault
use Rattle.rv_asm.specs.declared.layout.Layout.{Layout}
use Rattle.rv_asm.specs.Causes.{◌>>=◌}
use Rattle.rv_asm.specs.Lines.{last_line, number_after}
use Rattle.rv_asm.specs.Programs.{after_line, after_lines, AreWithin, FailsWith, IsCutBy, IsFaultOf, layout_of, start, StopsWith}

-- the lines before the rest are laid out, and n is the number of the last of them
pub record IsLaying (all rest : List (List ℕ)) (layout : Layout) (n : ℕ) : Type 0 where
  pub before : List (List ℕ)
  pub whole : all ≡ before ++ rest
  pub number : n ≡ min (length before) last_line
  pub laid : layout_of before ≡ Ok layout

after_lines-append : (layout : Layout) (n : ℕ) (ls : List (List ℕ)) (line : List ℕ) → after_lines layout n (ls ++ line ∷ []) ≡ (after_lines layout n ls >>= λ next. after_line next (number_after (n + length ls)) line >>= λ last. Ok last)
after_lines-append layout n [] line = ap (λ k. after_line layout (number_after k) line >>= λ last. Ok last) (omega arith)
after_lines-append layout n (l ∷ ls) line =
    let k : n + 1 + length ls ≡ n + length (l ∷ ls) = omega arith in
    elim (after_line layout (number_after n) l) as (λ o. (o >>= λ next. after_lines next (n + 1) (ls ++ line ∷ [])) ≡ ((o >>= λ next. after_lines next (n + 1) ls) >>= λ next. after_line next (number_after (n + length (l ∷ ls))) line >>= λ last. Ok last)) [
      | Ok next ↦ after_lines-append next (n + 1) ls line ∙ ap (λ m. after_lines next (n + 1) ls >>= λ next. after_line next (number_after m) line >>= λ last. Ok last) k
      | Err e ↦ refl
    ]

pub laying_goes_on : (all rest : List (List ℕ)) (line : List ℕ) (old new : Layout) (n m : ℕ) → IsLaying all (line ∷ rest) old n → m ≡ min (n + 1) last_line → after_line old m line ≡ Ok new → IsLaying all rest new m
laying_goes_on all rest line old new n m r number taken =
    let here : m ≡ number_after (0 + length r.before) = omega (arith, r.number) in
    let step : after_line old (number_after (0 + length r.before)) line ≡ Ok new = ap (λ k. after_line old k line) (sym here) ∙ taken in
    record {
      before = r.before ++ line ∷ [];
      whole = r.whole ∙ sym (append_assoc r.before (line ∷ []) rest);
      number = omega (arith, r.number, length-append r.before (line ∷ []));
      laid = after_lines-append start 0 r.before line ∙ ap (λ o. o >>= λ next. after_line next (number_after (0 + length r.before)) line >>= λ last. Ok last) r.laid ∙ ap (λ o. o >>= λ last. Ok last) step;
    }

-- ---- faults of programs

fault_is : (ls : List (List ℕ)) (f : AsmFault) → StopsWith ls f ⊎ FailsWith ls f → IsFaultOf ls f
fault_is ls (fault.BadLine n) h = h
fault_is ls (fault.UnknownName n) h = h
fault_is ls (fault.Range n) h = h
fault_is ls (fault.Twice n) h = h
fault_is ls fault.Memory h = tt

-- no line before the one that stops the reading has a value outside what is asked for
pub stops_itself : (ls : List (List ℕ)) (layout : Layout) (f : AsmFault) → IsCutBy ls layout (Some f) → AreWithin layout.names layout.placed → IsFaultOf ls f
stops_itself ls layout f cut within = fault_is ls f (inl (record { layout = layout; number = cut.0; cause = cut.1; stops = cut.2; early = inr (within, cut.3) }))
