-- Resolvents, and chains of them over numbered clauses.
use Rattle.std.specs.Prelude.{◌≡◌, ◌≢◌, ℕ, Bool, true, false, List, [], ◌∷◌, Option, Some, None, slice_get}
use Rattle.std.specs.Option.{option_or}
use Rattle.clause_store.specs.declared.lit.Lit.{Lit}
use Rattle.clause_store.specs.declared.line.Cut.{Cut}
use Rattle.clause_store.specs.Signs.{Signs, sign_of}

-- both hold the variable, with opposite signs
abbrev pub opposite : Option Bool → Option Bool → Bool
opposite None None = false
opposite None (Some b) = false
opposite (Some a) None = false
opposite (Some true) (Some true) = false
opposite (Some true) (Some false) = true
opposite (Some false) (Some true) = true
opposite (Some false) (Some false) = false

-- the resolvent of two clauses on a variable: both hold it with opposite signs, no other variable stands in them
-- with both signs, and the resolvent has all their other literals
pub record IsResolvent (v : ℕ) (c d r : Signs) : Type 0 where
  pub clash : opposite (c v) (d v) ≡ true
  pub only : (w : ℕ) → w ≢ v → opposite (c w) (d w) ≡ false
  pub gone : r v ≡ None
  pub rest : (w : ℕ) → w ≢ v → r w ≡ option_or (c w) (d w)

-- resolving on each cut in turn, the first one with what there is at the start, leads to these signs
abbrev pub LeadsTo : List (List Lit) → Signs → List Cut → Signs → Type 0
LeadsTo clauses signs [] r = (v : ℕ) → signs v ≡ r v
LeadsTo clauses signs (cut ∷ cuts) r =
    (clause : List Lit) × (next : Signs) × (slice_get clauses cut.id ≡ Some clause)
    × IsResolvent cut.var signs (sign_of clause) next × LeadsTo clauses next cuts r
