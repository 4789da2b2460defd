-- Trails: the literals that are set, in the order in which they were, and what set each.
use Rattle.std.specs.Prelude.{◌≡◌, ℕ, ◌-◌, ◌<◌, ◌≤◌, ◌^◌, Bool, false, List, [], ◌∷◌, ◌++◌, length, take, Option, Some, None, is_none, slice_get, slice_index, slice_index_or}
use Rattle.std.specs.Option.{IsSomeAnd}
use Rattle.clause_store.specs.declared.lit.Lit.{Lit}
use Rattle.clause_store.specs.Signs.{sign_of}

-- the literals that are set, in order; for each the number of the clause that forced it, or none where it was
-- decided; the places of the decisions, one for each level above the lowest; and how many variables there are
pub record History : Type 0 where
  pub lits : List Lit
  pub reasons : List (Option ℕ)
  pub starts : List ℕ
  pub vars : ℕ

abbrev pub untouched : ℕ → History
untouched vars = record { lits = []; reasons = []; starts = []; vars = vars }

abbrev pub pushed : History → Lit → Option ℕ → History
pushed h lit reason = record h { lits = h.lits ++ lit ∷ []; reasons = h.reasons ++ reason ∷ [] }

-- with a new level, whose decision is still to come
abbrev pub opened : History → History
opened h = record h { starts = h.starts ++ length h.lits ∷ [] }

-- the first n places alone
abbrev pub shortened : History → ℕ → History
shortened h n = record h { lits = take n h.lits; reasons = take n h.reasons }

-- back to before the decision of a level
abbrev pub undone : History → ℕ → History
undone h level =
    record {
      lits = take (slice_index h.starts level) h.lits;
      reasons = take (slice_index h.starts level) h.reasons;
      starts = take level h.starts;
      vars = h.vars;
    }

-- the place of the last decision, and 0 where there is none
abbrev pub level_start_of : History → ℕ
level_start_of h = slice_index h.starts (length h.starts - 1)

-- the literal at the place has the variable
abbrev pub IsPlaceOf : List Lit → ℕ → ℕ → Type 0
IsPlaceOf lits var place = IsSomeAnd (slice_get lits place) (λ l. l.var ≡ var)

-- no variable is set twice, and all are below the number of variables
pub record IsCoherent (h : History) : Type 0 where
  pub fresh : (p : ℕ) (l : Lit) → slice_get h.lits p ≡ Some l → sign_of (take p h.lits) l.var ≡ None
  pub in_range : (v : ℕ) (sign : Bool) → sign_of h.lits v ≡ Some sign → v < h.vars
  pub bound : length h.lits ≤ h.vars
  pub small : h.vars ≤ 2 ^ 30
  pub reasons_len : length h.reasons ≡ length h.lits

-- the tables by variable that a trail keeps say what its literals say
pub record IsTabled (lits : List Lit) (reasons : List (Option ℕ)) (values : List (Option Bool)) (unset : List Bool)
    (places : List ℕ) : Type 0 where
  pub small : length values ≤ 2 ^ 30
  pub reasons_len : length reasons ≡ length lits
  pub unset_len : length unset ≡ length values
  pub places_len : length places ≡ length values
  pub value : (v : ℕ) → slice_index_or values v None ≡ sign_of lits v
  pub is_unset : (v : ℕ) → v < length values → slice_index_or unset v false ≡ is_none (sign_of lits v)
  pub place : (p : ℕ) (l : Lit) → slice_get lits p ≡ Some l → slice_index places l.var ≡ p
