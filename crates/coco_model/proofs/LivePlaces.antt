-- The places at which a function of input values changes: where it is live. It depends on these alone.
use Rattle.std.proofs.Common.{◌≡◌, ◌≢◌, ℕ, zero, suc, Bool, true, false, ◌⊎◌, inl, inr, List, [], ◌∷◌, get_or, set, refl, sym, ◌∙◌}
use Rattle.std.proofs.lemmas.Bool.{true≢false, false≢true}
use Rattle.coco_base.specs.declared.cell.Kind.{Kind}
use Rattle.coco_base.specs.declared.cell.Part.{Part}
use Rattle.coco_base.specs.declared.cell.Part.TheVariants.{Zero, One, Vary}
use Rattle.coco_model.specs.Cells.{output_of, Allows, AllowsAll, IsLiveInput}
use Rattle.coco_model.proofs.Bits.{same_or_not}

-- a live place of any function
pub record IsLivePlace (f : List Bool → Bool) (ps : List Part) (place : ℕ) : Type 0 where
  pub varies : get_or ps place Zero ≡ Vary
  pub inputs : List Bool
  pub allowed : AllowsAll ps inputs
  pub changes : f (set inputs place false) ≢ f (set inputs place true)

pub live_input : (kind : Kind) (ps : List Part) (place : ℕ) → IsLivePlace (output_of kind) ps place → IsLiveInput kind ps place
live_input kind ps place l = record { varies = l.varies; inputs = l.inputs; allowed = l.allowed; changes = l.changes }

-- a live place behind a first place that has a value
pub behind : (f : List Bool → Bool) (p : Part) (ps : List Part) (b : Bool) (place : ℕ) → Allows p b → IsLivePlace (λ xs. f (b ∷ xs)) ps place → IsLivePlace f (p ∷ ps) (suc place)
behind f p ps b place a l = record { varies = l.varies; inputs = b ∷ l.inputs; allowed = (a, l.allowed); changes = l.changes }

-- changing a first place where it is not live
first_change : (f : List Bool → Bool) (p : Part) (ps : List Part) (x y : Bool) (ys : List Bool) → Allows p x → Allows p y → AllowsAll ps ys
    → (IsLivePlace f (p ∷ ps) zero → x ≡ y) → f (x ∷ ys) ≡ f (y ∷ ys)
first_change f p ps true true ys a b c k = refl
first_change f p ps false false ys a b c k = refl
first_change f Zero ps true false ys a b c k = absurd (true≢false a)
first_change f One ps true false ys a b c k = absurd (false≢true b)
first_change f Zero ps false true ys a b c k = absurd (true≢false b)
first_change f One ps false true ys a b c k = absurd (false≢true a)
first_change f Vary ps true false ys a b c k = go (same_or_not (f (true ∷ ys)) (f (false ∷ ys)))
  where
    go : (f (true ∷ ys) ≡ f (false ∷ ys)) ⊎ (f (true ∷ ys) ≢ f (false ∷ ys)) → f (true ∷ ys) ≡ f (false ∷ ys)
    go (inl e) = e
    go (inr n) = absurd (true≢false (k (record { varies = refl; inputs = true ∷ ys; allowed = (tt, c); changes = λ e. n (sym e) })))
first_change f Vary ps false true ys a b c k = go (same_or_not (f (false ∷ ys)) (f (true ∷ ys)))
  where
    go : (f (false ∷ ys) ≡ f (true ∷ ys)) ⊎ (f (false ∷ ys) ≢ f (true ∷ ys)) → f (false ∷ ys) ≡ f (true ∷ ys)
    go (inl e) = e
    go (inr n) = absurd (false≢true (k (record { varies = refl; inputs = false ∷ ys; allowed = (tt, c); changes = n })))

-- a function depends on its live places alone
pub live_decide : (f : List Bool → Bool) (ps : List Part) (xs ys : List Bool) → AllowsAll ps xs → AllowsAll ps ys
    → ((place : ℕ) → IsLivePlace f ps place → get_or xs place false ≡ get_or ys place false) → f xs ≡ f ys
live_decide f [] [] [] a b k = refl
live_decide f [] [] (y ∷ ys) a b k = absurd b
live_decide f [] (x ∷ xs) ys a b k = absurd a
live_decide f (p ∷ ps) [] ys a b k = absurd a
live_decide f (p ∷ ps) (x ∷ xs) [] a b k = absurd b
live_decide f (p ∷ ps) (x ∷ xs) (y ∷ ys) a b k =
    live_decide (λ zs. f (x ∷ zs)) ps xs ys a.1 b.1 (λ place l. k (suc place) (behind f p ps x place a.0 l))
    ∙ first_change f p ps x y ys a.0 b.0 b.1 (λ l. k zero l)
