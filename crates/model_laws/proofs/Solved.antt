-- States of all bits for given leaves: each cell computes its output from the wires that it reads.
use Rattle.std.proofs.Common.{◌≡◌, ℕ, zero, suc, ◌<◌, ◌⊎◌, inl, inr, true, false, cond, nat_eq, List, [], ◌∷◌, ◌++◌, map, refl, sym, ◌∙◌, ap, subst, arith}
use Rattle.std.specs.Prelude.{Contains, Option, Some, None}
use Rattle.std.proofs.lemmas.Bool.{cases_Bool, eqb-true, eq-eqb, ne_eqb}
use Rattle.coco_base.specs.declared.netlist.Flat.{Flat}
use Rattle.coco_base.specs.declared.netlist.FlatCell.{FlatCell}
use Rattle.coco_base.specs.declared.netlist.FlatFlop.{FlatFlop}
use Rattle.coco_base.specs.declared.netlist.Wire.TheVariants.{Bit}
use Rattle.coco_model.specs.Netlist.{wires_of, IsRanked, HasOneDriver, HasNoRepeat, IsCellBit, input_bits}
use Rattle.coco_model.proofs.Basics.{Contains-here, Contains-later, Contains-cases, Contains-none, any_from_member}
use Rattle.model_laws.proofs.Lists.{Contains-map}
use Rattle.model_laws.proofs.Apart.{apart_parts}

-- the first cell that drives a bit
abbrev pub driver_of : List FlatCell → ℕ → Option FlatCell
driver_of [] b = None
driver_of (c ∷ cs) b = cond (nat_eq c.output b) (Some c) (driver_of cs b)

abbrev pub outputs : List FlatCell → List ℕ
outputs cs = map (λ (c : FlatCell). c.output) cs

pub driver_of-listed : (cs : List FlatCell) → HasNoRepeat (outputs cs) → (c : FlatCell) → Contains cs c → driver_of cs c.output ≡ Some c
driver_of-listed [] once c h = absurd (Contains-none c h)
driver_of-listed (d ∷ cs) once c h = go (Contains-cases d c cs h) (λ i. driver_of-listed cs once.1 c i)
  where
    go : (d ≡ c) ⊎ Contains cs c → (Contains cs c → driver_of cs c.output ≡ Some c) → driver_of (d ∷ cs) c.output ≡ Some c
    go (inl e) rest =
        ap (λ t. cond t (Some d) (driver_of cs c.output)) (eq-eqb d.output c.output (ap (λ (x : FlatCell). x.output) e)) ∙ ap Some e
    go (inr i) rest =
        ap (λ t. cond t (Some d) (driver_of cs c.output))
        (ne_eqb d.output c.output (λ same. once.0 (subst (Contains (outputs cs)) (sym same) (Contains-map (λ (x : FlatCell). x.output) cs c i))))
        ∙ rest i

-- a driver is a cell with this output
pub record IsDriver (cs : List FlatCell) (b : ℕ) (c : FlatCell) : Type 0 where
  pub listed : Contains cs c
  pub drives : c.output ≡ b

driver_of-sound : (cs : List FlatCell) (b : ℕ) (c : FlatCell) → driver_of cs b ≡ Some c → IsDriver cs b c
driver_of-sound [] b c e = absurd cc
driver_of-sound (d ∷ cs) b c e = go (cases_Bool (nat_eq d.output b)) (λ f. driver_of-sound cs b c f)
  where
    go : (nat_eq d.output b ≡ true) ⊎ (nat_eq d.output b ≡ false) → (driver_of cs b ≡ Some c → IsDriver cs b c) → IsDriver (d ∷ cs) b c
    go (inl t) rest =
        let f : Some d ≡ Some c = sym (ap (λ x. cond x (Some d) (driver_of cs b)) t) ∙ e in
        let same : d ≡ c = cc in
        record { listed = subst (Contains (d ∷ cs)) same (Contains-here d cs); drives = ap (λ (x : FlatCell). x.output) (sym same) ∙ eqb-true d.output b t }
    go (inr t) rest =
        let r = rest (sym (ap (λ x. cond x (Some d) (driver_of cs b)) t) ∙ e) in
        record { listed = Contains-later d c cs r.listed; drives = r.drives }

abbrev from_driver : {X : Type 0} → (FlatCell → (ℕ → X) → X) → X → (ℕ → X) → Option FlatCell → X
from_driver f x s None = x
from_driver f x s (Some c) = f c s

-- the state of a bit, as deep as a number of cells
abbrev solve : {X : Type 0} → (FlatCell → (ℕ → X) → X) → (ℕ → X) → List FlatCell → ℕ → ℕ → X
solve f leaf cs zero b = leaf b
solve f leaf cs (suc n) b = from_driver f (leaf b) (solve f leaf cs n) (driver_of cs b)

-- a cell's function reads the cell's wires alone
pub record ReadsWires {X : Type 0} (f : FlatCell → (ℕ → X) → X) : Type 0 where
  pub reads : (c : FlatCell) (s u : ℕ → X) → ((b : ℕ) → Contains (wires_of c) (Bit b) → s b ≡ u b) → f c s ≡ f c u

-- states with given leaves where each cell's output is the cell's function
pub record HasStates {X : Type 0} (flat : Flat) (f : FlatCell → (ℕ → X) → X) (leaf : ℕ → X) : Type 0 where
  pub state : ℕ → X
  pub leaves : (b : ℕ) → (IsCellBit flat b → ⊥) → state b ≡ leaf b
  pub cells : (c : FlatCell) → Contains flat.cells c → state c.output ≡ f c state

pub states_exist : {X : Type 0} (flat : Flat) (rank : ℕ → ℕ) (f : FlatCell → (ℕ → X) → X) (leaf : ℕ → X) → IsRanked flat rank
    → HasOneDriver flat → ReadsWires f → HasStates flat f leaf
states_exist {X} flat rank f leaf ranked driven reads = record { state = state; leaves = leaves; cells = cells }
  where
    at : ℕ → ℕ → X
    at = solve f leaf flat.cells

    once : HasNoRepeat (outputs flat.cells)
    once =
        (apart_parts (input_bits flat) (outputs flat.cells) (apart_parts (input_bits flat ++ outputs flat.cells) (map (λ (x : FlatFlop). x.output) flat.flops) driven.once).left).right

    stable : (n m b : ℕ) → rank b < n → rank b < m → at n b ≡ at m b
    stable zero m b below other = absurd (omega arith)
    stable (suc n) zero b below other = absurd (omega arith)
    stable (suc n) (suc m) b below other = go (driver_of flat.cells b) refl (λ a. stable n m a)
      where
        go : (o : Option FlatCell) → driver_of flat.cells b ≡ o → ((a : ℕ) → rank a < n → rank a < m → at n a ≡ at m a)
            → from_driver f (leaf b) (at n) o ≡ from_driver f (leaf b) (at m) o
        go None e lower = refl
        go (Some c) e lower =
            let d : IsDriver flat.cells b c = driver_of-sound flat.cells b c e in
            let r : rank c.output ≡ rank b = ap rank d.drives in
            reads.reads c (at n) (at m) (λ a h. let l = ranked.cells c d.listed a h in lower a (omega arith) (omega arith))

    state : ℕ → X
    state b = at (suc (rank b)) b

    leaves : (b : ℕ) → (IsCellBit flat b → ⊥) → state b ≡ leaf b
    leaves b none = go (driver_of flat.cells b) refl
      where
        go : (o : Option FlatCell) → driver_of flat.cells b ≡ o → from_driver f (leaf b) (at (rank b)) o ≡ leaf b
        go None e = refl
        go (Some c) e =
            let d = driver_of-sound flat.cells b c e in absurd (none (any_from_member (λ (x : FlatCell). x.output ≡ b) flat.cells c d.listed d.drives))

    cells : (c : FlatCell) → Contains flat.cells c → state c.output ≡ f c state
    cells c listed =
        ap (from_driver f (leaf c.output) (at (rank c.output))) (driver_of-listed flat.cells once c listed)
        ∙ reads.reads c (at (rank c.output)) state (λ a h. let l = ranked.cells c listed a h in stable (rank c.output) (suc (rank a)) a (omega arith) (omega arith))
