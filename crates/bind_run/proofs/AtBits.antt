-- What is made of the bits among wires.
use Rattle.std.proofs.Common.{◌≡◌, ℕ, zero, suc, ◌+◌, ◌⊎◌, inl, inr, Bool, true, false, List, [], ◌∷◌, map, length, refl, ◌∙◌, ap, subst, arith}
use Rattle.std.specs.Prelude.{Contains, slice_get, Some, ◌&&◌}
use Rattle.std.specs.List.{list_all}
use Rattle.coco_base.specs.declared.netlist.Flat.{Flat}
use Rattle.coco_base.specs.declared.netlist.Wire.{Wire}
use Rattle.coco_base.specs.declared.netlist.Wire.TheVariants.{Const, Bit}
use Rattle.coco_model.specs.Netlist.{bits_in}
use Rattle.coco_model.proofs.Basics.{Contains-here, Contains-later, Contains-cases, Contains-none}
use Rattle.bind_run.specs.declared.need.Role.{Role}
use Rattle.bind_run.specs.Binding.{drives_wire}
use Rattle.bind_run.specs.Values.{at_bits}

-- what is made of a bit is of the bit
pub bits_at : {X : Type 0} (bit_of : X → ℕ) (make : ℕ → ℕ → X) → ((k b : ℕ) → bit_of (make k b) ≡ b) → (place : ℕ) (ws : List Wire)
    → map bit_of (at_bits make place ws) ≡ bits_in ws
bits_at bit_of make is place [] = refl
bits_at bit_of make is place (Const c ∷ ws) = bits_at bit_of make is (place + 1) ws
bits_at bit_of make is place (Bit b ∷ ws) =
    ap (λ n. n ∷ map bit_of (at_bits make (place + 1) ws)) (is place b) ∙ ap (λ ns. b ∷ ns) (bits_at bit_of make is (place + 1) ws)

-- a place at which a wire is a bit, and what is made of it
pub record IsAt {X : Type 0} (make : ℕ → ℕ → X) (place : ℕ) (ws : List Wire) (x : X) : Type 0 where
  pub at : ℕ
  pub bit : ℕ
  pub wired : slice_get ws at ≡ Some (Bit bit)
  pub is : make (place + at) bit ≡ x

pub at_of : {X : Type 0} (make : ℕ → ℕ → X) (place : ℕ) (ws : List Wire) (x : X) → Contains (at_bits make place ws) x → IsAt make place ws x
at_of make place [] x h = absurd (Contains-none x h)
at_of make place (Const c ∷ ws) x h =
    let r = at_of make (place + 1) ws x h in
    record {
      at = suc r.at;
      bit = r.bit;
      wired = r.wired;
      is = ap (λ n. make n r.bit) (let e : place + suc r.at ≡ place + 1 + r.at = omega arith in e) ∙ r.is;
    }
at_of make place (Bit b ∷ ws) x h = go (Contains-cases (make place b) x (at_bits make (place + 1) ws) h) (at_of make (place + 1) ws x)
  where
    go : (make place b ≡ x) ⊎ Contains (at_bits make (place + 1) ws) x → (Contains (at_bits make (place + 1) ws) x → IsAt make (place + 1) ws x)
        → IsAt make place (Bit b ∷ ws) x
    go (inl e) rest = record {
      at = 0;
      bit = b;
      wired = refl;
      is = ap (λ n. make n b) (let z : place + 0 ≡ place = omega arith in z) ∙ e;
    }
    go (inr i) rest =
        let r = rest i in
        record {
          at = suc r.at;
          bit = r.bit;
          wired = r.wired;
          is = ap (λ n. make n r.bit) (let e : place + suc r.at ≡ place + 1 + r.at = omega arith in e) ∙ r.is;
        }

pub at_member : {X : Type 0} (make : ℕ → ℕ → X) (place : ℕ) (ws : List Wire) (at b : ℕ) → slice_get ws at ≡ Some (Bit b)
    → Contains (at_bits make place ws) (make (place + at) b)
at_member make place [] at b e = absurd cc
at_member make place (Const c ∷ ws) zero b e = absurd cc
at_member make place (Const c ∷ ws) (suc at) b e =
    subst (λ n. Contains (at_bits make (place + 1) ws) (make n b)) (let e : place + 1 + at ≡ place + suc at = omega arith in e)
    (at_member make (place + 1) ws at b e)
at_member make place (Bit n ∷ ws) zero b e =
    let same : n ≡ b = cc in
    subst (λ m. Contains (make place n ∷ at_bits make (place + 1) ws) (make m b)) (let z : place ≡ place + 0 = omega arith in z)
    (subst (λ m. Contains (make place n ∷ at_bits make (place + 1) ws) (make place m)) same (Contains-here (make place n) (at_bits make (place + 1) ws)))
at_member make place (Bit n ∷ ws) (suc at) b e =
    Contains-later (make place n) (make (place + suc at) b) (at_bits make (place + 1) ws)
    (subst (λ m. Contains (at_bits make (place + 1) ws) (make m b)) (let e : place + 1 + at ≡ place + suc at = omega arith in e)
    (at_member make (place + 1) ws at b e))

-- ---- wires that are all driven

both : (a b : Bool) → (a && b) ≡ true → (a ≡ true) × (b ≡ true)
both true b e = (refl, e)
both false b e = absurd cc

pub bits_in-length : (flat : Flat) (r : Role) (ws : List Wire) → list_all (drives_wire flat r) ws ≡ true → length (bits_in ws) ≡ length ws
bits_in-length flat r [] h = refl
bits_in-length flat r (Const c ∷ ws) h = absurd cc
bits_in-length flat r (Bit b ∷ ws) h =
    let rest = bits_in-length flat r ws (both (drives_wire flat r (Bit b)) (list_all (drives_wire flat r) ws) h).1 in omega arith

-- the place of a bit is that of its wire
pub bits_in-place : (flat : Flat) (r : Role) (ws : List Wire) → list_all (drives_wire flat r) ws ≡ true → (k b : ℕ) → slice_get (bits_in ws) k ≡ Some b
    → slice_get ws k ≡ Some (Bit b)
bits_in-place flat r [] h k b e = absurd cc
bits_in-place flat r (Const c ∷ ws) h k b e = absurd cc
bits_in-place flat r (Bit n ∷ ws) h zero b e = let same : n ≡ b = cc in ap (λ m. Some (Bit m)) same
bits_in-place flat r (Bit n ∷ ws) h (suc k) b e =
    bits_in-place flat r ws (both (drives_wire flat r (Bit n)) (list_all (drives_wire flat r) ws) h).1 k b e

-- a bit among wires is a wire
pub bits_in-wire : (ws : List Wire) (b : ℕ) → Contains (bits_in ws) b → Contains ws (Bit b)
bits_in-wire [] b h = absurd (Contains-none b h)
bits_in-wire (Const c ∷ ws) b h = Contains-later (Const c) (Bit b) ws (bits_in-wire ws b h)
bits_in-wire (Bit n ∷ ws) b h = go (Contains-cases n b (bits_in ws) h) (bits_in-wire ws b)
  where
    go : (n ≡ b) ⊎ Contains (bits_in ws) b → (Contains (bits_in ws) b → Contains ws (Bit b)) → Contains (Bit n ∷ ws) (Bit b)
    go (inl e) rest = subst (λ m. Contains (Bit n ∷ ws) (Bit m)) e (Contains-here (Bit n) ws)
    go (inr i) rest = Contains-later (Bit n) (Bit b) ws (rest i)

-- each of driven wires is driven
pub all_driven : (flat : Flat) (r : Role) (ws : List Wire) (w : Wire) → list_all (drives_wire flat r) ws ≡ true → Contains ws w → drives_wire flat r w ≡ true
all_driven flat r [] w h i = absurd (Contains-none w i)
all_driven flat r (v ∷ ws) w h i = go (Contains-cases v w ws i) (all_driven flat r ws w (both (drives_wire flat r v) (list_all (drives_wire flat r) ws) h).1)
  where
    go : (v ≡ w) ⊎ Contains ws w → (Contains ws w → drives_wire flat r w ≡ true) → drives_wire flat r w ≡ true
    go (inl e) rest = subst (λ x. drives_wire flat r x ≡ true) e (both (drives_wire flat r v) (list_all (drives_wire flat r) ws) h).0
    go (inr j) rest = rest j
