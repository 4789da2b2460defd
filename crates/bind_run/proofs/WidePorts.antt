-- The ports of a widened netlist: those of the netlist and those of words, whose bits come behind all others.
use Rattle.std.proofs.Common.{◌≡◌, ℕ, ◌+◌, ◌*◌, ◌<◌, ◌≤◌, ◌⊎◌, inl, inr, Bool, true, false, cond, List, [], ◌∷◌, ◌++◌, map, length, refl, ◌∙◌, ap, subst, arith}
use Rattle.std.specs.Prelude.{Contains, flat_map}
use Rattle.std.specs.Cmp.Lexicographic.{slice_cmp}
use Rattle.std.specs.List.{range_with_len}
use Rattle.std.specs.Ordering.{is_lt, nat_cmp}
use Rattle.coco_base.specs.declared.netlist.FlatPort.{FlatPort}
use Rattle.coco_base.specs.declared.netlist.Wire.{Wire}
use Rattle.coco_base.specs.declared.netlist.Wire.TheVariants.{Bit}
use Rattle.coco_model.specs.Netlist.{IsWireBelow, bits_in}
use Rattle.coco_model.proofs.Basics.{Contains-here, Contains-later, Contains-cases}
use Rattle.model_laws.proofs.Lists.{image_of_map}
use Rattle.bind_run.specs.Widened.{leaf_bits, leaf_port, with_leaves, with_port}
use Rattle.bind_run.proofs.Ranges.{range-append, range_place}
use Rattle.bind_run.proofs.Times.{times, times-append}

-- ---- members

with_member : (p : FlatPort) (ports : List FlatPort) (q : FlatPort) → Contains (with_port p ports) q → (p ≡ q) ⊎ Contains ports q
with_member p [] q h = Contains-cases p q [] h
with_member p (r ∷ ports) q h = go (is_lt (slice_cmp nat_cmp p.name r.name)) h (with_member p ports q)
  where
    behind : (r ≡ q) ⊎ Contains (with_port p ports) q → (Contains (with_port p ports) q → (p ≡ q) ⊎ Contains ports q) → (p ≡ q) ⊎ Contains (r ∷ ports) q
    behind (inl e) rest = inr (subst (Contains (r ∷ ports)) e (Contains-here r ports))
    behind (inr i) rest = later (rest i)
      where
        later : (p ≡ q) ⊎ Contains ports q → (p ≡ q) ⊎ Contains (r ∷ ports) q
        later (inl e) = inl e
        later (inr j) = inr (Contains-later r q ports j)

    go : (t : Bool) → Contains (cond t (p ∷ r ∷ ports) (r ∷ with_port p ports)) q → (Contains (with_port p ports) q → (p ≡ q) ⊎ Contains ports q)
        → (p ≡ q) ⊎ Contains (r ∷ ports) q
    go true i rest = Contains-cases p q (r ∷ ports) i
    go false i rest = behind (Contains-cases r q (with_port p ports) i) rest

-- what holds of the ports of a netlist and of those of words holds of all
pub leaves_all : (P : FlatPort → Type 0) (first : ℕ) (ports : List FlatPort) (addresses : List ℕ) → ((q : FlatPort) → Contains ports q → P q)
    → ((f a : ℕ) → f + 32 ≤ first + 32 * length addresses → P (leaf_port f a)) → (q : FlatPort) → Contains (with_leaves first ports addresses) q → P q
unfolding leaf_bits
leaves_all P first ports [] each leaf q h = each q h
leaves_all P first ports (a ∷ addresses) each leaf q h =
    leaves_all P (first + 32) (with_port (leaf_port first a) ports) addresses
    (λ r i. of r (with_member (leaf_port first a) ports r i)) (λ f b below. leaf f b (omega (arith, below))) q h
  where
    of : (r : FlatPort) → (leaf_port first a ≡ r) ⊎ Contains ports r → P r
    of r (inl e) = subst P e (leaf first a (omega arith))
    of r (inr i) = each r i

-- the wires of a word's port are its 32 bits
pub leaf_below : (bits f a : ℕ) → f + 32 ≤ bits → (w : Wire) → Contains (leaf_port f a).wires w → IsWireBelow bits w
unfolding leaf_bits
leaf_below bits f a few w h =
    let m = image_of_map Bit (range_with_len f 32) w h in
    let r = (range_place f 32 m.source m.listed).1 in
    subst (IsWireBelow bits) m.image (let b : m.source < bits = omega (arith, r, few) in b)

-- ---- how many ports, and how often a bit is an input

with_length : (p : FlatPort) (ports : List FlatPort) → length (with_port p ports) ≡ length ports + 1
with_length p [] = refl
with_length p (r ∷ ports) = go (is_lt (slice_cmp nat_cmp p.name r.name)) (with_length p ports)
  where
    go : (t : Bool) → length (with_port p ports) ≡ length ports + 1 → length (cond t (p ∷ r ∷ ports) (r ∷ with_port p ports)) ≡ length (r ∷ ports) + 1
    go true e = omega arith
    go false e = omega (arith, e)

abbrev pub port_bits : FlatPort → List ℕ
port_bits p = cond p.input (bits_in p.wires) []

with_times : (p : FlatPort) (ports : List FlatPort) (b : ℕ) → times b (flat_map port_bits (with_port p ports)) ≡ times b (port_bits p) + times b (flat_map port_bits ports)
with_times p [] b = times-append b (port_bits p) []
with_times p (r ∷ ports) b = go (is_lt (slice_cmp nat_cmp p.name r.name)) (with_times p ports b)
  where
    go : (t : Bool) → times b (flat_map port_bits (with_port p ports)) ≡ times b (port_bits p) + times b (flat_map port_bits ports)
        → times b (flat_map port_bits (cond t (p ∷ r ∷ ports) (r ∷ with_port p ports))) ≡ times b (port_bits p) + times b (port_bits r ++ flat_map port_bits ports)
    go true e = times-append b (port_bits p) (port_bits r ++ flat_map port_bits ports)
    go false e =
        let x = times-append b (port_bits r) (flat_map port_bits (with_port p ports)) in
        let y = times-append b (port_bits r) (flat_map port_bits ports) in
        omega (arith, e, x, y)

bits_of_range : (ns : List ℕ) → bits_in (map Bit ns) ≡ ns
bits_of_range [] = refl
bits_of_range (n ∷ ns) = ap (λ ms. n ∷ ms) (bits_of_range ns)

leaf_times : (f a b : ℕ) → times b (port_bits (leaf_port f a)) ≡ times b (range_with_len f 32)
unfolding leaf_bits
leaf_times f a b = ap (times b) (bits_of_range (range_with_len f 32))

-- the bits of words are those from the first on
pub leaves_times : (first : ℕ) (ports : List FlatPort) (addresses : List ℕ) (b : ℕ)
    → times b (flat_map port_bits (with_leaves first ports addresses))
    ≡ times b (flat_map port_bits ports) + times b (range_with_len first (32 * length addresses))
unfolding leaf_bits
leaves_times first ports [] b = omega arith
leaves_times first ports (a ∷ addresses) b =
    let h = leaves_times (first + 32) (with_port (leaf_port first a) ports) addresses b in
    let w = with_times (leaf_port first a) ports b in
    let l = leaf_times first a b in
    let n : 32 * length (a ∷ addresses) ≡ 32 + 32 * length addresses = omega arith in
    let r = ap (times b) (ap (range_with_len first) n ∙ range-append first 32 (32 * length addresses))
    ∙ times-append b (range_with_len first 32) (range_with_len (first + 32) (32 * length addresses)) in
    omega (arith, h, w, l, r)
