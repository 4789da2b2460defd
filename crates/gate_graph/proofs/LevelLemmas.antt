-- Levels: each bit has at most one, and a cell's output a greater one than what the cell reads.
use Rattle.std.proofs.Common.{◌≡◌, ◌≢◌, ℕ, zero, suc, ◌+◌, ◌<◌, ◌≤◌, max, ◌⊎◌, inl, inr, List, [], ◌∷◌, ◌++◌, map, length, get_or, take, refl, sym, ◌∙◌, ap, subst, arith}
use Rattle.std.specs.Prelude.{Contains, Option, Some, None, slice_get}
use Rattle.coco_base.specs.declared.netlist.Flat.{Flat}
use Rattle.coco_base.specs.declared.netlist.FlatCell.{FlatCell}
use Rattle.coco_base.specs.declared.netlist.FlatFlop.{FlatFlop}
use Rattle.coco_base.specs.declared.netlist.Wire.{Wire}
use Rattle.coco_base.specs.declared.netlist.Wire.TheVariants.{Const, Bit}
use Rattle.coco_model.specs.Netlist.{wires_of, bits_in, input_bits, HasNoRepeat, HasOneDriver, IsCellBit}
use Rattle.coco_model.proofs.Basics.{Contains-here, Contains-later, Contains-cases, Contains-none, any_from_member}
use Rattle.model_laws.proofs.Lists.{Contains-map, member_of_place}
use Rattle.model_laws.proofs.Apart.{apart_parts}
use Rattle.model_laws.proofs.Solved.{driver_of, driver_of-listed}
use Rattle.gate_graph.specs.Levels.{greatest, HasLevel, AreLevels}
use Rattle.gate_graph.specs.Levels.HasLevel.{leaf, output}
use Rattle.gate_graph.proofs.WiredLemmas.{bit_wire, wire_bit}

pub outputs_once : (flat : Flat) → HasOneDriver flat → HasNoRepeat (map (λ (c : FlatCell). c.output) flat.cells)
outputs_once flat one =
    let outs = map (λ (c : FlatCell). c.output) flat.cells in
    let front = apart_parts (input_bits flat ++ outs) (map (λ (f : FlatFlop). f.output) flat.flops) one.once in
    (apart_parts (input_bits flat) outs front.left).right

-- members of a list without repeats that have one image stand at one place
pub one_place : {X : Type 0} (f : X → ℕ) (xs : List X) (i j : ℕ) (x y : X) → HasNoRepeat (map f xs) → slice_get xs i ≡ Some x → slice_get xs j ≡ Some y
    → f x ≡ f y → i ≡ j
one_place f [] i j x y once at_x at_y e = absurd cc
one_place f (z ∷ xs) zero zero x y once at_x at_y e = refl
one_place f (z ∷ xs) zero (suc j) x y once at_x at_y e =
    absurd (once.0 (subst (Contains (map f xs)) (let p : z ≡ x = cc in sym e ∙ ap f (sym p)) (Contains-map f xs y (member_of_place xs j y at_y))))
one_place f (z ∷ xs) (suc i) zero x y once at_x at_y e =
    absurd (once.0 (subst (Contains (map f xs)) (let p : z ≡ y = cc in e ∙ ap f (sym p)) (Contains-map f xs x (member_of_place xs i x at_x))))
one_place f (z ∷ xs) (suc i) (suc j) x y once at_x at_y e = ap suc (one_place f xs i j x y once.1 at_x at_y e)

pub same_cell : (flat : Flat) → HasOneDriver flat → (i j : ℕ) (c d : FlatCell) → slice_get flat.cells i ≡ Some c → slice_get flat.cells j ≡ Some d
    → c.output ≡ d.output → i ≡ j
same_cell flat one i j c d at_c at_d e = one_place (λ (x : FlatCell). x.output) flat.cells i j c d (outputs_once flat one) at_c at_d e

pub one_cell : (flat : Flat) → HasOneDriver flat → (c d : FlatCell) → Contains flat.cells c → Contains flat.cells d → c.output ≡ d.output → c ≡ d
one_cell flat one c d in_c in_d e =
    let once = outputs_once flat one in
    let f : Some c ≡ Some d = sym (driver_of-listed flat.cells once c in_c) ∙ ap (driver_of flat.cells) e ∙ driver_of-listed flat.cells once d in_d in
    cc

pub cell_bit : (flat : Flat) (c : FlatCell) (b : ℕ) → Contains flat.cells c → c.output ≡ b → IsCellBit flat b
cell_bit flat c b listed e = any_from_member (λ (d : FlatCell). d.output ≡ b) flat.cells c listed e

pub greatest-cong : (f g : ℕ → ℕ) (bs : List ℕ) → ((b : ℕ) → Contains bs b → f b ≡ g b) → greatest f bs ≡ greatest g bs
greatest-cong f g [] same = refl
greatest-cong f g (b ∷ bs) same =
    let head = same b (Contains-here b bs) in
    let tail = greatest-cong f g bs (λ a i. same a (Contains-later b a bs i)) in
    omega arith

greatest-above : (f : ℕ → ℕ) (bs : List ℕ) (b : ℕ) → Contains bs b → f b ≤ greatest f bs
greatest-above f [] b h = absurd (Contains-none b h)
greatest-above f (a ∷ bs) b h = go (Contains-cases a b bs h) (λ i. greatest-above f bs b i)
  where
    go : (a ≡ b) ⊎ Contains bs b → (Contains bs b → f b ≤ greatest f bs) → f b ≤ max (f a) (greatest f bs)
    go (inl e) rest = let s = ap f e in omega arith
    go (inr i) rest = let r = rest i in omega arith

pub greatest-push : (f : ℕ → ℕ) (bs : List ℕ) (b : ℕ) → greatest f (bs ++ b ∷ []) ≡ max (greatest f bs) (f b)
greatest-push f [] b = omega arith
greatest-push f (a ∷ bs) b = let r = greatest-push f bs b in omega arith

pub bits_in-append : (vs ws : List Wire) → bits_in (vs ++ ws) ≡ bits_in vs ++ bits_in ws
bits_in-append [] ws = refl
bits_in-append (Const x ∷ vs) ws = bits_in-append vs ws
bits_in-append (Bit n ∷ vs) ws = ap (λ bs. n ∷ bs) (bits_in-append vs ws)

-- the level of a cell's output, from those of what the cell reads
pub record IsOutputLevel (flat : Flat) (bit n : ℕ) : Type 0 where
  pub cell : FlatCell
  pub listed : Contains flat.cells cell
  pub drives : cell.output ≡ bit
  pub level : ℕ → ℕ
  pub inputs : (b : ℕ) → Contains (wires_of cell) (Bit b) → HasLevel flat b (level b)
  pub is : n ≡ suc (greatest level (bits_in (wires_of cell)))

pub level_cases : (flat : Flat) (bit n : ℕ) → HasLevel flat bit n → ((IsCellBit flat bit → ⊥) × (n ≡ 0)) ⊎ IsOutputLevel flat bit n
level_cases flat bit n (leaf b none) = inl (none, refl)
level_cases flat bit n (output cell level listed inputs) =
    inr (record { cell = cell; listed = listed; drives = refl; level = level; inputs = inputs; is = refl })

-- a bit has at most one level
pub one_level : (flat : Flat) → HasOneDriver flat → (bit m n : ℕ) → HasLevel flat bit m → HasLevel flat bit n → m ≡ n
one_level flat one bit m n (leaf b none) other = go (level_cases flat b n other)
  where
    go : ((IsCellBit flat b → ⊥) × (n ≡ 0)) ⊎ IsOutputLevel flat b n → 0 ≡ n
    go (inl (absent, e)) = sym e
    go (inr o) = absurd (none (cell_bit flat o.cell b o.listed o.drives))
one_level flat one bit m n (output cell level listed inputs) other =
    go (level_cases flat cell.output n other) (λ b i k h. one_level flat one b (level b) k (inputs b i) h)
  where
    bits : List ℕ
    bits = bits_in (wires_of cell)

    go : ((IsCellBit flat cell.output → ⊥) × (n ≡ 0)) ⊎ IsOutputLevel flat cell.output n
        → ((b : ℕ) → Contains (wires_of cell) (Bit b) → (k : ℕ) → HasLevel flat b k → level b ≡ k) → suc (greatest level bits) ≡ n
    go (inl (none, e)) same = absurd (none (cell_bit flat cell cell.output listed refl))
    go (inr o) same =
        let is_cell : o.cell ≡ cell = one_cell flat one o.cell cell o.listed listed o.drives in
        let tail : greatest level bits ≡ greatest o.level bits =
        greatest-cong level o.level bits (λ b i.
        let read = bit_wire (wires_of cell) b i in
        same b read (o.level b) (o.inputs b (subst (λ c. Contains (wires_of c) (Bit b)) (sym is_cell) read))) in
        ap suc tail ∙ ap (λ c. suc (greatest o.level (bits_in (wires_of c)))) (sym is_cell) ∙ sym o.is

-- what a cell reads has a lower level than its output
pub level_above : (flat : Flat) → HasOneDriver flat → (level : ℕ → ℕ) → AreLevels flat level → (c : FlatCell) → Contains flat.cells c
    → (b : ℕ) → Contains (wires_of c) (Bit b) → level b < level c.output
level_above flat one level levels c listed b read = go (level_cases flat c.output (level c.output) (levels c.output))
  where
    go : ((IsCellBit flat c.output → ⊥) × (level c.output ≡ 0)) ⊎ IsOutputLevel flat c.output (level c.output) → level b < level c.output
    go (inl (none, e)) = absurd (none (cell_bit flat c c.output listed refl))
    go (inr o) =
        let is_cell : o.cell ≡ c = one_cell flat one o.cell c o.listed listed o.drives in
        let there : Contains (wires_of o.cell) (Bit b) = subst (λ d. Contains (wires_of d) (Bit b)) (sym is_cell) read in
        let same : level b ≡ o.level b = one_level flat one b (level b) (o.level b) (levels b) (o.inputs b there) in
        let above = greatest-above o.level (bits_in (wires_of o.cell)) b (wire_bit (wires_of o.cell) b there) in
        let is = o.is in
        omega arith
