-- The leaves of a row after the writes of a cycle.
use Rattle.std.proofs.Common.{◌≡◌, ℕ, zero, suc, ◌+◌, ◌⊎◌, inl, inr, List, [], ◌∷◌, ◌++◌, map, refl, sym, ◌∙◌, ap, subst, arith}
use Rattle.std.specs.Prelude.{Contains, slice_get, Option, Some, None, option_to_list, flat_map}
use Rattle.std.proofs.lemmas.List.Elements.{Contains-append_cases, Contains-append_left, Contains-append_right}
use Rattle.coco_base.specs.declared.unrolled.Node.{Node}
use Rattle.coco_base.specs.declared.unrolled.Node.TheVariants.{Nothing}
use Rattle.coco_base.specs.declared.netlist.Flat.{Flat}
use Rattle.coco_base.specs.declared.netlist.FlatCell.{FlatCell}
use Rattle.coco_base.specs.declared.netlist.FlatFlop.{FlatFlop}
use Rattle.coco_base.specs.declared.setup.InputPlan.{InputPlan}
use Rattle.coco_base.specs.declared.setup.EchoPlan.{EchoPlan}
use Rattle.coco_base.specs.declared.setup.MemPlan.{MemPlan}
use Rattle.coco_base.specs.declared.setup.LeafPlan.{LeafPlan}
use Rattle.coco_base.specs.declared.setup.Setup.{Setup}
use Rattle.unroll.specs.NodeRows.{NodeRow}
use Rattle.coco_model.specs.Netlist.{HasOneDriver, HasNoRepeat, IsUndriven, IsInputBit, IsCellBit, input_bits}
use Rattle.coco_model.specs.Carried.{IsBound, bound_bits}
use Rattle.coco_model.proofs.Basics.{Contains-here, Contains-later, any_from_member}
use Rattle.model_laws.proofs.Lists.{IsImage, image_of_map, Contains-map, Contains-flat_map}
use Rattle.model_laws.proofs.Apart.{AreApart, apart_parts, no_repeat-append}
use Rattle.model_laws.proofs.Sources.{Sources, HasSources, input_no_cell, flop_no_cell}
use Rattle.unroll.specs.NodeWrites.{Write, after_writes, bit_writes}
use Rattle.cycle_sim.proofs.OrderLemmas.{member_moved, no_repeat_moved}
use Rattle.unroll.proofs.WriteLemmas.{bits_of, after-none, after-listed}

-- the writes of a cycle, by what they are of; that of the clock writes 0
pub record Parts : Type 0 where
  pub clock : List Write
  pub echoes : List Write
  pub answers : List Write
  pub inputs : List Write
  pub leaves : List Write
  pub flops : List Write

abbrev pub write_zero : ℕ → Write
write_zero b = record { bit = b; node = Nothing }

abbrev pub write_input : Sources Node → InputPlan → Write
write_input s p = record { bit = p.bit; node = s.input p }

abbrev pub write_echo : Sources Node → EchoPlan → Write
write_echo s e = record { bit = e.bit; node = s.echo e }

abbrev pub write_flop : Sources Node → FlatFlop → Write
write_flop s f = record { bit = f.output; node = s.flop f }

abbrev pub answer_writes : Sources Node → MemPlan → List Write
answer_writes s mem = bit_writes (s.answer mem) 0 mem.answer

abbrev pub word_writes : Sources Node → LeafPlan → List Write
word_writes s leaf = bit_writes (s.leaf leaf) 0 leaf.bits

abbrev pub parts_of : Flat → Setup → Sources Node → Parts
parts_of flat setup s = record {
  clock = map write_zero (option_to_list setup.clock);
  echoes = map (write_echo s) setup.echoes;
  answers = flat_map (answer_writes s) setup.memories;
  inputs = map (write_input s) setup.inputs;
  leaves = flat_map (word_writes s) setup.leaves;
  flops = map (write_flop s) flat.flops;
}

abbrev pub joined : Parts → List Write
joined p = p.clock ++ p.echoes ++ p.answers ++ p.inputs ++ p.leaves ++ p.flops

bits-append : (ws vs : List Write) → bits_of (ws ++ vs) ≡ bits_of ws ++ bits_of vs
bits-append [] vs = refl
bits-append (w ∷ ws) vs = ap (λ rest. w.bit ∷ rest) (bits-append ws vs)

bits-map : {A : Type 0} (f : A → Write) (g : A → ℕ) → ((x : A) → (f x).bit ≡ g x) → (xs : List A) → bits_of (map f xs) ≡ map g xs
bits-map f g same [] = refl
bits-map f g same (x ∷ xs) =
    let head : (f x).bit ≡ g x = same x in let tail : bits_of (map f xs) ≡ map g xs = bits-map f g same xs in cc

bits-flat_map : {A : Type 0} (f : A → List Write) (g : A → List ℕ) → ((x : A) → bits_of (f x) ≡ g x) → (xs : List A)
    → bits_of (flat_map f xs) ≡ flat_map g xs
bits-flat_map f g same [] = refl
bits-flat_map f g same (x ∷ xs) =
    bits-append (f x) (flat_map f xs) ∙ ap (λ bs. bs ++ bits_of (flat_map f xs)) (same x)
    ∙ ap (λ bs. g x ++ bs) (bits-flat_map f g same xs)

bits-bit_writes : (f : ℕ → ℕ → Node) (k : ℕ) (bs : List ℕ) → bits_of (bit_writes f k bs) ≡ bs
bits-bit_writes f k [] = refl
bits-bit_writes f k (b ∷ bs) = ap (λ rest. b ∷ rest) (bits-bit_writes f (suc k) bs)

bits-zero : (bs : List ℕ) → bits_of (map write_zero bs) ≡ bs
bits-zero [] = refl
bits-zero (b ∷ bs) = ap (λ rest. b ∷ rest) (bits-zero bs)

bit_listed : (f : ℕ → ℕ → Node) (j : ℕ) (bs : List ℕ) (k b : ℕ) → slice_get bs k ≡ Some b
    → Contains (bit_writes f j bs) (record { bit = b; node = f (j + k) b })
bit_listed f j [] k b e = absurd cc
bit_listed f j (a ∷ bs) zero b e =
    let same : a ≡ b = cc in let z : j ≡ j + 0 = omega arith in
    subst (Contains (bit_writes f j (a ∷ bs)))
    (ap (λ x. record { bit = x; node = f j x }) same ∙ ap (λ i. record { bit = b; node = f i b }) z)
    (Contains-here (record { bit = a; node = f j a }) (bit_writes f (suc j) bs))
bit_listed f j (a ∷ bs) (suc k) b e =
    let z : suc j + k ≡ j + suc k = omega arith in
    Contains-later (record { bit = a; node = f j a }) (record { bit = b; node = f (j + suc k) b }) (bit_writes f (suc j) bs)
    (subst (λ i. Contains (bit_writes f (suc j) bs) (record { bit = b; node = f i b })) z (bit_listed f (suc j) bs k b e))

from_zero : (f : ℕ → ℕ → Node) (bs : List ℕ) (k b : ℕ) → slice_get bs k ≡ Some b → Contains (bit_writes f 0 bs) (record { bit = b; node = f k b })
from_zero f bs k b at =
    let z : 0 + k ≡ k = omega arith in
    subst (λ i. Contains (bit_writes f 0 bs) (record { bit = b; node = f i b })) z (bit_listed f 0 bs k b at)

abbrev clocks : Setup → List ℕ
clocks setup = option_to_list setup.clock

abbrev echo_bits : Setup → List ℕ
echo_bits setup = map (λ (e : EchoPlan). e.bit) setup.echoes

abbrev answer_bits : Setup → List ℕ
answer_bits setup = flat_map (λ (mem : MemPlan). mem.answer) setup.memories

abbrev plan_bits : Setup → List ℕ
plan_bits setup = map (λ (p : InputPlan). p.bit) setup.inputs

abbrev leaf_bits : Setup → List ℕ
leaf_bits setup = flat_map (λ (leaf : LeafPlan). leaf.bits) setup.leaves

abbrev flop_bits : Flat → List ℕ
flop_bits flat = map (λ (f : FlatFlop). f.output) flat.flops

abbrev written_bits : Setup → List ℕ
written_bits setup = clocks setup ++ echo_bits setup ++ answer_bits setup ++ plan_bits setup ++ leaf_bits setup

-- the writes of input port bits
abbrev pub port_writes : Parts → List Write
port_writes p = p.clock ++ p.echoes ++ p.answers ++ p.inputs ++ p.leaves

port_bits : (flat : Flat) (setup : Setup) (s : Sources Node) → bits_of (port_writes (parts_of flat setup s)) ≡ written_bits setup
port_bits flat setup s =
    bits-append (p.clock ++ p.echoes ++ p.answers ++ p.inputs) p.leaves
    ∙ ap (λ bs. bs ++ bits_of p.leaves) (bits-append (p.clock ++ p.echoes ++ p.answers) p.inputs)
    ∙ ap (λ bs. bs ++ bits_of p.inputs ++ bits_of p.leaves) (bits-append (p.clock ++ p.echoes) p.answers)
    ∙ ap (λ bs. bs ++ bits_of p.answers ++ bits_of p.inputs ++ bits_of p.leaves) (bits-append p.clock p.echoes)
    ∙ same
  where
    p : Parts
    p = parts_of flat setup s

    clock : bits_of p.clock ≡ clocks setup
    clock = bits-zero (clocks setup)

    echoes : bits_of p.echoes ≡ echo_bits setup
    echoes = bits-map (write_echo s) (λ (e : EchoPlan). e.bit) (λ x. refl) setup.echoes

    answers : bits_of p.answers ≡ answer_bits setup
    answers = bits-flat_map (answer_writes s) (λ (mem : MemPlan). mem.answer) (λ mem. bits-bit_writes (s.answer mem) 0 mem.answer) setup.memories

    inputs : bits_of p.inputs ≡ plan_bits setup
    inputs = bits-map (write_input s) (λ (x : InputPlan). x.bit) (λ x. refl) setup.inputs

    leaves : bits_of p.leaves ≡ leaf_bits setup
    leaves = bits-flat_map (word_writes s) (λ (leaf : LeafPlan). leaf.bits) (λ leaf. bits-bit_writes (s.leaf leaf) 0 leaf.bits) setup.leaves

    same : bits_of p.clock ++ bits_of p.echoes ++ bits_of p.answers ++ bits_of p.inputs ++ bits_of p.leaves ≡ written_bits setup
    same = let a = clock in let b = echoes in let c = answers in let d = inputs in let e = leaves in cc

joined_bits : (flat : Flat) (setup : Setup) (s : Sources Node) → bits_of (joined (parts_of flat setup s)) ≡ written_bits setup ++ flop_bits flat
joined_bits flat setup s =
    bits-append (port_writes (parts_of flat setup s)) (map (write_flop s) flat.flops)
    ∙ ap (λ bs. bs ++ bits_of (map (write_flop s) flat.flops)) (port_bits flat setup s)
    ∙ ap (λ bs. written_bits setup ++ bs) (bits-map (write_flop s) (λ (f : FlatFlop). f.output) (λ x. refl) flat.flops)

abbrev cell_bits : Flat → List ℕ
cell_bits flat = map (λ (c : FlatCell). c.output) flat.cells

-- input port bits and flops' outputs are apart
flops_apart : (flat : Flat) → HasOneDriver flat → AreApart (input_bits flat ++ cell_bits flat) (flop_bits flat)
flops_apart flat driven = apart_parts (input_bits flat ++ cell_bits flat) (flop_bits flat) driven.once

in_bound : (setup : Setup) (b : ℕ) → Contains (written_bits setup) b → Contains (bound_bits setup) b
in_bound setup b h = member_moved (clocks setup) (plan_bits setup) (echo_bits setup) (answer_bits setup) (leaf_bits setup) b h

joined_once : (flat : Flat) (setup : Setup) (s : Sources Node) → IsBound flat setup → HasOneDriver flat
    → HasNoRepeat (bits_of (joined (parts_of flat setup s)))
joined_once flat setup s bound driven =
    subst HasNoRepeat (sym (joined_bits flat setup s)) (no_repeat-append (written_bits setup) (flop_bits flat) (record {
      left = no_repeat_moved (clocks setup) (plan_bits setup) (echo_bits setup) (answer_bits setup) (leaf_bits setup) bound.once;
      right = (flops_apart flat driven).right;
      apart = λ b h i. (flops_apart flat driven).apart b (Contains-append_left (input_bits flat) (cell_bits flat) b (bound.only b (in_bound setup b h))) i;
    }))

in_option : (o : Option ℕ) (b : ℕ) → o ≡ Some b → Contains (option_to_list o) b
in_option None b e = absurd cc
in_option (Some x) b e = subst (Contains (x ∷ [])) (let f : x ≡ b = cc in f) (Contains-here x [])

-- the bit of a port's write is an input port bit
port_input : (flat : Flat) (setup : Setup) (s : Sources Node) → IsBound flat setup → (w : Write) → Contains (port_writes (parts_of flat setup s)) w
    → IsInputBit flat w.bit
port_input flat setup s bound w h =
    bound.only w.bit (in_bound setup w.bit (subst (λ bs. Contains bs w.bit) (port_bits flat setup s)
    (Contains-map (λ (v : Write). v.bit) (port_writes (parts_of flat setup s)) w h)))

-- a row that has at leaves what was written has what the sources say
pub sources_hold : (flat : Flat) (setup : Setup) (s : Sources Node) → s.still ≡ Nothing → IsBound flat setup → HasOneDriver flat
    → (blank row : NodeRow) → ((b : ℕ) → blank b ≡ Nothing)
    → ((b : ℕ) → (IsCellBit flat b → ⊥) → row b ≡ after_writes (joined (parts_of flat setup s)) blank b) → HasSources flat setup s row
sources_hold flat setup s still bound driven blank row zeros stand = record {
  undriven = λ b u. stand b u.no_cell
      ∙ after-none (joined p) blank b (λ h. no_bit b u (subst (λ bs. Contains bs b) (joined_bits flat setup s) h)) ∙ zeros b ∙ sym still;
  clock = λ b e. port (write_zero b)
      (first (write_zero b) (Contains-map write_zero (clocks setup) b (in_option setup.clock b e))) ∙ sym still;
  inputs = λ q h. port (write_input s q)
      (Contains-append_left (p.clock ++ p.echoes ++ p.answers ++ p.inputs) p.leaves _ (Contains-append_right (p.clock ++ p.echoes ++ p.answers) p.inputs _ (Contains-map (write_input s) setup.inputs q h)));
  echoes = λ e h. port (write_echo s e)
      (early _ (Contains-append_left (p.clock ++ p.echoes) p.answers _ (Contains-append_right p.clock p.echoes _ (Contains-map (write_echo s) setup.echoes e h))));
  answers = λ mem h k b at. port (record { bit = b; node = s.answer mem k b })
      (early _ (Contains-append_right (p.clock ++ p.echoes) p.answers _
      (Contains-flat_map (answer_writes s) setup.memories mem _ h (from_zero (s.answer mem) mem.answer k b at))));
  leaves = λ leaf h k b at. port (record { bit = b; node = s.leaf leaf k b })
      (Contains-append_right (p.clock ++ p.echoes ++ p.answers ++ p.inputs) p.leaves _
      (Contains-flat_map (word_writes s) setup.leaves leaf _ h (from_zero (s.leaf leaf) leaf.bits k b at)));
  flops = λ f h. stand f.output (flop_no_cell flat driven f h)
      ∙ after-listed (joined p) blank once (write_flop s f)
      (Contains-append_right (port_writes p) p.flops (write_flop s f) (Contains-map (write_flop s) flat.flops f h));
}
  where
    p : Parts
    p = parts_of flat setup s

    once : HasNoRepeat (bits_of (joined p))
    once = joined_once flat setup s bound driven

    port : (w : Write) → Contains (port_writes p) w → row w.bit ≡ w.node
    port w h =
        stand w.bit (input_no_cell flat driven w.bit (port_input flat setup s bound w h))
        ∙ after-listed (joined p) blank once w (Contains-append_left (port_writes p) p.flops w h)

    early : (w : Write) → Contains (p.clock ++ p.echoes ++ p.answers) w → Contains (port_writes p) w
    early w h = Contains-append_left (p.clock ++ p.echoes ++ p.answers ++ p.inputs) p.leaves w (Contains-append_left (p.clock ++ p.echoes ++ p.answers) p.inputs w h)

    first : (w : Write) → Contains p.clock w → Contains (port_writes p) w
    first w h = early w (Contains-append_left (p.clock ++ p.echoes) p.answers w (Contains-append_left p.clock p.echoes w h))

    no_bit : (b : ℕ) → IsUndriven flat b → Contains (written_bits setup ++ flop_bits flat) b → ⊥
    no_bit b u h = go (Contains-append_cases (written_bits setup) (flop_bits flat) b h)
      where
        go : Contains (written_bits setup) b ⊎ Contains (flop_bits flat) b → ⊥
        go (inl i) = u.no_input (bound.only b (in_bound setup b i))
        go (inr j) =
            let f : IsImage (λ (g : FlatFlop). g.output) flat.flops b = image_of_map (λ (g : FlatFlop). g.output) flat.flops b j in
            u.no_flop (any_from_member (λ (g : FlatFlop). g.output ≡ b) flat.flops f.source f.listed f.image)
