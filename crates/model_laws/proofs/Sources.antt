-- States of the leaves, by what gives each leaf its state.
use Rattle.std.proofs.Common.{◌≡◌, ℕ, zero, suc, ◌+◌, ◌⊎◌, inl, inr, List, [], ◌∷◌, ◌++◌, map, refl, sym, ◌∙◌, ap, subst, arith}
use Rattle.std.specs.Prelude.{Contains, slice_get, Option, Some, None, option_to_list, flat_map}
use Rattle.std.proofs.lemmas.List.Elements.{Contains-append_cases, Contains-append_left, Contains-append_right}
use Rattle.coco_base.specs.declared.netlist.Flat.{Flat}
use Rattle.coco_base.specs.declared.netlist.FlatCell.{FlatCell}
use Rattle.coco_base.specs.declared.netlist.FlatFlop.{FlatFlop}
use Rattle.coco_base.specs.declared.setup.InputPlan.{InputPlan}
use Rattle.coco_base.specs.declared.setup.EchoPlan.{EchoPlan}
use Rattle.coco_base.specs.declared.setup.MemPlan.{MemPlan}
use Rattle.coco_base.specs.declared.setup.LeafPlan.{LeafPlan}
use Rattle.coco_base.specs.declared.setup.Setup.{Setup}
use Rattle.coco_model.specs.Netlist.{HasOneDriver, HasNoRepeat, IsUndriven, IsInputBit, IsCellBit, input_bits}
use Rattle.coco_model.specs.Carried.{IsBound, bound_bits}
use Rattle.coco_model.proofs.Basics.{Contains-here, Contains-later, some_from_any, any_from_member}
use Rattle.model_laws.proofs.Lists.{Contains-map, image_of_map, Contains-flat_map, member_of_place}
use Rattle.model_laws.proofs.Apart.{AreApart, apart_parts, no_repeat-append, Entry, look, bits_of, bits_of-append, bits_of-map, bits_of-flat_map, look-listed, look-none}

-- the states that the plans of a setup and the flops give
pub record Sources (X : Type 0) : Type 0 where
  pub still : X
  pub input : InputPlan → X
  pub echo : EchoPlan → X
  pub answer : MemPlan → ℕ → ℕ → X
  pub leaf : LeafPlan → ℕ → ℕ → X
  pub flop : FlatFlop → X

-- states of leaves are as the sources say
pub record HasSources {X : Type 0} (flat : Flat) (setup : Setup) (sources : Sources X) (state : ℕ → X) : Type 0 where
  pub undriven : (b : ℕ) → IsUndriven flat b → state b ≡ sources.still
  pub clock : (b : ℕ) → setup.clock ≡ Some b → state b ≡ sources.still
  pub inputs : (p : InputPlan) → Contains setup.inputs p → state p.bit ≡ sources.input p
  pub echoes : (e : EchoPlan) → Contains setup.echoes e → state e.bit ≡ sources.echo e
  pub answers : (mem : MemPlan) → Contains setup.memories mem → (k b : ℕ) → slice_get mem.answer k ≡ Some b
      → state b ≡ sources.answer mem k b
  pub leaves : (leaf : LeafPlan) → Contains setup.leaves leaf → (k b : ℕ) → slice_get leaf.bits k ≡ Some b
      → state b ≡ sources.leaf leaf k b
  pub flops : (f : FlatFlop) → Contains flat.flops f → state f.output ≡ sources.flop f

abbrev answer_entries : {X : Type 0} → (ℕ → ℕ → X) → ℕ → List ℕ → List (Entry X)
answer_entries f k [] = []
answer_entries f k (b ∷ bs) = record { bit = b; state = f k b } ∷ answer_entries f (suc k) bs

answer_bits : {X : Type 0} (f : ℕ → ℕ → X) (k : ℕ) (bs : List ℕ) → bits_of (answer_entries f k bs) ≡ bs
answer_bits f k [] = refl
answer_bits f k (b ∷ bs) = ap (λ rest. b ∷ rest) (answer_bits f (suc k) bs)

answer_listed : {X : Type 0} (f : ℕ → ℕ → X) (j : ℕ) (bs : List ℕ) (k b : ℕ) → slice_get bs k ≡ Some b
    → Contains (answer_entries f j bs) (record { bit = b; state = f (j + k) b })
answer_listed f j [] k b e = absurd cc
answer_listed f j (a ∷ bs) zero b e =
    let same : a ≡ b = cc in let z : j ≡ j + 0 = omega arith in
    subst (Contains (answer_entries f j (a ∷ bs)))
    (ap (λ x. record { bit = x; state = f j x }) same ∙ ap (λ i. record { bit = b; state = f i b }) z)
    (Contains-here (record { bit = a; state = f j a }) (answer_entries f (suc j) bs))
answer_listed f j (a ∷ bs) (suc k) b e =
    let z : suc j + k ≡ j + suc k = omega arith in
    Contains-later (record { bit = a; state = f j a }) (record { bit = b; state = f (j + suc k) b }) (answer_entries f (suc j) bs)
    (subst (λ i. Contains (answer_entries f (suc j) bs) (record { bit = b; state = f i b })) z (answer_listed f (suc j) bs k b e))

-- where a list is joined from six, the bits of its members
pub record Parts (X : Type 0) : Type 0 where
  pub clock : List (Entry X)
  pub inputs : List (Entry X)
  pub echoes : List (Entry X)
  pub answers : List (Entry X)
  pub leaves : List (Entry X)
  pub flops : List (Entry X)

abbrev parts_of : {X : Type 0} → Flat → Setup → Sources X → Parts X
parts_of flat setup s = record {
  clock = map (λ (b : ℕ). record { bit = b; state = s.still }) (option_to_list setup.clock);
  inputs = map (λ (p : InputPlan). record { bit = p.bit; state = s.input p }) setup.inputs;
  echoes = map (λ (e : EchoPlan). record { bit = e.bit; state = s.echo e }) setup.echoes;
  answers = flat_map (λ (mem : MemPlan). answer_entries (s.answer mem) 0 mem.answer) setup.memories;
  leaves = flat_map (λ (leaf : LeafPlan). answer_entries (s.leaf leaf) 0 leaf.bits) setup.leaves;
  flops = map (λ (f : FlatFlop). record { bit = f.output; state = s.flop f }) flat.flops;
}

abbrev joined : {X : Type 0} → Parts X → List (Entry X)
joined p = p.clock ++ p.inputs ++ p.echoes ++ p.answers ++ p.leaves ++ p.flops

pub leaf_state : {X : Type 0} → Flat → Setup → Sources X → ℕ → X
leaf_state flat setup s b = look s.still (joined (parts_of flat setup s)) b

abbrev flop_outputs : Flat → List ℕ
flop_outputs flat = map (λ (f : FlatFlop). f.output) flat.flops

abbrev cell_outputs : Flat → List ℕ
cell_outputs flat = map (λ (c : FlatCell). c.output) flat.cells

clock_bits : {X : Type 0} (x : X) (bs : List ℕ) → bits_of (map (λ (b : ℕ). record { bit = b; state = x }) bs) ≡ bs
clock_bits x [] = refl
clock_bits x (b ∷ bs) = ap (λ rest. b ∷ rest) (clock_bits x bs)

joined_bits : {X : Type 0} (flat : Flat) (setup : Setup) (s : Sources X)
    → bits_of (joined (parts_of flat setup s)) ≡ bound_bits setup ++ flop_outputs flat
joined_bits {X} flat setup s =
    bits_of-append (p.clock ++ p.inputs ++ p.echoes ++ p.answers ++ p.leaves) p.flops
    ∙ ap (λ bs. bs ++ bits_of p.flops) (bits_of-append (p.clock ++ p.inputs ++ p.echoes ++ p.answers) p.leaves)
    ∙ ap (λ bs. bs ++ bits_of p.leaves ++ bits_of p.flops) (bits_of-append (p.clock ++ p.inputs ++ p.echoes) p.answers)
    ∙ ap (λ bs. bs ++ bits_of p.answers ++ bits_of p.leaves ++ bits_of p.flops) (bits_of-append (p.clock ++ p.inputs) p.echoes)
    ∙ ap (λ bs. bs ++ bits_of p.echoes ++ bits_of p.answers ++ bits_of p.leaves ++ bits_of p.flops) (bits_of-append p.clock p.inputs)
    ∙ same
  where
    p : Parts X
    p = parts_of flat setup s

    clock : bits_of p.clock ≡ option_to_list setup.clock
    clock = clock_bits s.still (option_to_list setup.clock)

    inputs : bits_of p.inputs ≡ map (λ (x : InputPlan). x.bit) setup.inputs
    inputs = bits_of-map (λ (x : InputPlan). record { bit = x.bit; state = s.input x }) (λ (x : InputPlan). x.bit) (λ x. refl) setup.inputs

    echoes : bits_of p.echoes ≡ map (λ (x : EchoPlan). x.bit) setup.echoes
    echoes = bits_of-map (λ (x : EchoPlan). record { bit = x.bit; state = s.echo x }) (λ (x : EchoPlan). x.bit) (λ x. refl) setup.echoes

    answers : bits_of p.answers ≡ flat_map (λ (mem : MemPlan). mem.answer) setup.memories
    answers =
        bits_of-flat_map (λ (mem : MemPlan). answer_entries (s.answer mem) 0 mem.answer) (λ (mem : MemPlan). mem.answer)
        (λ mem. answer_bits (s.answer mem) 0 mem.answer) setup.memories

    leaves : bits_of p.leaves ≡ flat_map (λ (leaf : LeafPlan). leaf.bits) setup.leaves
    leaves =
        bits_of-flat_map (λ (leaf : LeafPlan). answer_entries (s.leaf leaf) 0 leaf.bits) (λ (leaf : LeafPlan). leaf.bits)
        (λ leaf. answer_bits (s.leaf leaf) 0 leaf.bits) setup.leaves

    flops : bits_of p.flops ≡ flop_outputs flat
    flops = bits_of-map (λ (f : FlatFlop). record { bit = f.output; state = s.flop f }) (λ (f : FlatFlop). f.output) (λ x. refl) flat.flops

    same : bits_of p.clock ++ bits_of p.inputs ++ bits_of p.echoes ++ bits_of p.answers ++ bits_of p.leaves ++ bits_of p.flops
        ≡ bound_bits setup ++ flop_outputs flat
    same = let a = clock in let b = inputs in let c = echoes in let d = answers in let e = leaves in let f = flops in cc

driven_apart : (flat : Flat) → HasOneDriver flat → AreApart (input_bits flat ++ cell_outputs flat) (flop_outputs flat)
driven_apart flat driven = apart_parts (input_bits flat ++ cell_outputs flat) (flop_outputs flat) driven.once

cell_output : (flat : Flat) (b : ℕ) → IsCellBit flat b → Contains (cell_outputs flat) b
cell_output flat b h = let s = some_from_any (λ (c : FlatCell). c.output ≡ b) flat.cells h in
    subst (Contains (cell_outputs flat)) s.holds (Contains-map (λ (c : FlatCell). c.output) flat.cells s.member s.listed)

pub input_no_cell : (flat : Flat) → HasOneDriver flat → (b : ℕ) → IsInputBit flat b → IsCellBit flat b → ⊥
input_no_cell flat driven b input cell =
    (apart_parts (input_bits flat) (cell_outputs flat) (driven_apart flat driven).left).apart b input (cell_output flat b cell)

pub flop_no_cell : (flat : Flat) → HasOneDriver flat → (f : FlatFlop) → Contains flat.flops f → IsCellBit flat f.output → ⊥
flop_no_cell flat driven f listed cell =
    (driven_apart flat driven).apart f.output (Contains-append_right (input_bits flat) (cell_outputs flat) f.output (cell_output flat f.output cell))
    (Contains-map (λ (g : FlatFlop). g.output) flat.flops f listed)

joined_once : {X : Type 0} (flat : Flat) (setup : Setup) (s : Sources X) → IsBound flat setup → HasOneDriver flat
    → HasNoRepeat (bits_of (joined (parts_of flat setup s)))
joined_once flat setup s bound driven =
    subst HasNoRepeat (sym (joined_bits flat setup s)) (no_repeat-append (bound_bits setup) (flop_outputs flat) (record {
      left = bound.once;
      right = (driven_apart flat driven).right;
      apart = λ b h i. (driven_apart flat driven).apart b (Contains-append_left (input_bits flat) (cell_outputs flat) b (bound.only b h)) i;
    }))

pub leaf_states : {X : Type 0} (flat : Flat) (setup : Setup) (s : Sources X) → IsBound flat setup → HasOneDriver flat → (state : ℕ → X)
    → ((b : ℕ) → (IsCellBit flat b → ⊥) → state b ≡ leaf_state flat setup s b) → HasSources flat setup s state
unfolding leaf_state
leaf_states {X} flat setup s bound driven state stand = record {
  undriven =
      λ b u. stand b u.no_cell
      ∙ look-none s.still (joined p) b (λ h. no_bit b u (subst (λ bs. Contains bs b) (joined_bits flat setup s) h));
  clock = λ b e. at_input b s.still (bound.only b (in_clock b e)) (first b (in_first b e));
  inputs = λ q h. at_input q.bit (s.input q) (bound.only q.bit (in_inputs q h))
      (second (record { bit = q.bit; state = s.input q }) (Contains-map (λ (x : InputPlan). record { bit = x.bit; state = s.input x }) setup.inputs q h));
  echoes = λ e h. at_input e.bit (s.echo e) (bound.only e.bit (in_echoes e h))
      (third (record { bit = e.bit; state = s.echo e }) (Contains-map (λ (x : EchoPlan). record { bit = x.bit; state = s.echo x }) setup.echoes e h));
  answers = λ mem h k b at. at_input b (s.answer mem k b) (bound.only b (in_answers mem h k b at))
      (fourth (record { bit = b; state = s.answer mem k b })
      (Contains-flat_map (λ (m : MemPlan). answer_entries (s.answer m) 0 m.answer) setup.memories mem (record { bit = b; state = s.answer mem k b }) h
      (let z : 0 + k ≡ k = omega arith in subst (λ i. Contains (answer_entries (s.answer mem) 0 mem.answer) (record { bit = b; state = s.answer mem i b })) z
      (answer_listed (s.answer mem) 0 mem.answer k b at))));
  leaves = λ leaf h k b at. at_input b (s.leaf leaf k b) (bound.only b (in_leaves leaf h k b at))
      (fifth (record { bit = b; state = s.leaf leaf k b })
      (Contains-flat_map (λ (l : LeafPlan). answer_entries (s.leaf l) 0 l.bits) setup.leaves leaf (record { bit = b; state = s.leaf leaf k b }) h
      (let z : 0 + k ≡ k = omega arith in subst (λ i. Contains (answer_entries (s.leaf leaf) 0 leaf.bits) (record { bit = b; state = s.leaf leaf i b })) z
      (answer_listed (s.leaf leaf) 0 leaf.bits k b at))));
  flops = λ f h. stand f.output (flop_no_cell flat driven f h)
      ∙ look-listed s.still (joined p) once (record { bit = f.output; state = s.flop f })
      (Contains-append_right (p.clock ++ p.inputs ++ p.echoes ++ p.answers ++ p.leaves) p.flops _ (Contains-map (λ (g : FlatFlop). record { bit = g.output; state = s.flop g }) flat.flops f h));
}
  where
    p : Parts X
    p = parts_of flat setup s

    once : HasNoRepeat (bits_of (joined p))
    once = joined_once flat setup s bound driven

    at_input : (b : ℕ) (x : X) → IsInputBit flat b → Contains (joined p) (record { bit = b; state = x }) → state b ≡ x
    at_input b x input h =
        stand b (input_no_cell flat driven b input) ∙ look-listed s.still (joined p) once (record { bit = b; state = x }) h

    fifth : (e : Entry X) → Contains p.leaves e → Contains (joined p) e
    fifth e h =
        Contains-append_left (p.clock ++ p.inputs ++ p.echoes ++ p.answers ++ p.leaves) p.flops e
        (Contains-append_right (p.clock ++ p.inputs ++ p.echoes ++ p.answers) p.leaves e h)

    late : (e : Entry X) → Contains (p.clock ++ p.inputs ++ p.echoes ++ p.answers) e → Contains (joined p) e
    late e h =
        Contains-append_left (p.clock ++ p.inputs ++ p.echoes ++ p.answers ++ p.leaves) p.flops e
        (Contains-append_left (p.clock ++ p.inputs ++ p.echoes ++ p.answers) p.leaves e h)

    fourth : (e : Entry X) → Contains p.answers e → Contains (joined p) e
    fourth e h = late e (Contains-append_right (p.clock ++ p.inputs ++ p.echoes) p.answers e h)

    early : (e : Entry X) → Contains (p.clock ++ p.inputs ++ p.echoes) e → Contains (joined p) e
    early e h = late e (Contains-append_left (p.clock ++ p.inputs ++ p.echoes) p.answers e h)

    third : (e : Entry X) → Contains p.echoes e → Contains (joined p) e
    third e h = early e (Contains-append_right (p.clock ++ p.inputs) p.echoes e h)

    second : (e : Entry X) → Contains p.inputs e → Contains (joined p) e
    second e h = early e (Contains-append_left (p.clock ++ p.inputs) p.echoes e (Contains-append_right p.clock p.inputs e h))

    in_option : (o : Option ℕ) (b : ℕ) → o ≡ Some b → Contains (option_to_list o) b
    in_option None b e = absurd cc
    in_option (Some x) b e = subst (Contains (x ∷ [])) (let f : x ≡ b = cc in f) (Contains-here x [])

    in_first : (b : ℕ) → setup.clock ≡ Some b → Contains p.clock (record { bit = b; state = s.still })
    in_first b e = Contains-map (λ (a : ℕ). record { bit = a; state = s.still }) (option_to_list setup.clock) b (in_option setup.clock b e)

    first : (b : ℕ) → Contains p.clock (record { bit = b; state = s.still }) → Contains (joined p) (record { bit = b; state = s.still })
    first b h = early _ (Contains-append_left (p.clock ++ p.inputs) p.echoes _ (Contains-append_left p.clock p.inputs _ h))

    clocks : List ℕ
    clocks = option_to_list setup.clock

    input_list : List ℕ
    input_list = map (λ (x : InputPlan). x.bit) setup.inputs

    echo_list : List ℕ
    echo_list = map (λ (x : EchoPlan). x.bit) setup.echoes

    answer_list : List ℕ
    answer_list = flat_map (λ (mem : MemPlan). mem.answer) setup.memories

    leaf_list : List ℕ
    leaf_list = flat_map (λ (leaf : LeafPlan). leaf.bits) setup.leaves

    in_port : (b : ℕ) → Contains (clocks ++ input_list ++ echo_list ++ answer_list) b → Contains (bound_bits setup) b
    in_port b h = Contains-append_left (clocks ++ input_list ++ echo_list ++ answer_list) leaf_list b h

    in_early : (b : ℕ) → Contains (clocks ++ input_list ++ echo_list) b → Contains (bound_bits setup) b
    in_early b h = in_port b (Contains-append_left (clocks ++ input_list ++ echo_list) answer_list b h)

    in_clock : (b : ℕ) → setup.clock ≡ Some b → Contains (bound_bits setup) b
    in_clock b e = in_early b
        (Contains-append_left (clocks ++ input_list) echo_list b (Contains-append_left clocks input_list b (in_option setup.clock b e)))

    in_inputs : (q : InputPlan) → Contains setup.inputs q → Contains (bound_bits setup) q.bit
    in_inputs q h = in_early q.bit (Contains-append_left (clocks ++ input_list) echo_list q.bit
        (Contains-append_right clocks input_list q.bit (Contains-map (λ (x : InputPlan). x.bit) setup.inputs q h)))

    in_echoes : (e : EchoPlan) → Contains setup.echoes e → Contains (bound_bits setup) e.bit
    in_echoes e h = in_early e.bit
        (Contains-append_right (clocks ++ input_list) echo_list e.bit (Contains-map (λ (x : EchoPlan). x.bit) setup.echoes e h))

    in_answers : (mem : MemPlan) → Contains setup.memories mem → (k b : ℕ) → slice_get mem.answer k ≡ Some b → Contains (bound_bits setup) b
    in_answers mem h k b at = in_port b (Contains-append_right (clocks ++ input_list ++ echo_list) answer_list b
        (Contains-flat_map (λ (m : MemPlan). m.answer) setup.memories mem b h (member_of_place mem.answer k b at)))

    in_leaves : (leaf : LeafPlan) → Contains setup.leaves leaf → (k b : ℕ) → slice_get leaf.bits k ≡ Some b → Contains (bound_bits setup) b
    in_leaves leaf h k b at = Contains-append_right (clocks ++ input_list ++ echo_list ++ answer_list) leaf_list b
        (Contains-flat_map (λ (l : LeafPlan). l.bits) setup.leaves leaf b h (member_of_place leaf.bits k b at))

    no_bit : (b : ℕ) → IsUndriven flat b → Contains (bound_bits setup ++ flop_outputs flat) b → ⊥
    no_bit b u h = go (Contains-append_cases (bound_bits setup) (flop_outputs flat) b h)
      where
        go : Contains (bound_bits setup) b ⊎ Contains (flop_outputs flat) b → ⊥
        go (inl i) = u.no_input (bound.only b i)
        go (inr i) = let r = image_of_map (λ (f : FlatFlop). f.output) flat.flops b i in
            u.no_flop (any_from_member (λ (f : FlatFlop). f.output ≡ b) flat.flops r.source r.listed r.image)
