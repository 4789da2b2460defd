-- A relation between two kinds of state that starts have and cycles keep holds in every cycle.
use Rattle.std.proofs.Common.{◌≡◌, ℕ, zero, suc, ◌<◌, ◌⊎◌, inl, inr, Bool, true, false, cond, List, [], ◌∷◌, ◌++◌, map, get_or, refl, sym, ap, subst, arith}
use Rattle.std.specs.Prelude.{Contains, slice_get, Option, Some, None, option_to_list, flat_map, nat_eq}
use Rattle.std.proofs.lemmas.List.Elements.{Contains-append_cases}
use Rattle.coco_base.specs.declared.netlist.Flat.{Flat}
use Rattle.coco_base.specs.declared.netlist.FlatFlop.{FlatFlop}
use Rattle.coco_base.specs.declared.netlist.Wire.{Wire}
use Rattle.coco_base.specs.declared.netlist.Wire.TheVariants.{Const, Bit}
use Rattle.coco_base.specs.declared.setup.Start.{Start}
use Rattle.coco_base.specs.declared.setup.Start.TheVariants.{Public}
use Rattle.coco_base.specs.declared.setup.InputPlan.{InputPlan}
use Rattle.coco_base.specs.declared.setup.EchoPlan.{EchoPlan}
use Rattle.coco_base.specs.declared.setup.MemPlan.{MemPlan}
use Rattle.coco_base.specs.declared.setup.WordPlan.{WordPlan}
use Rattle.coco_base.specs.declared.setup.LeafPlan.{LeafPlan}
use Rattle.coco_base.specs.declared.setup.Setup.{Setup}
use Rattle.coco_model.specs.Netlist.{Valuation, on_wire, IsUndriven, IsCellBit, IsFlopBit, IsInputBit}
use Rattle.coco_model.specs.Carried.{States, start_state, entry_of, word_start, start_word, stored_word, stores, is_read, word_address, IsGiven, IsFirst, IsNext, IsCarried, IsBound, bound_bits, AreStarts}
use Rattle.coco_model.proofs.Basics.{Contains-here, Contains-later, Contains-cases, Contains-none, some_from_any}
use Rattle.model_laws.proofs.Lists.{image_of_map, joined_of_flat_map, place_of_member}
use Rattle.model_laws.proofs.Ranks.{flop_bit_or_not, input_bit_or_not}
use Rattle.model_laws.specs.Laws.{AreSameRequests}

-- what gives a bit that no cell drives its state
pub data Leaf (flat : Flat) (setup : Setup) (b : ℕ) : Type 0 where
  undriven : IsUndriven flat b → Leaf flat setup b
  clock : setup.clock ≡ Some b → Leaf flat setup b
  input : (p : InputPlan) → Contains setup.inputs p → p.bit ≡ b → Leaf flat setup b
  echo : (e : EchoPlan) → Contains setup.echoes e → e.bit ≡ b → Leaf flat setup b
  answer : (mem : MemPlan) → Contains setup.memories mem → (k : ℕ) → slice_get mem.answer k ≡ Some b → Leaf flat setup b
  word : (leaf : LeafPlan) → Contains setup.leaves leaf → (k : ℕ) → slice_get leaf.bits k ≡ Some b → Leaf flat setup b
  flop : (f : FlatFlop) → Contains flat.flops f → f.output ≡ b → Leaf flat setup b

some_of_list : (o : Option ℕ) (b : ℕ) → Contains (option_to_list o) b → o ≡ Some b
some_of_list None b h = absurd (Contains-none b h)
some_of_list (Some x) b h = go (Contains-cases x b [] h)
  where
    go : (x ≡ b) ⊎ Contains [] b → Some x ≡ Some b
    go (inl e) = ap Some e
    go (inr none) = absurd (Contains-none b none)

bound_leaf : (flat : Flat) (setup : Setup) (b : ℕ) → Contains (bound_bits setup) b → Leaf flat setup b
bound_leaf flat setup b h = last (Contains-append_cases (clocks ++ inputs ++ echoes ++ answers) leaves b h)
  where
    clocks : List ℕ
    clocks = option_to_list setup.clock

    inputs : List ℕ
    inputs = map (λ (p : InputPlan). p.bit) setup.inputs

    echoes : List ℕ
    echoes = map (λ (e : EchoPlan). e.bit) setup.echoes

    answers : List ℕ
    answers = flat_map (λ (mem : MemPlan). mem.answer) setup.memories

    leaves : List ℕ
    leaves = flat_map (λ (leaf : LeafPlan). leaf.bits) setup.leaves

    first : Contains clocks b ⊎ Contains inputs b → Leaf flat setup b
    first (inl i) = clock (some_of_list setup.clock b i)
    first (inr i) = let r = image_of_map (λ (p : InputPlan). p.bit) setup.inputs b i in input r.source r.listed r.image

    second : Contains (clocks ++ inputs) b ⊎ Contains echoes b → Leaf flat setup b
    second (inl i) = first (Contains-append_cases clocks inputs b i)
    second (inr i) = let r = image_of_map (λ (e : EchoPlan). e.bit) setup.echoes b i in echo r.source r.listed r.image

    third : Contains (clocks ++ inputs ++ echoes) b ⊎ Contains answers b → Leaf flat setup b
    third (inl i) = second (Contains-append_cases (clocks ++ inputs) echoes b i)
    third (inr i) = let r = joined_of_flat_map (λ (mem : MemPlan). mem.answer) setup.memories b i in
        let place = place_of_member r.source.answer b r.member in answer r.source r.listed place.place place.at

    last : Contains (clocks ++ inputs ++ echoes ++ answers) b ⊎ Contains leaves b → Leaf flat setup b
    last (inl i) = third (Contains-append_cases (clocks ++ inputs ++ echoes) answers b i)
    last (inr i) = let r = joined_of_flat_map (λ (leaf : LeafPlan). leaf.bits) setup.leaves b i in
        let place = place_of_member r.source.bits b r.member in word r.source r.listed place.place place.at

pub leaf_of : (flat : Flat) (setup : Setup) → IsBound flat setup → (b : ℕ) → (IsCellBit flat b → ⊥) → Leaf flat setup b
leaf_of flat setup bound b no_cell = go (flop_bit_or_not flat b) (input_bit_or_not flat b)
  where
    go : IsFlopBit flat b ⊎ (IsFlopBit flat b → ⊥) → IsInputBit flat b ⊎ (IsInputBit flat b → ⊥) → Leaf flat setup b
    go (inl h) other = let s = some_from_any (λ (f : FlatFlop). f.output ≡ b) flat.flops h in flop s.member s.listed s.holds
    go (inr no_flop) (inl h) = bound_leaf flat setup b (bound.each b h)
    go (inr no_flop) (inr no_input) = undriven (record { no_input = no_input; no_flop = no_flop; no_cell = no_cell })

-- two kinds of state, with a relation of leaves and one of all bits, that starts have and cycles keep
pub record IsLink {X Y : Type 0} (one : States X) (other : States Y) (good : Start → Type 0) (flat : Flat) (setup : Setup) (cycles : ℕ)
    (v w : ℕ → Valuation) (s : ℕ → ℕ → X) (u : ℕ → ℕ → Y) (leaf bit : ℕ → X → Y → Type 0) : Type 0 where
  pub constants : (t : ℕ) (b : Bool) → leaf t (one.constant b) (other.constant b)
  pub starts : (t : ℕ) → t < cycles → (start : Start) → good start
      → leaf t (start_state one setup.table t start) (start_state other setup.table t start)
  pub settles : (t : ℕ) → t < cycles → ((r : ℕ) → r < t → (b : ℕ) → bit r (s r b) (u r b))
      → ((b : ℕ) → (IsCellBit flat b → ⊥) → leaf t (s t b) (u t b))
      → (b : ℕ) → bit t (s t b) (u t b)
  pub passes : (t : ℕ) (x : X) (y : Y) → bit t x y → leaf (suc t) x y
  pub stays : (t : ℕ) (x : X) (y : Y) → leaf t x y → leaf (suc t) x y
  pub requests : (t : ℕ) → suc t < cycles → ((b : ℕ) → bit t (s t b) (u t b)) → (mem : MemPlan) → Contains setup.memories mem
      → AreSameRequests (v t) (w t) mem

-- what holds in a cycle
pub record IsLinked {X Y : Type 0} (flat : Flat) (s : ℕ → X) (u : ℕ → Y) (s_word : ℕ → ℕ → X) (u_word : ℕ → ℕ → Y)
    (leaf bit : X → Y → Type 0) : Type 0 where
  pub leaves : (b : ℕ) → (IsCellBit flat b → ⊥) → leaf (s b) (u b)
  pub bits : (b : ℕ) → bit (s b) (u b)
  pub words : (address k : ℕ) → leaf (s_word address k) (u_word address k)

pub along : {X Y : Type 0} (R : X → Y → Type 0) {x x' : X} {y y' : Y} → x ≡ x' → y ≡ y' → R x' y' → R x y
along R {x} {x'} {y} {y'} e f h = subst (λ a. R a y) (sym e) (subst (R x') (sym f) h)

cond-linked : {X Y : Type 0} (R : X → Y → Type 0) (a b : Bool) (x x' : X) (y y' : Y) → a ≡ b → (b ≡ true → R x y) → R x' y'
    → R (cond a x x') (cond b y y')
cond-linked R true true x x' y y' e h i = h refl
cond-linked R false false x x' y y' e h i = i
cond-linked R true false x x' y y' e h i = absurd cc
cond-linked R false true x x' y y' e h i = absurd cc

on_wire-linked : {X Y : Type 0} (R Q : X → Y → Type 0) (one : Bool → X) (other : Bool → Y) (s : ℕ → X) (u : ℕ → Y)
    → ((b : Bool) → R (one b) (other b)) → ((x : X) (y : Y) → Q x y → R x y) → ((b : ℕ) → Q (s b) (u b)) → (w : Wire)
    → R (on_wire one s w) (on_wire other u w)
on_wire-linked R Q one other s u constants passes bits (Const b) = constants b
on_wire-linked R Q one other s u constants passes bits (Bit n) = passes (s n) (u n) (bits n)

-- a bit of a memory word starts as some plan says, or at public 0
word_start-cases : (good : Start → Type 0) (words : List WordPlan)
    → ((w : WordPlan) → Contains words w → (k : ℕ) → good (get_or w.bits k (Public false))) → (address k : ℕ)
    → (Public false ≡ word_start words address k) ⊎ good (word_start words address k)
word_start-cases good [] all address k = inl refl
word_start-cases good (w ∷ words) all address k =
    go (nat_eq w.address address) (word_start-cases good words (λ x h. all x (Contains-later w x words h)) address k)
  where
    go : (same : Bool) → (Public false ≡ word_start words address k) ⊎ good (word_start words address k)
        → (Public false ≡ cond same (get_or w.bits k (Public false)) (word_start words address k))
        ⊎ good (cond same (get_or w.bits k (Public false)) (word_start words address k))
    go true rest = inr (all w (Contains-here w words) k)
    go false rest = rest

pub start_word-linked : {X Y : Type 0} (R : X → Y → Type 0) (one : States X) (other : States Y) (setup : Setup) (good : Start → Type 0)
    → ((b : Bool) → R (one.constant b) (other.constant b))
    → ((start : Start) → good start → R (start_state one setup.table 0 start) (start_state other setup.table 0 start))
    → (words : List WordPlan) → ((w : WordPlan) → Contains words w → (k : ℕ) → good (get_or w.bits k (Public false)))
    → (address k : ℕ) → R (start_word one setup.table words address k) (start_word other setup.table words address k)
start_word-linked R one other setup good constants starts words all address k =
    go (word_start-cases good words all address k)
  where
    go : (Public false ≡ word_start words address k) ⊎ good (word_start words address k)
        → R (start_word one setup.table words address k) (start_word other setup.table words address k)
    go (inl e) = subst (λ s. R (start_state one setup.table 0 s) (start_state other setup.table 0 s)) e (constants false)
    go (inr is) = starts (word_start words address k) is

pub stored_word-linked : {X Y : Type 0} (R Q : X → Y → Type 0) (one : States X) (other : States Y) (v w : Valuation) (s : ℕ → X) (u : ℕ → Y)
    → ((b : Bool) → R (one.constant b) (other.constant b)) → ((x : X) (y : Y) → Q x y → R x y) → ((b : ℕ) → Q (s b) (u b))
    → (mems : List MemPlan) → ((mem : MemPlan) → Contains mems mem → AreSameRequests v w mem)
    → (address k : ℕ) (x : X) (y : Y) → R x y → R (stored_word one v s mems address k x) (stored_word other w u mems address k y)
stored_word-linked R Q one other v w s u constants passes bits [] same address k x y h = h
stored_word-linked R Q one other v w s u constants passes bits (mem ∷ mems) same address k x y h =
    cond-linked R (stores v mem address k) (stores w mem address k) _ _ _ _ ((same mem (Contains-here mem mems)).stored address k)
    (λ e. on_wire-linked R Q one.constant other.constant s u constants passes bits (get_or mem.value k (Const false)))
    (stored_word-linked R Q one other v w s u constants passes bits mems (λ m i. same m (Contains-later mem m mems i)) address k x y h)

-- the leaves of the first cycle are related
pub first-linked : {X Y : Type 0} (one : States X) (other : States Y) (good : Start → Type 0) (flat : Flat) (setup : Setup) (s : ℕ → X)
    (u : ℕ → Y)
    (s_word : ℕ → ℕ → X) (u_word : ℕ → ℕ → Y) (leaf : X → Y → Type 0)
    → ((b : Bool) → leaf (one.constant b) (other.constant b))
    → ((start : Start) → good start → leaf (start_state one setup.table 0 start) (start_state other setup.table 0 start))
    → IsBound flat setup → AreStarts good flat setup
    → IsGiven one flat setup 0 s → IsGiven other flat setup 0 u → IsFirst one flat setup s s_word → IsFirst other flat setup u u_word
    → (b : ℕ) → (IsCellBit flat b → ⊥) → leaf (s b) (u b)
first-linked one other good flat setup s u s_word u_word leaf constants starts bound all given_s given_u first_s first_u b no_cell =
    go (leaf_of flat setup bound b no_cell)
  where
    go : Leaf flat setup b → leaf (s b) (u b)
    go (undriven h) = along leaf (given_s.undriven b h) (given_u.undriven b h) (constants false)
    go (clock h) = along leaf (given_s.clock b h) (given_u.clock b h) (constants false)
    go (input p h e) =
        subst (λ c. leaf (s c) (u c)) e (along leaf (given_s.inputs p h) (given_u.inputs p h) (starts (entry_of p.values 0) (all.inputs p h 0)))
    go (echo p h e) = subst (λ c. leaf (s c) (u c)) e (along leaf (first_s.echoes p h) (first_u.echoes p h) (constants false))
    go (answer mem h k at) = along leaf (first_s.answers mem h k b at) (first_u.answers mem h k b at) (constants false)
    go (word plan h k at) = along leaf (first_s.leaves plan h k b at) (first_u.leaves plan h k b at)
        (along leaf (first_s.words plan.address k) (first_u.words plan.address k)
        (start_word-linked leaf one other setup good constants starts setup.words all.words plan.address k))
    go (flop f h e) =
        subst (λ c. leaf (s c) (u c)) e (along leaf (first_s.flops f h) (first_u.flops f h) (starts (get_or setup.starts f.output (Public false)) (all.flops f h)))

-- the leaves of a later cycle are related
pub next-linked : {X Y : Type 0} (one : States X) (other : States Y) (good : Start → Type 0) (flat : Flat) (setup : Setup) (t : ℕ)
    (v w : Valuation)
    (s s' : ℕ → X) (u u' : ℕ → Y) (s_word s_word' : ℕ → ℕ → X) (u_word u_word' : ℕ → ℕ → Y) (leaf bit old : X → Y → Type 0)
    → ((b : Bool) → leaf (one.constant b) (other.constant b))
    → ((start : Start) → good start → leaf (start_state one setup.table t start) (start_state other setup.table t start))
    → ((x : X) (y : Y) → bit x y → leaf x y) → ((x : X) (y : Y) → old x y → leaf x y)
    → IsBound flat setup → AreStarts good flat setup → ((mem : MemPlan) → Contains setup.memories mem → AreSameRequests v w mem)
    → IsGiven one flat setup t s' → IsGiven other flat setup t u' → IsNext one flat setup v s s_word s' s_word'
    → IsNext other flat setup w u u_word u' u_word'
    → ((b : ℕ) → bit (s b) (u b)) → ((address k : ℕ) → old (s_word address k) (u_word address k))
    → (b : ℕ) → (IsCellBit flat b → ⊥) → leaf (s' b) (u' b)
next-linked one other good flat setup t v w s s' u u' s_word s_word' u_word u_word' leaf bit old constants starts passes stays bound all same given_s given_u next_s next_u bits words b no_cell =
    go (leaf_of flat setup bound b no_cell)
  where
    wires : (w : Wire) → leaf (on_wire one.constant s w) (on_wire other.constant u w)
    wires = on_wire-linked leaf bit one.constant other.constant s u constants passes bits

    answered : (mem : MemPlan) → Contains setup.memories mem → (k : ℕ)
        → leaf (cond (is_read v mem) (s_word (word_address v mem) k) (s b)) (cond (is_read w mem) (u_word (word_address w mem) k) (u b))
    answered mem h k = cond-linked leaf (is_read v mem) (is_read w mem) _ _ _ _ (same mem h).read
        (λ e. stays _ _ (subst (λ a. old (s_word a k) (u_word (word_address w mem) k)) (sym ((same mem h).address e)) (words (word_address w mem) k)))
        (passes _ _ (bits b))

    go : Leaf flat setup b → leaf (s' b) (u' b)
    go (undriven h) = along leaf (given_s.undriven b h) (given_u.undriven b h) (constants false)
    go (clock h) = along leaf (given_s.clock b h) (given_u.clock b h) (constants false)
    go (input p h e) =
        subst (λ c. leaf (s' c) (u' c)) e (along leaf (given_s.inputs p h) (given_u.inputs p h) (starts (entry_of p.values t) (all.inputs p h t)))
    go (echo p h e) = subst (λ c. leaf (s' c) (u' c)) e (along leaf (next_s.echoes p h) (next_u.echoes p h) (wires p.source))
    go (answer mem h k at) = along leaf (next_s.answers mem h k b at) (next_u.answers mem h k b at) (answered mem h k)
    go (word plan h k at) = along leaf (next_s.leaves plan h k b at) (next_u.leaves plan h k b at)
        (stored_word-linked leaf bit one other v w s u constants passes bits setup.memories same plan.address k (s b) (u b)
        (passes _ _ (bits b)))
    go (flop f h e) = subst (λ c. leaf (s' c) (u' c)) e (along leaf (next_s.flops f h) (next_u.flops f h) (wires f.next))

-- the relation holds in every cycle
pub carried-linked : {X Y : Type 0} (one : States X) (other : States Y) (good : Start → Type 0) (flat : Flat) (setup : Setup) (cycles : ℕ)
    (v w : ℕ → Valuation) (s : ℕ → ℕ → X) (u : ℕ → ℕ → Y) (s_word : ℕ → ℕ → ℕ → X) (u_word : ℕ → ℕ → ℕ → Y) (leaf bit : ℕ → X → Y → Type 0)
    → IsBound flat setup → AreStarts good flat setup → IsLink one other good flat setup cycles v w s u leaf bit
    → IsCarried one flat setup cycles v s s_word → IsCarried other flat setup cycles w u u_word
    → (t : ℕ) → t < cycles → IsLinked flat (s t) (u t) (s_word t) (u_word t) (leaf t) (bit t)
carried-linked one other good flat setup cycles v w s u s_word u_word leaf bit bound all link carried_s carried_u t below =
    each (suc t) t (omega arith) below
  where
    Linked : ℕ → Type 0
    Linked t = IsLinked flat (s t) (u t) (s_word t) (u_word t) (leaf t) (bit t)

    settled : (t : ℕ) → t < cycles → ((r : ℕ) → r < t → Linked r) → ((b : ℕ) → (IsCellBit flat b → ⊥) → leaf t (s t b) (u t b))
        → ((address k : ℕ) → leaf t (s_word t address k) (u_word t address k)) → Linked t
    settled t below lower leaves words = record {
      leaves = leaves;
      bits = link.settles t below (λ r h. (lower r h).bits) leaves;
      words = words;
    }

    step : (t : ℕ) → t < cycles → ((r : ℕ) → r < t → Linked r) → Linked t
    step zero below lower = settled 0 below lower
        (first-linked one other good flat setup (s 0) (u 0) (s_word 0) (u_word 0) (leaf 0) (link.constants 0) (link.starts 0 below) bound all
        (carried_s.given 0 below) (carried_u.given 0 below) carried_s.first carried_u.first)
        (λ address k. along (leaf 0) (carried_s.first.words address k) (carried_u.first.words address k)
        (start_word-linked (leaf 0) one other setup good (link.constants 0) (link.starts 0 below) setup.words all.words address k))
    step (suc t) below lower = settled (suc t) below lower
        (next-linked one other good flat setup (suc t) (v t) (w t) (s t) (s (suc t)) (u t) (u (suc t)) (s_word t) (s_word (suc t)) (u_word t) (u_word (suc t))
        (leaf (suc t)) (bit t) (leaf t) (link.constants (suc t)) (link.starts (suc t) below) (link.passes t) (link.stays t) bound all same
        (carried_s.given (suc t) below) (carried_u.given (suc t) below) (carried_s.next t below)
        (carried_u.next t below) here.bits here.words)
        (λ address k. along (leaf (suc t)) ((carried_s.next t below).words address k) ((carried_u.next t below).words address k)
        (stored_word-linked (leaf (suc t)) (bit t) one other (v t) (w t) (s t) (u t) (link.constants (suc t)) (link.passes t) here.bits setup.memories same
        address k (s_word t address k) (u_word t address k) (link.stays t _ _ (here.words address k))))
      where
        here : Linked t
        here = lower t (omega arith)

        same : (mem : MemPlan) → Contains setup.memories mem → AreSameRequests (v t) (w t) mem
        same = link.requests t below here.bits

    each : (n t : ℕ) → t < n → t < cycles → Linked t
    each zero t lt below = absurd (omega arith)
    each (suc n) t lt below = step t below (λ r h. each n r (omega arith) (omega arith))
