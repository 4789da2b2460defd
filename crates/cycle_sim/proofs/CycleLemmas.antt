-- What is known, from cycle to cycle.
use Rattle.std.proofs.Common.{◌≡◌, ◌≢◌, ℕ, suc, ◌<◌, ◌≤◌, ◌⊎◌, inl, inr, Bool, true, false, not, cond, ◌&&◌, nat_eq, List, [], ◌∷◌, ◌++◌, map, get_or, refl, sym, ◌∙◌, ap, subst, arith}
use Rattle.std.specs.Prelude.{Contains, slice_get, Some, flat_map, option_to_list}
use Rattle.std.proofs.lemmas.Bool.{cases_eq, cases_order, ne_eqb, eq-eqb}
use Rattle.std.proofs.lemmas.List.Elements.{Contains-append_cases}
use Rattle.coco_base.specs.declared.cell.Part.{Part}
use Rattle.coco_base.specs.declared.cell.Part.TheVariants.{Zero}
use Rattle.coco_base.specs.declared.netlist.Flat.{Flat}
use Rattle.coco_base.specs.declared.setup.LeafPlan.{LeafPlan}
use Rattle.coco_base.specs.declared.setup.MemPlan.{MemPlan}
use Rattle.coco_base.specs.declared.setup.Setup.{Setup}
use Rattle.coco_base.specs.declared.setup.Start.TheVariants.{Public}
use Rattle.coco_model.specs.Carried.{start_state, start_word, stored_word, entry_of, is_read, word_address, number_on, wire_or_off, IsGiven, IsFirst, IsNext}
use Rattle.coco_model.specs.Controls.{IsInRegion, IsOutside}
use Rattle.coco_model.specs.Known.{Row, ones, parts, wire_part, IsForcedRow, IsKnown}
use Rattle.coco_model.specs.Netlist.{wire_value, HasOneDriver, IsCellBit}
use Rattle.coco_model.specs.Setups.{IsBoundTo}
use Rattle.coco_model.specs.Stepped.{IsGoodCycle, row_of}
use Rattle.model_laws.proofs.Lists.{image_of_map, joined_of_flat_map}
use Rattle.model_laws.proofs.Sources.{Sources, HasSources}
use Rattle.model_laws.proofs.WordLeaves.{word_leaf_law}
use Rattle.model_laws.specs.Laws.{WordLeafLaw}
use Rattle.coco_model.proofs.Basics.{Contains-cases, Contains-none}
use Rattle.gate_graph.proofs.Items.{place_below}
use Rattle.cycle_sim.specs.Memories.{word_part, HoldsWords}
use Rattle.cycle_sim.specs.Simulations.{IsAt, IsBefore}
use Rattle.cycle_sim.specs.Writes.{Write, IsWritten, bit_writes, answer_part}
use Rattle.cycle_sim.proofs.PartLemmas.{true_one}
use Rattle.cycle_sim.proofs.PlacedLemmas.{region_word}
use Rattle.cycle_sim.proofs.SourceLemmas.{parts_of, joined, write_zero, write_echo, sources_hold}
use Rattle.cycle_sim.proofs.WriteLemmas.{after_zeros}

-- a function of cycles with another value in one cycle
abbrev pub extend : {X : Type 0} → (ℕ → X) → ℕ → X → ℕ → X
extend f n x s = cond (nat_eq s n) x (f s)

extend_same : {X : Type 0} (f : ℕ → X) (n : ℕ) (x : X) (s : ℕ) → s ≡ n → extend f n x s ≡ x
extend_same f n x s e = ap (λ t. cond t x (f s)) (eq-eqb s n e)

extend_other : {X : Type 0} (f : ℕ → X) (n : ℕ) (x : X) (s : ℕ) → s ≢ n → extend f n x s ≡ f s
extend_other f n x s n_ = ap (λ t. cond t x (f s)) (ne_eqb s n n_)

next_along : (flat : Flat) (setup : Setup) (old old' : Row) (ow ow' : ℕ → Row) (new new' : Row) (nw nw' : ℕ → Row)
    → old ≡ old' → ow ≡ ow' → new ≡ new' → nw ≡ nw' → IsNext parts flat setup (ones old) old ow new nw
    → IsNext parts flat setup (ones old') old' ow' new' nw'
next_along flat setup old old' ow ow' new new' nw nw' a b c d is =
    subst (λ x. IsNext parts flat setup (ones old') old' ow' new' x) d
    (subst (λ x. IsNext parts flat setup (ones old') old' ow' x nw) c
    (subst (λ x. IsNext parts flat setup (ones old') old' x new nw) b
    (subst (λ x. IsNext parts flat setup (ones x) x ow new nw) a is)))

-- what is known over one cycle more
pub known_more : (flat : Flat) (setup : Setup) (p : ℕ) (row : ℕ → Row) (word : ℕ → ℕ → Row) (new : Row) (next_word : ℕ → Row)
    → IsKnown flat setup (suc p) row word → IsForcedRow flat new → IsGiven parts flat setup (suc p) new
    → IsNext parts flat setup (ones (row p)) (row p) (word p) new next_word
    → IsKnown flat setup (suc (suc p)) (extend row (suc p) new) (extend word (suc p) next_word)
known_more flat setup p row word new next_word known forced given next = record {
  forced = λ t h. forced_at t h (cases_eq t (suc p));
  carried = record {
    given = λ t h. given_at t h (cases_eq t (suc p));
    first = subst (λ x. IsFirst parts flat setup x (extend word (suc p) next_word 0)) (sym (extend_other row (suc p) new 0 (λ e. let f : 0 ≡ suc p = e in omega arith)))
        (subst (λ x. IsFirst parts flat setup (row 0) x) (sym (extend_other word (suc p) next_word 0 (λ e. let f : 0 ≡ suc p = e in omega arith))) known.carried.first);
    next = λ t h. next_at t h (cases_eq t p);
  };
}
  where
    forced_at : (t : ℕ) → t < suc (suc p) → (t ≡ suc p) ⊎ (t ≢ suc p) → IsForcedRow flat (extend row (suc p) new t)
    forced_at t h (inl e) = subst (IsForcedRow flat) (sym (extend_same row (suc p) new t e)) forced
    forced_at t h (inr n) = subst (IsForcedRow flat) (sym (extend_other row (suc p) new t n)) (known.forced t (omega arith))

    given_at : (t : ℕ) → t < suc (suc p) → (t ≡ suc p) ⊎ (t ≢ suc p) → IsGiven parts flat setup t (extend row (suc p) new t)
    given_at t h (inl e) =
        subst (IsGiven parts flat setup t) (sym (extend_same row (suc p) new t e)) (subst (λ s. IsGiven parts flat setup s new) (sym e) given)
    given_at t h (inr n) = subst (IsGiven parts flat setup t) (sym (extend_other row (suc p) new t n)) (known.carried.given t (omega arith))

    next_at : (t : ℕ) → suc t < suc (suc p) → (t ≡ p) ⊎ (t ≢ p)
        → IsNext parts flat setup (ones (extend row (suc p) new t)) (extend row (suc p) new t) (extend word (suc p) next_word t)
        (extend row (suc p) new (suc t)) (extend word (suc p) next_word (suc t))
    next_at t h (inl e) =
        next_along flat setup (row t) _ (word t) _ new _ next_word _
        (sym (extend_other row (suc p) new t (λ f. let g : t ≡ suc p = f in omega arith)))
        (sym (extend_other word (suc p) next_word t (λ f. let g : t ≡ suc p = f in omega arith)))
        (sym (extend_same row (suc p) new (suc t) (ap (λ x. suc x) e)))
        (sym (extend_same word (suc p) next_word (suc t) (ap (λ x. suc x) e)))
        (subst (λ s. IsNext parts flat setup (ones (row s)) (row s) (word s) new next_word) (sym e) next)
    next_at t h (inr n) =
        next_along flat setup (row t) _ (word t) _ (row (suc t)) _ (word (suc t)) _
        (sym (extend_other row (suc p) new t (λ f. let g : t ≡ suc p = f in omega arith)))
        (sym (extend_other word (suc p) next_word t (λ f. let g : t ≡ suc p = f in omega arith)))
        (sym (extend_other row (suc p) new (suc t) (λ f. let g : suc t ≡ suc p = f in n (omega arith))))
        (sym (extend_other word (suc p) next_word (suc t) (λ f. let g : suc t ≡ suc p = f in n (omega arith))))
        (known.carried.next t (let low : t < p = before_last t h n in omega arith))
      where
        before_last : (t : ℕ) → suc t < suc (suc p) → t ≢ p → t < p
        before_last t h n = omega arith

-- what gives the leaves of the first cycle what is known of them
abbrev pub first_sources : Setup → List Part → Sources Part
first_sources setup memory = record {
  still = Zero;
  input = λ p. start_state parts setup.table 0 (entry_of p.values 0);
  echo = λ e. Zero;
  answer = λ mem k b. Zero;
  leaf = λ leaf k b. word_part memory leaf.address k;
  flop = λ f. start_state parts setup.table 0 (get_or setup.starts f.output (Public false));
}

-- what gives the leaves of a later cycle what is known of them
abbrev pub next_sources : Setup → ℕ → Row → List Part → List Part → Sources Part
next_sources setup t old memory new_memory = record {
  still = Zero;
  input = λ p. start_state parts setup.table t (entry_of p.values t);
  echo = λ e. wire_part old e.source;
  answer = λ mem k b. answer_part old memory mem k b;
  leaf = λ leaf k b. word_part new_memory leaf.address k;
  flop = λ f. wire_part old f.next;
}

pub region_or_not : (n : ℕ) → IsInRegion n ⊎ (IsInRegion n → ⊥)
region_or_not n = go (low_or_not n 0x4000) (low_or_not n 0x10000) (low_or_not n 0x11000)
  where
    low_or_not : (n m : ℕ) → (n < m) ⊎ (m ≤ n)
    low_or_not n m = order (cases_order n m)
      where
        order : (n ≡ m) ⊎ ((n < m) ⊎ (m < n)) → (n < m) ⊎ (m ≤ n)
        order (inl e) = inr (omega arith)
        order (inr (inl less)) = inl less
        order (inr (inr more)) = inr (omega arith)

    neither : (n : ℕ) → 0x4000 ≤ n → (n < 0x10000) ⊎ (0x11000 ≤ n) → IsInRegion n → ⊥
    neither n high (inl below) (inl low) = omega arith
    neither n high (inr above) (inl low) = omega arith
    neither n high (inl below) (inr (from, to)) = omega arith
    neither n high (inr above) (inr (from, to)) = omega arith

    go : (n < 0x4000) ⊎ (0x4000 ≤ n) → (n < 0x10000) ⊎ (0x10000 ≤ n) → (n < 0x11000) ⊎ (0x11000 ≤ n) → IsInRegion n ⊎ (IsInRegion n → ⊥)
    go (inl low) y z = inl (inl low)
    go (inr high) (inl below) z = inr (neither n high (inl below))
    go (inr high) (inr from) (inl to) = inl (inr (from, to))
    go (inr high) (inr from) (inr above) = inr (neither n high (inr above))

both_left : (a b : Bool) → (a && b) ≡ true → a ≡ true
both_left true b e = refl
both_left false b e = e

-- what a read asks for is in a region
pub read_inside : (row : Row) (mem : MemPlan) → (IsOutside row mem → ⊥) → is_read (ones row) mem ≡ true → IsInRegion (number_on (ones row) mem.address)
read_inside row mem none reads = go (region_or_not (number_on (ones row) mem.address))
  where
    go : IsInRegion (number_on (ones row) mem.address) ⊎ (IsInRegion (number_on (ones row) mem.address) → ⊥) → IsInRegion (number_on (ones row) mem.address)
    go (inl is) = is
    go (inr out) = absurd (none (record {
      request = true_one row mem.request (both_left (wire_value (ones row) mem.request) (not (wire_value (ones row) (wire_or_off mem.write))) reads);
      outside = out;
    }))

cond_when : {X : Type 0} (t : Bool) (x y z : X) → (t ≡ true → x ≡ z) → cond t x y ≡ cond t z y
cond_when true x y z same = same refl
cond_when false x y z same = refl

as_word : (flat : Flat) (setup : Setup) (cycles : ℕ) (leaf : LeafPlan) → Contains setup.leaves leaf → (k b : ℕ) → slice_get leaf.bits k ≡ Some b
    → (t : ℕ) → t < cycles → (row : ℕ → Row) (word : ℕ → ℕ → Row) → IsKnown flat setup cycles row word → row t b ≡ word t leaf.address k
unfolding WordLeafLaw
as_word flat setup cycles leaf listed k b at t below row word is = (word_leaf_law flat setup cycles leaf listed k b at t below).known row word is

-- a cycle after a good one
pub next_cycle_at : (flat : Flat) (setup : Setup) (cycle : ℕ) (known old memory new new_memory zero_row written : List Part)
    → IsBoundTo flat setup → HasOneDriver flat → IsBefore flat setup cycle known old memory
    → ((b : ℕ) → row_of zero_row b ≡ Zero)
    → IsWritten (joined (parts_of flat setup (next_sources setup cycle (row_of known) memory new_memory))) zero_row written
    → ((b : ℕ) → (IsCellBit flat b → ⊥) → row_of new b ≡ row_of written b) → IsForcedRow flat (row_of new)
    → ((word : ℕ → Row) → HoldsWords memory word
    → HoldsWords new_memory (λ a k. stored_word parts (ones (row_of known)) (row_of known) setup.memories a k (word a k)))
    → IsAt flat setup cycle new known new_memory
next_cycle_at flat setup cycle known old memory new new_memory zero_row written bound driven past zeros writes kept forced stores =
    subst (λ t. IsAt flat setup t new known new_memory) (sym past.follows) (record {
      row = extend at.row (suc p) (row_of new);
      word = extend at.word (suc p) next_word;
      is_known = known_more flat setup p at.row at.word (row_of new) next_word at.is_known forced given (subst (λ r. IsNext parts flat setup (ones r) r (at.word p) (row_of new) next_word) (sym at.now) next);
      good = λ s h. good s h (cases_eq s p);
      now = extend_same at.row (suc p) (row_of new) (suc p) refl;
      earlier = λ b. ap (λ (r : Row). r b) (sym (extend_other at.row (suc p) (row_of new) p (λ e. let f : p ≡ suc p = e in omega arith) ∙ at.now));
      words = subst (HoldsWords new_memory) (sym (extend_same at.word (suc p) next_word (suc p) refl)) stored;
    })
  where
    p : ℕ
    p = past.past

    at : IsAt flat setup p known old memory
    at = past.at

    r : Row
    r = row_of known

    next_word : ℕ → Row
    next_word a k = stored_word parts (ones r) r setup.memories a k (at.word p a k)

    stored : HoldsWords new_memory next_word
    stored = stores (at.word p) at.words

    has : HasSources flat setup (next_sources setup cycle r memory new_memory) (row_of new)
    has = sources_hold flat setup (next_sources setup cycle r memory new_memory) refl bound.bound driven (row_of zero_row) (row_of new) zeros
        (λ b none. kept b none ∙ writes.bits b)

    given : IsGiven parts flat setup (suc p) (row_of new)
    given = subst (λ t. IsGiven parts flat setup t (row_of new)) past.follows (record { undriven = has.undriven; clock = has.clock; inputs = has.inputs })

    answer_read : (mem : MemPlan) → Contains setup.memories mem → (k b : ℕ) → slice_get mem.answer k ≡ Some b
        → is_read (ones r) mem ≡ true → word_part memory (word_address (ones r) mem) k ≡ at.word p (word_address (ones r) mem) k
    answer_read mem listed k b at_k reads =
        at.words.each (word_address (ones r) mem) k (region_word (number_on (ones r) mem.address) (read_inside r mem (past.good.inside mem listed) reads))
        (let low = place_below mem.answer k b at_k in let long = (bound.memories mem listed).answer in omega arith)

    leaf_is : (leaf : LeafPlan) → Contains setup.leaves leaf → (k b : ℕ) → slice_get leaf.bits k ≡ Some b → r b ≡ at.word p leaf.address k
    leaf_is leaf listed k b at_k =
        ap (λ (q : Row). q b) (sym at.now)
        ∙ as_word flat setup (suc p) leaf listed k b at_k p (omega arith) at.row at.word at.is_known

    next : IsNext parts flat setup (ones r) r (at.word p) (row_of new) next_word
    next = record {
      flops = has.flops;
      echoes = has.echoes;
      answers = λ mem listed k b at_k. has.answers mem listed k b at_k
          ∙ cond_when (is_read (ones r) mem) _ (r b) _ (λ reads. answer_read mem listed k b at_k reads);
      leaves = λ leaf listed k b at_k. has.leaves leaf listed k b at_k
          ∙ stored.each leaf.address k (bound.leaves leaf listed).address
          (let low = place_below leaf.bits k b at_k in let long = (bound.leaves leaf listed).bits in omega arith)
          ∙ ap (stored_word parts (ones r) r setup.memories leaf.address k) (sym (leaf_is leaf listed k b at_k));
      words = λ a k. refl;
    }

    good : (s : ℕ) → s < suc p → (s ≡ p) ⊎ (s ≢ p) → IsGoodCycle flat setup (extend at.row (suc p) (row_of new) s)
    good s h (inl e) =
        subst (IsGoodCycle flat setup)
        (sym (extend_other at.row (suc p) (row_of new) s (λ f. let g : s ≡ suc p = f in omega arith) ∙ ap at.row e ∙ at.now)) past.good
    good s h (inr n) =
        subst (IsGoodCycle flat setup) (sym (extend_other at.row (suc p) (row_of new) s (λ f. let g : s ≡ suc p = f in omega arith)))
        (at.good s (below s h n))
      where
        below : (s : ℕ) → s < suc p → s ≢ p → s < p
        below s h n = omega arith

-- writes of 0 alone
abbrev AreZeros : List Write → Type 0
AreZeros ws = (w : Write) → Contains ws w → w.part ≡ Zero

zeros-append : (ws vs : List Write) → AreZeros ws → AreZeros vs → AreZeros (ws ++ vs)
zeros-append ws vs a b w h = go (Contains-append_cases ws vs w h)
  where
    go : Contains ws w ⊎ Contains vs w → w.part ≡ Zero
    go (inl i) = a w i
    go (inr j) = b w j

zeros-map : {A : Type 0} (f : A → Write) (xs : List A) → ((x : A) → (f x).part ≡ Zero) → AreZeros (map f xs)
zeros-map f xs still w h = let i = image_of_map f xs w h in ap (λ (v : Write). v.part) (sym i.image) ∙ still i.source

zeros-bits : (j : ℕ) (bs : List ℕ) → AreZeros (bit_writes (λ k b. Zero) j bs)
zeros-bits j [] w h = absurd (Contains-none w h)
zeros-bits j (b ∷ bs) w h = go (Contains-cases (write_zero b) w (bit_writes (λ k b. Zero) (suc j) bs) h) (λ i. zeros-bits (suc j) bs w i)
  where
    go : (write_zero b ≡ w) ⊎ Contains (bit_writes (λ k b. Zero) (suc j) bs) w → (Contains (bit_writes (λ k b. Zero) (suc j) bs) w → w.part ≡ Zero) → w.part ≡ Zero
    go (inl e) rest = ap (λ (v : Write). v.part) (sym e)
    go (inr i) rest = rest i

zeros-answers : (mems : List MemPlan) → AreZeros (flat_map (λ (mem : MemPlan). bit_writes (λ k b. Zero) 0 mem.answer) mems)
zeros-answers mems w h =
    let j = joined_of_flat_map (λ (mem : MemPlan). bit_writes (λ k b. Zero) 0 mem.answer) mems w h in zeros-bits 0 j.source.answer w j.member

-- writes of 0 leave a row of 0
pub written_zeros : (ws : List Write) (row : List Part) → AreZeros ws → ((b : ℕ) → row_of row b ≡ Zero) → IsWritten ws row row
written_zeros ws row all still = record { as_long = refl; bits = λ b. still b ∙ sym (after_zeros ws (row_of row) all still b) }

pub clock_written : (setup : Setup) (row : List Part) → ((b : ℕ) → row_of row b ≡ Zero) → IsWritten (map write_zero (option_to_list setup.clock)) row row
clock_written setup row still = written_zeros _ row (zeros-map write_zero (option_to_list setup.clock) (λ b. refl)) still

pub first_written : (flat : Flat) (setup : Setup) (memory row : List Part) → ((b : ℕ) → row_of row b ≡ Zero)
    → IsWritten (let p = parts_of flat setup (first_sources setup memory) in p.clock ++ p.echoes ++ p.answers) row row
first_written flat setup memory row still =
    written_zeros _ row
    (zeros-append _ _
    (zeros-append _ _ (zeros-map write_zero (option_to_list setup.clock) (λ b. refl)) (zeros-map (write_echo (first_sources setup memory)) setup.echoes (λ e. refl)))
    (zeros-answers setup.memories)) still

-- the first cycle
pub first_cycle_at : (flat : Flat) (setup : Setup) (memory new zero_row written : List Part) → IsBoundTo flat setup → HasOneDriver flat
    → HoldsWords memory (start_word parts setup.table setup.words) → ((b : ℕ) → row_of zero_row b ≡ Zero)
    → IsWritten (joined (parts_of flat setup (first_sources setup memory))) zero_row written
    → ((b : ℕ) → (IsCellBit flat b → ⊥) → row_of new b ≡ row_of written b) → IsForcedRow flat (row_of new)
    → IsAt flat setup 0 new new memory
first_cycle_at flat setup memory new zero_row written bound driven holds zeros writes kept forced = record {
  row = λ s. row_of new;
  word = λ s. start_word parts setup.table setup.words;
  is_known = record {
    forced = λ t h. forced;
    carried = record {
      given = λ t h. subst (λ s. IsGiven parts flat setup s (row_of new)) (let e : 0 ≡ t = omega arith in e)
          (record { undriven = has.undriven; clock = has.clock; inputs = has.inputs });
      first = record {
        flops = has.flops;
        echoes = has.echoes;
        answers = has.answers;
        leaves = λ leaf listed k b at. has.leaves leaf listed k b at
            ∙ holds.each leaf.address k (bound.leaves leaf listed).address
            (let low = place_below leaf.bits k b at in let long = (bound.leaves leaf listed).bits in omega arith);
        words = λ a k. refl;
      };
      next = λ t h. absurd (omega arith);
    };
  };
  good = λ s h. absurd (omega arith);
  now = refl;
  earlier = λ b. refl;
  words = holds;
}
  where
    has : HasSources flat setup (first_sources setup memory) (row_of new)
    has = sources_hold flat setup (first_sources setup memory) refl bound.bound driven (row_of zero_row) (row_of new) zeros
        (λ b none. kept b none ∙ writes.bits b)
