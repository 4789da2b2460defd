-- The memory ports, echoes and wires of a setup: their wires are the netlist's, their widths are those of a port, and one
-- port at most writes.
use Rattle.std.proofs.Common.{◌≡◌, ℕ, zero, suc, ◌+◌, ◌-◌, ◌<◌, ◌≤◌, ◌⊎◌, inl, inr, Bool, true, false, cond, List, [], ◌∷◌, ◌++◌, map, take, drop, length, nat_le, nat_lt, refl, sym, ◌∙◌, ap, subst, arith}
use Rattle.std.specs.Prelude.{Contains, Option, Some, None, Ok, Err, IsSome, is_some, flat_map, slice_get, ◌&&◌, if◌then◌else◌}
use Rattle.std.specs.List.{count_by, slice_range}
use Rattle.std.specs.Str.{bytes_eq}
use Rattle.std.specs.Str.Parse.{digits_value}
use Rattle.std.proofs.lemmas.Bool.{and_parts, eqb-true}
use Rattle.std.proofs.lemmas.Bool.Decides.{nat_tests}
use Rattle.std.proofs.lemmas.List.Elements.{Contains-append_cases, Contains-append_left, Contains-append_right}
use Rattle.std.proofs.lemmas.List.{take-append-drop}
use Rattle.std.proofs.lemmas.List.Sums.{sum_by-cons}
use Rattle.coco_base.specs.declared.netlist.Flat.{Flat}
use Rattle.coco_base.specs.declared.netlist.Wire.{Wire}
use Rattle.coco_base.specs.declared.netlist.Wire.TheVariants.{Const}
use Rattle.coco_base.specs.declared.setup.EchoPlan.{EchoPlan}
use Rattle.coco_base.specs.declared.setup.MemPlan.{MemPlan}
use Rattle.coco_model.specs.Netlist.{IsInRange, IsWireBelow}
use Rattle.coco_model.specs.Setups.{IsMemoryPort}
use Rattle.coco_model.proofs.Basics.{Contains-here, Contains-later, Contains-none, only_member}
use Rattle.model_laws.proofs.Lists.{image_of_map, joined_of_flat_map}
use Rattle.label_file.specs.declared.line.LabelLine.{LabelLine}
use Rattle.label_file.specs.declared.line.LabelLine.TheVariants as line
use Rattle.label_file.specs.Statements.{is_dmem}
use Rattle.bind_run.specs.declared.need.Role.TheVariants as role
use Rattle.bind_run.specs.declared.nets.NetFault.TheVariants.{Outside}
use Rattle.bind_run.specs.Memories.{echo_plan, line_echoes, line_memories, wire_of}
use Rattle.bind_run.specs.Needs.{needs_of}
use Rattle.bind_run.specs.NetWords.{PlaceWord, place_word}
use Rattle.bind_run.specs.Nets.{Named, names_of, net_named, or_no_wires, or_place, place_in, place_of, port_named, wires_named, wires_of}
use Rattle.bind_run.proofs.AtBits.{at_of, bits_in-length}
use Rattle.bind_run.proofs.GivenStarts.{each_get_or}
use Rattle.bind_run.proofs.TakenLemmas.{AreTaken, LinesTaken, line_taken}

-- ---- wires of a word are wires of the netlist

abbrev pub AreBelow : ℕ → List Wire → Type 0
AreBelow bits ws = (w : Wire) → Contains ws w → IsWireBelow bits w

named_below : (bits : ℕ) (names : List Named) → ((e : Named) → Contains names e → AreBelow bits e.1) → (name : List ℕ) (ws : List Wire)
    → wires_named names name ≡ Some ws → AreBelow bits ws
named_below bits [] each name ws e = absurd cc
named_below bits (x ∷ names) each name ws e =
    go (bytes_eq name x.0) e (named_below bits names (λ y i. each y (Contains-later x y names i)) name ws)
  where
    go : (t : Bool) → cond t (Some x.1) (wires_named names name) ≡ Some ws → (wires_named names name ≡ Some ws → AreBelow bits ws) → AreBelow bits ws
    go true f rest = let same : x.1 ≡ ws = cc in subst (AreBelow bits) same (each x (Contains-here x names))
    go false f rest = rest f

all_named : (flat : Flat) → IsInRange flat → (e : Named) → Contains (names_of flat) e → AreBelow flat.bits e.1
all_named flat range e h = go (Contains-append_cases (map net_named flat.nets) (map port_named flat.ports) e h)
  where
    go : Contains (map net_named flat.nets) e ⊎ Contains (map port_named flat.ports) e → AreBelow flat.bits e.1
    go (inl i) =
        let m = image_of_map net_named flat.nets e i in
        subst (λ (x : Named). AreBelow flat.bits x.1) m.image (range.nets m.source m.listed)
    go (inr i) =
        let m = image_of_map port_named flat.ports e i in
        subst (λ (x : Named). AreBelow flat.bits x.1) m.image (range.ports m.source m.listed)

taken_is : (n : ℕ) (xs : List Wire) (w : Wire) → Contains (take n xs) w → Contains xs w
taken_is n xs w h = subst (λ ys. Contains ys w) (take-append-drop n xs) (Contains-append_left (take n xs) (drop n xs) w h)

dropped_is : (n : ℕ) (xs : List Wire) (w : Wire) → Contains (drop n xs) w → Contains xs w
dropped_is n xs w h = subst (λ ys. Contains ys w) (take-append-drop n xs) (Contains-append_right (take n xs) (drop n xs) w h)

ranged : (xs : List Wire) (a b : ℕ) (w : Wire) → Contains (slice_range xs a b) w → Contains xs w
ranged xs a b w h = dropped_is a xs w (taken_is (b - a) (drop a xs) w h)

place_below : (bits : ℕ) (digits : List ℕ) (o : Option (List Wire)) → ((ws : List Wire) → o ≡ Some ws → AreBelow bits ws)
    → AreBelow bits (or_no_wires (place_in digits o))
place_below bits digits None each w h = absurd (Contains-none w h)
place_below bits digits (Some ws) each w h = go (nat_lt (digits_value 10 digits) (length ws)) h
  where
    go : (t : Bool) → Contains (or_no_wires (if t then Ok (slice_range ws (digits_value 10 digits) (suc (digits_value 10 digits))) else Err Outside)) w → IsWireBelow bits w
    go true i = each ws refl w (ranged ws (digits_value 10 digits) (suc (digits_value 10 digits)) w i)
    go false i = absurd (Contains-none w i)

pub wires_below : (flat : Flat) → IsInRange flat → (word : List ℕ) → AreBelow flat.bits (wires_of flat word)
wires_below flat range word = go (wires_named (names_of flat) word) (λ ws e. named_below flat.bits (names_of flat) (all_named flat range) word ws e)
  where
    place : (o : Option PlaceWord) → AreBelow flat.bits (or_no_wires (place_of (names_of flat) o))
    place None = λ w h. absurd (Contains-none w h)
    place (Some p) = place_below flat.bits p.digits (wires_named (names_of flat) p.name)
        (λ ws e. named_below flat.bits (names_of flat) (all_named flat range) p.name ws e)

    go : (o : Option (List Wire)) → ((ws : List Wire) → o ≡ Some ws → AreBelow flat.bits ws) → AreBelow flat.bits (or_no_wires (or_place (names_of flat) word o))
    go (Some ws) each = each ws refl
    go None each = place (place_word word)

pub wire_below : (bits : ℕ) (ws : List Wire) (k : ℕ) → AreBelow bits ws → IsWireBelow bits (wire_of ws k)
wire_below bits ws k below = each_get_or (IsWireBelow bits) ws (Const false) below tt k

-- ---- echoes

pub sources_below : (flat : Flat) → IsInRange flat → (ls : List LabelLine) (e : EchoPlan) → Contains (flat_map (line_echoes flat) ls) e
    → IsWireBelow flat.bits e.source
sources_below flat range ls e h =
    let j = joined_of_flat_map (line_echoes flat) ls e h in go j.source j.member
  where
    go : (l : LabelLine) → Contains (line_echoes flat l) e → IsWireBelow flat.bits e.source
    go (line.Echo net source) i =
        let a = at_of (λ k b. echo_plan b (wire_of (wires_of flat source) k)) 0 (wires_of flat net) e i in
        subst (λ (x : EchoPlan). IsWireBelow flat.bits x.source) a.is (wire_below flat.bits (wires_of flat source) (0 + a.at) (wires_below flat range source))
    go l i = absurd (Contains-none e i)

-- ---- ports

pub some_wires : (n : ℕ) → (nat_le 1 n && nat_le n 32) ≡ true → (0 < n) × (n ≤ 32)
some_wires n h =
    let p = and_parts (nat_le 1 n) (nat_le n 32) h in
    let a = p.0 in
    let b = p.1 in
    (grind (arith, nat_tests, a), grind (arith, nat_tests, b))

line_port : (flat : Flat) (clock : Option ℕ) → IsInRange flat → (l : LabelLine) → AreTaken flat clock (needs_of flat l) → (mem : MemPlan)
    → Contains (line_memories flat l) mem → IsMemoryPort flat.bits mem
line_port flat clock range (line.Imem request address answer) t mem h = only_member (IsMemoryPort flat.bits) _ (record {
  some_address = (some_wires (length (wires_of flat address)) t.1.0.wide).0;
  address = (some_wires (length (wires_of flat address)) t.1.0.wide).1;
  answer = bits_in-length flat role.Input (wires_of flat answer) (t.1.1.0.driven refl) ∙ eqb-true (length (wires_of flat answer)) 32 t.1.1.0.wide;
  enables = λ s. absurd (cc);
  value = λ s. absurd (cc);
  request_below = wire_below flat.bits (wires_of flat request) 0 (wires_below flat range request);
  write_below = λ w e. absurd cc;
  address_below = wires_below flat range address;
  enables_below = λ w i. absurd (Contains-none w i);
  value_below = λ w i. absurd (Contains-none w i);
}) mem h
line_port flat clock range (line.Dmem request write enables address value answer) t mem h = only_member (IsMemoryPort flat.bits) _ (record {
  some_address = (some_wires (length (wires_of flat address)) t.1.1.1.0.wide).0;
  address = (some_wires (length (wires_of flat address)) t.1.1.1.0.wide).1;
  answer = bits_in-length flat role.Input (wires_of flat answer) (t.1.1.1.1.1.0.driven refl)
      ∙ eqb-true (length (wires_of flat answer)) 32 t.1.1.1.1.1.0.wide;
  enables = λ s. eqb-true (length (wires_of flat enables)) 4 t.1.1.0.wide;
  value = λ s. eqb-true (length (wires_of flat value)) 32 t.1.1.1.1.0.wide;
  request_below = wire_below flat.bits (wires_of flat request) 0 (wires_below flat range request);
  write_below = λ w e.
      let same : wire_of (wires_of flat write) 0 ≡ w = cc in
      subst (IsWireBelow flat.bits) same (wire_below flat.bits (wires_of flat write) 0 (wires_below flat range write));
  address_below = wires_below flat range address;
  enables_below = wires_below flat range enables;
  value_below = wires_below flat range value;
}) mem h
line_port flat clock range l t mem h = absurd (Contains-none mem h)

pub ports_are : (flat : Flat) (clock : Option ℕ) → IsInRange flat → (ls : List LabelLine) → LinesTaken flat clock ls → (mem : MemPlan)
    → Contains (flat_map (line_memories flat) ls) mem → IsMemoryPort flat.bits mem
ports_are flat clock range ls t mem h =
    let j = joined_of_flat_map (line_memories flat) ls mem h in
    line_port flat clock range j.source (line_taken flat clock ls j.source t j.listed) mem j.member

-- ---- one port writes

abbrev writers : List MemPlan → ℕ
writers [] = 0
writers (m ∷ ms) = cond {A = ℕ} (is_some m.write) 1 0 + writers ms

writers-append : (xs ys : List MemPlan) → writers (xs ++ ys) ≡ writers xs + writers ys
writers-append [] ys = omega arith
writers-append (x ∷ xs) ys = let h = writers-append xs ys in omega arith

line_writers : (flat : Flat) (l : LabelLine) → writers (line_memories flat l) ≤ cond {A = ℕ} (is_dmem l) 1 0
line_writers flat (line.Imem request address answer) = omega arith
line_writers flat (line.Dmem request write enables address value answer) = omega arith
line_writers flat l = omega arith

few_writers : (flat : Flat) (ls : List LabelLine) → writers (flat_map (line_memories flat) ls) ≤ count_by is_dmem ls
few_writers flat [] = omega arith
few_writers flat (l ∷ ls) =
    let h = few_writers flat ls in
    let o = line_writers flat l in
    let e = writers-append (line_memories flat l) (flat_map (line_memories flat) ls) in
    let s = sum_by-cons (λ x. cond {A = ℕ} (is_dmem x) 1 0) l ls in
    omega (arith, h, o, e, s)

counts_one : (m : MemPlan) → IsSome m.write → cond {A = ℕ} (is_some m.write) 1 0 ≡ 1
counts_one m s = ap (λ t. cond {A = ℕ} t 1 0) s

writer_counts : (ms : List MemPlan) (i : ℕ) (m : MemPlan) → slice_get ms i ≡ Some m → IsSome m.write → 0 < writers ms
writer_counts [] i m e s = absurd cc
writer_counts (x ∷ ms) zero m e s =
    let same : x ≡ m = cc in let c = counts_one x (subst (λ (y : MemPlan). IsSome y.write) (sym same) s) in omega (arith, c)
writer_counts (x ∷ ms) (suc i) m e s = let h = writer_counts ms i m e s in omega (arith, h)

one_of : (ms : List MemPlan) → writers ms ≤ 1 → (i j : ℕ) (one other : MemPlan) → slice_get ms i ≡ Some one → slice_get ms j ≡ Some other
    → IsSome one.write → IsSome other.write → i ≡ j
one_of [] few i j one other e f s t = absurd cc
one_of (x ∷ ms) few zero zero one other e f s t = refl
one_of (x ∷ ms) few zero (suc j) one other e f s t =
    let same : x ≡ one = cc in
    let c = counts_one x (subst (λ (y : MemPlan). IsSome y.write) (sym same) s) in
    let h = writer_counts ms j other f t in
    absurd (omega (arith, few, c, h))
one_of (x ∷ ms) few (suc i) zero one other e f s t =
    let same : x ≡ other = cc in
    let c = counts_one x (subst (λ (y : MemPlan). IsSome y.write) (sym same) t) in
    let h = writer_counts ms i one e s in
    absurd (omega (arith, few, c, h))
one_of (x ∷ ms) few (suc i) (suc j) one other e f s t =
    ap suc (one_of ms (omega (arith, few)) i j one other e f s t)

pub one_writer : (flat : Flat) (ls : List LabelLine) → count_by is_dmem ls ≤ 1 → (i j : ℕ) (one other : MemPlan)
    → slice_get (flat_map (line_memories flat) ls) i ≡ Some one → slice_get (flat_map (line_memories flat) ls) j ≡ Some other
    → IsSome one.write → IsSome other.write → i ≡ j
one_writer flat ls once = one_of (flat_map (line_memories flat) ls) (let f = few_writers flat ls in omega (arith, f, once))
