-- The bits that lines bind are different bits of the netlist, and so there are at most as many labels of a cycle as
-- bits.
use Rattle.std.proofs.Common.{◌≡◌, ℕ, ◌+◌, ◌<◌, ◌≤◌, ◌⊎◌, inl, inr, Bool, true, false, cond, List, [], ◌∷◌, ◌++◌, length, refl, sym, ◌∙◌, ap, subst, arith}
use Rattle.std.specs.Prelude.{Contains, Option, Result, Ok, Err, flat_map, ◌&&◌}
use Rattle.std.specs.List.{list_all, list_any}
use Rattle.std.proofs.lemmas.List.{length-append}
use Rattle.coco_base.specs.declared.netlist.Flat.{Flat}
use Rattle.coco_base.specs.declared.netlist.FlatFlop.{FlatFlop}
use Rattle.coco_base.specs.declared.netlist.Wire.{Wire}
use Rattle.coco_base.specs.declared.netlist.Wire.TheVariants.{Const, Bit}
use Rattle.coco_model.specs.Netlist.{HasNoRepeat, IsInRange}
use Rattle.coco_model.proofs.Basics.{Contains-cases, Contains-none, some_from_any}
use Rattle.model_laws.proofs.Apart.{no_repeat-append}
use Rattle.gate_graph.proofs.WiredLemmas.{input_below}
use Rattle.label_file.specs.declared.line.LabelLine.{LabelLine}
use Rattle.label_file.specs.declared.line.LabelLine.TheVariants as line
use Rattle.bind_run.specs.declared.fault.BindFault.{BindFault}
use Rattle.bind_run.specs.declared.need.Role.{Role}
use Rattle.bind_run.specs.declared.need.Role.TheVariants as role
use Rattle.bind_run.specs.declared.nets.NetFault.{NetFault}
use Rattle.bind_run.specs.declared.nets.NetFault.TheVariants.{Missing, Outside}
use Rattle.bind_run.specs.Binding.{◌>>=◌, after_bound, after_meaning, after_need, after_needs, after_role, after_wires, bound_by, drives_wire, has_bit, is_driven, wire_clashes}
use Rattle.bind_run.specs.Inputs.{fresh_count, fresh_width}
use Rattle.bind_run.specs.Needs.{Need, binds, fits, needs_of}
use Rattle.bind_run.specs.Nets.{meaning_of, or_no_wires, wires_of}
use Rattle.bind_run.proofs.DriverLemmas.{has_bit-Decides, is_flop_bit-Decides, is_input_bit-Decides}
use Rattle.bind_run.proofs.Pigeons.{few_below, member_append}

-- different bits of the netlist
pub record AreBits (flat : Flat) (bits : List ℕ) : Type 0 where
  pub once : HasNoRepeat bits
  pub below : (b : ℕ) → Contains bits b → b < flat.bits

-- bits with so many more
pub record IsGrown (flat : Flat) (bits : List ℕ) (more : ℕ) (after : List ℕ) : Type 0 where
  pub are : AreBits flat after
  pub long : length bits + more ≤ length after

pub record Passed {A : Type 0} (t : Bool) (r : Result A BindFault) (x : A) : Type 0 where
  pub held : t ≡ true
  pub gave : r ≡ Ok x

-- a test that had to hold did, and one that had to fail did
pub passed : {A : Type 0} (t : Bool) (r : Result A BindFault) (f : BindFault) (x : A) → cond t r (Err f) ≡ Ok x → Passed t r x
passed true r f x e = record { held = refl; gave = e }
passed false r f x e = absurd cc

pub record Failed {A : Type 0} (t : Bool) (r : Result A BindFault) (x : A) : Type 0 where
  pub failed : t ≡ false
  pub gave : r ≡ Ok x

pub failed_test : {A : Type 0} (t : Bool) (r : Result A BindFault) (f : BindFault) (x : A) → cond t (Err f) r ≡ Ok x → Failed t r x
failed_test true r f x e = absurd cc
failed_test false r f x e = record { failed = refl; gave = e }

one_more : (flat : Flat) (bits : List ℕ) (b : ℕ) → AreBits flat bits → b < flat.bits → has_bit bits b ≡ false → AreBits flat (bits ++ b ∷ [])
one_more flat bits b are below new = record {
  once = no_repeat-append bits (b ∷ []) (record {
    left = are.once;
    right = (Contains-none b, tt);
    apart = λ x i j. only x i (Contains-cases b x [] j);
  });
  below = λ x i. of x (member_append bits (b ∷ []) x i);
}
  where
    only : (x : ℕ) → Contains bits x → (b ≡ x) ⊎ Contains [] x → ⊥
    only x i (inl e) = let t : has_bit bits b ≡ true = (has_bit-Decides bits b).1 (subst (Contains bits) (sym e) i) in absurd cc
    only x i (inr n) = Contains-none x n

    last : (x : ℕ) → (b ≡ x) ⊎ Contains [] x → x < flat.bits
    last x (inl e) = subst (λ n. n < flat.bits) e below
    last x (inr n) = absurd (Contains-none x n)

    of : (x : ℕ) → Contains bits x ⊎ Contains (b ∷ []) x → x < flat.bits
    of x (inl i) = are.below x i
    of x (inr j) = last x (Contains-cases b x [] j)

driven_below : (flat : Flat) → IsInRange flat → (r : Role) (b : ℕ) → is_driven flat r b ≡ true → b < flat.bits
driven_below flat range role.Flop b t =
    let s = some_from_any (λ (f : FlatFlop). f.output ≡ b) flat.flops ((is_flop_bit-Decides flat b).0 t) in
    subst (λ n. n < flat.bits) s.holds (range.flops s.member s.listed)
driven_below flat range role.Read b t = input_below flat range b ((is_input_bit-Decides flat b).0 t)
driven_below flat range role.Input b t = input_below flat range b ((is_input_bit-Decides flat b).0 t)
driven_below flat range role.Clock b t = input_below flat range b ((is_input_bit-Decides flat b).0 t)

both : (a b : Bool) → (a && b) ≡ true → (a ≡ true) × (b ≡ true)
both true b e = (refl, e)
both false b e = absurd cc

-- the bits of a net that is driven are bound, one for each wire
wires_grow : (flat : Flat) → IsInRange flat → (r : Role) (word bits : List ℕ) (ws : List Wire) (after : List ℕ) → AreBits flat bits
    → list_all (drives_wire flat r) ws ≡ true → after_wires bits word ws ≡ Ok after → IsGrown flat bits (length ws) after
wires_grow flat range r word bits [] after are driven e =
    let same : bits ≡ after = cc in subst (IsGrown flat bits 0) same (record { are = are; long = omega arith })
wires_grow flat range r word bits (Const c ∷ ws) after are driven e = absurd cc
wires_grow flat range r word bits (Bit b ∷ ws) after are driven e =
    let d = both (is_driven flat r b) (list_all (drives_wire flat r) ws) driven in
    let f = failed_test (has_bit bits b) (after_wires (bits ++ b ∷ []) word ws) _ after e in
    let g = wires_grow flat range r word (bits ++ b ∷ []) ws after (one_more flat bits b are (driven_below flat range r b d.0) f.failed) d.1 f.gave in
    record { are = g.are; long = let l = length-append bits (b ∷ []) in let h = g.long in omega arith }

-- how many bits a net of a line binds
abbrev need_width : Flat → Need → ℕ
need_width flat n = cond (binds n.role) (length (wires_of flat n.word)) 0

abbrev needs_width : Flat → List Need → ℕ
needs_width flat [] = 0
needs_width flat (n ∷ ns) = need_width flat n + needs_width flat ns

role_grows : (flat : Flat) → IsInRange flat → (clock : Option ℕ) (bits word : List ℕ) (r : Role) (ws after : List _) → AreBits flat bits
    → after_role flat clock bits word r ws ≡ Ok after → (t : Bool) → binds r ≡ t → IsGrown flat bits (cond t (length ws) 0) after
role_grows flat range clock bits word r ws after are e true b =
    let f : after_bound flat clock bits word r ws ≡ Ok after = sym (ap (λ t. cond t (after_bound flat clock bits word r ws) (Ok bits)) b) ∙ e in
    let p = passed (list_all (drives_wire flat r) ws) _ _ after f in
    let q = failed_test (list_any (wire_clashes flat clock r) ws) (after_wires bits word ws) _ after p.gave in
    wires_grow flat range r word bits ws after are p.held q.gave
role_grows flat range clock bits word r ws after are e false b =
    let f : Ok bits ≡ Ok after = sym (ap (λ t. cond t (after_bound flat clock bits word r ws) (Ok bits)) b) ∙ e in
    let same : bits ≡ after = cc in subst (IsGrown flat bits 0) same (record { are = are; long = omega arith })

need_grows : (flat : Flat) → IsInRange flat → (clock : Option ℕ) (bits : List ℕ) (n : Need) (after : List ℕ) → AreBits flat bits
    → after_need flat clock bits n ≡ Ok after → IsGrown flat bits (need_width flat n) after
need_grows flat range clock bits n after are e = go (meaning_of flat n.word) refl
  where
    go : (m : Result (List Wire) NetFault) → meaning_of flat n.word ≡ m → IsGrown flat bits (need_width flat n) after
    go (Err Missing) h = let f = sym (ap (after_meaning flat clock bits n) h) ∙ e in absurd cc
    go (Err Outside) h = let f = sym (ap (after_meaning flat clock bits n) h) ∙ e in absurd cc
    go (Ok ws) h =
        let f = sym (ap (after_meaning flat clock bits n) h) ∙ e in
        let p = passed (fits n.wide (length ws)) (after_role flat clock bits n.word n.role ws) _ after f in
        subst (λ (vs : List Wire). IsGrown flat bits (cond (binds n.role) (length vs) 0) after) (sym (ap or_no_wires h))
        (role_grows flat range clock bits n.word n.role ws after are p.gave (binds n.role) refl)

needs_grow : (flat : Flat) → IsInRange flat → (clock : Option ℕ) (bits : List ℕ) (ns : List Need) (after : List ℕ) → AreBits flat bits
    → after_needs flat clock bits ns ≡ Ok after → IsGrown flat bits (needs_width flat ns) after
needs_grow flat range clock bits [] after are e =
    let same : bits ≡ after = cc in subst (IsGrown flat bits 0) same (record { are = are; long = omega arith })
needs_grow flat range clock bits (n ∷ ns) after are e = go (after_need flat clock bits n) refl (λ more m f. needs_grow flat range clock more ns after m f)
  where
    go : (r : Result (List ℕ) BindFault) → after_need flat clock bits n ≡ r
        → ((more : List ℕ) → AreBits flat more → after_needs flat clock more ns ≡ Ok after → IsGrown flat more (needs_width flat ns) after)
        → IsGrown flat bits (need_width flat n + needs_width flat ns) after
    go (Err f) h rest = let g = sym (ap (λ r. r >>= (λ more. after_needs flat clock more ns)) h) ∙ e in absurd cc
    go (Ok more) h rest =
        let f = sym (ap (λ r. r >>= (λ more. after_needs flat clock more ns)) h) ∙ e in
        let one = need_grows flat range clock bits n more are h in
        let g = rest more one.are f in
        record { are = g.are; long = let a = one.long in let b = g.long in omega arith }

needs_width-append : (flat : Flat) (ns ms : List Need) → needs_width flat (ns ++ ms) ≡ needs_width flat ns + needs_width flat ms
needs_width-append flat [] ms = let e : 0 + needs_width flat ms ≡ needs_width flat ms = omega arith in sym e
needs_width-append flat (n ∷ ns) ms = let h = needs_width-append flat ns ms in omega arith

line_width : (flat : Flat) (l : LabelLine) → fresh_width flat l ≤ needs_width flat (needs_of flat l)
line_width flat (line.Fresh net name) = omega arith
line_width flat l = omega arith

lines_width : (flat : Flat) (ls : List LabelLine) → fresh_count flat ls ≤ needs_width flat (flat_map (needs_of flat) ls)
lines_width flat [] = omega arith
lines_width flat (l ∷ ls) =
    let a = line_width flat l in let b = lines_width flat ls in let e = needs_width-append flat (needs_of flat l) (flat_map (needs_of flat) ls) in omega arith

pub bound_bits : (flat : Flat) → IsInRange flat → (clock : Option ℕ) (lines : List LabelLine) (bound : List ℕ)
    → bound_by flat clock lines ≡ Ok bound → AreBits flat bound
bound_bits flat range clock lines bound e =
    (needs_grow flat range clock [] (flat_map (needs_of flat) lines) bound (record { once = tt; below = λ b h. absurd (Contains-none b h) }) e).are

-- lines without a fault add no more labels to a cycle than the netlist has bits
pub few_fresh : (flat : Flat) → IsInRange flat → (clock : Option ℕ) (lines : List LabelLine) (bound : List ℕ)
    → bound_by flat clock lines ≡ Ok bound → fresh_count flat lines ≤ flat.bits
few_fresh flat range clock lines bound e =
    let g = needs_grow flat range clock [] (flat_map (needs_of flat) lines) bound (record { once = tt; below = λ b h. absurd (Contains-none b h) }) e in
    let w = lines_width flat lines in
    let p = few_below flat.bits bound g.are.once g.are.below in
    let l = g.long in omega arith
