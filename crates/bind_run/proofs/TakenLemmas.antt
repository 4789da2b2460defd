-- What lines without a fault have of their nets: each net has the width that its line needs, bits that are bound are
-- driven by what has to drive them and do not clash with the clock, and the bits that are bound are those of these nets.
use Rattle.std.proofs.Common.{◌≡◌, ℕ, ◌⊎◌, inl, inr, Bool, true, false, cond, List, [], ◌∷◌, ◌++◌, length, refl, sym, ◌∙◌, ap, subst}
use Rattle.std.specs.Prelude.{Contains, Option, Result, Ok, Err, flat_map}
use Rattle.std.specs.List.{list_all, list_any}
use Rattle.std.proofs.lemmas.Grind.{flat_map-append}
use Rattle.std.proofs.lemmas.List.{append_assoc, append-nil}
use Rattle.coco_base.specs.declared.netlist.Flat.{Flat}
use Rattle.coco_base.specs.declared.netlist.Wire.{Wire}
use Rattle.coco_base.specs.declared.netlist.Wire.TheVariants.{Const, Bit}
use Rattle.coco_model.specs.Netlist.{bits_in}
use Rattle.coco_model.proofs.Basics.{Contains-cases, Contains-none}
use Rattle.label_file.specs.declared.line.LabelLine.{LabelLine}
use Rattle.bind_run.specs.declared.fault.BindFault.{BindFault}
use Rattle.bind_run.specs.declared.need.Role.{Role}
use Rattle.bind_run.specs.declared.nets.NetFault.{NetFault}
use Rattle.bind_run.specs.declared.nets.NetFault.TheVariants.{Missing, Outside}
use Rattle.bind_run.specs.Binding.{◌>>=◌, after_bound, after_meaning, after_need, after_needs, after_role, after_wires, bound_by, drives_wire, has_bit, wire_clashes}
use Rattle.bind_run.specs.Needs.{Need, binds, fits, needs_of}
use Rattle.bind_run.specs.Nets.{meaning_of, or_no_wires, wires_of}
use Rattle.bind_run.proofs.BoundLemmas.{failed_test, passed}

-- what the net of a line has
pub record IsTaken (flat : Flat) (clock : Option ℕ) (n : Need) : Type 0 where
  pub wide : fits n.wide (length (wires_of flat n.word)) ≡ true
  pub driven : binds n.role ≡ true → list_all (drives_wire flat n.role) (wires_of flat n.word) ≡ true
  pub free : binds n.role ≡ true → list_any (wire_clashes flat clock n.role) (wires_of flat n.word) ≡ false

abbrev pub AreTaken : Flat → Option ℕ → List Need → Type 0
AreTaken flat clock [] = Unit {0}
AreTaken flat clock (n ∷ ns) = IsTaken flat clock n × AreTaken flat clock ns

abbrev pub LinesTaken : Flat → Option ℕ → List LabelLine → Type 0
LinesTaken flat clock [] = Unit {0}
LinesTaken flat clock (l ∷ ls) = AreTaken flat clock (needs_of flat l) × LinesTaken flat clock ls

-- the bits that a net of a line binds
abbrev pub need_bits : Flat → Need → List ℕ
need_bits flat n = cond (binds n.role) (bits_in (wires_of flat n.word)) []

abbrev pub line_bits : Flat → LabelLine → List ℕ
line_bits flat l = flat_map (need_bits flat) (needs_of flat l)

wires_after : (word bits : List ℕ) (ws : List Wire) (after : List ℕ) → after_wires bits word ws ≡ Ok after → after ≡ bits ++ bits_in ws
wires_after word bits [] after e = let same : bits ≡ after = cc in sym same ∙ sym (append-nil bits)
wires_after word bits (Const c ∷ ws) after e = wires_after word bits ws after e
wires_after word bits (Bit b ∷ ws) after e =
    let f = failed_test (has_bit bits b) (after_wires (bits ++ b ∷ []) word ws) _ after e in
    wires_after word (bits ++ b ∷ []) ws after f.gave ∙ append_assoc bits (b ∷ []) (bits_in ws)

record RoleTaken (flat : Flat) (clock : Option ℕ) (bits : List ℕ) (r : Role) (ws : List Wire) (after : List ℕ) : Type 0 where
  driven : binds r ≡ true → list_all (drives_wire flat r) ws ≡ true
  free : binds r ≡ true → list_any (wire_clashes flat clock r) ws ≡ false
  is : after ≡ bits ++ cond (binds r) (bits_in ws) []

clash : {P : Type 0} (b : Bool) → b ≡ false → b ≡ true → P
clash b f t = absurd cc

role_taken : (flat : Flat) (clock : Option ℕ) (bits word : List ℕ) (r : Role) (ws : List Wire) (after : List ℕ)
    → after_role flat clock bits word r ws ≡ Ok after → (t : Bool) → binds r ≡ t → RoleTaken flat clock bits r ws after
role_taken flat clock bits word r ws after e true b =
    let f : after_bound flat clock bits word r ws ≡ Ok after = sym (ap (λ t. cond t (after_bound flat clock bits word r ws) (Ok bits)) b) ∙ e in
    let p = passed (list_all (drives_wire flat r) ws) _ _ after f in
    let q = failed_test (list_any (wire_clashes flat clock r) ws) (after_wires bits word ws) _ after p.gave in
    record {
      driven = λ y. p.held;
      free = λ y. q.failed;
      is = wires_after word bits ws after q.gave ∙ ap (λ t. bits ++ cond t (bits_in ws) []) (sym b);
    }
role_taken flat clock bits word r ws after e false b =
    let f : Ok bits ≡ Ok after = sym (ap (λ t. cond t (after_bound flat clock bits word r ws) (Ok bits)) b) ∙ e in
    let same : bits ≡ after = cc in
    record {
      driven = λ y. clash (binds r) b y;
      free = λ y. clash (binds r) b y;
      is = sym same ∙ sym (append-nil bits) ∙ ap (λ t. bits ++ cond t (bits_in ws) []) (sym b);
    }

record NeedTaken (flat : Flat) (clock : Option ℕ) (bits : List ℕ) (n : Need) (after : List ℕ) : Type 0 where
  taken : IsTaken flat clock n
  is : after ≡ bits ++ need_bits flat n

need_taken : (flat : Flat) (clock : Option ℕ) (bits : List ℕ) (n : Need) (after : List ℕ) → after_need flat clock bits n ≡ Ok after
    → NeedTaken flat clock bits n after
need_taken flat clock bits n after e = go (meaning_of flat n.word) refl
  where
    go : (m : Result (List Wire) NetFault) → meaning_of flat n.word ≡ m → NeedTaken flat clock bits n after
    go (Err Missing) h = let f = sym (ap (after_meaning flat clock bits n) h) ∙ e in absurd cc
    go (Err Outside) h = let f = sym (ap (after_meaning flat clock bits n) h) ∙ e in absurd cc
    go (Ok ws) h =
        let f = sym (ap (after_meaning flat clock bits n) h) ∙ e in
        let p = passed (fits n.wide (length ws)) (after_role flat clock bits n.word n.role ws) _ after f in
        let r = role_taken flat clock bits n.word n.role ws after p.gave (binds n.role) refl in
        let same : ws ≡ wires_of flat n.word = sym (ap or_no_wires h) in
        record {
          taken = record {
            wide = subst (λ (vs : List Wire). fits n.wide (length vs) ≡ true) same p.held;
            driven = subst (λ (vs : List Wire). binds n.role ≡ true → list_all (drives_wire flat n.role) vs ≡ true) same r.driven;
            free = subst (λ (vs : List Wire). binds n.role ≡ true → list_any (wire_clashes flat clock n.role) vs ≡ false) same r.free;
          };
          is = r.is ∙ ap (λ (vs : List Wire). bits ++ cond (binds n.role) (bits_in vs) []) same;
        }

record NeedsTaken (flat : Flat) (clock : Option ℕ) (bits : List ℕ) (ns : List Need) (after : List ℕ) : Type 0 where
  taken : AreTaken flat clock ns
  is : after ≡ bits ++ flat_map (need_bits flat) ns

needs_taken : (flat : Flat) (clock : Option ℕ) (bits : List ℕ) (ns : List Need) (after : List ℕ) → after_needs flat clock bits ns ≡ Ok after
    → NeedsTaken flat clock bits ns after
needs_taken flat clock bits [] after e =
    let same : bits ≡ after = cc in record { taken = tt; is = sym same ∙ sym (append-nil bits) }
needs_taken flat clock bits (n ∷ ns) after e = go (after_need flat clock bits n) refl (λ more f. needs_taken flat clock more ns after f)
  where
    go : (r : Result (List ℕ) BindFault) → after_need flat clock bits n ≡ r
        → ((more : List ℕ) → after_needs flat clock more ns ≡ Ok after → NeedsTaken flat clock more ns after)
        → NeedsTaken flat clock bits (n ∷ ns) after
    go (Err f) h rest = let g = sym (ap (λ r. r >>= (λ more. after_needs flat clock more ns)) h) ∙ e in absurd cc
    go (Ok more) h rest =
        let f = sym (ap (λ r. r >>= (λ more. after_needs flat clock more ns)) h) ∙ e in
        let one = need_taken flat clock bits n more h in
        let g = rest more f in
        record {
          taken = (one.taken, g.taken);
          is = g.is ∙ ap (λ bs. bs ++ flat_map (need_bits flat) ns) one.is ∙ append_assoc bits (need_bits flat n) (flat_map (need_bits flat) ns);
        }

taken_parts : (flat : Flat) (clock : Option ℕ) (ns ms : List Need) → AreTaken flat clock (ns ++ ms) → AreTaken flat clock ns × AreTaken flat clock ms
taken_parts flat clock [] ms h = (tt, h)
taken_parts flat clock (n ∷ ns) ms h = let r = taken_parts flat clock ns ms h.1 in ((h.0, r.0), r.1)

taken_lines : (flat : Flat) (clock : Option ℕ) (ls : List LabelLine) → AreTaken flat clock (flat_map (needs_of flat) ls) → LinesTaken flat clock ls
taken_lines flat clock [] h = tt
taken_lines flat clock (l ∷ ls) h =
    let p = taken_parts flat clock (needs_of flat l) (flat_map (needs_of flat) ls) h in (p.0, taken_lines flat clock ls p.1)

bits_of_lines : (flat : Flat) (ls : List LabelLine) → flat_map (need_bits flat) (flat_map (needs_of flat) ls) ≡ flat_map (line_bits flat) ls
bits_of_lines flat [] = refl
bits_of_lines flat (l ∷ ls) =
    flat_map-append (need_bits flat) (needs_of flat l) (flat_map (needs_of flat) ls) ∙ ap (λ bs. line_bits flat l ++ bs) (bits_of_lines flat ls)

-- what lines without a fault have, and the bits that they bind
pub record AreTakenLines (flat : Flat) (clock : Option ℕ) (lines : List LabelLine) (bound : List ℕ) : Type 0 where
  pub taken : LinesTaken flat clock lines
  pub bits : bound ≡ flat_map (line_bits flat) lines

pub lines_taken : (flat : Flat) (clock : Option ℕ) (lines : List LabelLine) (bound : List ℕ) → bound_by flat clock lines ≡ Ok bound
    → AreTakenLines flat clock lines bound
lines_taken flat clock lines bound e =
    let n = needs_taken flat clock [] (flat_map (needs_of flat) lines) bound e in
    record { taken = taken_lines flat clock lines n.taken; bits = n.is ∙ bits_of_lines flat lines }

-- the nets of each line
pub line_taken : (flat : Flat) (clock : Option ℕ) (ls : List LabelLine) (l : LabelLine) → LinesTaken flat clock ls → Contains ls l
    → AreTaken flat clock (needs_of flat l)
line_taken flat clock [] l h i = absurd (Contains-none l i)
line_taken flat clock (k ∷ ls) l h i = go (Contains-cases k l ls i) (line_taken flat clock ls l h.1)
  where
    go : (k ≡ l) ⊎ Contains ls l → (Contains ls l → AreTaken flat clock (needs_of flat l)) → AreTaken flat clock (needs_of flat l)
    go (inl e) rest = subst (λ x. AreTaken flat clock (needs_of flat x)) e h.0
    go (inr j) rest = rest j
