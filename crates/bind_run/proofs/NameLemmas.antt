-- Tables of names.
use Rattle.std.proofs.Common.{◌≡◌, ℕ, Bool, true, false, cond, List, [], ◌∷◌, ◌++◌, map, take, length, get_or, Vec, Bor, refl, sym, ◌∙◌, ap, subst, nat_eq, ◌+◌, ◌<◌}
use Rattle.std.specs.Prelude.{Option, Some, None}
use Rattle.std.specs.declared.alloc.Global.{Global}
use Rattle.std.specs.Cmp.Lexicographic.{pointwise}
use Rattle.std.specs.Map.{lookup}
use Rattle.std.specs.Option.{option_map, is_some}
use Rattle.std.specs.Str.{bytes_eq}
use Rattle.std.proofs.lemmas.List.{append_assoc, map-append}
use Rattle.std.proofs.lemmas.Slice.Eq.{bytes_eq-Decides}
use Rattle.gate_graph.proofs.Items.{taken_at}
use Rattle.coco_base.specs.declared.netlist.Flat.{Flat}
use Rattle.coco_base.specs.declared.netlist.FlatNet.{FlatNet}
use Rattle.coco_base.specs.declared.netlist.FlatPort.{FlatPort}
use Rattle.coco_base.specs.declared.netlist.Wire.{Wire}
use Rattle.bind_run.specs.Nets.{AreAlike, Named, names_of, net_named, port_named, wires_named}
use Rattle.bind_run.specs.NameTables.{seen_entries}
use Rattle.bind_run.specs.WordPlans.{first_of}

abbrev Entry : Type 0
Entry = Vec ℕ Global × Bor (List Wire)

abbrev found : List ℕ → List Entry → Option (Bor (List Wire))
found name entries = lookup (λ (k : Vec ℕ Global). pointwise nat_eq name k.items) entries

abbrev wires_now : Option (Bor (List Wire)) → Option (List Wire)
wires_now o = option_map (λ (ws : Bor (List Wire)). ws.now) o

seen_cond : (b : Bool) (e : Bor (List Wire)) (o : Option (Bor (List Wire))) (p : Option (List Wire)) → wires_now o ≡ p → wires_now (cond b (Some e) o) ≡ cond b (Some e.now) p
seen_cond true e o p h = refl
seen_cond false e o p h = h

pub found_seen : (name : List ℕ) (entries : List Entry) → wires_now (found name entries) ≡ wires_named (seen_entries entries) name
found_seen name [] = refl
found_seen name (e ∷ es) =
    seen_cond (bytes_eq name e.0.items) e.1 (found name es) (wires_named (seen_entries es) name) (found_seen name es)

pub none_found : (o : Option (Bor (List Wire))) → wires_now o ≡ None → o ≡ None
none_found None h = refl
none_found (Some ws) h = absurd cc

pub seen_more : (entries : List Entry) (key : Vec ℕ Global) (wires : Bor (List Wire))
    → seen_entries (entries ++ (key, wires) ∷ []) ≡ seen_entries entries ++ (key.items, wires.now) ∷ []
seen_more entries key wires = map-append (λ (e : Entry). (e.0.items, e.1.now)) entries ((key, wires) ∷ [])

cond_first : (b : Bool) (x : List Wire) (o p q : Option (List Wire)) → o ≡ first_of p q → cond b (Some x) o ≡ first_of (cond b (Some x) p) q
cond_first true x o p q h = refl
cond_first false x o p q h = h

pub wires_named-append : (xs ys : List Named) (name : List ℕ) → wires_named (xs ++ ys) name ≡ first_of (wires_named xs name) (wires_named ys name)
wires_named-append [] ys name = refl
wires_named-append (x ∷ xs) ys name =
    cond_first (bytes_eq name x.0) x.1 (wires_named (xs ++ ys) name) (wires_named xs name) (wires_named ys name) (wires_named-append xs ys name)

pub alike_refl : (xs : List Named) → AreAlike xs xs
alike_refl xs = record { each = λ name. refl }

pub alike_trans : (xs ys zs : List Named) → AreAlike xs ys → AreAlike ys zs → AreAlike xs zs
alike_trans xs ys zs a b = record { each = λ name. a.each name ∙ b.each name }

pub alike_append : (xs ys zs : List Named) → AreAlike xs ys → AreAlike (xs ++ zs) (ys ++ zs)
alike_append xs ys zs a = record {
  each = λ name. wires_named-append xs zs name ∙ ap (λ o. first_of o (wires_named zs name)) (a.each name) ∙ sym (wires_named-append ys zs name);
}

-- a name that is there already adds nothing
pub alike_present : (names : List Named) (name : List ℕ) (wires found : List Wire) → wires_named names name ≡ Some found
    → AreAlike names (names ++ (name, wires) ∷ [])
alike_present names name wires found there = record {
  each = λ q. go q (wires_named names q) refl (bytes_eq q name) refl ∙ sym (wires_named-append names ((name, wires) ∷ []) q);
}
  where
    go : (q : List ℕ) (o : Option (List Wire)) → wires_named names q ≡ o → (b : Bool) → bytes_eq q name ≡ b
        → wires_named names q ≡ first_of (wires_named names q) (cond (bytes_eq q name) (Some wires) None)
    go q (Some ws) e b f = e ∙ sym (ap (λ o. first_of o (cond (bytes_eq q name) (Some wires) None)) e)
    go q None e true f =
        let same : q ≡ name = (bytes_eq-Decides q name).0 f in
        let other : wires_named names q ≡ Some found = ap (wires_named names) same ∙ there in
        absurd cc
    go q None e false f =
        e ∙ sym (ap (λ o. first_of o (cond (bytes_eq q name) (Some wires) None)) e ∙ ap (λ b. cond b (Some wires) None) f)

-- one name more of a list
pub alike_more : {X : Type 0} (named : X → Named) (before names after : List Named) (xs : List X) (i : ℕ) (x : X) → i < length xs
    → x ≡ get_or xs i x → AreAlike names (before ++ map named (take i xs)) → AreAlike after (names ++ named x ∷ [])
    → AreAlike after (before ++ map named (take (i + 1) xs))
alike_more named before names after xs i x below at a b =
    subst (AreAlike after)
    (append_assoc before (map named (take i xs)) (named x ∷ [])
    ∙ ap (λ ys. before ++ ys) (sym (map-append named (take i xs) (x ∷ [])) ∙ ap (map named) (sym (taken_at xs i x below at))))
    (alike_trans after (names ++ named x ∷ []) ((before ++ map named (take i xs)) ++ named x ∷ []) b
    (alike_append names (before ++ map named (take i xs)) (named x ∷ []) a))

-- a name that is found adds nothing
pub alike_found : (names : List Named) (name : List ℕ) (wires : List Wire) (o : Option (Bor (List Wire))) → is_some o ≡ true
    → wires_now o ≡ wires_named names name → AreAlike names (names ++ (name, wires) ∷ [])
alike_found names name wires None some h = absurd cc
alike_found names name wires (Some ws) some h = alike_present names name wires ws.now (sym h)

abbrev pub pair : List ℕ → List Wire → Named
pair name wires = (name, wires)

pub same_pair : (a b : List ℕ) (v w : List Wire) → a ≡ b → v ≡ w → pair a v ≡ pair b w
same_pair a b v w e f = ap (λ x. pair x v) e ∙ ap (λ y. pair b y) f

pub all_names : (flat : Flat) (none : List Named) (nets : List FlatNet) (ports : List FlatPort) → none ≡ [] → nets ≡ flat.nets
    → ports ≡ flat.ports → (none ++ map net_named nets) ++ map port_named ports ≡ names_of flat
all_names flat none nets ports e f g =
    ap (λ (m : List Named). (m ++ map net_named nets) ++ map port_named ports) e ∙ ap (λ ns. map net_named ns ++ map port_named ports) f
    ∙ ap (λ ps. map net_named flat.nets ++ map port_named ps) g
