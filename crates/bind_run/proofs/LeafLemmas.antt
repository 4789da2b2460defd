-- Word leaves.
use Rattle.std.proofs.Common.{◌≡◌, ℕ, ◌<◌, ◌≤◌, ◌⊎◌, inl, inr, List, [], ◌∷◌, length, refl, sym, ◌∙◌, ap, cond, arith}
use Rattle.std.specs.Prelude.{Contains, Option, Some, None, is_some}
use Rattle.std.proofs.lemmas.List.Elements.{All-contains}
use Rattle.coco_model.specs.Controls.{IsInRegion}
use Rattle.model_laws.proofs.Lists.{joined_of_flat_map}
use Rattle.coco_model.proofs.Basics.{Contains-cases, Contains-none}
use Rattle.label_file.specs.declared.line.LabelLine.{LabelLine}
use Rattle.label_file.specs.declared.line.LabelLine.TheVariants as line
use Rattle.label_file.specs.declared.line.Labels.{Labels}
use Rattle.label_file.specs.Conditions.{AreLabels, IsLine, named_leaves}
use Rattle.bind_run.specs.Needs.{leaf_name}
use Rattle.std.specs.Prelude.{Ok, Err}
use Rattle.std.proofs.lemmas.Bool.{le-ltb}
use Rattle.std.proofs.lemmas.Bool.Decides.{Decides-ltb}
use Rattle.coco_base.specs.declared.netlist.Flat.{Flat}
use Rattle.bind_run.specs.declared.fault.BindFault.TheVariants.{NameTaken, LeafBits}
use Rattle.bind_run.specs.Nets.{AreAlike, Named, names_of, wires_named}
use Rattle.bind_run.specs.Widened.{bits_with, first_taken, leaf_addresses, or_taken, widened, widened_by}
use Rattle.bind_run.proofs.Pigeons.{few_below}

region_below : (a : ℕ) → IsInRegion a → a < 69632
region_below a (inl h) = omega (arith, h)
region_below a (inr h) = omega (arith, h.1)

line_below : (declared : ℕ) (l : LabelLine) → IsLine declared l → (a : ℕ) → Contains (named_leaves l) a → a < 69632
line_below declared (line.Leaf address) is a h = go (Contains-cases address a [] h)
  where
    go : (address ≡ a) ⊎ Contains [] a → a < 69632
    go (inl e) = let b = region_below address is.inside in omega arith
    go (inr n) = absurd (Contains-none a n)
line_below declared l is a h = absurd (Contains-none a h)

-- there are no more words than the memory has
pub few_leaves : (labels : Labels) → AreLabels labels → length (leaf_addresses labels.lines) ≤ 69632
few_leaves labels are =
    few_below 69632 (leaf_addresses labels.lines) are.once.leaves (λ a h.
    let j = joined_of_flat_map named_leaves labels.lines a h in
    line_below labels.table.declared j.source (All-contains (IsLine labels.table.declared) labels.lines j.source are.lines j.listed) a j.member)

-- names that are alike are taken alike
pub taken_alike : (names others : List Named) → AreAlike names others → (addresses : List ℕ) → first_taken names addresses ≡ first_taken others addresses
taken_alike names others a [] = refl
taken_alike names others a (x ∷ xs) =
    ap (λ o. cond (is_some o) (Some (leaf_name x)) (first_taken names xs)) (a.each (leaf_name x))
    ∙ ap (λ o. cond (is_some (wires_named others (leaf_name x))) (Some (leaf_name x)) o) (taken_alike names others a xs)

pub widen_taken : (flat : Flat) (lines : List LabelLine) (limit : ℕ) (name : List ℕ) → first_taken (names_of flat) (leaf_addresses lines) ≡ Some name
    → widened_by flat lines limit ≡ Err (NameTaken name)
widen_taken flat lines limit name e = ap (or_taken flat limit (leaf_addresses lines)) e

pub widen_large : (flat : Flat) (lines : List LabelLine) (limit count most : ℕ) → first_taken (names_of flat) (leaf_addresses lines) ≡ None
    → count ≡ bits_with flat (leaf_addresses lines) → most ≡ limit → most < count → widened_by flat lines limit ≡ Err (LeafBits count most)
widen_large flat lines limit count most e f g h =
    ap (or_taken flat limit (leaf_addresses lines)) e
    ∙ ap (λ t. cond t (Err (LeafBits (bits_with flat (leaf_addresses lines)) limit)) (Ok (widened flat (leaf_addresses lines))))
    ((Decides-ltb limit (bits_with flat (leaf_addresses lines))).1 (omega arith))
    ∙ ap (λ n. Err (LeafBits n limit)) (sym f) ∙ ap (λ n. Err (LeafBits count n)) (sym g)

pub widen_fits : (flat : Flat) (lines : List LabelLine) (limit : ℕ) (wide : Flat) → first_taken (names_of flat) (leaf_addresses lines) ≡ None
    → bits_with flat (leaf_addresses lines) ≤ limit → wide ≡ widened flat (leaf_addresses lines) → widened_by flat lines limit ≡ Ok wide
widen_fits flat lines limit wide e h f =
    ap (or_taken flat limit (leaf_addresses lines)) e
    ∙ ap (λ t. cond t (Err (LeafBits (bits_with flat (leaf_addresses lines)) limit)) (Ok (widened flat (leaf_addresses lines))))
    (le-ltb limit (bits_with flat (leaf_addresses lines)) h)
    ∙ ap Ok (sym f)

-- what is none is taken by none
pub none_taken : {X : Type 0} (o : Option X) → ((x : X) → o ≡ Some x → ⊥) → o ≡ None
none_taken None free = refl
none_taken (Some x) free = absurd (free x refl)

pub within : (count most limit bits : ℕ) → count ≡ bits → most ≡ limit → count ≤ most → bits ≤ limit
within count most limit bits e f h = omega arith
