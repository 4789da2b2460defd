-- Nodes of a list, and the inputs of a gate that vary.
use Rattle.std.proofs.Common.{◌≡◌, ◌≢◌, ℕ, ◌<◌, ◌≤◌, ◌⊎◌, inl, inr, List, length, get_or, sym, ◌∙◌, arith, lit≤}
use Rattle.std.proofs.lemmas.List.{get_or-take, get_or_past, length-take}
use Rattle.std.proofs.lemmas.Bool.{cases_lt}
use Rattle.coco_base.specs.declared.cell.Kind.{Kind}
use Rattle.coco_base.specs.declared.cell.Kind.TheVariants.{Buf, Not, And, Nand, Or, Nor, Xor, Xnor, AndNot, OrNot, Mux, Nmux, Aoi3, Oai3, Aoi4, Oai4}
use Rattle.coco_base.specs.declared.cell.Part.{Part}
use Rattle.coco_base.specs.declared.cell.Part.TheVariants.{Zero, Vary}
use Rattle.coco_base.specs.declared.unrolled.Node.{Node}
use Rattle.coco_base.specs.declared.unrolled.Node.TheVariants.{Nothing}
use Rattle.coco_model.specs.Cells.{input_count, input_places}
use Rattle.label_cone.specs.NodeCones.{AreEarlier, node_in}

pub input_count-four : (kind : Kind) → input_count kind ≤ 4
input_count-four Buf = lit≤ tt
input_count-four Not = lit≤ tt
input_count-four And = lit≤ tt
input_count-four Nand = lit≤ tt
input_count-four Or = lit≤ tt
input_count-four Nor = lit≤ tt
input_count-four Xor = lit≤ tt
input_count-four Xnor = lit≤ tt
input_count-four AndNot = lit≤ tt
input_count-four OrNot = lit≤ tt
input_count-four Mux = lit≤ tt
input_count-four Nmux = lit≤ tt
input_count-four Aoi3 = lit≤ tt
input_count-four Oai3 = lit≤ tt
input_count-four Aoi4 = lit≤ tt
input_count-four Oai4 = lit≤ tt

-- a part that varies is in its list
pub varying_inside : (parts : List Part) (place : ℕ) → get_or parts place Zero ≡ Vary → place < length parts
varying_inside parts place e = go (cases_lt place (length parts))
  where
    go : (place < length parts) ⊎ (length parts ≤ place) → place < length parts
    go (inl below) = below
    go (inr past) = absurd (let f : Zero ≡ Vary = sym (get_or_past parts place Zero past) ∙ e in cc)

pub place_of_input : (kind : Kind) (parts : List Part) (place : ℕ) → get_or (input_places kind parts) place Zero ≡ Vary
    → place < input_count kind
place_of_input kind parts place e =
    let short = length-take (input_count kind) parts in
    let inside = varying_inside (input_places kind parts) place e in
    omega (arith, short, inside)

pub place_below_four : (kind : Kind) (parts : List Part) (place : ℕ) → get_or (input_places kind parts) place Zero ≡ Vary → place < 4
place_below_four kind parts place e =
    let low = place_of_input kind parts place e in let four = input_count-four kind in omega (arith, low, four)

-- an input that varies is a part that varies
pub part_of_input : (kind : Kind) (parts : List Part) (place : ℕ) → get_or (input_places kind parts) place Zero ≡ Vary
    → get_or parts place Zero ≡ Vary
part_of_input kind parts place e =
    sym (get_or-take (input_count kind) parts place Zero (place_of_input kind parts place e)) ∙ e

pub input_of_part : (kind : Kind) (parts : List Part) (place : ℕ) → place < input_count kind → get_or parts place Zero ≡ Vary
    → get_or (input_places kind parts) place Zero ≡ Vary
input_of_part kind parts place below e = get_or-take (input_count kind) parts place Zero below ∙ e

-- a node that is something is in its list
pub node_inside : (nodes : List Node) (i : ℕ) → node_in nodes i ≢ Nothing → i < length nodes
node_inside nodes i some = go (cases_lt i (length nodes))
  where
    go : (i < length nodes) ⊎ (length nodes ≤ i) → i < length nodes
    go (inl below) = below
    go (inr past) = absurd (some (get_or_past nodes i Nothing past))

-- what is so of the first four places is so of all
pub all_earlier : (parts : List Part) (operands : List ℕ) (i : ℕ) → length parts ≡ 4
    → ((j : ℕ) → j < 4 → get_or parts j Zero ≡ Vary → get_or operands j 0 < i) → AreEarlier parts operands i
all_earlier parts operands i four each j varies =
    each j (let inside = varying_inside parts j varies in omega (arith, four, inside)) varies
