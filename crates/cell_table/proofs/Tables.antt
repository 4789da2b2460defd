-- Tests over the whole table of gates and parts, which compute, and the rules that they show.
use Rattle.std.proofs.Common.{◌≡◌, ℕ, zero, suc, Bool, true, false, ◌&&◌, List, [], ◌∷◌, get_or, length, refl, sym, ◌∙◌, subst, arith}
use Rattle.std.proofs.lemmas.Bool.{and_parts}
use Rattle.std.proofs.Math.Bool.{beq}
use Rattle.coco_base.specs.declared.cell.Kind.{Kind}
use Rattle.coco_base.specs.declared.cell.Kind.TheVariants.{Buf, Not, And, Nand, Or, Nor, Xor, Xnor, AndNot, OrNot, Mux, Nmux, Aoi3, Oai3, Aoi4, Oai4}
use Rattle.coco_base.specs.declared.cell.Part.{Part}
use Rattle.coco_base.specs.declared.cell.Part.TheVariants.{Zero, One, Vary}
use Rattle.coco_model.specs.Cells.{input_places, IsForced, IsLiveInput}
use Rattle.cell_table.specs.Ternary.{ternary}
use Rattle.cell_table.specs.Live.{matters}
use Rattle.cell_table.proofs.Listed.{forces_test, forced_from_test, live_test, live_from_test, test_from_live}

-- tests over all parts, and over all kinds
abbrev pub every_part : (Part → Bool) → Bool
every_part f = f Zero && (f One && f Vary)

pub every_part_at : (f : Part → Bool) → every_part f ≡ true → (p : Part) → f p ≡ true
every_part_at f h Zero = (and_parts (f Zero) (f One && f Vary) h).0
every_part_at f h One = (and_parts (f One) (f Vary) (and_parts (f Zero) (f One && f Vary) h).1).0
every_part_at f h Vary = (and_parts (f One) (f Vary) (and_parts (f Zero) (f One && f Vary) h).1).1

-- a test over the parts of four places
abbrev pub every_four : (Part → Part → Part → Part → Bool) → Bool
every_four f = every_part (λ a. every_part (λ b. every_part (λ c. every_part (λ d. f a b c d))))

pub every_four_at : (f : Part → Part → Part → Part → Bool) → every_four f ≡ true → (a b c d : Part) → f a b c d ≡ true
every_four_at f h a b c d =
    every_part_at (λ d. f a b c d) (every_part_at (λ c. every_part (λ d. f a b c d)) (every_part_at (λ b. every_part (λ c. every_part (λ d. f a b c d)))
    (every_part_at (λ a. every_part (λ b. every_part (λ c. every_part (λ d. f a b c d)))) h a) b) c) d

abbrev pub four : Part → Part → Part → Part → List Part
four a b c d = a ∷ b ∷ c ∷ d ∷ []

abbrev known_row : Kind → Part → Part → Part → Part → Bool
known_row kind a b c d = forces_test kind (input_places kind (four a b c d)) (ternary kind a b c d)

known_table : (kind : Kind) → every_four (known_row kind) ≡ true
known_table Buf = refl
known_table Not = refl
known_table And = refl
known_table Nand = refl
known_table Or = refl
known_table Nor = refl
known_table Xor = refl
known_table Xnor = refl
known_table AndNot = refl
known_table OrNot = refl
known_table Mux = refl
known_table Nmux = refl
known_table Aoi3 = refl
known_table Oai3 = refl
known_table Aoi4 = refl
known_table Oai4 = refl

pub ternary_is_forced : (kind : Kind) (a b c d : Part) → IsForced kind (input_places kind (four a b c d)) (ternary kind a b c d)
ternary_is_forced kind a b c d =
    forced_from_test kind (input_places kind (four a b c d)) (ternary kind a b c d) (every_four_at (known_row kind) (known_table kind) a b c d)

abbrev live_at : Kind → ℕ → Part → Part → Part → Part → Bool
live_at kind place a b c d = beq (matters kind a b c d place) (live_test kind (input_places kind (four a b c d)) place)

abbrev live_row : Kind → Part → Part → Part → Part → Bool
live_row kind a b c d = live_at kind 0 a b c d && (live_at kind 1 a b c d && (live_at kind 2 a b c d && live_at kind 3 a b c d))

live_table : (kind : Kind) → every_four (live_row kind) ≡ true
live_table Buf = refl
live_table Not = refl
live_table And = refl
live_table Nand = refl
live_table Or = refl
live_table Nor = refl
live_table Xor = refl
live_table Xnor = refl
live_table AndNot = refl
live_table OrNot = refl
live_table Mux = refl
live_table Nmux = refl
live_table Aoi3 = refl
live_table Oai3 = refl
live_table Aoi4 = refl
live_table Oai4 = refl

same_from_beq : (x y : Bool) → beq x y ≡ true → x ≡ y
same_from_beq true true h = refl
same_from_beq true false h = sym h
same_from_beq false true h = h
same_from_beq false false h = refl

beyond : (kind : Kind) (a b c d : Part) (place : ℕ) → live_test kind (input_places kind (four a b c d)) (suc (suc (suc (suc place)))) ≡ false
beyond Buf a b c d place = refl
beyond Not a b c d place = refl
beyond And a b c d place = refl
beyond Nand a b c d place = refl
beyond Or a b c d place = refl
beyond Nor a b c d place = refl
beyond Xor a b c d place = refl
beyond Xnor a b c d place = refl
beyond AndNot a b c d place = refl
beyond OrNot a b c d place = refl
beyond Mux a b c d place = refl
beyond Nmux a b c d place = refl
beyond Aoi3 a b c d place = refl
beyond Oai3 a b c d place = refl
beyond Aoi4 a b c d place = refl
beyond Oai4 a b c d place = refl

pub matters_is_live : (kind : Kind) (a b c d : Part) (place : ℕ) → matters kind a b c d place ≡ live_test kind (input_places kind (four a b c d)) place
matters_is_live kind a b c d place = go place
  where
    row : live_row kind a b c d ≡ true
    row = every_four_at (live_row kind) (live_table kind) a b c d

    first : (live_at kind 0 a b c d ≡ true) × ((live_at kind 1 a b c d && (live_at kind 2 a b c d && live_at kind 3 a b c d)) ≡ true)
    first = and_parts (live_at kind 0 a b c d) (live_at kind 1 a b c d && (live_at kind 2 a b c d && live_at kind 3 a b c d)) row

    second : (live_at kind 1 a b c d ≡ true) × ((live_at kind 2 a b c d && live_at kind 3 a b c d) ≡ true)
    second = and_parts (live_at kind 1 a b c d) (live_at kind 2 a b c d && live_at kind 3 a b c d) first.1

    third : (live_at kind 2 a b c d ≡ true) × (live_at kind 3 a b c d ≡ true)
    third = and_parts (live_at kind 2 a b c d) (live_at kind 3 a b c d) second.1

    go : (place : ℕ) → matters kind a b c d place ≡ live_test kind (input_places kind (four a b c d)) place
    go zero = same_from_beq _ _ first.0
    go (suc zero) = same_from_beq _ _ second.0
    go (suc (suc zero)) = same_from_beq _ _ third.0
    go (suc (suc (suc zero))) = same_from_beq _ _ third.1
    go (suc (suc (suc (suc n)))) = sym (beyond kind a b c d n)

-- a list of four parts, by its places
pub as_four : (ps : List Part) → length ps ≡ 4 → ps ≡ four (get_or ps 0 Zero) (get_or ps 1 Zero) (get_or ps 2 Zero) (get_or ps 3 Zero)
as_four [] h = cc
as_four (a ∷ []) h = absurd (omega arith)
as_four (a ∷ b ∷ []) h = absurd (omega arith)
as_four (a ∷ b ∷ c ∷ []) h = absurd (omega arith)
as_four (a ∷ b ∷ c ∷ d ∷ []) h = refl
as_four (a ∷ b ∷ c ∷ d ∷ e ∷ ps) h = absurd (omega arith)

-- what holds of the four parts of a list holds of the list
of_four : (P : List Part → Type 0) (ps : List Part) → length ps ≡ 4 → P (four (get_or ps 0 Zero) (get_or ps 1 Zero) (get_or ps 2 Zero) (get_or ps 3 Zero)) → P ps
of_four P ps n h = subst P (sym (as_four ps n)) h

pub forced_at : (kind : Kind) (ps : List Part) (r : Part) → length ps ≡ 4
    → r ≡ ternary kind (get_or ps 0 Zero) (get_or ps 1 Zero) (get_or ps 2 Zero) (get_or ps 3 Zero) → IsForced kind (input_places kind ps) r
forced_at kind ps r n e =
    of_four (λ qs. IsForced kind (input_places kind qs) r) ps n
    (subst (λ q. IsForced kind (input_places kind (four (get_or ps 0 Zero) (get_or ps 1 Zero) (get_or ps 2 Zero) (get_or ps 3 Zero))) q) (sym e)
    (ternary_is_forced kind (get_or ps 0 Zero) (get_or ps 1 Zero) (get_or ps 2 Zero) (get_or ps 3 Zero)))

pub live_at_place : (kind : Kind) (ps : List Part) (place : ℕ) (r : Bool) → length ps ≡ 4
    → r ≡ matters kind (get_or ps 0 Zero) (get_or ps 1 Zero) (get_or ps 2 Zero) (get_or ps 3 Zero) place
    → (r ≡ true → IsLiveInput kind (input_places kind ps) place) × (IsLiveInput kind (input_places kind ps) place → r ≡ true)
live_at_place kind ps place r n e =
    of_four (λ qs. (r ≡ true → IsLiveInput kind (input_places kind qs) place) × (IsLiveInput kind (input_places kind qs) place → r ≡ true)) ps n
    (λ t. live_from_test kind (input_places kind (four a b c d)) place (sym same ∙ t), λ l. same ∙ test_from_live kind (input_places kind (four a b c d)) place l)
  where
    a : Part
    a = get_or ps 0 Zero

    b : Part
    b = get_or ps 1 Zero

    c : Part
    c = get_or ps 2 Zero

    d : Part
    d = get_or ps 3 Zero

    same : r ≡ live_test kind (input_places kind (four a b c d)) place
    same = e ∙ matters_is_live kind a b c d place
