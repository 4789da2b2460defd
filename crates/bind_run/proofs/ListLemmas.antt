-- Lists that loops make, item by item.
use Rattle.std.proofs.Common.{◌≡◌, ℕ, ◌+◌, List, [], ◌∷◌, ◌++◌, map, take, drop, length, get_or, ◌<◌, refl, sym, ◌∙◌, ap}
use Rattle.std.specs.Prelude.{flat_map}
use Rattle.std.specs.List.{range_with_len}
use Rattle.std.proofs.lemmas.Grind.{flat_map-append}
use Rattle.std.proofs.lemmas.List.{append_assoc, append-nil}
use Rattle.std.proofs.lemmas.List.Folds.{flat_map-map}
use Rattle.std.proofs.lemmas.List.FromFn.{map-range_with_len_more}
use Rattle.std.proofs.Math.Seq.{drop-length, take-length}
use Rattle.gate_graph.proofs.Items.{taken_at}

-- an item of the rest is done
pub step_done : {X Y : Type 0} (f : Y → List X) (done more_done whole : List X) (rest more : List Y) (y : Y) → rest ≡ y ∷ more
    → more_done ≡ done ++ f y → done ++ flat_map f rest ≡ whole → more_done ++ flat_map f more ≡ whole
step_done f done more_done whole rest more y e d h =
    ap (λ xs. xs ++ flat_map f more) d ∙ append_assoc done (f y) (flat_map f more) ∙ ap (λ ys. done ++ flat_map f ys) (sym e) ∙ h

-- all items are done
pub all_done : {X Y : Type 0} (f : Y → List X) (done whole : List X) (rest : List Y) → rest ≡ [] → done ++ flat_map f rest ≡ whole → done ≡ whole
all_done f done whole rest e h = sym (append-nil done) ∙ ap (λ ys. done ++ flat_map f ys) (sym e) ∙ h

-- a part stands before what is still to come
pub part_done : {X : Type 0} (done more_done part whole : List X) (later rest : List X) → later ≡ part ++ rest → more_done ≡ done ++ part
    → done ++ later ≡ whole → more_done ++ rest ≡ whole
part_done done more_done part whole later rest e d h =
    ap (λ xs. xs ++ rest) d ∙ append_assoc done part rest ∙ ap (λ ys. done ++ ys) (sym e) ∙ h

pub flat_map-range_more : {X : Type 0} (f : ℕ → List X) (a n : ℕ) → flat_map f (range_with_len a (n + 1)) ≡ flat_map f (range_with_len a n) ++ f (a + n)
flat_map-range_more f a n =
    sym (flat_map-map f (λ x. x) (range_with_len a (n + 1)))
    ∙ ap (flat_map f) (map-range_with_len_more (λ x. x) a n (a + n) refl)
    ∙ flat_map-append f (map (λ x. x) (range_with_len a n)) ((a + n) ∷ [])
    ∙ ap (λ ys. ys ++ (f (a + n) ++ [])) (flat_map-map f (λ x. x) (range_with_len a n))
    ∙ ap (λ ys. flat_map f (range_with_len a n) ++ ys) (append-nil (f (a + n)))

-- one item more of a list
pub flat_map-take_more : {X Y : Type 0} (f : Y → List X) (xs : List Y) (i : ℕ) (x : Y) → i < length xs → x ≡ get_or xs i x
    → flat_map f (take (i + 1) xs) ≡ flat_map f (take i xs) ++ f x
flat_map-take_more f xs i x below at =
    ap (flat_map f) (taken_at xs i x below at) ∙ flat_map-append f (take i xs) (x ∷ []) ∙ ap (λ ys. flat_map f (take i xs) ++ ys) (append-nil (f x))

pub range_more : {X : Type 0} (f : ℕ → X) (a n : ℕ) → map f (range_with_len a (n + 1)) ≡ map f (range_with_len a n) ++ f (a + n) ∷ []
range_more f a n = map-range_with_len_more f a n (a + n) refl

-- a slice of all items is written back
pub written_back : {X : Type 0} (len : ℕ) (new items : List X) → length new ≡ len → length items ≡ len → take len (new ++ drop (length new) items) ≡ new
written_back len new items p q =
    let d : drop (length new) items ≡ [] = ap (λ n. drop n items) (p ∙ sym q) ∙ drop-length items in
    ap (λ ys. take len (new ++ ys)) d ∙ ap (take len) (append-nil new) ∙ ap (λ n. take n new) (sym p) ∙ take-length new
