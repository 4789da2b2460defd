-- Texts of lists with one more item.
use Rattle.std.proofs.Common.{◌≡◌, ℕ, ◌+◌, List, [], ◌∷◌, ◌++◌, take, Some, slice_get, sym, ◌∙◌, ap}
use Rattle.std.proofs.lemmas.List.{take_more, append-nil, append_assoc}
use Rattle.std.proofs.lemmas.Option.{get_or_from_slice_get, slice_get_within}
use Rattle.std.specs.List.{flat_map}

-- a text goes on by one more piece
pub printed_more : (init now new front more whole : List ℕ) → new ≡ now ++ more → now ≡ init ++ front → whole ≡ front ++ more → new ≡ init ++ whole
printed_more init now new front more whole e f g =
    e ∙ ap (λ t. t ++ more) f ∙ append_assoc init front more ∙ ap (λ t. init ++ t) (sym g)

pub flat_map-push : {X : Type 0} (f : X → List ℕ) (xs : List X) (x : X) → flat_map f (xs ++ x ∷ []) ≡ flat_map f xs ++ f x
flat_map-push f [] x = append-nil (f x)
flat_map-push f (y ∷ xs) x = ap (λ t. f y ++ t) (flat_map-push f xs x) ∙ sym (append_assoc (f y) (flat_map f xs) (f x))

-- a front of a list with the item behind it
pub take_got : {X : Type 0} (xs : List X) (k : ℕ) (x : X) → slice_get xs k ≡ Some x → take (k + 1) xs ≡ take k xs ++ x ∷ []
take_got xs k x got =
    take_more xs k x (slice_get_within xs k x got) ∙ ap (λ y. take k xs ++ y ∷ []) (get_or_from_slice_get xs k x x got)
