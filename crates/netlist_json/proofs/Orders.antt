-- A map of named items, as it is seen.
use Rattle.std.proofs.Common.{◌≡◌, ◌∙◌, ℕ, List, [], ◌∷◌, ◌++◌, map, fold, refl, ap, sym}
use Rattle.std.proofs.lemmas.List.Sums.{fold-append}
use Rattle.std.proofs.lemmas.List.{map-append}
use Rattle.std.specs.BTreeMap.{insert_entry}
use Rattle.std.specs.Ordering.{match_ordering}
use Rattle.std.specs.declared.cmp.Ordering.{Ordering}
use Rattle.std.specs.declared.cmp.Ordering.TheVariants.{Less, Equal, Greater}
use Rattle.std.proofs.Common.{String}
use Rattle.std.specs.declared.alloc.Global.{Global}
use Rattle.netlist_json.specs.Flats.{keyed, merged, put_entry}
use Rattle.netlist_json.specs.Keys.{entry_of}

-- an insertion, where keys are seen by f
pub map-insert_entry : {K L X : Type 0} (f : K → L) (c : K → K → Ordering) (d : L → L → Ordering) → ((a b : K) → d (f a) (f b) ≡ c a b) →
    (es : List (K × X)) (k : K) (v : X) →
    map (λ (e : K × X). let p : L × X = (f e.0, e.1) in p) (insert_entry c es k v) ≡ insert_entry d (map (λ (e : K × X). let p : L × X = (f e.0, e.1) in p) es) (f k) v
map-insert_entry f c d same [] k v = refl
map-insert_entry {K} {L} {X} f c d same (e ∷ es) k v =
    let see : K × X → L × X = λ e. (f e.0, e.1) in
    rw (same k e.0)
    (elim (c k e.0) as (λ o. map see (match_ordering o ((k, v) ∷ e ∷ es) ((e.0, v) ∷ es) (e ∷ insert_entry c es k v))
    ≡ match_ordering o ((f k, v) ∷ map see (e ∷ es)) ((f e.0, v) ∷ map see es) (see e ∷ insert_entry d (map see es) (f k) v)) [
      | Less ↦ refl
      | Equal ↦ refl
      | Greater ↦ ap (λ (l : List (L × X)). see e ∷ l) (map-insert_entry f c d same es k v)
    ])

-- one item more
pub keyed_more : {X : Type 0} (name : X → List ℕ) (made : ℕ) (entries : List ((List ℕ × ℕ) × X)) (xs : List X) (x : X) →
    fold put_entry entries (keyed name made (xs ++ x ∷ [])) ≡ put_entry (fold put_entry entries (keyed name made xs)) ((name x, made), x)
keyed_more {X} name made entries xs x =
    let key : X → (List ℕ × ℕ) × X = λ y. ((name y, made), y) in
    rw (map-append key xs (x ∷ [])) (fold-append put_entry entries (map key xs) (key x ∷ []))

pub values-seen : {X : Type 0} (es : List ((String Global × ℕ) × X)) → map (λ e. e.1) (map entry_of es) ≡ map (λ e. e.1) es
values-seen [] = refl
values-seen {X} (e ∷ es) = ap (λ (l : List X). e.1 ∷ l) (values-seen es)

-- items of the file and then made ones, in a map
pub merged_is : {X : Type 0} (name : X → List ℕ) (file made : List X) (first second : List ((String Global × ℕ) × X)) →
    map entry_of first ≡ fold put_entry [] (keyed name 0 file) → map entry_of second ≡ fold put_entry (map entry_of first) (keyed name 1 made) →
    map (λ e. e.1) second ≡ merged name file made
merged_is {X} name file made first second one two =
    sym (values-seen second)
    ∙ ap (λ (l : List ((List ℕ × ℕ) × X)). map (λ e. e.1) l) (two ∙ (rw one (sym (fold-append put_entry [] (keyed name 0 file) (keyed name 1 made)))))
