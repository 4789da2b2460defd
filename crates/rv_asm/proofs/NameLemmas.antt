-- A map from bytes to meanings, seen as a table of names.
use Rattle.std.proofs.Common.{◌≡◌, ℕ, List, [], ◌∷◌, ◌++◌, cond, Some, Vec, take, refl, ap, sym, nat_eq}
use Rattle.std.specs.declared.alloc.Global.{Global}
use Rattle.std.specs.Cmp.Lexicographic.{pointwise}
use Rattle.std.specs.Map.{lookup}
use Rattle.std.specs.Str.{bytes_eq}
use Rattle.std.proofs.lemmas.List.{map-append, take-map}
use Rattle.rv_asm.specs.declared.layout.names.Meaning.{Meaning}
use Rattle.rv_asm.specs.Names.{bytes_of_keys, meaning_of}

pub lookup_bytes : (name : List ℕ) (entries : List (Vec ℕ Global × Meaning)) → lookup (λ k. pointwise nat_eq name k.items) entries ≡ meaning_of (bytes_of_keys entries) name
lookup_bytes name [] = refl
lookup_bytes name (e ∷ es) = ap (λ o. cond (bytes_eq name e.0.items) (Some e.1) o) (lookup_bytes name es)

pub bytes_of_keys-more : (entries : List (Vec ℕ Global × Meaning)) (key : Vec ℕ Global) (meaning : Meaning) → bytes_of_keys (entries ++ (key, meaning) ∷ []) ≡ bytes_of_keys entries ++ (key.items, meaning) ∷ []
bytes_of_keys-more entries key meaning = map-append (λ e. (e.0.items, e.1)) entries ((key, meaning) ∷ [])

pub bytes_of_keys-take : (n : ℕ) (entries : List (Vec ℕ Global × Meaning)) → bytes_of_keys (take n entries) ≡ take n (bytes_of_keys entries)
bytes_of_keys-take n entries = sym (take-map (λ e. (e.0.items, e.1)) n entries)
