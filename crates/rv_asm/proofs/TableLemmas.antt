-- A look-up in tables that stand one behind the other.
use Rattle.std.proofs.Common.{◌≡◌, ℕ, List, [], ◌∷◌, ◌++◌, Option, Some, None, cond, true, false, refl, ap, sym, ◌∙◌}
use Rattle.std.specs.Option.{option_or}
use Rattle.std.specs.Str.{bytes_eq}
use Rattle.rv_asm.specs.Tables.{look_up}

look_up-append : {A : Type 0} (xs ys : List (List ℕ × A)) (name : List ℕ) → look_up (xs ++ ys) name ≡ option_or (look_up xs name) (look_up ys name)
look_up-append [] ys name = refl
look_up-append (x ∷ xs) ys name =
    elim (bytes_eq x.0 name) as (λ b. cond b (Some x.1) (look_up (xs ++ ys) name) ≡ option_or (cond b (Some x.1) (look_up xs name)) (look_up ys name)) [
      | true ↦ refl
      | false ↦ look_up-append xs ys name
    ]

-- what is found in the tables so far, or else in one table more
pub one_table_more : {A : Type 0} (front table : List (List ℕ × A)) (name : List ℕ) (first second both : Option A) → first ≡ look_up front name → second ≡ look_up table name → both ≡ option_or first second → both ≡ look_up (front ++ table) name
one_table_more front table name first second both f s e =
    e ∙ ap (λ o. option_or o second) f ∙ ap (option_or (look_up front name)) s ∙ sym (look_up-append front table name)
