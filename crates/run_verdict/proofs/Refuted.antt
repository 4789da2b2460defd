-- What a derivation of the empty clause says, and what clauses that are all not empty.
use Rattle.std.proofs.Common.{◌≡◌, ◌≢◌, ℕ, ◌≤◌, ◌⊎◌, inl, inr, List, [], ◌∷◌, length, map, refl, sym, subst, arith}
use Rattle.std.specs.Prelude.{All, Contains, Some, None}
use Rattle.std.proofs.lemmas.List.Elements.{All-contains, Contains-append_left, Contains-append_right}
use Rattle.clause_store.specs.declared.lit.Lit.{Lit}
use Rattle.clause_store.specs.declared.line.Line.{Line}
use Rattle.clause_store.specs.Derivations.{AllNew, AllValid, clauses_of}
use Rattle.clause_solver.specs.Outcomes.{IsRefutation}
use Rattle.coco_model.proofs.Basics.{Contains-here}
use Rattle.model_laws.proofs.Lists.{Contains-map}
use Rattle.derivation_check.specs.Laws.{RefutationsAreSound}
use Rattle.derivation_check.specs.Trimmed.{AllNamed, EndsIn}
use Rattle.formula_laws.specs.Laws.{HasModel}
use Rattle.run_verdict.specs.Verdicts.{Refutes}

-- a refutation ends in the empty clause
ends_empty : (store : List (List Lit)) (lines : List Line) → IsRefutation store lines → Contains (clauses_of store lines) []
ends_empty store lines r =
    let last : Contains lines r.last = subst (λ ls. Contains ls r.last) (sym r.ends)
    (Contains-append_right r.before (r.last ∷ []) r.last (Contains-here r.last [])) in
    Contains-append_right store (map (λ (l : Line). l.clause) lines) []
    (subst (Contains (map (λ (l : Line). l.clause) lines)) r.empty (Contains-map (λ (l : Line). l.clause) lines r.last last))

none_valid : (store : List (List Lit)) → AllValid store []
none_valid store k line e = absurd (let w : None ≡ Some line = e in cc)

-- where the clauses are refuted no values meet them all
pub no_model : RefutationsAreSound → (clauses : List (List Lit)) (steps : ℕ) (lines : List Line) → Refutes clauses steps lines
    → HasModel clauses → ⊥
no_model sound clauses steps lines refutes h = go refutes.empty
  where
    go : IsRefutation clauses lines ⊎ ((lines ≡ []) × Contains clauses []) → ⊥
    go (inl r) = sound clauses lines h.values (r.valid, ends_empty clauses lines r) h.model
    go (inr (none, empty)) =
        sound clauses [] h.values (none_valid clauses, Contains-append_left clauses [] [] empty) h.model

-- the lines of a search that derived the empty clause are valid
pub derived_valid : (clauses : List (List Lit)) (lines : List Line) → IsRefutation clauses lines ⊎ ((lines ≡ []) × Contains clauses [])
    → AllValid clauses lines
derived_valid clauses lines (inl r) = r.valid
derived_valid clauses lines (inr (none, empty)) = subst (AllValid clauses) (sym none) (none_valid clauses)

none_left : (lines : List Line) → length lines ≤ 0 → lines ≡ []
none_left [] few = refl
none_left (line ∷ lines) few = absurd (omega (arith, few))

-- without the lines that nothing rests on they still are a derivation of the empty clause
pub trimmed_refutes : (clauses : List (List Lit)) (steps : ℕ) (lines kept : List Line) → length lines ≤ steps
    → IsRefutation clauses lines ⊎ ((lines ≡ []) × Contains clauses []) → length kept ≤ length lines
    → ((clause : List Lit) → EndsIn lines clause → EndsIn kept clause) → AllValid clauses kept
    → (AllNew clauses lines → AllNew clauses kept) → AllNamed (length clauses) kept → Refutes clauses steps kept
trimmed_refutes clauses steps lines kept few empty fewer ends valid fresh named =
    record { few = omega (arith, few, fewer); named = named; empty = go empty }
  where
    go : IsRefutation clauses lines ⊎ ((lines ≡ []) × Contains clauses []) → IsRefutation clauses kept ⊎ ((kept ≡ []) × Contains clauses [])
    go (inl r) =
        let e = ends [] (record { before = r.before; last = r.last; ends = r.ends; clause_is = r.empty }) in
        inl (record { valid = valid; fresh = fresh r.fresh; before = e.before; last = e.last; ends = e.ends; empty = e.clause_is })
    go (inr (none, has)) = inr (none_left kept (subst (λ l. length kept ≤ length l) none fewer), has)

-- where no clause is empty there is no empty clause
pub no_empty : (clauses : List (List Lit)) → All (λ c. c ≢ []) clauses → Contains clauses [] → ⊥
no_empty clauses all empty = All-contains (λ c. c ≢ []) clauses [] all empty refl
