-- What the clauses of the goal say of the labels' bits, whatever the literals are.
use Rattle.std.proofs.Common.{◌≡◌, ℕ, inl, inr, Bool, true, false, not, ◌||◌, filter, map, List, [], ◌∷◌, ◌++◌, get_or, refl, sym, ◌∙◌, ap, ap₂, subst}
use Rattle.std.specs.Prelude.{Contains, flat_map}
use Rattle.std.specs.List.{list_any}
use Rattle.std.proofs.lemmas.Bool.{not-true, not_from_false}
use Rattle.std.proofs.lemmas.List.Elements.{Contains-append_cases, Contains-append_left, Contains-append_right}
use Rattle.coco_model.specs.Goals.{goal_clauses, is_share_of, same_pairs}
use Rattle.coco_model.proofs.Basics.{Contains-here, Contains-later, Contains-cases, Contains-none, HasMember, only_member}
use Rattle.model_laws.proofs.Lists.{Contains-flat_map, Contains-map, image_of_map, joined_of_flat_map}
use Rattle.formula_laws.proofs.Members.{is_kept, kept, passing, some_passes}

-- of each clause some literal is true
abbrev pub AreTrue : {X : Type 0} → (X → Bool) → List (List X) → Type 0
AreTrue {X} truth clauses = (c : List X) → Contains clauses c → list_any truth c ≡ true

-- bits of labels show a leak over some secret bits: of labels that are no share of these none is there; of each of these
-- all shares are there or none; and share 0 of one of them is
pub record ShowLeak (labels : List ℕ) (secrets : List (List ℕ)) (bit : ℕ → Bool) : Type 0 where
  pub others : (l : ℕ) → Contains labels l → is_share_of secrets l ≡ false → bit l ≡ false
  pub alike : (ls : List ℕ) → Contains secrets ls → (a b : ℕ) → Contains ls a → Contains ls b → bit a ≡ bit b
  pub first : HasMember (λ (ls : List ℕ). bit (get_or ls 0 0) ≡ true) secrets

none_there : (x : Bool) → (not x || false) ≡ true → x ≡ false
none_there true e = absurd cc
none_there false e = refl

both_or_none : (x y : Bool) → (not x || (y || false)) ≡ true → (x || (not y || false)) ≡ true → y ≡ x
both_or_none true true e f = refl
both_or_none false false e f = refl
both_or_none true false e f = absurd cc
both_or_none false true e f = absurd cc

second_there : (x y : Bool) → x ≡ y → (not x || (y || false)) ≡ true
second_there true true e = refl
second_there false false e = refl
second_there true false e = absurd cc
second_there false true e = absurd cc

first_there : (x y : Bool) → x ≡ y → (x || (not y || false)) ≡ true
first_there true true e = refl
first_there false false e = refl
first_there true false e = absurd cc
first_there false true e = absurd cc

-- the last clause is that of the shares 0
pub last_clause : {X : Type 0} (literal : ℕ → Bool → X) (labels : List ℕ) (secrets : List (List ℕ))
    → Contains (goal_clauses literal labels secrets) (map (λ (ls : List ℕ). literal (get_or ls 0 0) true) secrets)
last_clause {X = X} literal labels secrets =
    let last : List X = map (λ (ls : List ℕ). literal (get_or ls 0 0) true) secrets in
    let one : List (List X) = map (λ (l : ℕ). literal l false ∷ []) (filter (λ (l : ℕ). not (is_share_of secrets l)) labels) in
    Contains-append_right (one ++ flat_map (same_pairs literal) secrets) (last ∷ []) last (Contains-here last [])

module _ {X : Type 0} (truth : X → Bool) (literal : ℕ → Bool → X) (bit : ℕ → Bool)
    (holds : (l : ℕ) → truth (literal l true) ≡ bit l) (fails : (l : ℕ) → truth (literal l false) ≡ not (bit l)) where
  -- the clauses of labels that are no share
  others_from : (labels : List ℕ) (secrets : List (List ℕ))
      → AreTrue truth (map (λ (l : ℕ). literal l false ∷ []) (filter (λ (l : ℕ). not (is_share_of secrets l)) labels))
      → (l : ℕ) → Contains labels l → is_share_of secrets l ≡ false → bit l ≡ false
  others_from labels secrets all l h e =
      none_there (bit l) (sym (ap (λ b. b || false) (fails l)) ∙ all (literal l false ∷ [])
      (Contains-map (λ (k : ℕ). literal k false ∷ []) (filter (λ (k : ℕ). not (is_share_of secrets k)) labels) l
      (kept (λ (k : ℕ). not (is_share_of secrets k)) labels l h (not_from_false (is_share_of secrets l) e))))

  others_to : (labels : List ℕ) (secrets : List (List ℕ))
      → ((l : ℕ) → Contains labels l → is_share_of secrets l ≡ false → bit l ≡ false)
      → AreTrue truth (map (λ (l : ℕ). literal l false ∷ []) (filter (λ (l : ℕ). not (is_share_of secrets l)) labels))
  others_to labels secrets none c h =
      let i = image_of_map (λ (l : ℕ). literal l false ∷ []) (filter (λ (l : ℕ). not (is_share_of secrets l)) labels) c h in
      let k = is_kept (λ (l : ℕ). not (is_share_of secrets l)) labels i.source i.listed in
      let absent : bit i.source ≡ false = none i.source k.listed (not-true (is_share_of secrets i.source) k.passes) in
      subst (λ d. list_any truth d ≡ true) i.image (ap (λ b. b || false) (fails i.source ∙ ap not absent))

  -- the clauses of two successive shares, the first of which is not there or the second is, and the other way round
  says_second : (k l : ℕ) → list_any truth (literal k false ∷ literal l true ∷ []) ≡ (not (bit k) || (bit l || false))
  says_second k l = ap₂ (λ x y. x || (y || false)) (fails k) (holds l)

  says_first : (k l : ℕ) → list_any truth (literal k true ∷ literal l false ∷ []) ≡ (bit k || (not (bit l) || false))
  says_first k l = ap₂ (λ x y. x || (y || false)) (holds k) (fails l)

  head_alike : (k : ℕ) (ls : List ℕ) → AreTrue truth (same_pairs literal (k ∷ ls)) → (a : ℕ) → Contains (k ∷ ls) a → bit a ≡ bit k
  head_alike k [] all a h = elim (Contains-cases k a [] h) [ inl e ↦ ap bit (sym e) | inr none ↦ absurd (Contains-none a none) ]
  head_alike k (l ∷ ls) all a h =
      let one : List X = literal k false ∷ literal l true ∷ [] in
      let two : List X = literal k true ∷ literal l false ∷ [] in
      let rest : List (List X) = same_pairs literal (l ∷ ls) in
      let next : bit l ≡ bit k = both_or_none (bit k) (bit l) (sym (says_second k l) ∙ all one (Contains-here one (two ∷ rest)))
      (sym (says_first k l) ∙ all two (Contains-later one two (two ∷ rest) (Contains-here two rest))) in
      elim (Contains-cases k a (l ∷ ls) h) [
        | inl e ↦ ap bit (sym e)
        | inr i ↦ head_alike l ls (λ c m. all c (Contains-later one c (two ∷ rest) (Contains-later two c rest m))) a i ∙ next
      ]

  alike_from : (ls : List ℕ) → AreTrue truth (same_pairs literal ls) → (a b : ℕ) → Contains ls a → Contains ls b → bit a ≡ bit b
  alike_from [] all a b h i = absurd (Contains-none a h)
  alike_from (k ∷ ls) all a b h i = head_alike k ls all a h ∙ sym (head_alike k ls all b i)

  alike_to : (ls : List ℕ) → ((a b : ℕ) → Contains ls a → Contains ls b → bit a ≡ bit b) → AreTrue truth (same_pairs literal ls)
  alike_to [] same c h = absurd (Contains-none c h)
  alike_to (k ∷ []) same c h = absurd (Contains-none c h)
  alike_to (k ∷ l ∷ ls) same c h =
      let one : List X = literal k false ∷ literal l true ∷ [] in
      let two : List X = literal k true ∷ literal l false ∷ [] in
      let rest : List (List X) = same_pairs literal (l ∷ ls) in
      let equal : bit k ≡ bit l = same k l (Contains-here k (l ∷ ls)) (Contains-later k l (l ∷ ls) (Contains-here l ls)) in
      elim (Contains-cases one c (two ∷ rest) h) [
        | inl e ↦ subst (λ d. list_any truth d ≡ true) e (says_second k l ∙ second_there (bit k) (bit l) equal)
        | inr i ↦ elim (Contains-cases two c rest i) [
          | inl e ↦ subst (λ d. list_any truth d ≡ true) e (says_first k l ∙ first_there (bit k) (bit l) equal)
          | inr j ↦ alike_to (l ∷ ls) (λ a b ha hb. same a b (Contains-later k a (l ∷ ls) ha) (Contains-later k b (l ∷ ls) hb)) c j
        ]
      ]

  -- the clause of the shares 0
  first_from : (secrets : List (List ℕ)) → list_any truth (map (λ (ls : List ℕ). literal (get_or ls 0 0) true) secrets) ≡ true
      → HasMember (λ (ls : List ℕ). bit (get_or ls 0 0) ≡ true) secrets
  first_from secrets e =
      let m = passing truth (map (λ (ls : List ℕ). literal (get_or ls 0 0) true) secrets) e in
      let i = image_of_map (λ (ls : List ℕ). literal (get_or ls 0 0) true) secrets m.member m.listed in
      record { member = i.source; listed = i.listed; holds = sym (holds (get_or i.source 0 0)) ∙ (ap truth i.image ∙ m.holds) }

  first_to : (secrets : List (List ℕ)) → HasMember (λ (ls : List ℕ). bit (get_or ls 0 0) ≡ true) secrets
      → list_any truth (map (λ (ls : List ℕ). literal (get_or ls 0 0) true) secrets) ≡ true
  first_to secrets m =
      some_passes truth (map (λ (ls : List ℕ). literal (get_or ls 0 0) true) secrets) (literal (get_or m.member 0 0) true)
      (Contains-map (λ (ls : List ℕ). literal (get_or ls 0 0) true) secrets m.member m.listed) (holds (get_or m.member 0 0) ∙ m.holds)

  -- all of them
  pub leak_from : (labels : List ℕ) (secrets : List (List ℕ)) → AreTrue truth (goal_clauses literal labels secrets) → ShowLeak labels secrets bit
  leak_from labels secrets all =
      let one : List (List X) = map (λ (l : ℕ). literal l false ∷ []) (filter (λ (l : ℕ). not (is_share_of secrets l)) labels) in
      let two : List (List X) = flat_map (same_pairs literal) secrets in
      let last : List X = map (λ (ls : List ℕ). literal (get_or ls 0 0) true) secrets in
      record {
        others = others_from labels secrets
            (λ c h. all c (Contains-append_left (one ++ two) (last ∷ []) c (Contains-append_left one two c h)));
        alike = λ ls listed. alike_from ls (λ c h. all c (Contains-append_left (one ++ two) (last ∷ []) c
            (Contains-append_right one two c (Contains-flat_map (same_pairs literal) secrets ls c listed h))));
        first = first_from secrets (all last (last_clause literal labels secrets));
      }

  pub leak_to : (labels : List ℕ) (secrets : List (List ℕ)) → ShowLeak labels secrets bit → AreTrue truth (goal_clauses literal labels secrets)
  leak_to labels secrets leak c h =
      let one : List (List X) = map (λ (l : ℕ). literal l false ∷ []) (filter (λ (l : ℕ). not (is_share_of secrets l)) labels) in
      let two : List (List X) = flat_map (same_pairs literal) secrets in
      let last : List X = map (λ (ls : List ℕ). literal (get_or ls 0 0) true) secrets in
      elim (Contains-append_cases (one ++ two) (last ∷ []) c h) [
        | inl i ↦ elim (Contains-append_cases one two c i) [
          | inl j ↦ others_to labels secrets leak.others c j
          | inr j ↦ (let m = joined_of_flat_map (same_pairs literal) secrets c j in
              alike_to m.source (leak.alike m.source m.listed) c m.member)
        ]
        | inr k ↦ only_member (λ d. list_any truth d ≡ true) last (first_to secrets leak.first) c k
      ]
