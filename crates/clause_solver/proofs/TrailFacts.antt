-- The tables of a trail, as literals come and go.
use Rattle.std.proofs.Common.{◌≡◌, ◌≢◌, ℕ, ◌+◌, ◌<◌, ◌≤◌, ◌^◌, Bool, true, false, eqb, List, [], ◌∷◌, ◌++◌, Option, Some, None, is_some, is_none, length, get_or, take, map, refl, sym, ap, subst, ◌∙◌, inl, inr, arith}
use Rattle.std.specs.Prelude.{slice_get}
use Rattle.std.specs.List.{list_any, AllPairs}
use Rattle.std.proofs.Math.ListN.{set, replicate}
use Rattle.std.proofs.lemmas.Grind.{common_steps}
use Rattle.std.proofs.lemmas.Bool.{cases_eq, cases_lt}
use Rattle.std.proofs.lemmas.Bool.Decides.{Decides-eqb}
use Rattle.std.proofs.lemmas.List.{take_at, length-set, length-map, length-replicate, length_push, get_or-replicate, get_or_past, get_or-set_same, get_or-set_other, get_or-map}
use Rattle.std.proofs.lemmas.Option.{slice_get-get_or}
use Rattle.std.proofs.lemmas.Map.Steps.{length-le_from_distinct_below}
use Rattle.std.proofs.lemmas.Map.Made.{IsDistinct-from_AllPairs}
use Rattle.clause_store.specs.declared.lit.Lit.{Lit}
use Rattle.clause_store.specs.Signs.{sign_of}
use Rattle.clause_solver.specs.Trails.{IsTabled, IsCoherent, IsPlaceOf}
use Rattle.clause_solver.proofs.SignFacts.{cases_option, present, is_present, sign_same, sign_other, IsFirstAt, sign_found, sign_present, sign_push_same, sign_push_other, slice_get-take, slice_get-left, slice_get-push, slice_get-last}

pub get_or-replicate_any : {X : Type 0} (n v : ℕ) (x : X) → get_or (replicate n x) v x ≡ x
get_or-replicate_any n v x =
    elim (cases_lt v n) [
      | inl lt ↦ get_or-replicate n v x x lt
      | inr ge ↦ get_or_past (replicate n x) v x (omega (arith, length-replicate n x))
    ]

pub tabled_new : (n : ℕ) → n ≤ 2 ^ 30 → IsTabled [] [] (replicate n None) (replicate n true) (replicate n 0)
tabled_new n small = record {
  small = omega (arith, length-replicate {A = Option Bool} n None);
  reasons_len = refl;
  unset_len = length-replicate n true ∙ sym (length-replicate {A = Option Bool} n None);
  places_len = length-replicate n 0 ∙ sym (length-replicate {A = Option Bool} n None);
  value = λ v. get_or-replicate_any n v None;
  is_unset = λ v lt. get_or-replicate n v true false (omega (arith, length-replicate {A = Option Bool} n None));
  place = λ p l e. absurd (cc);
}

pub tabled_apart : (lits : List Lit) (places : List ℕ) → ((p : ℕ) (l : Lit) → slice_get lits p ≡ Some l → get_or places l.var 0 ≡ p) → (p q : ℕ) (l m : Lit) → slice_get lits p ≡ Some l → slice_get lits q ≡ Some m → l.var ≡ m.var → p ≡ q
tabled_apart lits places place p q l m el em same =
    let a : get_or places l.var 0 ≡ p = place p l el in
    let b : get_or places m.var 0 ≡ q = place q m em in
    sym a ∙ ap (λ v. get_or places v 0) same ∙ b

pub tabled_fresh : (lits : List Lit) (places : List ℕ) → ((p : ℕ) (l : Lit) → slice_get lits p ≡ Some l → get_or places l.var 0 ≡ p) → (p : ℕ) (l : Lit) → slice_get lits p ≡ Some l → sign_of (take p lits) l.var ≡ None
tabled_fresh lits places place p l e =
    elim (cases_option (sign_of (take p lits) l.var)) [
      | inl none ↦ none
      | inr some ↦
          let first : IsFirstAt (take p lits) l.var some.0 = sign_found (take p lits) l.var some.0 some.1 in
          let before : (first.place < p) × (slice_get lits first.place ≡ Some first.lit) = slice_get-take p lits first.place first.lit first.at_place in
          let same : first.place ≡ p = tabled_apart lits places place first.place p first.lit l before.1 e first.var in
          absurd (omega arith)
    ]

any_var : (lits : List Lit) (q : ℕ) → list_any (eqb q) (map (λ l. l.var) lits) ≡ true → is_some (sign_of lits q) ≡ true
any_var [] q e = absurd (cc)
any_var (l ∷ lits) q e =
    elim (cases_eq l.var q) [
      | inl eq ↦ is_present _ l.positive (sign_same l lits q eq)
      | inr ne ↦
          let t : eqb q l.var ≡ false = grind (arith, common_steps) in
          let rest : list_any (eqb q) (map (λ l. l.var) lits) ≡ true = rw t at e in
          ap is_some (sign_other l lits q ne) ∙ any_var lits q rest
    ]

pub tabled_range : (lits : List Lit) (values : List (Option Bool)) → ((v : ℕ) → get_or values v None ≡ sign_of lits v) → (v : ℕ) (s : Bool) → sign_of lits v ≡ Some s → v < length values
tabled_range lits values value v s e =
    elim (cases_lt v (length values)) [
      | inl lt ↦ lt
      | inr ge ↦
          let past : get_or values v None ≡ None = get_or_past values v None ge in
          let is : get_or values v None ≡ sign_of lits v = value v in
          absurd (cc)
    ]

pub vars_apart : (lits : List Lit) → ((p q : ℕ) (l m : Lit) → slice_get lits p ≡ Some l → slice_get lits q ≡ Some m → l.var ≡ m.var → p ≡ q) → AllPairs (λ x y. x ≢ y) (map (λ l. l.var) lits)
vars_apart lits apart i j d i<j j<n = λ same.
    let n : length (map (λ l. l.var) lits) ≡ length lits = length-map lits (λ l. l.var) in
    let some : Lit = record { var = 0; positive = false } in
    let li : slice_get lits i ≡ Some (get_or lits i some) = slice_get-get_or lits i some (omega arith) in
    let lj : slice_get lits j ≡ Some (get_or lits j some) = slice_get-get_or lits j some (omega arith) in
    let vi : get_or (map (λ l. l.var) lits) i d ≡ (get_or lits i some).var = get_or-map (λ (l : Lit). l.var) lits i some d (omega arith) in
    let vj : get_or (map (λ l. l.var) lits) j d ≡ (get_or lits j some).var = get_or-map (λ (l : Lit). l.var) lits j some d (omega arith) in
    let e : i ≡ j = apart i j _ _ li lj (sym vi ∙ same ∙ vj) in
    absurd (omega arith)

pub tabled_bound : (lits : List Lit) (values : List (Option Bool)) (places : List ℕ) → ((v : ℕ) → get_or values v None ≡ sign_of lits v) → ((p : ℕ) (l : Lit) → slice_get lits p ≡ Some l → get_or places l.var 0 ≡ p) → length lits ≤ length values
tabled_bound lits values places value place =
    let below : (q : ℕ) → list_any (eqb q) (map (λ l. l.var) lits) ≡ true → q < length values =
    λ q e. let s : (x : Bool) × (sign_of lits q ≡ Some x) = present _ (any_var lits q e) in tabled_range lits values value q s.0 s.1 in
    let le : length (map (λ l. l.var) lits) ≤ length values = length-le_from_distinct_below (map (λ l. l.var) lits) (length values) (IsDistinct-from_AllPairs Decides-eqb _ (vars_apart lits (tabled_apart lits places place))) below in
    omega (arith, length-map lits (λ (l : Lit). l.var))

pub tabled_coherent : (lits : List Lit) (reasons : List (Option ℕ)) (starts : List ℕ) (values : List (Option Bool)) (unset : List Bool) (places : List ℕ) → IsTabled lits reasons values unset places → IsCoherent (record { lits = lits; reasons = reasons; starts = starts; vars = length values })
tabled_coherent lits reasons starts values unset places t = record {
  fresh = tabled_fresh lits places t.place;
  in_range = tabled_range lits values t.value;
  bound = tabled_bound lits values places t.value t.place;
  small = t.small;
  reasons_len = t.reasons_len;
}

pub tabled_push : (lits : List Lit) (reasons : List (Option ℕ)) (values : List (Option Bool)) (unset : List Bool) (places : List ℕ) (l : Lit) (r : Option ℕ) → IsTabled lits reasons values unset places → l.var < length values → sign_of lits l.var ≡ None → IsTabled (lits ++ l ∷ []) (reasons ++ r ∷ []) (set values l.var (Some l.positive)) (set unset l.var false) (set places l.var (length lits))
tabled_push lits reasons values unset places l r t lt none = record {
  small = rw (length-set values l.var (Some l.positive)) t.small;
  reasons_len = length_push reasons r ∙ ap (λ n. n + 1) t.reasons_len ∙ sym (length_push lits l);
  unset_len = length-set unset l.var false ∙ t.unset_len ∙ sym (length-set values l.var (Some l.positive));
  places_len = length-set places l.var (length lits) ∙ t.places_len ∙ sym (length-set values l.var (Some l.positive));
  value = λ v.
      elim (cases_eq l.var v) [
        | inl eq ↦
            let a : get_or (set values l.var (Some l.positive)) l.var None ≡ Some l.positive = get_or-set_same values l.var (Some l.positive) None lt in
            let b : sign_of (lits ++ l ∷ []) l.var ≡ Some l.positive = sign_push_same lits l none in
            subst (λ x. get_or (set values l.var (Some l.positive)) x None ≡ sign_of (lits ++ l ∷ []) x) eq (a ∙ sym b)
        | inr ne ↦ get_or-set_other values l.var v (Some l.positive) None (λ e. ne (sym e)) ∙ t.value v ∙ sym (sign_push_other lits l v ne)
      ];
  is_unset = λ v k.
      let in_old : v < length values = rw (length-set values l.var (Some l.positive)) at k in
      elim (cases_eq l.var v) [
        | inl eq ↦
            let a : get_or (set unset l.var false) l.var false ≡ false = get_or-set_same unset l.var false false (omega (arith, t.unset_len)) in
            let b : is_none (sign_of (lits ++ l ∷ []) l.var) ≡ false = ap is_none (sign_push_same lits l none) in
            subst (λ x. get_or (set unset l.var false) x false ≡ is_none (sign_of (lits ++ l ∷ []) x)) eq (a ∙ sym b)
        | inr ne ↦ get_or-set_other unset l.var v false false (λ e. ne (sym e)) ∙ t.is_unset v in_old ∙ ap is_none (sym (sign_push_other lits l v ne))
      ];
  place = λ p m e.
      elim (slice_get-push lits l p m e) [
        | inl old ↦
            let ne : m.var ≢ l.var = λ same. let s : is_some (sign_of lits m.var) ≡ true = sign_present lits p m old in let n : sign_of lits m.var ≡ None = ap (sign_of lits) same ∙ none in absurd (cc) in
            get_or-set_other places l.var m.var (length lits) 0 ne ∙ t.place p m old
        | inr new ↦
            let a : get_or (set places l.var (length lits)) l.var 0 ≡ length lits = get_or-set_same places l.var (length lits) 0 (omega (arith, t.places_len)) in
            ap (λ (x : Lit). get_or (set places l.var (length lits)) x.var 0) (sym new.1) ∙ a ∙ sym new.0
      ];
}

pub tabled_pop : (lits : List Lit) (reasons rest : List (Option ℕ)) (values : List (Option Bool)) (unset : List Bool) (places : List ℕ) (l : Lit) → IsTabled (lits ++ l ∷ []) reasons values unset places → length rest ≡ length lits → IsTabled lits rest (set values l.var None) (set unset l.var true) places
tabled_pop lits reasons rest values unset places l t len =
    let fresh : sign_of (take (length lits) (lits ++ l ∷ [])) l.var ≡ None = tabled_fresh (lits ++ l ∷ []) places t.place (length lits) l (slice_get-last lits l) in
    let none : sign_of lits l.var ≡ None = ap (λ x. sign_of x l.var) (sym (take_at lits (l ∷ []) (length lits) refl)) ∙ fresh in
    let lt : l.var < length values = tabled_range (lits ++ l ∷ []) values t.value l.var l.positive (sign_push_same lits l none) in
    record {
      small = rw (length-set values l.var None) t.small;
      reasons_len = len;
      unset_len = length-set unset l.var true ∙ t.unset_len ∙ sym (length-set values l.var None);
      places_len = t.places_len ∙ sym (length-set values l.var None);
      value = λ v.
          elim (cases_eq l.var v) [
            | inl eq ↦
                let a : get_or (set values l.var None) l.var None ≡ None = get_or-set_same values l.var None None lt in
                subst (λ x. get_or (set values l.var None) x None ≡ sign_of lits x) eq (a ∙ sym none)
            | inr ne ↦ get_or-set_other values l.var v None None (λ e. ne (sym e)) ∙ t.value v ∙ sign_push_other lits l v ne
          ];
      is_unset = λ v k.
          let in_old : v < length values = rw (length-set values l.var None) at k in
          elim (cases_eq l.var v) [
            | inl eq ↦
                let a : get_or (set unset l.var true) l.var false ≡ true = get_or-set_same unset l.var true false (omega (arith, t.unset_len)) in
                subst (λ x. get_or (set unset l.var true) x false ≡ is_none (sign_of lits x)) eq (a ∙ ap is_none (sym none))
            | inr ne ↦ get_or-set_other unset l.var v true false (λ e. ne (sym e)) ∙ t.is_unset v in_old ∙ ap is_none (sign_push_other lits l v ne)
          ];
      place = λ p m e. t.place p m (slice_get-left lits (l ∷ []) p m e);
    }

-- the variable of a literal on the trail
pub place_of : (lits : List Lit) (places : List ℕ) → ((p : ℕ) (l : Lit) → slice_get lits p ≡ Some l → get_or places l.var 0 ≡ p) → (v : ℕ) → is_some (sign_of lits v) ≡ true → IsPlaceOf lits v (get_or places v 0)
place_of lits places place v some =
    let s : (x : Bool) × (sign_of lits v ≡ Some x) = present _ some in
    let first : IsFirstAt lits v s.0 = sign_found lits v s.0 s.1 in
    let p : get_or places v 0 ≡ first.place = ap (λ x. get_or places x 0) (sym first.var) ∙ place first.place first.lit first.at_place in
    rw (p, first.at_place) first.var

-- the last literal of a trail has a variable of the tables
pub tabled_last : (lits : List Lit) (reasons : List (Option ℕ)) (values : List (Option Bool)) (unset : List Bool) (places : List ℕ) (l : Lit) → IsTabled (lits ++ l ∷ []) reasons values unset places → l.var < length values
tabled_last lits reasons values unset places l t =
    let s : (x : Bool) × (sign_of (lits ++ l ∷ []) l.var ≡ Some x) = present _ (sign_present (lits ++ l ∷ []) (length lits) l (slice_get-last lits l)) in
    tabled_range (lits ++ l ∷ []) values t.value l.var s.0 s.1
