-- Sets of labels as lists, the cones that they are of, and the labels of live operands.
use Rattle.std.proofs.Common.{◌≡◌, ℕ, suc, ◌+◌, ◌<◌, ◌⊎◌, inl, inr, Bool, true, false, ◌||◌, nat_eq, List, [], ◌∷◌, ◌++◌, Contains, length, get_or, refl, sym, ◌∙◌, ap, subst, arith}
use Rattle.std.specs.Prelude.{OnOk, Result, Ok, Err}
use Rattle.std.proofs.lemmas.List.{map-append, get_or-map, get_or_append_left, get_or_push, get_or_default}
use Rattle.std.proofs.lemmas.Bool.{cases_order, eqb-true, eq-eqb}
use Rattle.coco_base.specs.LabelSets.{has, IsUnion}
use Rattle.coco_base.specs.declared.cell.Kind.{Kind}
use Rattle.coco_base.specs.declared.cell.Part.{Part}
use Rattle.coco_model.specs.Cells.{input_places, IsLiveInput}
use Rattle.coco_model.proofs.Basics.{Contains-here, Contains-later, Contains-cases, Contains-none}
use Rattle.label_cone.specs.NodeCones.{AreSets, HasLiveLabels, HasLiveOperand, cone_at, cones_in}

pub ok_more : {T E : Type 0} (r : Result T E) (P Q : Type 0) → (P → Q) → OnOk r P → OnOk r Q
ok_more (Ok x) P Q f h = f h
ok_more (Err e) P Q f h = tt

or_cases : (a b : Bool) → (a || b) ≡ true → (a ≡ true) ⊎ (b ≡ true)
or_cases true b h = inl refl
or_cases false b h = inr h

or_left : (a b : Bool) → a ≡ true → (a || b) ≡ true
or_left true b h = refl
or_left false b h = absurd cc

or_right : (a b : Bool) → b ≡ true → (a || b) ≡ true
or_right true b h = refl
or_right false b h = h

pub member_of_has : (l : ℕ) (xs : List ℕ) → has xs l ≡ true → Contains xs l
member_of_has l [] h = absurd cc
member_of_has l (x ∷ xs) h = go (member_of_has l xs) (or_cases (nat_eq l x) (has xs l) h)
  where
    go : (has xs l ≡ true → Contains xs l) → (nat_eq l x ≡ true) ⊎ (has xs l ≡ true) → Contains (x ∷ xs) l
    go later (inl e) = subst (Contains (x ∷ xs)) (sym (eqb-true l x e)) (Contains-here x xs)
    go later (inr m) = Contains-later x l xs (later m)

pub has_of_member : (l : ℕ) (xs : List ℕ) → Contains xs l → has xs l ≡ true
has_of_member l [] h = absurd (Contains-none l h)
has_of_member l (x ∷ xs) h = go (has_of_member l xs) (Contains-cases x l xs h)
  where
    go : (Contains xs l → has xs l ≡ true) → (x ≡ l) ⊎ Contains xs l → has (x ∷ xs) l ≡ true
    go later (inl e) = or_left (nat_eq l x) (has xs l) (eq-eqb l x (sym e))
    go later (inr m) = or_right (nat_eq l x) (has xs l) (later m)

pub label_of_one : (m l : ℕ) → has (m ∷ []) l ≡ true → l ≡ m
label_of_one m l h = go (or_cases (nat_eq l m) false h)
  where
    go : (nat_eq l m ≡ true) ⊎ (false ≡ true) → l ≡ m
    go (inl e) = eqb-true l m e
    go (inr f) = absurd cc

pub one_of_label : (m l : ℕ) → m ≡ l → has (m ∷ []) l ≡ true
one_of_label m l e = or_left (nat_eq l m) false (eq-eqb l m (sym e))

-- a set that is pushed leaves the cones as they were
cones_under : (sets : List (List ℕ)) (set : List ℕ) (places : List ℕ)
    → ((i : ℕ) → i < length places → get_or places i 0 < length sets)
    → cones_in (sets ++ set ∷ []) places ≡ cones_in sets places
cones_under sets set [] within = refl
cones_under sets set (p ∷ ps) within =
    let head : get_or (sets ++ set ∷ []) p [] ≡ get_or sets p [] = get_or_append_left sets (set ∷ []) [] p (within 0 (omega arith)) in
    let rest : cones_in (sets ++ set ∷ []) ps ≡ cones_in sets ps = cones_under sets set ps (λ i h. within (suc i) (omega arith)) in
    ap (λ c. c ∷ cones_in (sets ++ set ∷ []) ps) head ∙ ap (λ cs. get_or sets p [] ∷ cs) rest

pub cones_push : (sets new_sets : List (List ℕ)) (set : List ℕ) (places new_places : List ℕ) (place : ℕ)
    → new_sets ≡ sets ++ set ∷ [] → new_places ≡ places ++ place ∷ [] → place ≡ length sets
    → ((i : ℕ) → i < length places → get_or places i 0 < length sets)
    → cones_in new_sets new_places ≡ cones_in sets places ++ set ∷ []
cones_push sets new_sets set places new_places place e f g within =
    ap (λ s. cones_in s new_places) e ∙ ap (λ ps. cones_in (sets ++ set ∷ []) ps) f
    ∙ map-append (λ p. get_or (sets ++ set ∷ []) p []) places (place ∷ [])
    ∙ ap (λ cs. cs ++ get_or (sets ++ set ∷ []) place [] ∷ []) (cones_under sets set places within)
    ∙ ap (λ c. cones_in sets places ++ c ∷ []) (get_or_push sets set [] place (sym g))

-- the cone of a node by the place of its set
pub cone_of_place : (sets : List (List ℕ)) (places : List ℕ) (i : ℕ) → i < length places
    → cone_at (cones_in sets places) i ≡ cone_at sets (get_or places i 0)
cone_of_place sets places i h = get_or-map (λ p. get_or sets p []) places i 0 [] h

-- the place that code finds for a node, and the set at it
pub place_found : (sets : List (List ℕ)) (places : List ℕ) (i p : ℕ) → AreSets sets places → i < length places
    → p ≡ get_or places i p → p < length sets
place_found sets places i p s h e =
    subst (λ q. q < length sets) (sym (e ∙ get_or_default places i p 0 h)) (s.within i h)

pub cone_found : (sets : List (List ℕ)) (places : List ℕ) (i p : ℕ) → AreSets sets places → i < length places
    → p ≡ get_or places i p → cone_at sets p ≡ cone_at (cones_in sets places) i
cone_found sets places i p s h e =
    ap (cone_at sets) (e ∙ get_or_default places i p 0 h) ∙ sym (cone_of_place sets places i h)

pub set_found : (sets : List (List ℕ)) (places : List ℕ) (i p : ℕ) (set : List ℕ) → AreSets sets places → i < length places
    → p ≡ get_or places i p → set ≡ get_or sets p set → set ≡ cone_at (cones_in sets places) i
set_found sets places i p set s h e f =
    f ∙ get_or_default sets p set [] (place_found sets places i p s h e) ∙ cone_found sets places i p s h e

-- the labels of live operands, place by place
pub live_none : (cones : List (List ℕ)) (kind : Kind) (parts : List Part) (operands set : List ℕ) → set ≡ []
    → HasLiveLabels cones kind parts operands 0 set
live_none cones kind parts operands set e l =
    ((λ h. absurd (let f : false ≡ true = ap (λ s. has s l) (sym e) ∙ h in cc)), (λ o. absurd (let w = o.within in omega (arith, w))))

wider : (cones : List (List ℕ)) (kind : Kind) (parts : List Part) (operands : List ℕ) (l below : ℕ)
    → HasLiveOperand cones kind parts operands l below → HasLiveOperand cones kind parts operands l (below + 1)
wider cones kind parts operands l below o =
    record { place = o.place; within = (let w = o.within in omega (arith, w)); live = o.live; member = o.member }

pub live_more : (cones : List (List ℕ)) (kind : Kind) (parts : List Part) (operands old new : List ℕ) (below : ℕ)
    → HasLiveLabels cones kind parts operands below old → IsLiveInput kind (input_places kind parts) below
    → IsUnion old (cone_at cones (get_or operands below 0)) new → HasLiveLabels cones kind parts operands (below + 1) new
live_more cones kind parts operands old new below known live union l = (to, back)
  where
    by_set : (has old l ≡ true) ⊎ (has (cone_at cones (get_or operands below 0)) l ≡ true)
        → HasLiveOperand cones kind parts operands l (below + 1)
    by_set (inl h) = wider cones kind parts operands l below ((known l).0 h)
    by_set (inr h) = record { place = below; within = omega arith; live = live; member = h }

    to : has new l ≡ true → HasLiveOperand cones kind parts operands l (below + 1)
    to h = by_set (or_cases (has old l) (has (cone_at cones (get_or operands below 0)) l) (sym (union.each l) ∙ h))

    by_place : (o : HasLiveOperand cones kind parts operands l (below + 1)) → (o.place ≡ below) ⊎ ((o.place < below) ⊎ (below < o.place))
        → has new l ≡ true
    by_place o (inl e) = union.each l ∙ or_right (has old l) (has (cone_at cones (get_or operands below 0)) l)
        (subst (λ p. has (cone_at cones (get_or operands p 0)) l ≡ true) e o.member)
    by_place o (inr (inl lower)) = union.each l ∙ or_left (has old l) (has (cone_at cones (get_or operands below 0)) l)
        ((known l).1 (record { place = o.place; within = lower; live = o.live; member = o.member }))
    by_place o (inr (inr higher)) = absurd (let w = o.within in omega (arith, w, higher))

    back : HasLiveOperand cones kind parts operands l (below + 1) → has new l ≡ true
    back o = by_place o (cases_order o.place below)

pub live_less : (cones : List (List ℕ)) (kind : Kind) (parts : List Part) (operands set : List ℕ) (below : ℕ)
    → HasLiveLabels cones kind parts operands below set → (IsLiveInput kind (input_places kind parts) below → ⊥)
    → HasLiveLabels cones kind parts operands (below + 1) set
live_less cones kind parts operands set below known dead l =
    ((λ h. wider cones kind parts operands l below ((known l).0 h)), (λ o. by_place o (cases_order o.place below)))
  where
    by_place : (o : HasLiveOperand cones kind parts operands l (below + 1)) → (o.place ≡ below) ⊎ ((o.place < below) ⊎ (below < o.place))
        → has set l ≡ true
    by_place o (inl e) = absurd (dead (subst (IsLiveInput kind (input_places kind parts)) e o.live))
    by_place o (inr (inl lower)) = (known l).1 (record { place = o.place; within = lower; live = o.live; member = o.member })
    by_place o (inr (inr higher)) = absurd (let w = o.within in omega (arith, w, higher))
