-- The cones of the nodes of a masked share that is stored in a register.
use Rattle.std.proofs.Common.{◌≡◌, ℕ, zero, suc, ◌<◌, ◌⊎◌, inl, inr, false, List, [], ◌∷◌, ◌++◌, get_or, refl, sym, ◌∙◌, subst, arith}
use Rattle.std.specs.Prelude.{Contains, ◌↔◌}
use Rattle.std.specs.List.Sorted.{IsStrictlyIncreasing}
use Rattle.std.proofs.lemmas.List.Elements.{Contains-append_cases, Contains-append_left, Contains-append_right}
use Rattle.coco_base.specs.declared.cell.Kind.{Kind}
use Rattle.coco_base.specs.declared.cell.Kind.TheVariants.{Xor}
use Rattle.coco_base.specs.declared.cell.Part.{Part}
use Rattle.coco_base.specs.declared.cell.Part.TheVariants.{Zero, Vary}
use Rattle.coco_base.specs.declared.unrolled.Node.{Node}
use Rattle.coco_base.specs.declared.unrolled.Node.TheVariants.{Nothing, Label, Copy, Gate}
use Rattle.coco_model.specs.Cells.{input_places, IsLiveInput}
use Rattle.coco_model.specs.Cones.{IsInCone, AreCones}
use Rattle.coco_model.specs.Cones.IsInCone.{here, copied, through}
use Rattle.coco_model.specs.Examples.{masked_nodes, masked_cones}
use Rattle.coco_model.proofs.Basics.{Contains-here, Contains-later, Contains-cases, Contains-none}

-- ---- what is in the cone of a node of each form

-- a label is in the cone of an operand that is live
pub record IsThrough (nodes : ℕ → Node) (l : ℕ) (kind : Kind) (parts : List Part) (operands : List ℕ) : Type 0 where
  pub place : ℕ
  pub live : IsLiveInput kind (input_places kind parts) place
  pub rest : IsInCone nodes l (get_or operands place 0)

module _ (nodes : ℕ → Node) (l : ℕ) where
  cone_of_nothing : (i : ℕ) → IsInCone nodes l i → nodes i ≡ Nothing → ⊥
  cone_of_nothing i (here k is) at = let f : Nothing ≡ Label l = sym at ∙ is in cc
  cone_of_nothing i (copied k j is rest) at = let f : Nothing ≡ Copy j = sym at ∙ is in cc
  cone_of_nothing i (through k kind parts operands place is live rest) at = let f : Nothing ≡ Gate kind parts operands = sym at ∙ is in cc

  cone_of_label : (i : ℕ) → IsInCone nodes l i → (m : ℕ) → nodes i ≡ Label m → m ≡ l
  cone_of_label i (here k is) m at = let f : Label m ≡ Label l = sym at ∙ is in cc
  cone_of_label i (copied k j is rest) m at = absurd (let f : Label m ≡ Copy j = sym at ∙ is in cc)
  cone_of_label i (through k kind parts operands place is live rest) m at =
      absurd (let f : Label m ≡ Gate kind parts operands = sym at ∙ is in cc)

  cone_of_copy : (i : ℕ) → IsInCone nodes l i → (j : ℕ) → nodes i ≡ Copy j → IsInCone nodes l j
  cone_of_copy i (here k is) j at = absurd (let f : Copy j ≡ Label l = sym at ∙ is in cc)
  cone_of_copy i (copied k h is rest) j at = let f : Copy j ≡ Copy h = sym at ∙ is in let e : h ≡ j = cc in subst (IsInCone nodes l) e rest
  cone_of_copy i (through k kind parts operands place is live rest) j at =
      absurd (let f : Copy j ≡ Gate kind parts operands = sym at ∙ is in cc)

  cone_of_gate : (i : ℕ) → IsInCone nodes l i → (kind : Kind) (parts : List Part) (operands : List ℕ) → nodes i ≡ Gate kind parts operands
      → IsThrough nodes l kind parts operands
  cone_of_gate i (here k is) kind parts operands at = absurd (let f : Gate kind parts operands ≡ Label l = sym at ∙ is in cc)
  cone_of_gate i (copied k j is rest) kind parts operands at = absurd (let f : Gate kind parts operands ≡ Copy j = sym at ∙ is in cc)
  cone_of_gate i (through k kind' parts' operands' place is live rest) kind parts operands at =
      let f : Gate kind' parts' operands' ≡ Gate kind parts operands = sym is ∙ at in
      let kinds : kind' ≡ kind = cc in let same_parts : parts' ≡ parts = cc in let same_operands : operands' ≡ operands = cc in
      record {
        place = place;
        live = subst (λ n. IsLiveInput n (input_places n parts) place) kinds (subst (λ ps. IsLiveInput kind' (input_places kind' ps) place) same_parts live);
        rest = subst (λ os. IsInCone nodes l (get_or os place 0)) same_operands rest;
      }

  -- an exclusive or of two unknown inputs has what either has
  cone_of_both : (i a b : ℕ) → nodes i ≡ Gate Xor (Vary ∷ Vary ∷ Zero ∷ Zero ∷ []) (a ∷ b ∷ 0 ∷ 0 ∷ [])
      → (IsInCone nodes l a ⊎ IsInCone nodes l b) ↔ IsInCone nodes l i
  cone_of_both i a b at = (to, (λ h. from (cone_of_gate i h Xor (Vary ∷ Vary ∷ Zero ∷ Zero ∷ []) (a ∷ b ∷ 0 ∷ 0 ∷ []) at)))
    where
      live : (place : ℕ) → place < 2 → IsLiveInput Xor (Vary ∷ Vary ∷ []) place
      live zero below = record { varies = refl; inputs = false ∷ false ∷ []; allowed = (tt, (tt, tt)); changes = λ e. cc }
      live (suc zero) below = record { varies = refl; inputs = false ∷ false ∷ []; allowed = (tt, (tt, tt)); changes = λ e. cc }
      live (suc (suc place)) below = absurd (omega arith)

      to : IsInCone nodes l a ⊎ IsInCone nodes l b → IsInCone nodes l i
      to (inl h) = through i Xor (Vary ∷ Vary ∷ Zero ∷ Zero ∷ []) (a ∷ b ∷ 0 ∷ 0 ∷ []) 0 at (live 0 (omega arith)) h
      to (inr h) = through i Xor (Vary ∷ Vary ∷ Zero ∷ Zero ∷ []) (a ∷ b ∷ 0 ∷ 0 ∷ []) 1 at (live 1 (omega arith)) h

      by_place : (place : ℕ) → IsLiveInput Xor (Vary ∷ Vary ∷ []) place → IsInCone nodes l (get_or (a ∷ b ∷ 0 ∷ 0 ∷ []) place 0)
          → IsInCone nodes l a ⊎ IsInCone nodes l b
      by_place zero is h = inl h
      by_place (suc zero) is h = inr h
      by_place (suc (suc place)) is h = absurd (let e = is.varies in cc)

      from : IsThrough nodes l Xor (Vary ∷ Vary ∷ Zero ∷ Zero ∷ []) (a ∷ b ∷ 0 ∷ 0 ∷ []) → IsInCone nodes l a ⊎ IsInCone nodes l b
      from t = by_place t.place t.live t.rest

  -- an exclusive or whose first input is known has what the second has
  cone_of_second : (i b : ℕ) → nodes i ≡ Gate Xor (Zero ∷ Vary ∷ Zero ∷ Zero ∷ []) (0 ∷ b ∷ 0 ∷ 0 ∷ [])
      → IsInCone nodes l b ↔ IsInCone nodes l i
  cone_of_second i b at = (to, (λ h. from (cone_of_gate i h Xor (Zero ∷ Vary ∷ Zero ∷ Zero ∷ []) (0 ∷ b ∷ 0 ∷ 0 ∷ []) at)))
    where
      to : IsInCone nodes l b → IsInCone nodes l i
      to h = through i Xor (Zero ∷ Vary ∷ Zero ∷ Zero ∷ []) (0 ∷ b ∷ 0 ∷ 0 ∷ []) 1 at
          (record { varies = refl; inputs = false ∷ false ∷ []; allowed = (refl, (tt, tt)); changes = λ e. cc }) h

      by_place : (place : ℕ) → IsLiveInput Xor (Zero ∷ Vary ∷ []) place → IsInCone nodes l (get_or (0 ∷ b ∷ 0 ∷ 0 ∷ []) place 0)
          → IsInCone nodes l b
      by_place zero is h = absurd (let e = is.varies in cc)
      by_place (suc zero) is h = h
      by_place (suc (suc place)) is h = absurd (let e = is.varies in cc)

      from : IsThrough nodes l Xor (Zero ∷ Vary ∷ Zero ∷ Zero ∷ []) (0 ∷ b ∷ 0 ∷ 0 ∷ []) → IsInCone nodes l b
      from t = by_place t.place t.live t.rest

-- ---- the nodes of the example

abbrev node_at : ℕ → Node
node_at i = get_or masked_nodes i Nothing

-- the cone of a node has exactly these labels
abbrev HasCone : ℕ → List ℕ → Type 0
HasCone i labels = (l : ℕ) → Contains labels l ↔ IsInCone node_at l i

nothing : (i : ℕ) → node_at i ≡ Nothing → HasCone i []
nothing i at l = ((λ h. absurd (Contains-none l h)), (λ h. absurd (cone_of_nothing node_at l i h at)))

label : (i m : ℕ) → node_at i ≡ Label m → HasCone i (m ∷ [])
label i m at l = ((λ h. to (Contains-cases m l [] h)), (λ h. subst (Contains (m ∷ [])) (cone_of_label node_at l i h m at) (Contains-here m [])))
  where
    to : (m ≡ l) ⊎ Contains [] l → IsInCone node_at l i
    to (inl e) = subst (λ k. IsInCone node_at k i) e (here i at)
    to (inr none) = absurd (Contains-none l none)

copy : (i j : ℕ) (labels : List ℕ) → node_at i ≡ Copy j → HasCone j labels → HasCone i labels
copy i j labels at cone l = ((λ h. copied i j at ((cone l).0 h)), (λ h. (cone l).1 (cone_of_copy node_at l i h j at)))

both : (i a b : ℕ) (xs ys : List ℕ) → node_at i ≡ Gate Xor (Vary ∷ Vary ∷ Zero ∷ Zero ∷ []) (a ∷ b ∷ 0 ∷ 0 ∷ []) → HasCone a xs → HasCone b ys
    → HasCone i (xs ++ ys)
both i a b xs ys at of_a of_b l = ((λ h. (cone_of_both node_at l i a b at).0 (into (Contains-append_cases xs ys l h))), (λ h. out ((cone_of_both node_at l i a b at).1 h)))
  where
    into : Contains xs l ⊎ Contains ys l → IsInCone node_at l a ⊎ IsInCone node_at l b
    into (inl h) = inl ((of_a l).0 h)
    into (inr h) = inr ((of_b l).0 h)

    out : IsInCone node_at l a ⊎ IsInCone node_at l b → Contains (xs ++ ys) l
    out (inl h) = Contains-append_left xs ys l ((of_a l).1 h)
    out (inr h) = Contains-append_right xs ys l ((of_b l).1 h)

second : (i b : ℕ) (labels : List ℕ) → node_at i ≡ Gate Xor (Zero ∷ Vary ∷ Zero ∷ Zero ∷ []) (0 ∷ b ∷ 0 ∷ 0 ∷ []) → HasCone b labels
    → HasCone i labels
second i b labels at cone l = ((λ h. (cone_of_second node_at l i b at).0 ((cone l).0 h)), (λ h. (cone l).1 ((cone_of_second node_at l i b at).1 h)))

-- the order of labels in a list is of no matter
exchanged : (l a b c : ℕ) → Contains (a ∷ b ∷ c ∷ []) l → Contains (a ∷ c ∷ b ∷ []) l
exchanged l a b c h = first (Contains-cases a l (b ∷ c ∷ []) h)
  where
    third : (c ≡ l) ⊎ Contains [] l → Contains (a ∷ c ∷ b ∷ []) l
    third (inl e) = subst (Contains (a ∷ c ∷ b ∷ [])) e (Contains-later a c (c ∷ b ∷ []) (Contains-here c (b ∷ [])))
    third (inr none) = absurd (Contains-none l none)

    middle : (b ≡ l) ⊎ Contains (c ∷ []) l → Contains (a ∷ c ∷ b ∷ []) l
    middle (inl e) = subst (Contains (a ∷ c ∷ b ∷ [])) e (Contains-later a b (c ∷ b ∷ []) (Contains-later c b (b ∷ []) (Contains-here b [])))
    middle (inr h) = third (Contains-cases c l [] h)

    first : (a ≡ l) ⊎ Contains (b ∷ c ∷ []) l → Contains (a ∷ c ∷ b ∷ []) l
    first (inl e) = subst (Contains (a ∷ c ∷ b ∷ [])) e (Contains-here a (c ∷ b ∷ []))
    first (inr h) = middle (Contains-cases b l (c ∷ []) h)

first_share : HasCone 1 (0 ∷ [])
first_share = label 1 0 refl

second_share : HasCone 2 (1 ∷ [])
second_share = label 2 1 refl

mask : HasCone 3 (2 ∷ [])
mask = label 3 2 refl

masked : HasCone 4 (0 ∷ 2 ∷ [])
masked = both 4 1 3 (0 ∷ []) (2 ∷ []) refl first_share mask

joined : HasCone 13 (0 ∷ 1 ∷ 2 ∷ [])
joined l = ((λ h. (all l).0 (exchanged l 0 1 2 h)), (λ h. exchanged l 0 2 1 ((all l).1 h)))
  where
    all : HasCone 13 (0 ∷ 2 ∷ 1 ∷ [])
    all = both 13 12 9 (0 ∷ 2 ∷ []) (1 ∷ []) refl (copy 12 4 (0 ∷ 2 ∷ []) refl masked) (copy 9 2 (1 ∷ []) refl second_share)

-- P holds of each number below a bound
abbrev AllBelow : (ℕ → Type 0) → ℕ → Type 0
AllBelow P zero = Unit {0}
AllBelow P (suc n) = P 0 × AllBelow (λ k. P (suc k)) n

each_below : (P : ℕ → Type 0) (n : ℕ) → AllBelow P n → (k : ℕ) → k < n → P k
each_below P zero all k below = absurd (omega arith)
each_below P (suc n) all zero below = all.0
each_below P (suc n) all (suc k) below = each_below (λ k. P (suc k)) n all.1 k (omega arith)

none_ascend : IsStrictlyIncreasing []
none_ascend k below = absurd (omega arith)

one_ascends : (a : ℕ) → IsStrictlyIncreasing (a ∷ [])
one_ascends a k below = absurd (omega arith)

two_ascend : IsStrictlyIncreasing (0 ∷ 2 ∷ [])
two_ascend zero below = omega arith
two_ascend (suc k) below = absurd (omega arith)

three_ascend : IsStrictlyIncreasing (0 ∷ 1 ∷ 2 ∷ [])
three_ascend zero below = omega arith
three_ascend (suc zero) below = omega arith
three_ascend (suc (suc k)) below = absurd (omega arith)

pub are_cones : AreCones masked_nodes masked_cones
are_cones = record {
  ascending = each_below (λ i. IsStrictlyIncreasing (masked_cones i)) 14 (
    none_ascend,
    (
      one_ascends 0,
      (
        one_ascends 1,
        (
          one_ascends 2,
          (
            two_ascend,
            (
              none_ascend,
              (
                one_ascends 1,
                (none_ascend, (one_ascends 0, (one_ascends 1, (one_ascends 2, (two_ascend, (two_ascend, (three_ascend, tt))))))),
              ),
            ),
          ),
        ),
      ),
    ),
  );
  members = each_below (λ i. HasCone i (masked_cones i)) 14 (
    nothing 0 refl,
    (
      first_share,
      (
        second_share,
        (
          mask,
          (
            masked,
            (
              nothing 5 refl,
              (
                second 6 2 (1 ∷ []) refl second_share,
                (
                  nothing 7 refl,
                  (
                    copy 8 1 (0 ∷ []) refl first_share,
                    (
                      copy 9 2 (1 ∷ []) refl second_share,
                      (
                        copy 10 3 (2 ∷ []) refl mask,
                        (
                          copy 11 4 (0 ∷ 2 ∷ []) refl masked,
                          (
                            copy 12 4 (0 ∷ 2 ∷ []) refl masked,
                            (joined, tt),
                          ),
                        ),
                      ),
                    ),
                  ),
                ),
              ),
            ),
          ),
        ),
      ),
    ),
  );
}
