-- The sets of nodes by a selection: what a node reads by its choice, one node more, and that the sets are one.
use Rattle.std.proofs.Common.{◌≡◌, ℕ, zero, suc, ◌+◌, ◌<◌, ◌≤◌, ◌⊎◌, inl, inr, true, false, ◌&&◌, List, [], ◌∷◌, ◌++◌, length, get_or, refl, sym, ◌∙◌, ap, subst, arith, length-append}
use Rattle.std.proofs.lemmas.Bool.{cases_order}
use Rattle.std.proofs.lemmas.List.{get_or-take, get_or_append_left, get_or_push, length-take}
use Rattle.cell_table.proofs.Sums.{length-input_places}
use Rattle.coco_base.specs.LabelSets.{has}
use Rattle.coco_base.specs.declared.cell.Kind.{Kind}
use Rattle.coco_base.specs.declared.cell.Part.{Part}
use Rattle.coco_base.specs.declared.cell.Part.TheVariants.{Zero, Vary}
use Rattle.coco_base.specs.declared.unrolled.Node.{Node}
use Rattle.coco_base.specs.declared.unrolled.Node.TheVariants.{Nothing, Label, Copy, Gate}
use Rattle.coco_base.specs.declared.unrolled.Unrolled.{Unrolled}
use Rattle.coco_model.specs.Cells.{xor, Subset, input_count, input_places, subset_of_number}
use Rattle.coco_model.specs.Findings.{Labels, chosen_set}
use Rattle.coco_model.specs.Nodes.{node_set, IsAllowedChoice, IsNodeSelection}
use Rattle.coco_model.specs.UnrolledRuns.{node_at, IsGoodNode, IsUnrolledValue}
use Rattle.model_laws.proofs.Needed.{varying_place}
use Rattle.stable_sets.specs.Chosen.{AreAllowed, AreFollowed, AreFollowedTo, IsSetOf, ReadsChosenBelow, sets_in}

-- families of sets that agree at the chosen places have one symmetric difference there
chosen_set-cong : (f g : ℕ → Labels) (subset : Subset) (xs : List ℕ) (l : ℕ)
    → ((place : ℕ) → get_or subset place false ≡ true → f (get_or xs place 0) l ≡ g (get_or xs place 0) l)
    → chosen_set f subset xs l ≡ chosen_set g subset xs l
chosen_set-cong f g [] xs l each = refl
chosen_set-cong f g (s ∷ ss) [] l each = refl
chosen_set-cong f g (true ∷ ss) (x ∷ xs) l each =
    ap (λ b. xor (true && b) (chosen_set f ss xs l)) (each 0 refl)
    ∙ ap (λ b. xor (true && g x l) b) (chosen_set-cong f g ss xs l (λ place e. each (suc place) e))
chosen_set-cong f g (false ∷ ss) (x ∷ xs) l each =
    ap (λ b. xor false b) (chosen_set-cong f g ss xs l (λ place e. each (suc place) e))

-- a gate of an unrolled run has four operands, so as many inputs as its kind
pub operands_long : (kind : Kind) (operands : List ℕ) → length operands ≡ 4 → length (input_places kind operands) ≡ input_count kind
operands_long kind operands four =
    let parts : List Part = Zero ∷ Zero ∷ Zero ∷ Zero ∷ [] in
    let short = length-take (input_count kind) parts in
    let all = length-input_places kind parts refl in
    let n = length-take (input_count kind) operands in
    omega (arith, short, all, n, four)

-- what a node of an unrolled run reads by its choice are earlier nodes
pub reads_earlier : (u : Unrolled) (i number : ℕ) (node : Node) → IsGoodNode u i node → IsAllowedChoice number node
    → ReadsChosenBelow i number node
reads_earlier u i number Nothing good choice = tt
reads_earlier u i number (Label l) good choice = tt
reads_earlier u i number (Copy j) good choice = good.0
reads_earlier u i number (Gate kind parts operands) good choice = at
  where
    long : length (input_places kind operands) ≡ input_count kind
    long = operands_long kind operands good.operands_long

    at : (place : ℕ) → get_or (subset_of_number (length (input_places kind operands)) number) place false ≡ true
        → get_or (input_places kind operands) place 0 < i
    at place chosen =
        subst (λ o. o < i) (sym (get_or-take (input_count kind) operands place 0 inside))
        (good.earlier place (sym (get_or-take (input_count kind) parts place Zero inside) ∙ varies))
      where
        varies : get_or (input_places kind parts) place Zero ≡ Vary
        varies = choice.1.varies.varies place (subst (λ n. get_or (subset_of_number n number) place false ≡ true) long chosen)

        inside : place < input_count kind
        inside = varying_place kind parts place varies

-- families of sets that agree at what a node reads give it one set
pub node_set-cong : (f g : ℕ → Labels) (bound number : ℕ) (node : Node) (l : ℕ) → ReadsChosenBelow bound number node
    → ((parts : List Part) (kind : Kind) (operands : List ℕ) → node ≡ Gate kind parts operands → length operands ≡ 4)
    → ((j : ℕ) → j < bound → f j l ≡ g j l) → node_set f number node l ≡ node_set g number node l
node_set-cong f g bound number Nothing l reads four agree = refl
node_set-cong f g bound number (Label k) l reads four agree = refl
node_set-cong f g bound number (Copy j) l reads four agree = agree j reads
node_set-cong f g bound number (Gate kind parts operands) l reads four agree =
    chosen_set-cong f g (subset_of_number (input_count kind) number) (input_places kind operands) l
    (λ place chosen. agree (get_or (input_places kind operands) place 0) (reads place
    (subst (λ n. get_or (subset_of_number n number) place false ≡ true)
    (sym (operands_long kind operands (four parts kind operands refl))) chosen)))

four_operands : (u : Unrolled) (i : ℕ) (node : Node) → IsGoodNode u i node
    → (parts : List Part) (kind : Kind) (operands : List ℕ) → node ≡ Gate kind parts operands → length operands ≡ 4
four_operands u i node good parts kind operands e = (subst (IsGoodNode u i) e good).operands_long

module _ (u : Unrolled) (is : IsUnrolledValue u) (numbers : List ℕ) (allowed : AreAllowed u.nodes numbers) where
  pub node_reads : (i : ℕ) → i < length u.nodes → ReadsChosenBelow i (get_or numbers i 0) (node_at u i)
  node_reads i below = reads_earlier u i (get_or numbers i 0) (node_at u i) (is.nodes i below) (allowed.each i below)

  node_set-agree : (f g : ℕ → Labels) (i l : ℕ) → i < length u.nodes → ((j : ℕ) → j < i → f j l ≡ g j l)
      → node_set f (get_or numbers i 0) (node_at u i) l ≡ node_set g (get_or numbers i 0) (node_at u i) l
  node_set-agree f g i l below = node_set-cong f g i (get_or numbers i 0) (node_at u i) l (node_reads i below)
      (four_operands u i (node_at u i) (is.nodes i below))

  -- a list of sets with one more, at the places before it
  same_before : (sets : List (List ℕ)) (set : List ℕ) (i l : ℕ) → i < length sets
      → sets_in sets i l ≡ sets_in (sets ++ set ∷ []) i l
  same_before sets set i l below = ap (λ s. has s l) (sym (get_or_append_left sets (set ∷ []) [] i below))

  -- the sets of the first nodes, and of the next
  pub followed_more : (sets : List (List ℕ)) (set : List ℕ) (place : ℕ) → place < length u.nodes
      → AreFollowedTo u.nodes numbers place sets → IsSetOf sets (get_or numbers place 0) (node_at u place) set
      → AreFollowedTo u.nodes numbers (place + 1) (sets ++ set ∷ [])
  followed_more sets set place inside known own = record {
    as_long = length-append sets (set ∷ []) ∙ (let n = known.as_long in omega (arith, n));
    each = λ i below l. go i l below (cases_order i place);
  }
    where
      earlier : (i j l : ℕ) → i ≤ place → j < i → sets_in sets j l ≡ sets_in (sets ++ set ∷ []) j l
      earlier i j l low below = same_before sets set j l (let n = known.as_long in omega (arith, n, low, below))

      go : (i l : ℕ) → i < place + 1 → (i ≡ place) ⊎ ((i < place) ⊎ (place < i))
          → sets_in (sets ++ set ∷ []) i l
          ≡ node_set (sets_in (sets ++ set ∷ [])) (get_or numbers i 0) (node_at u i) l
      go i l below (inl e) =
          subst (λ k. sets_in (sets ++ set ∷ []) k l ≡ node_set (sets_in (sets ++ set ∷ [])) (get_or numbers k 0) (node_at u k) l) (sym e)
          (ap (λ s. has s l) (get_or_push sets set [] place known.as_long) ∙ own l
          ∙ node_set-agree (sets_in sets) (sets_in (sets ++ set ∷ [])) place l inside (λ j low. earlier place j l (omega arith) low))
      go i l below (inr (inl lower)) =
          sym (same_before sets set i l (let n = known.as_long in omega (arith, n, lower))) ∙ known.each i lower l
          ∙ node_set-agree (sets_in sets) (sets_in (sets ++ set ∷ [])) i l (omega (arith, inside, lower))
          (λ j low. earlier i j l (omega (arith, lower)) low)
      go i l below (inr (inr higher)) = absurd (omega (arith, below, higher))

  -- the sets that a selection gives are one
  pub sets_agree : (f g : ℕ → Labels) → IsNodeSelection u.nodes numbers f → IsNodeSelection u.nodes numbers g
      → (n i l : ℕ) → i < n → i < length u.nodes → f i l ≡ g i l
  sets_agree f g one other zero i l low below = absurd (omega (arith, low))
  sets_agree f g one other (suc n) i l low below =
      one.follows i below l
      ∙ node_set-agree f g i l below (λ j less. sets_agree f g one other n j l (omega (arith, low, less)) (omega (arith, less, below)))
      ∙ sym (other.follows i below l)

-- all sets
pub followed_all : (nodes : List Node) (numbers : List ℕ) (sets : List (List ℕ)) → AreAllowed nodes numbers
    → AreFollowedTo nodes numbers (length nodes) sets → AreFollowed nodes numbers sets
followed_all nodes numbers sets allowed known = record {
  as_long = known.as_long;
  selection = record { as_long = allowed.as_long; allowed = allowed.each; follows = known.each };
}
