-- A node that does not matter never takes part.
use Rattle.std.proofs.Common.{◌≡◌, ℕ, zero, suc, ◌<◌, ◌≤◌, ◌⊎◌, inl, inr, true, false, ◌&&◌, List, [], ◌∷◌, length, get_or, refl, sym, ◌∙◌, ap, subst, arith}
use Rattle.std.proofs.lemmas.Bool.{cases_lt}
use Rattle.std.proofs.lemmas.List.{get_or_past, get_or-take, length-take}
use Rattle.coco_base.specs.declared.cell.Kind.{Kind}
use Rattle.coco_base.specs.declared.cell.Part.{Part}
use Rattle.coco_base.specs.declared.cell.Part.TheVariants.{Zero, Vary}
use Rattle.coco_base.specs.declared.unrolled.Node.{Node}
use Rattle.coco_base.specs.declared.unrolled.Node.TheVariants.{Nothing, Label, Copy, Gate}
use Rattle.coco_base.specs.declared.unrolled.Unrolled.{Unrolled}
use Rattle.coco_model.specs.Cells.{xor, Subset, input_count, input_places, subset_of_number}
use Rattle.coco_model.specs.Findings.{Labels, chosen_set}
use Rattle.coco_model.specs.Nodes.{node_set, IsAllowedChoice, IsNodeSelection}
use Rattle.coco_model.specs.WrittenFindings.{IsNoGate}
use Rattle.coco_model.specs.UnrolledRuns.{node_at, IsGoodNode, IsUnrolledValue}
use Rattle.coco_model.specs.Matters.{Matters}
use Rattle.coco_model.specs.Matters.Matters.{copied, read}
use Rattle.model_laws.specs.NodeLaws.{MattersLaw}

chosen_set-cong : (f g : ℕ → Labels) (subset : Subset) (xs : List ℕ) (l : ℕ)
    → ((place : ℕ) → get_or subset place false ≡ true → f (get_or xs place 0) l ≡ g (get_or xs place 0) l)
    → chosen_set f subset xs l ≡ chosen_set g subset xs l
chosen_set-cong f g [] xs l each = refl
chosen_set-cong f g (s ∷ ss) [] l each = refl
chosen_set-cong f g (true ∷ ss) (x ∷ xs) l each =
    ap (λ b. xor (true && b) (chosen_set f ss xs l)) (each 0 refl)
    ∙ ap (λ b. xor (true && g x l) b) (chosen_set-cong f g ss xs l (λ place e. each (suc place) e))
chosen_set-cong f g (false ∷ ss) (x ∷ xs) l each =
    ap (λ b. xor false b) (chosen_set-cong f g ss xs l (λ place e. each (suc place) e))

-- a place of the inputs that varies is one of the kind's
pub varying_place : (kind : Kind) (parts : List Part) (place : ℕ) → get_or (input_places kind parts) place Zero ≡ Vary
    → place < input_count kind
varying_place kind parts place e = go (cases_lt place (input_count kind))
  where
    go : (place < input_count kind) ⊎ (input_count kind ≤ place) → place < input_count kind
    go (inl below) = below
    go (inr past) =
        let short = length-take (input_count kind) parts in
        let z = get_or_past (input_places kind parts) place Zero (omega arith) in
        absurd (let f : Zero ≡ Vary = sym z ∙ e in cc)

module _ (u : Unrolled) (is : IsUnrolledValue u) (numbers others : List ℕ) (sets other_sets : ℕ → Labels)
    (one : IsNodeSelection u.nodes numbers sets) (other : IsNodeSelection u.nodes others other_sets)
    (agree : (i : ℕ) → i < length u.nodes → Matters (node_at u) i → get_or numbers i 0 ≡ get_or others i 0) where
  -- a node that matters, or is no gate
  TakesPart : ℕ → Type 0
  TakesPart i = Matters (node_at u) i ⊎ IsNoGate (node_at u i)

  -- a node takes part where it matters if it is a gate
  takes_part : (j : ℕ) → ((kind : Kind) (parts : List Part) (operands : List ℕ) → node_at u j ≡ Gate kind parts operands
      → Matters (node_at u) j) → TakesPart j
  unfolding TakesPart
  takes_part j matters = go (node_at u j) refl
    where
      go : (node : Node) → node_at u j ≡ node → Matters (node_at u) j ⊎ IsNoGate (node_at u j)
      go Nothing e = inr (λ kind parts operands f. cc)
      go (Label l) e = inr (λ kind parts operands f. cc)
      go (Copy k) e = inr (λ kind parts operands f. cc)
      go (Gate kind parts operands) e = inl (matters kind parts operands e)

  by_follows : (i l : ℕ) → i < length u.nodes → (node : Node) → node_at u i ≡ node
      → node_set sets (get_or numbers i 0) node l ≡ node_set other_sets (get_or others i 0) node l
      → sets i l ≡ other_sets i l
  by_follows i l below node e same =
      one.follows i below l ∙ ap (λ n. node_set sets (get_or numbers i 0) n l) e ∙ same
      ∙ sym (other.follows i below l ∙ ap (λ n. node_set other_sets (get_or others i 0) n l) e)

  same_sets : (n i l : ℕ) → i < n → i < length u.nodes → TakesPart i → sets i l ≡ other_sets i l
  unfolding TakesPart
  same_sets zero i l lt below takes = absurd (omega arith)
  same_sets (suc n) i l lt below takes = by_node (node_at u i) refl (λ j m. same_sets n j l m)
    where
      by_node : (node : Node) → node_at u i ≡ node
          → ((j : ℕ) → j < n → j < length u.nodes → TakesPart j → sets j l ≡ other_sets j l) → sets i l ≡ other_sets i l
      by_node Nothing e lower = by_follows i l below Nothing e refl
      by_node (Label k) e lower = by_follows i l below (Label k) e refl
      by_node (Copy j) e lower = by_follows i l below (Copy j) e
          (let lt_i = earlier in lower j (omega arith) (omega arith) (takes_part j (λ kind parts operands f. copied j i kind parts operands f e)))
        where
          earlier : j < i
          earlier = (subst (IsGoodNode u i) e (is.nodes i below)).0
      by_node (Gate kind parts operands) e lower = by_follows i l below (Gate kind parts operands) e (go takes)
        where
          subset : Subset
          subset = subset_of_number (input_count kind) (get_or others i 0)

          go : Matters (node_at u) i ⊎ IsNoGate (node_at u i)
              → node_set sets (get_or numbers i 0) (Gate kind parts operands) l
              ≡ node_set other_sets (get_or others i 0) (Gate kind parts operands) l
          go (inr no_gate) = absurd (no_gate kind parts operands e)
          go (inl matters) =
              ap (λ m. chosen_set sets (subset_of_number (input_count kind) m) (input_places kind operands) l) (agree i below matters)
              ∙ chosen_set-cong sets other_sets subset (input_places kind operands) l at_place
            where
              at_place : (place : ℕ) → get_or subset place false ≡ true
                  → sets (get_or (input_places kind operands) place 0) l ≡ other_sets (get_or (input_places kind operands) place 0) l
              at_place place chosen =
                  subst (λ o. sets o l ≡ other_sets o l) (sym operand)
                  (let lt_i = earlier in lower (get_or operands place 0) (omega arith) (omega arith) (takes_part (get_or operands place 0)
                  (λ k ps os f. read (get_or operands place 0) i place k kind ps parts os operands f e matters varies refl)))
                where
                  varies : get_or (input_places kind parts) place Zero ≡ Vary
                  varies =
                      (subst (IsAllowedChoice (get_or others i 0)) e (other.allowed i below)).1.varies.varies place chosen

                  inside : place < input_count kind
                  inside = varying_place kind parts place varies

                  operand : get_or (input_places kind operands) place 0 ≡ get_or operands place 0
                  operand = get_or-take (input_count kind) operands place 0 inside

                  earlier : get_or operands place 0 < i
                  earlier = (subst (IsGoodNode u i) e (is.nodes i below)).earlier place
                      (sym (get_or-take (input_count kind) parts place Zero inside) ∙ varies)

pub matters_law : MattersLaw
unfolding MattersLaw TakesPart
matters_law u is numbers others sets other_sets one other agree i l below takes =
    same_sets u is numbers others sets other_sets one other agree (suc i) i l (omega arith) below takes
