-- Masks of live inputs.
use Rattle.std.proofs.Common.{◌≡◌, ℕ, zero, suc, ◌+◌, ◌*◌, ◌/◌, ◌%◌, ◌<◌, ◌≤◌, ◌⊎◌, inl, inr, Bool, true, false, cond, nat_eq, List, [], ◌∷◌, ◌++◌, length, get_or, ◌≢◌, refl, sym, ◌∙◌, ap, subst, arith}
use Rattle.std.specs.Prelude.{◌↔◌, slice_get, Some, IsTrue}
use Rattle.std.proofs.lemmas.Bool.{cases_eq, cases_order, eq-eqb, eqb-true, ne_eqb}
use Rattle.std.proofs.lemmas.List.{get_or_past, get_or_push, get_or_append_left, length-append, length-take}
use mir.Val.{bool_byte}
use Rattle.coco_base.specs.declared.netlist.Flat.{Flat}
use Rattle.coco_base.specs.declared.netlist.FlatCell.{FlatCell}
use Rattle.coco_base.specs.declared.cell.Kind.{Kind}
use Rattle.coco_base.specs.declared.cell.Part.{Part}
use Rattle.coco_base.specs.declared.cell.Part.TheVariants.{Zero, Vary}
use Rattle.coco_model.specs.Cells.{input_places, input_count, IsLiveInput}
use Rattle.coco_model.specs.Known.{Row, cell_parts}
use Rattle.coco_model.specs.Reach.{IsLive}
use Rattle.gate_graph.proofs.Items.{place_below}
use Rattle.calm_reach.specs.CalmRows.{Calmness, calm_of, has_place, half, is_live, AreLiveInputs}
use Rattle.calm_reach.specs.Masks.{IsLiveMask, IsMaskAt, IsPairAt}

-- a number that stands for whether something holds
abbrev pub Tells : ℕ → Type 0 → Type 0
Tells n P = (n ≤ 1) × ((n ≡ 1) ↔ P)

is_one : (n : ℕ) → (nat_eq n 1 ≡ true) ↔ (n ≡ 1)
is_one n = ((λ h. eqb-true n 1 h), (λ e. eq-eqb n 1 e))

chain : (b : Bool) (n m : ℕ) (P : Type 0) → (b ≡ true) ↔ (n ≡ 1) → n ≡ m → ((m ≡ 1) ↔ P) → (b ≡ true) ↔ P
chain b n m P f e g = ((λ h. g.0 (sym e ∙ f.0 h)), (λ p. f.1 (e ∙ g.1 p)))

pub mask_of_four : (calm : Row) (cell : FlatCell) (a b c d : ℕ) → ((place : ℕ) → 4 ≤ place → IsLive calm cell place → ⊥)
    → Tells a (IsLive calm cell 0) → Tells b (IsLive calm cell 1) → Tells c (IsLive calm cell 2) → Tells d (IsLive calm cell 3)
    → IsLiveMask calm cell (a + 2 * b + 4 * c + 8 * d)
mask_of_four calm cell a b c d few at_a at_b at_c at_d = record { small = (let p = at_a.0 in let q = at_b.0 in let r = at_c.0 in let s = at_d.0 in omega (arith, p, q, r, s)); each = each }
  where
    mask : ℕ
    mask = a + 2 * b + 4 * c + 8 * d

    each : (place : ℕ) → (has_place (a + 2 * b + 4 * c + 8 * d) place ≡ true) ↔ IsLive calm cell place
    each zero = chain (has_place (a + 2 * b + 4 * c + 8 * d) 0) ((a + 2 * b + 4 * c + 8 * d) % 2) a (IsLive calm cell 0) (is_one ((a + 2 * b + 4 * c + 8 * d) % 2))
        (let p = at_a.0 in let q = at_b.0 in let r = at_c.0 in let s = at_d.0 in omega (arith, p, q, r, s)) at_a.1
    each (suc zero) = chain (has_place (a + 2 * b + 4 * c + 8 * d) 1) ((a + 2 * b + 4 * c + 8 * d) / 2 % 2) b (IsLive calm cell 1) (is_one ((a + 2 * b + 4 * c + 8 * d) / 2 % 2))
        (let p = at_a.0 in let q = at_b.0 in let r = at_c.0 in let s = at_d.0 in omega (arith, p, q, r, s)) at_b.1
    each (suc (suc zero)) = chain (has_place (a + 2 * b + 4 * c + 8 * d) 2) ((a + 2 * b + 4 * c + 8 * d) / 4 % 2) c (IsLive calm cell 2) (is_one ((a + 2 * b + 4 * c + 8 * d) / 4 % 2))
        (let p = at_a.0 in let q = at_b.0 in let r = at_c.0 in let s = at_d.0 in omega (arith, p, q, r, s)) at_c.1
    each (suc (suc (suc zero))) = chain (has_place (a + 2 * b + 4 * c + 8 * d) 3) ((a + 2 * b + 4 * c + 8 * d) / 8 % 2) d (IsLive calm cell 3) (is_one ((a + 2 * b + 4 * c + 8 * d) / 8 % 2))
        (let p = at_a.0 in let q = at_b.0 in let r = at_c.0 in let s = at_d.0 in omega (arith, p, q, r, s)) at_d.1
    each (suc (suc (suc (suc n)))) = ((λ h. absurd cc), (λ l. absurd (few (suc (suc (suc (suc n)))) (omega arith) l)))

-- no input behind the fourth is live
pub few_live : (calm : Row) (cell : FlatCell) (parts : List Part) → input_places cell.kind parts ≡ cell_parts calm cell → length parts ≡ 4
    → (place : ℕ) → 4 ≤ place → IsLive calm cell place → ⊥
few_live calm cell parts same four place high live =
    let short = length-take (input_count cell.kind) parts in
    let past : length (input_places cell.kind parts) ≤ place = omega (arith, short, four, high) in
    let is_zero : get_or (cell_parts calm cell) place Zero ≡ Zero =
    subst (λ ps. get_or ps place Zero ≡ Zero) same (get_or_past (input_places cell.kind parts) place Zero past) in
    let f : Zero ≡ Vary = sym is_zero ∙ live.varies in cc

-- the masks of pairs tell the live inputs of all cells
pub live_of_pairs : (flat : Flat) (row : Calmness) → ((pair : ℕ) → pair < length row.masks → IsPairAt (calm_of row) flat.cells pair (get_or row.masks pair 0))
    → length row.masks ≡ (length flat.cells + 1) / 2 → AreLiveInputs flat row
live_of_pairs flat row pairs long = record { each = λ number cell at. each number cell at (cases_eq (number % 2) 0) }
  where
    pair_of : (number : ℕ) (cell : FlatCell) → slice_get flat.cells number ≡ Some cell
        → IsPairAt (calm_of row) flat.cells (number / 2) (get_or row.masks (number / 2) 0)
    pair_of number cell at = let b = place_below flat.cells number cell at in pairs (number / 2) (let l = long in omega (arith, l, b))

    by_half : (number : ℕ) (h : ℕ) (cell : FlatCell) → half (get_or row.masks (number / 2) 0) number ≡ h
        → IsLiveMask (calm_of row) cell h → (place : ℕ) → (is_live row number place ≡ true) ↔ IsLive (calm_of row) cell place
    by_half number h cell e m place = subst (λ k. (has_place k place ≡ true) ↔ IsLive (calm_of row) cell place) (sym e) (m.each place)

    each : (number : ℕ) (cell : FlatCell) → slice_get flat.cells number ≡ Some cell → (number % 2 ≡ 0) ⊎ (number % 2 ≢ 0)
        → (place : ℕ) → (is_live row number place ≡ true) ↔ IsLive (calm_of row) cell place
    each number cell at (inl even) =
        by_half number (get_or row.masks (number / 2) 0 % 16) cell (ap (λ b. cond b (get_or row.masks (number / 2) 0 % 16) (get_or row.masks (number / 2) 0 / 16)) (eq-eqb (number % 2) 0 even))
        ((pair_of number cell at).even.each cell (subst (λ n. slice_get flat.cells n ≡ Some cell) (omega (arith, even)) at))
    each number cell at (inr odd) =
        by_half number (get_or row.masks (number / 2) 0 / 16) cell (ap (λ b. cond b (get_or row.masks (number / 2) 0 % 16) (get_or row.masks (number / 2) 0 / 16)) (ne_eqb (number % 2) 0 odd))
        ((pair_of number cell at).odd.each cell (subst (λ n. slice_get flat.cells n ≡ Some cell) (omega (arith, odd)) at))

-- the byte of a test
pub tells_bool : (kind : Kind) (places parts : List Part) (place : ℕ) (b : Bool) (n : ℕ) → places ≡ parts → n ≡ bool_byte b
    → IsTrue b ↔ IsLiveInput kind places place → Tells n (IsLiveInput kind parts place)
tells_bool kind places parts place true n same e live =
    let one : n ≡ 1 = e in (omega (arith, one), ((λ h. subst (λ ps. IsLiveInput kind ps place) same (live.0 refl)), (λ h. one)))
tells_bool kind places parts place false n same e live =
    let none : n ≡ 0 = e in
    (omega (arith, none), ((λ h. absurd (omega (arith, none, h))), (λ h. absurd (let f : false ≡ true = live.1 (subst (λ ps. IsLiveInput kind ps place) (sym same) h) in cc))))

-- the byte of a pair of cells
pub pair_of_masks : (calm : Row) (cells : List FlatCell) (pair even odd : ℕ) → IsMaskAt calm cells (2 * pair) even
    → IsMaskAt calm cells (2 * pair + 1) odd → IsPairAt calm cells pair (even + 16 * odd)
pair_of_masks calm cells pair even odd e o =
    let low = e.small in
    let first : even ≡ (even + 16 * odd) % 16 = omega (arith, low) in let second : odd ≡ (even + 16 * odd) / 16 = omega (arith, low) in
    record { even = subst (IsMaskAt calm cells (2 * pair)) first e; odd = subst (IsMaskAt calm cells (2 * pair + 1)) second o }

-- one byte more
pub pairs_more : (calm : Row) (cells : List FlatCell) (old new : List ℕ) (pair byte : ℕ) → new ≡ old ++ byte ∷ [] → length old ≡ pair
    → IsPairAt calm cells pair byte → ((p : ℕ) → p < pair → IsPairAt calm cells p (get_or old p 0))
    → (length new ≡ pair + 1) × ((p : ℕ) → p < pair + 1 → IsPairAt calm cells p (get_or new p 0))
pairs_more calm cells old new pair byte e long here known = (ap length e ∙ length-append old (byte ∷ []) ∙ ap (λ n. n + 1) long, λ p h. each p h (cases_order p pair))
  where
    each : (p : ℕ) → p < pair + 1 → (p ≡ pair) ⊎ ((p < pair) ⊎ (pair < p)) → IsPairAt calm cells p (get_or new p 0)
    each p h (inl same) =
        let is : get_or new p 0 ≡ byte = ap (λ l. get_or l p 0) e ∙ get_or_push old byte 0 p (long ∙ sym same) in
        subst (IsPairAt calm cells p) (sym is) (subst (λ q. IsPairAt calm cells q byte) (sym same) here)
    each p h (inr (inl less)) =
        let is : get_or new p 0 ≡ get_or old p 0 = ap (λ l. get_or l p 0) e ∙ get_or_append_left old (byte ∷ []) 0 p (omega (arith, less, long)) in
        subst (IsPairAt calm cells p) (sym is) (known p less)
    each p h (inr (inr more)) = absurd (omega (arith, h, more))
