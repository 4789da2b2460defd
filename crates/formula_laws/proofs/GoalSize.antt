-- The goal has few clauses for the labels with variables.
use Rattle.std.proofs.Common.{◌≡◌, ℕ, suc, ◌+◌, ◌*◌, ◌≤◌, Bool, true, false, ◌&&◌, not, cond, nat_eq, List, [], ◌∷◌, ◌++◌, filter, flat_map, map, length, get_or, refl, ◌∙◌, ap, arith}
use Rattle.std.specs.Prelude.{Contains}
use Rattle.std.proofs.lemmas.List.{length-append, length-map}
use Rattle.coco_base.specs.declared.labels.LabelTable.{LabelTable}
use Rattle.coco_model.specs.Goals.{all_among, is_share_of, same_pairs, whole_with, whole_bits, goal_clauses}
use Rattle.coco_model.specs.Labels.{IsLabelTable, secret_labels, mask_labels}
use Rattle.coco_model.specs.Netlist.{HasNoRepeat}
use Rattle.model_laws.proofs.Apart.{apart_parts, no_repeat-append}
use Rattle.model_laws.proofs.Lists.{Contains-flat_map, joined_of_flat_map}
use Rattle.probe_encode.proofs.GoalSizes.{IsAbove, pairs_over, one_more_bit}
use Rattle.formula_laws.proofs.Fewer.{few_in}
use Rattle.formula_laws.proofs.Members.{all_listed, is_kept}

-- all labels of lists
abbrev joined : List (List ℕ) → List ℕ
joined lists = flat_map (λ (s : List ℕ). s) lists

few_kept : (p : ℕ → Bool) (ls : List ℕ) → length (filter p ls) ≤ length ls
few_kept p [] = omega arith
few_kept p (l ∷ ls) = pick (p l) (few_kept p ls)
  where
    pick : (b : Bool) → length (filter p ls) ≤ length ls → length (cond b (l ∷ filter p ls) (filter p ls)) ≤ suc (length ls)
    pick true le = omega (arith, le)
    pick false le = omega (arith, le)

-- a filter of lists without common labels has none either
filter_once : (p : List ℕ → Bool) (lists : List (List ℕ)) → HasNoRepeat (joined lists) → HasNoRepeat (joined (filter p lists))
filter_once p [] once = tt
filter_once p (s ∷ lists) once = pick (p s) (filter_once p lists (apart_parts s (joined lists) once).right)
  where
    listed : (x : ℕ) → Contains (joined (filter p lists)) x → Contains (joined lists) x
    listed x h =
        let j = joined_of_flat_map (λ (t : List ℕ). t) (filter p lists) x h in
        Contains-flat_map (λ (t : List ℕ). t) lists j.source x (is_kept p lists j.source j.listed).listed j.member

    pick : (b : Bool) → HasNoRepeat (joined (filter p lists)) → HasNoRepeat (joined (cond b (s ∷ filter p lists) (filter p lists)))
    pick true rest =
        let parts = apart_parts s (joined lists) once in
        no_repeat-append s (joined (filter p lists)) (record { left = parts.left; right = rest; apart = λ x i j. parts.apart x i (listed x j) })
    pick false rest = rest

-- a bit whose shares do not all have variables counts nowhere
no_start : (among s : List ℕ) (shares : List (List ℕ)) (ls : List ℕ) → all_among among s ≡ false
    → flat_map (whole_with among (s ∷ shares)) ls ≡ flat_map (whole_with among shares) ls
no_start among s shares [] e = refl
no_start among s shares (l ∷ ls) e =
    let first : whole_with among (s ∷ shares) l ≡ whole_with among shares l =
    ap (λ b. cond (b && nat_eq (get_or s 0 (suc l)) l) (s ∷ whole_with among shares l) (whole_with among shares l)) e in
    ap (λ xs. xs ++ flat_map (whole_with among (s ∷ shares)) ls) first ∙ ap (λ xs. whole_with among shares l ++ xs) (no_start among s shares ls e)

-- the clauses of successive shares, by the shares of the bits that count
few_pairs : {X : Type 0} (f : ℕ → Bool → X) (among : List ℕ) (shares : List (List ℕ)) (ls : List ℕ) → IsAbove 0 ls
    → length (pairs_over f among shares ls) ≤ 2 * length (joined (filter (all_among among) shares))
few_pairs f among [] ls h = none ls
  where
    none : (ls : List ℕ) → length (pairs_over f among [] ls) ≤ 2 * 0
    none [] = omega arith
    none (l ∷ ls) = none ls
few_pairs f among (s ∷ shares) ls h = pick (all_among among s) refl (few_pairs f among shares ls h)
  where
    pick : (b : Bool) → all_among among s ≡ b → length (pairs_over f among shares ls) ≤ 2 * length (joined (filter (all_among among) shares))
        → length (pairs_over f among (s ∷ shares) ls)
        ≤ 2 * length (joined (cond b (s ∷ filter (all_among among) shares) (filter (all_among among) shares)))
    pick true e rest =
        let one = one_more_bit f among s shares 0 ls h in
        let more = length-append s (joined (filter (all_among among) shares)) in
        omega (arith, rest, one, more)
    pick false e rest =
        let same : length (pairs_over f among (s ∷ shares) ls) ≡ length (pairs_over f among shares ls) =
        ap (λ lists. length (flat_map (same_pairs f) lists)) (no_start among s shares ls e) in
        omega (arith, rest, same)

-- the shares of the bits that count have variables
few_shares : (table : LabelTable) (labels : List ℕ) → IsLabelTable table
    → length (joined (filter (all_among labels) (secret_labels table.secrets))) ≤ length labels
few_shares table labels is =
    let secrets = secret_labels table.secrets in
    let once = (apart_parts (joined secrets) (flat_map mask_labels table.masks) is.once).left in
    few_in (joined (filter (all_among labels) secrets)) labels (filter_once (all_among labels) secrets once) (λ x h.
    let j = joined_of_flat_map (λ (t : List ℕ). t) (filter (all_among labels) secrets) x h in
    all_listed labels j.source (is_kept (all_among labels) secrets j.source j.listed).passes x j.member)

pub goal_size : {X : Type 0} (literal : ℕ → Bool → X) (table : LabelTable) (labels : List ℕ) → IsLabelTable table → IsAbove 0 labels
    → length (goal_clauses literal labels (whole_bits table labels)) ≤ 3 * length labels + 1
goal_size {X = X} literal table labels is above =
    let bits = whole_bits table labels in
    let pairs : List (List X) = flat_map (same_pairs literal) bits in
    let last : List (List X) = map (λ (ls : List ℕ). literal (get_or ls 0 0) true) bits ∷ [] in
    let others = filter (λ l. not (is_share_of bits l)) labels in
    let first : List (List X) = map (λ l. literal l false ∷ []) others in
    let a : length others ≤ length labels = few_kept (λ l. not (is_share_of bits l)) labels in
    let b : length pairs ≤ 2 * length (joined (filter (all_among labels) (secret_labels table.secrets))) =
    few_pairs literal labels (secret_labels table.secrets) labels above in
    let few = few_shares table labels is in
    let x : length (goal_clauses literal labels bits) ≡ length (first ++ pairs) + length last = length-append (first ++ pairs) last in
    let y : length (first ++ pairs) ≡ length first + length pairs = length-append first pairs in
    let one : length last ≡ 1 = refl in
    let z : length first ≡ length others = length-map others (λ l. literal l false ∷ []) in
    omega (arith, a, b, few, x, y, z, one)
