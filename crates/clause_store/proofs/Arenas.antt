-- Clauses one after the other in one list of literals.
use Rattle.std.proofs.Common.{◌≡◌, ◌≢◌, ℕ, suc, zero, ◌+◌, ◌-◌, ◌<◌, ◌≤◌, ◌^◌, List, [], ◌∷◌, ◌++◌, Some, length, get_or, take, drop, refl, sym, ap, subst, ◌∙◌, arith}
use Rattle.std.specs.Prelude.{slice_get, slice_range, All}
use Rattle.std.specs.List.{flat_map}
use Rattle.std.proofs.Math.ListN.{length-append, length-drop}
use Rattle.std.proofs.Math.Seq.{length-take-le, take-append-le, drop-append-le, drop-append_seam, drop-append-add}
use Rattle.std.proofs.lemmas.List.{take_all, append-nil, length_push}
use Rattle.std.proofs.lemmas.List.Elements.{All-push}
use Rattle.std.proofs.lemmas.List.Folds.{drop_split}
use Rattle.clause_store.specs.declared.lit.Lit.{Lit}
use Rattle.clause_store.specs.Signs.{Ascends}
use Rattle.clause_store.specs.Arenas.{pieces, AreEnds, IsArena}

-- all clauses one after the other
abbrev pub joined : List (List Lit) → List Lit
joined clauses = flat_map (λ clause. clause) clauses

pub length-pieces : (lits : List Lit) (start : ℕ) (ends : List ℕ) → length (pieces lits start ends) ≡ length ends
length-pieces lits start [] = refl
length-pieces lits start (end ∷ ends) = let h : length (pieces lits end ends) ≡ length ends = length-pieces lits end ends in omega arith

pub ends_within : (len start : ℕ) (ends : List ℕ) → AreEnds len start ends → start ≤ len
ends_within len start [] h = let e : start ≡ len = h in omega arith
ends_within len start (end ∷ ends) h =
    let first : start ≤ end = h.0 in
    let rest : end ≤ len = ends_within len end ends h.1 in
    omega arith

length-range : (lits : List Lit) (start end : ℕ) → start ≤ end → end ≤ length lits → length (slice_range lits start end) ≡ end - start
length-range lits start end le within = length-take-le (end - start) (drop start lits) (omega (arith, length-drop start lits))

pub joined_pieces : (lits : List Lit) (start : ℕ) (ends : List ℕ) → AreEnds (length lits) start ends → joined (pieces lits start ends) ≡ drop start lits
joined_pieces lits start [] h =
    let e : start ≡ length lits = h in
    let none : length (drop start lits) ≡ 0 = omega (arith, length-drop start lits) in
    sym (empty (drop start lits) none)
  where
    empty : (xs : List Lit) → length xs ≡ 0 → xs ≡ []
    empty [] e = refl
    empty (x ∷ xs) e = absurd (omega arith)
joined_pieces lits start (end ∷ ends) h =
    let rest : joined (pieces lits end ends) ≡ drop end lits = joined_pieces lits end ends h.1 in
    let split : drop start lits ≡ slice_range lits start end ++ drop end lits = drop_split lits start end h.0 in
    ap (λ xs. slice_range lits start end ++ xs) rest ∙ sym split

-- where a clause starts, from where the clauses before it end
pub place_is : (lits : List Lit) (start : ℕ) (ends : List ℕ) (id : ℕ) → AreEnds (length lits) start ends → id ≤ length ends → length (joined (take id (pieces lits start ends))) + start ≡ get_or (start ∷ ends) id 0
place_is lits start ends zero h le = omega arith
place_is lits start [] (suc id) h le = absurd (omega arith)
place_is lits start (end ∷ ends) (suc id) h le =
    let first : start ≤ end = h.0 in
    let within : end ≤ length lits = ends_within (length lits) end ends h.1 in
    let rest : length (joined (take id (pieces lits end ends))) + end ≡ get_or (end ∷ ends) id 0 = place_is lits end ends id h.1 (omega arith) in
    let one : length (slice_range lits start end) ≡ end - start = length-range lits start end first within in
    let both : length (slice_range lits start end ++ joined (take id (pieces lits end ends))) ≡ length (slice_range lits start end) + length (joined (take id (pieces lits end ends))) = length-append (slice_range lits start end) (joined (take id (pieces lits end ends))) in
    omega arith

-- a place past the first, from the end before it
pub end_before : (lits : List Lit) (ends : List ℕ) (id : ℕ) → AreEnds (length lits) 0 ends → id ≤ length ends → id ≢ 0 → get_or ends (id - 1) 0 ≡ length (joined (take id (pieces lits 0 ends)))
end_before lits ends zero h le ne = absurd (ne refl)
end_before lits ends (suc id) h le ne =
    let is : length (joined (take (suc id) (pieces lits 0 ends))) + 0 ≡ get_or ends id 0 = place_is lits 0 ends (suc id) h le in
    let same : suc id - 1 ≡ id = omega arith in
    rw same (omega arith)

range_kept : (lits more : List Lit) (start end : ℕ) → start ≤ end → end ≤ length lits → slice_range (lits ++ more) start end ≡ slice_range lits start end
range_kept lits more start end le within =
    ap (take (end - start)) (drop-append-le start lits more (omega arith)) ∙ take-append-le (end - start) (drop start lits) more (omega (arith, length-drop start lits))

range_new : (lits more : List Lit) → slice_range (lits ++ more) (length lits) (length lits + length more) ≡ more
range_new lits more =
    let n : length lits + length more - length lits ≡ length more = omega arith in
    ap (λ k. take k (drop (length lits) (lits ++ more))) n ∙ ap (take (length more)) (drop-append_seam lits more) ∙ take_all (length more) more (omega arith)

pub pieces_push : (lits clause : List Lit) (start : ℕ) (ends : List ℕ) → AreEnds (length lits) start ends → pieces (lits ++ clause) start (ends ++ (length lits + length clause) ∷ []) ≡ pieces lits start ends ++ clause ∷ []
pieces_push lits clause start [] h =
    let e : start ≡ length lits = h in
    ap (λ s. slice_range (lits ++ clause) s (length lits + length clause) ∷ []) e ∙ ap (λ c. c ∷ []) (range_new lits clause)
pieces_push lits clause start (end ∷ ends) h =
    let within : end ≤ length lits = ends_within (length lits) end ends h.1 in
    let one : slice_range (lits ++ clause) start end ≡ slice_range lits start end = range_kept lits clause start end h.0 within in
    let rest : pieces (lits ++ clause) end (ends ++ (length lits + length clause) ∷ []) ≡ pieces lits end ends ++ clause ∷ [] = pieces_push lits clause end ends h.1 in
    ap (λ c. c ∷ pieces (lits ++ clause) end (ends ++ (length lits + length clause) ∷ [])) one ∙ ap (λ cs. slice_range lits start end ∷ cs) rest

pub ends_push : (len more start : ℕ) (ends : List ℕ) → AreEnds len start ends → AreEnds (len + more) start (ends ++ (len + more) ∷ [])
ends_push len more start [] h = let e : start ≡ len = h in (omega arith, refl)
ends_push len more start (end ∷ ends) h = (h.0, ends_push len more end ends h.1)

-- a clause is a range of the list of all
pub range_is : (clauses : List (List Lit)) (id : ℕ) → id < length clauses → slice_get clauses id ≡ Some (slice_range (joined clauses) (length (joined (take id clauses))) (length (joined (take (suc id) clauses))))
range_is [] id lt = absurd (omega arith)
range_is (c ∷ clauses) zero lt =
    let n : length (c ++ []) - 0 ≡ length c = omega (arith, ap length (append-nil c)) in
    let front : take (length c) (c ++ joined clauses) ≡ c = take-append-le (length c) c (joined clauses) (omega arith) ∙ take_all (length c) c (omega arith) in
    ap (λ x. Some x) (sym (ap (λ k. take k (c ++ joined clauses)) n ∙ front))
range_is (c ∷ clauses) (suc id) lt =
    let a : length (c ++ joined (take id clauses)) ≡ length c + length (joined (take id clauses)) = length-append c (joined (take id clauses)) in
    let b : length (c ++ joined (take (suc id) clauses)) ≡ length c + length (joined (take (suc id) clauses)) = length-append c (joined (take (suc id) clauses)) in
    let from : drop (length (c ++ joined (take id clauses))) (c ++ joined clauses) ≡ drop (length (joined (take id clauses))) (joined clauses) = ap (λ k. drop k (c ++ joined clauses)) a ∙ drop-append-add c (joined clauses) (length (joined (take id clauses))) in
    let long : length (c ++ joined (take (suc id) clauses)) - length (c ++ joined (take id clauses)) ≡ length (joined (take (suc id) clauses)) - length (joined (take id clauses)) = omega arith in
    range_is clauses id (omega arith) ∙ ap (λ x. Some x) (sym (ap (λ k. take k (drop (length (c ++ joined (take id clauses))) (c ++ joined clauses))) long ∙ ap (take (length (joined (take (suc id) clauses)) - length (joined (take id clauses)))) from))

pub joined_more : (clauses : List (List Lit)) (id : ℕ) → length (joined (take id clauses)) ≤ length (joined (take (suc id) clauses))
joined_more [] zero = omega arith
joined_more [] (suc id) = omega arith
joined_more (c ∷ clauses) zero = omega arith
joined_more (c ∷ clauses) (suc id) =
    let h : length (joined (take id clauses)) ≤ length (joined (take (suc id) clauses)) = joined_more clauses id in
    let a : length (joined (take (suc id) (c ∷ clauses))) ≡ length c + length (joined (take id clauses)) = length-append c (joined (take id clauses)) in
    let b : length (joined (take (suc (suc id)) (c ∷ clauses))) ≡ length c + length (joined (take (suc id) clauses)) = length-append c (joined (take (suc id) clauses)) in
    omega arith

pub joined_front : (clauses : List (List Lit)) (id : ℕ) → length (joined (take id clauses)) ≤ length (joined clauses)
joined_front clauses zero = omega arith
joined_front [] (suc id) = omega arith
joined_front (c ∷ clauses) (suc id) =
    let h : length (joined (take id clauses)) ≤ length (joined clauses) = joined_front clauses id in
    let a : length (joined (take (suc id) (c ∷ clauses))) ≡ length c + length (joined (take id clauses)) = length-append c (joined (take id clauses)) in
    let b : length (joined (c ∷ clauses)) ≡ length c + length (joined clauses) = length-append c (joined clauses) in
    omega arith

pub arena_push : (lits clause : List Lit) (ends : List ℕ) → IsArena lits ends → Ascends clause → length (pieces lits 0 ends) < 2 ^ 31 → IsArena (lits ++ clause) (ends ++ (length lits + length clause) ∷ [])
arena_push lits clause ends arena ascending room =
    let push : pieces (lits ++ clause) 0 (ends ++ (length lits + length clause) ∷ []) ≡ pieces lits 0 ends ++ clause ∷ [] = pieces_push lits clause 0 ends arena.cut in
    record {
      cut = subst (λ n. AreEnds n 0 (ends ++ (length lits + length clause) ∷ [])) (sym (length-append lits clause)) (ends_push (length lits) (length clause) 0 ends arena.cut);
      few = omega (arith, length_push ends (length lits + length clause), length-pieces lits 0 ends);
      ascending = subst (All Ascends) (sym push) (All-push Ascends (pieces lits 0 ends) clause arena.ascending ascending);
    }
