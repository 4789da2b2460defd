-- What is placed, one line after the other.
use Rattle.std.proofs.Common.{◌≡◌, ℕ, ◌+◌, ◌<◌, ◌≤◌, true, false, List, [], ◌∷◌, ◌++◌, length, take, drop, get_or, map, flat_map, Result, Ok, Err, IsOk, refl, ap, sym, subst, ◌∙◌, arith, append-nil, add-one, drop-cons}
use Rattle.std.proofs.lemmas.Grind.{flat_map-append}
use Rattle.std.proofs.lemmas.List.{take_more, take-append-drop}
use Rattle.std.proofs.lemmas.List.Elements.{All-push}
use Rattle.std.proofs.Math.Seq.{take-length}
use Rattle.rv_asm.specs.declared.image.assembler.Memory.{Memory}
use Rattle.rv_asm.specs.declared.layout.cause.Cause.{Cause}
use Rattle.rv_asm.specs.declared.layout.cause.Cause.TheVariants as cause
use Rattle.rv_asm.specs.declared.layout.Placed.{Placed}
use Rattle.rv_asm.specs.Causes.{Fails, fault_of}
use Rattle.rv_asm.specs.Names.{Table}
use Rattle.rv_asm.specs.Layouts.{bytes_each, has_outside}
use Rattle.rv_asm.specs.Programs.{AreRight, AreWithin, data_bytes, FailsAt, FailsUnlessMemory, found, HasPut, in_data, in_text, IsOutsideAt, PutsWords, text_lines, text_words, words_of}

-- the list up to an item, the item, and what follows it
split_at : (ps : List Placed) (i : ℕ) (p : Placed) → i < length ps → p ≡ get_or ps i p → ps ≡ take i ps ++ p ∷ drop (i + 1) ps
split_at ps i p lt is =
    let rest : drop i ps ≡ get_or ps i p ∷ drop (i + 1) ps = rw add-one (drop-cons ps i p lt) in
    sym (take-append-drop i ps) ∙ ap (λ r. take i ps ++ r) (rest ∙ ap (λ x. x ∷ drop (i + 1) ps) (sym is))

one_more : (ps : List Placed) (i : ℕ) (p : Placed) → i < length ps → p ≡ get_or ps i p → take (i + 1) ps ≡ take i ps ++ p ∷ []
one_more ps i p lt is = take_more ps i p lt ∙ ap (λ x. take i ps ++ x ∷ []) (sym is)

flat_one : {X : Type 0} (f : Placed → List X) (ps : List Placed) (i : ℕ) (p : Placed) (old new w : List X) → i < length ps → p ≡ get_or ps i p → old ≡ flat_map f (take i ps) → f p ≡ w → new ≡ old ++ w → new ≡ flat_map f (take (i + 1) ps)
flat_one f ps i p old new w lt is before here more =
    let one : flat_map f (p ∷ []) ≡ f p = append-nil (f p) in
    more ∙ ap (λ l. l ++ w) before ∙ ap (λ l. flat_map f (take i ps) ++ l) (sym here ∙ sym one) ∙ sym (flat_map-append f (take i ps) (p ∷ [])) ∙ ap (flat_map f) (sym (one_more ps i p lt is))

-- one line's words more
pub put_one_more : (names : Table) (ps : List Placed) (i : ℕ) (p : Placed) (old new : Memory) (words : List ℕ) → i < length ps → p ≡ get_or ps i p → HasPut names (take i ps) old → words_of names p ≡ Ok words → PutsWords old new p words → HasPut names (take (i + 1) ps) new
put_one_more names ps i p old new words lt is before right puts =
    let text : text_words names p ≡ in_text p.place.part words = ap (λ o. in_text p.place.part (found o)) right in
    record {
      right = subst (λ (l : List Placed). AreRight names l) (sym (one_more ps i p lt is)) (All-push (λ q. IsOk (words_of names q)) (take i ps) p before.right (subst (λ (o : Result (List ℕ) Cause). IsOk o) (sym right) refl));
      text = flat_one (text_words names) ps i p old.image.text new.image.text _ lt is before.text text puts.text;
      lines = flat_one (text_lines names) ps i p old.image.lines new.image.lines _ lt is before.lines (ap (map (λ _. p.line)) text) puts.lines;
      values = puts.values ∙ before.values;
      bytes = flat_one (data_bytes names) ps i p old.bytes.items new.bytes.items _ lt is before.bytes (ap (λ o. in_data p.place.part (bytes_each p.content) (found o)) right) puts.bytes;
    }

fails_at : (names : Table) (ps : List Placed) (i : ℕ) (p : Placed) (c : Cause) → i < length ps → p ≡ get_or ps i p → AreRight names (take i ps) → words_of names p ≡ Err c → FailsAt names ps (fault_of p.line c)
fails_at names ps i p c lt is right fails = record { before = take i ps; placed = p; after = drop (i + 1) ps; whole = split_at ps i p lt is; right = right; cause = c; fails = fails; fault_is = refl }

-- a line at fault
pub put_fails : (names : Table) (ps : List Placed) (i : ℕ) (p : Placed) (c : Cause) → i < length ps → p ≡ get_or ps i p → AreRight names (take i ps) → Fails c (words_of names p) → FailsUnlessMemory names ps (fault_of p.line c)
put_fails names ps i p cause.BadLine lt is right fails = fails_at names ps i p cause.BadLine lt is right fails
put_fails names ps i p cause.UnknownName lt is right fails = fails_at names ps i p cause.UnknownName lt is right fails
put_fails names ps i p cause.Range lt is right fails = fails_at names ps i p cause.Range lt is right fails
put_fails names ps i p cause.Twice lt is right fails = fails_at names ps i p cause.Twice lt is right fails
put_fails names ps i p cause.Memory lt is right fails = tt

-- ---- values outside what is asked for

pub within_one_more : (names : Table) (ps : List Placed) (i : ℕ) (p : Placed) → i < length ps → p ≡ get_or ps i p → AreWithin names (take i ps) → has_outside names p.place p.content ≡ false → AreWithin names (take (i + 1) ps)
within_one_more names ps i p lt is before here =
    subst (λ (l : List Placed). AreWithin names l) (sym (one_more ps i p lt is)) (All-push (λ q. has_outside names q.place q.content ≡ false) (take i ps) p before here)

pub outside_at : (names : Table) (ps : List Placed) (i : ℕ) (p : Placed) → i < length ps → p ≡ get_or ps i p → AreWithin names (take i ps) → has_outside names p.place p.content ≡ true → IsOutsideAt names ps p.line
outside_at names ps i p lt is before here = record { before = take i ps; placed = p; after = drop (i + 1) ps; whole = split_at ps i p lt is; number_is = refl; within = before; outside = here }

pub within_all : (names : Table) (ps : List Placed) (i : ℕ) → length ps ≤ i → i ≤ length ps → AreWithin names (take i ps) → AreWithin names ps
within_all names ps i le ge within =
    let all : i ≡ length ps = omega arith in
    subst (λ (l : List Placed). AreWithin names l) (ap (λ k. take k ps) all ∙ take-length ps) within
