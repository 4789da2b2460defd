use Rattle.std.proofs.Common.{◌≡◌, ◌+◌, length, Some, slice_get, List, [], ◌∷◌, ◌++◌, subst, refl, sym, ◌∙◌, arith}
use Rattle.derivation_check.proofs.Lines.{earlier_none, earlier_more, valid_more}
use Rattle.std.proofs.lemmas.Option.{slice_get_read, slice_get_within}
use Rattle.std.proofs.lemmas.List.Elements.{All-push}
use Rattle.std.specs.List.{All}
use Rattle.clause_store.specs.declared.lit.Lit.{Lit}
use Rattle.clause_store.specs.Signs.{Ascends}
use Rattle.clause_store.specs.Derivations.{clauses_of, earlier, IsValidLine}
use Rattle.derivation_check.specs.Marked.{IsWithin}
use Rattle.clause_store.specs.declared.line.Line.{Line}
use Rattle.derivation_check.proofs.verdict.check.Goals as goal

pub checking-init : goal.checking-init
checking-init c =
    let e : clauses_of c.args.store.now [] ≡ c.args.store.now = earlier_none c.args.store.now in
    let P : List (List Lit) → Type 0 = λ cs. All Ascends cs in
    let Q : List (List Lit) → Type 0 = λ cs. All (IsWithin (length c.in_ok-marks.marks)) cs in
    let n : length c.in_ok-marks.marks ≡ c.width.result = c.in_ok-marks.ensures.size in
    record {
      size = refl;
      clear = c.in_ok-marks.ensures.clear;
      ascending = subst P (sym e) c.width.ensures.ascending;
      within = subst Q (sym e) (rw n c.width.ensures.within);
      valid = λ k line lt got. absurd (omega arith);
    }

pub returns-then-not-is_valid : goal.returns-then-not-is_valid
returns-then-not-is_valid c =
    let line : Line = c.index-lines-place.result in
    let at : slice_get c.as_slice-lines.result.now c.checking.place ≡ Some line = slice_get_read c.as_slice-lines.result.now (length c.as_slice-lines.result.now) c.checking.place line refl (omega arith) c.index-lines-place.is in
    rw (← c.as_slice-lines.ensures) (record {
      place = c.checking.place;
      line = line;
      at = at;
      numbered = refl;
      wrong = c.if-not-is_valid.ensures.valid;
      before = c.checking.invariant.valid;
    })

pub checking-preserved : goal.checking-preserved
checking-preserved c =
    let line : Line = c.index-lines-place.result in
    let at : slice_get c.as_slice-lines.result.now c.checking.place ≡ Some line = slice_get_read c.as_slice-lines.result.now (length c.as_slice-lines.result.now) c.checking.place line refl (omega arith) c.index-lines-place.is in
    let more : earlier c.args.store.now c.as_slice-lines.result.now (c.checking.place + 1) ≡ earlier c.args.store.now c.as_slice-lines.result.now c.checking.place ++ line.clause ∷ [] =
    earlier_more c.args.store.now c.as_slice-lines.result.now c.checking.place line at in
    let P : List (List Lit) → Type 0 = λ cs. All Ascends cs in
    let Q : List (List Lit) → Type 0 = λ cs. All (IsWithin (length c.checking.marks)) cs in
    let n : length c.is_valid.new.marks ≡ length c.checking.marks = c.is_valid.ensures.size in
    let valid : IsValidLine (earlier c.args.store.now c.as_slice-lines.result.now c.checking.place) line = c.if-not-is_valid.ensures.valid.0 in
    record {
      size = n ∙ c.checking.invariant.size;
      clear = c.if-not-is_valid.ensures.valid.1;
      ascending = subst P (sym more) (All-push Ascends (earlier c.args.store.now c.as_slice-lines.result.now c.checking.place) line.clause c.checking.invariant.ascending valid.ascending);
      within = rw n (subst Q (sym more) (All-push (IsWithin (length c.checking.marks)) (earlier c.args.store.now c.as_slice-lines.result.now c.checking.place) line.clause c.checking.invariant.within c.if-not-is_valid.ensures.valid.2));
      valid = valid_more c.args.store.now c.as_slice-lines.result.now c.checking.place line at valid c.checking.invariant.valid;
    }

pub returns-then-has_empty : goal.returns-then-has_empty
returns-then-has_empty c =
    rw (← c.as_slice-lines.ensures)
    (λ k line got. c.checking.invariant.valid k line (omega (arith, slice_get_within c.as_slice-lines.result.now k line got)) got, c.if-has_empty.ensures)

pub returns : goal.returns
returns c =
    rw (← c.as_slice-lines.ensures)
    (λ k line got. c.checking.invariant.valid k line (omega (arith, slice_get_within c.as_slice-lines.result.now k line got)) got, c.if-has_empty.ensures)
