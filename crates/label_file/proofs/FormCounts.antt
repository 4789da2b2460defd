-- How many lines have a form.
use Rattle.std.proofs.Common.{◌≡◌, ◌+◌, ◌≤◌, ℕ, Bool, true, false, ◌||◌, cond, List, [], ◌∷◌, ◌++◌, refl, ap, arith}
use Rattle.std.specs.List.{count_by, list_any}
use Rattle.std.proofs.lemmas.List.Sums.{sum_by-append, sum_by-cons}
use Rattle.label_file.specs.declared.line.LabelLine.{LabelLine}
use Rattle.label_file.specs.Conditions.{StandsOnce}
use Rattle.label_file.proofs.NextLines.{IsFirst}

uncounted : (has_form : LabelLine → Bool) (l : LabelLine) → has_form l ≡ false → cond {A = ℕ} (has_form l) 1 0 ≡ 0
uncounted has_form l e = ap (λ t. cond {A = ℕ} t 1 0) e

counted_once : (has_form : LabelLine → Bool) (l : LabelLine) → has_form l ≡ true → cond {A = ℕ} (has_form l) 1 0 ≡ 1
counted_once has_form l e = ap (λ t. cond {A = ℕ} t 1 0) e

neither : (a b : Bool) → (a || b) ≡ false → (a ≡ false) × (b ≡ false)
neither true b h = absurd (cc)
neither false b h = (refl, h)

none_counted : (has_form : LabelLine → Bool) (ls : List LabelLine) → list_any has_form ls ≡ false → count_by has_form ls ≡ 0
none_counted has_form [] h = refl
none_counted has_form (l ∷ ls) h =
    let n = neither (has_form l) (list_any has_form ls) h in
    let s = sum_by-cons (λ x. cond (has_form x) 1 0) l ls in
    let z = uncounted has_form l n.0 in
    let rest = none_counted has_form ls n.1 in
    omega arith

count_more : (has_form : LabelLine → Bool) (ls : List LabelLine) (l : LabelLine)
    → count_by has_form (ls ++ l ∷ []) ≡ count_by has_form ls + cond (has_form l) 1 0
count_more has_form ls l =
    let s = sum_by-append (λ x. cond (has_form x) 1 0) ls (l ∷ []) in
    let c = sum_by-cons (λ x. cond (has_form x) 1 0) l [] in
    omega arith

-- one line more of a form that may stand once
pub once_counted : (has_form : LabelLine → Bool) (ls : List LabelLine) (l : LabelLine) → StandsOnce has_form ls → IsFirst has_form ls l
    → StandsOnce has_form (ls ++ l ∷ [])
once_counted has_form ls l once first = go (has_form l) refl
  where
    go : (t : Bool) → has_form l ≡ t → count_by has_form (ls ++ l ∷ []) ≤ 1
    go true e =
        let c = count_more has_form ls l in
        let z = none_counted has_form ls (first e) in
        let o = counted_once has_form l e in
        omega (arith, c, z, o)
    go false e =
        let c = count_more has_form ls l in
        let o = uncounted has_form l e in
        omega (arith, c, o, once)
