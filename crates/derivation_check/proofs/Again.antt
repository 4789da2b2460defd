-- A proof text is that of one derivation, and at fault nowhere.
use Rattle.std.proofs.Common.{◌≡◌, ◌≢◌, ℕ, ◌+◌, ◌<◌, ◌≤◌, List, [], ◌∷◌, ◌++◌, length, decimal, codes, Result, Ok, Err, IfOk, IfErr, MatchResult, refl, sym, ◌∙◌, ap, subst, inl, inr, arith}
use Rattle.std.specs.List.{All}
use Rattle.std.proofs.lemmas.List.{append_assoc, append-nil, append_cancel_left, length-append}
use Rattle.clause_store.specs.declared.lit.Lit.{Lit}
use Rattle.clause_store.specs.declared.line.Cut.{Cut}
use Rattle.clause_store.specs.declared.line.Line.{Line}
use Rattle.clause_store.specs.declared.line.Derivation.{Derivation}
use Rattle.derivation_check.specs.declared.read.ProofFault.{ProofFault}
use Rattle.derivation_check.specs.declared.read.ProofFault.TheVariants.{BadLine, Memory}
use Rattle.derivation_check.specs.Texts.{head_text, line_text, lines_text, cuts_text, index_text, cut_text, IsCutInRange, IsPrintable, IsProofText}
use Rattle.derivation_check.specs.Faults.{IsFault, IsBadLine}
use Rattle.derivation_check.proofs.Reading.{number_unique, line_front, line_first, line_parts, items_same, cuts_told, all_first, all_rest, good_behind}

pub head_unique : (m n : ℕ) (x y : List ℕ) → m ≤ 2147483647 → n ≤ 2147483647 → head_text m ++ x ≡ head_text n ++ y → (m ≡ n) × (x ≡ y)
head_unique m n x y hm hn e =
    let f : codes "proof " ++ ((decimal m ++ 10 ∷ []) ++ x) ≡ codes "proof " ++ ((decimal n ++ 10 ∷ []) ++ y) =
    sym (append_assoc (codes "proof ") (decimal m ++ 10 ∷ []) x) ∙ e ∙ append_assoc (codes "proof ") (decimal n ++ 10 ∷ []) y in
    let g : (decimal m ++ 10 ∷ []) ++ x ≡ (decimal n ++ 10 ∷ []) ++ y = append_cancel_left (codes "proof ") ((decimal m ++ 10 ∷ []) ++ x) ((decimal n ++ 10 ∷ []) ++ y) f in
    number_unique m n x y 10 hm hn (omega arith)
    (sym (append_assoc (decimal m) (10 ∷ []) x) ∙ g ∙ append_assoc (decimal n) (10 ∷ []) y)

abbrev line_of : List Lit → ℕ → List Cut → Line
line_of clause first cuts = record { clause = clause; first = first; cuts = cuts }

lines_equal : (l m : Line) → l.clause ≡ m.clause → l.first ≡ m.first → l.cuts ≡ m.cuts → l ≡ m
lines_equal l m c f k = let e : line_of l.clause l.first l.cuts ≡ line_of m.clause m.first m.cuts = cc in e

pub line_unique : (l m : Line) (x y : List ℕ) → IsPrintable l → IsPrintable m → line_text l ++ x ≡ line_text m ++ y → (l ≡ m) × (x ≡ y)
line_unique l m x y hl hm e =
    let front : (l.clause ≡ m.clause) × (index_text l.first ++ (cuts_text l.cuts ++ 48 ∷ 10 ∷ x) ≡ index_text m.first ++ (cuts_text m.cuts ++ 48 ∷ 10 ∷ y)) =
    line_front m l.clause (line_text l ++ x) (index_text l.first ++ (cuts_text l.cuts ++ 48 ∷ 10 ∷ x)) y hm hl.lits (line_parts l x) e in
    let first : (l.first ≡ m.first) × (cuts_text l.cuts ++ 48 ∷ 10 ∷ x ≡ cuts_text m.cuts ++ 48 ∷ 10 ∷ y) =
    line_first m l.first (index_text l.first ++ (cuts_text l.cuts ++ 48 ∷ 10 ∷ x)) (cuts_text l.cuts ++ 48 ∷ 10 ∷ x) y hm hl.first refl front.1 in
    let cuts : (l.cuts ≡ m.cuts) × (x ≡ y) = items_same cut_text IsCutInRange cuts_told 10 l.cuts m.cuts x y hl.cuts hm.cuts first.1 in
    (lines_equal l m front.0 first.0 cuts.0, cuts.1)

-- the lines of a text begin with those that were read
pub lines_prefix : (done lines : List Line) (now : List ℕ) → All IsPrintable done → All IsPrintable lines → length done ≤ length lines → lines_text done ++ now ≡ lines_text lines → (rest : List Line) × (lines ≡ done ++ rest) × (now ≡ lines_text rest)
lines_prefix [] lines now gd gl le e = (lines, refl, e)
lines_prefix (d ∷ done) [] now gd gl le e = absurd (omega arith)
lines_prefix (d ∷ done) (l ∷ lines) now gd gl le e =
    let f : line_text d ++ (lines_text done ++ now) ≡ line_text l ++ lines_text lines = sym (append_assoc (line_text d) (lines_text done) now) ∙ e in
    let u : (d ≡ l) × (lines_text done ++ now ≡ lines_text lines) =
    line_unique d l (lines_text done ++ now) (lines_text lines) (all_first IsPrintable d done gd) (all_first IsPrintable l lines gl) f in
    let r : (rest : List Line) × (lines ≡ done ++ rest) × (now ≡ lines_text rest) =
    lines_prefix done lines now (all_rest IsPrintable d done gd) (all_rest IsPrintable l lines gl) (omega arith) u.1 in
    let a : d ≡ l = u.0 in
    let b : lines ≡ done ++ r.0 = r.1 in
    (r.0, cc, r.2)

pub text_unique : (bytes : List ℕ) (done lines : List Line) → IsProofText bytes done → IsProofText bytes lines → done ≡ lines
text_unique bytes done lines a b =
    let h : (length done ≡ length lines) × (lines_text done ≡ lines_text lines) =
    head_unique (length done) (length lines) (lines_text done) (lines_text lines) a.count b.count (sym a.text ∙ b.text) in
    let n : length done ≡ length lines = h.0 in
    let r : (rest : List Line) × (lines ≡ done ++ rest) × ([] ≡ lines_text rest) =
    lines_prefix done lines [] a.printable b.printable (omega arith) (append-nil (lines_text done) ∙ h.1) in
    go r.0 r.1 n
  where
    go : (rest : List Line) → lines ≡ done ++ rest → length done ≡ length lines → done ≡ lines
    go [] same n = sym (same ∙ append-nil done)
    go (l ∷ rest) same n =
        let m : length (done ++ l ∷ rest) ≡ length done + length (l ∷ rest) = length-append done (l ∷ rest) in
        absurd (omega (arith, ap length same))

pub text_no_bad : (bytes : List ℕ) (lines : List Line) (number : ℕ) → IsProofText bytes lines → IsBadLine bytes number → ⊥
text_no_bad bytes lines number text bad =
    let h : (bad.count ≡ length lines) × (lines_text bad.lines ++ bad.rest ≡ lines_text lines) =
    head_unique bad.count (length lines) (lines_text bad.lines ++ bad.rest) (lines_text lines) bad.in_range text.count (sym bad.split ∙ text.text) in
    let n : bad.count ≡ length lines = h.0 in
    elim bad.wrong [
      | inl short ↦
          let lt : length bad.lines < bad.count = short.0 in
          let r : (rest : List Line) × (lines ≡ bad.lines ++ rest) × (bad.rest ≡ lines_text rest) =
          lines_prefix bad.lines lines bad.rest bad.printable text.printable (omega arith) h.1 in
          more r.0 r.1 r.2 (omega arith) short.1
      | inr full ↦
          let eq : length bad.lines ≡ bad.count = full.0 in
          let r : (rest : List Line) × (lines ≡ bad.lines ++ rest) × (bad.rest ≡ lines_text rest) =
          lines_prefix bad.lines lines bad.rest bad.printable text.printable (omega arith) h.1 in
          none r.0 r.1 r.2 (omega arith) full.1
    ]
  where
    more : (rest : List Line) → lines ≡ bad.lines ++ rest → bad.rest ≡ lines_text rest → length bad.lines < length lines → ((line : Line) (tail : List ℕ) → IsPrintable line → bad.rest ≡ line_text line ++ tail → ⊥) → ⊥
    more [] same at lt no_line =
        let m : length (bad.lines ++ []) ≡ length bad.lines = ap length (append-nil bad.lines) in
        omega (arith, ap length same)
    more (l ∷ rest) same at lt no_line =
        let all : All IsPrintable (bad.lines ++ l ∷ rest) = subst (λ (ls : List Line). All IsPrintable ls) same text.printable in
        no_line l (lines_text rest) (good_behind IsPrintable bad.lines l rest all) at

    none : (rest : List Line) → lines ≡ bad.lines ++ rest → bad.rest ≡ lines_text rest → length bad.lines ≡ length lines → bad.rest ≢ [] → ⊥
    none [] same at eq some = some at
    none (l ∷ rest) same at eq some =
        let m : length (bad.lines ++ l ∷ rest) ≡ length bad.lines + length (l ∷ rest) = length-append bad.lines (l ∷ rest) in
        omega (arith, ap length same)

-- what is read of the text of a derivation is that derivation, where memory is there
pub read_again : (bytes : List ℕ) (r : Result Derivation ProofFault) → IfOk r (λ d. IsProofText bytes d.lines) → IfErr r (IsFault bytes) → (lines : List Line) → IsProofText bytes lines → MatchResult r (λ d. d.lines ≡ lines) (λ e. e ≡ Memory)
read_again bytes (Ok d) read fault lines text = text_unique bytes d.lines lines read text
read_again bytes (Err Memory) read fault lines text = refl
read_again bytes (Err (BadLine number)) read fault lines text =
    elim fault [
      | inl no_head ↦ absurd (no_head.none (length lines) (lines_text lines) text.count text.text)
      | inr bad ↦ absurd (text_no_bad bytes lines number text bad)
    ]
