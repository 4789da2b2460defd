-- Items one after the other, and the brackets that close halves.
use Rattle.std.proofs.Common.{◌≡◌, ℕ, zero, suc, ◌+◌, ◌-◌, ◌<◌, ◌≤◌, List, [], ◌∷◌, ◌++◌, length, drop, get_or, Option, Some, None, refl, ap, sym, ◌∙◌, arith, append_assoc, drop-cons, add-one}
use Rattle.rv_asm.specs.Readings.{◌>>=◌, Fails, from_first, items_up_to, with_first}
use Rattle.rv_asm.specs.declared.line.reading.Unread.{Unread}
use Rattle.rv_asm.specs.declared.line.reading.Unread.TheVariants.{Memory, Other}
use Rattle.rv_asm.specs.declared.line.expression.Half.{Half}
use Rattle.rv_asm.specs.declared.line.expression.Half.TheVariants.{High}
use Rattle.rv_asm.specs.Tokens.{mark_at}
use Rattle.rv_asm.specs.Expressions.{closed_at}

-- items that were found, and then more
abbrev pub joined : {A : Type 0} → List A → List A × List ℕ → List A × List ℕ
joined found more = (found ++ more.0, more.1)

-- one item more
pub items_more : {A : Type 0} (item : List ℕ → Option (A × List ℕ)) (n i : ℕ) (rest after : List ℕ) (x : A) (found : List A) (whole : List A × List ℕ) → i < n → item rest ≡ Some (x, after) → joined found (items_up_to item (n - i) rest) ≡ whole → joined (found ++ x ∷ []) (items_up_to item (n - (i + 1)) after) ≡ whole
items_more item n i rest after x found whole lt first so_far =
    let room : n - i ≡ suc (n - (i + 1)) = omega arith in
    let step : items_up_to item (n - i) rest ≡ with_first x (items_up_to item (n - (i + 1)) after) = ap (λ k. items_up_to item k rest) room ∙ ap (from_first rest (items_up_to item (n - (i + 1)))) first in
    let moved : joined (found ++ x ∷ []) (items_up_to item (n - (i + 1)) after) ≡ joined found (with_first x (items_up_to item (n - (i + 1)) after)) = ap (λ l. (l, (items_up_to item (n - (i + 1)) after).1)) (append_assoc found (x ∷ []) (items_up_to item (n - (i + 1)) after).0) in
    moved ∙ (sym (ap (joined found) step) ∙ so_far)

nil_joined : {A : Type 0} (found : List A) (rest : List ℕ) → joined found ([], rest) ≡ (found, rest)
nil_joined [] rest = refl
nil_joined (x ∷ found) rest = ap (λ p. (x ∷ p.0, p.1)) (nil_joined found rest)

items_none : {A : Type 0} (item : List ℕ → Option (A × List ℕ)) (m : ℕ) (rest : List ℕ) → item rest ≡ None → items_up_to item m rest ≡ ([], rest)
items_none item zero rest e = refl
items_none item (suc m) rest e = ap (from_first rest (items_up_to item m)) e

-- no item more
pub items_end : {A : Type 0} (item : List ℕ → Option (A × List ℕ)) (m : ℕ) (rest : List ℕ) (found : List A) (whole : List A × List ℕ) → item rest ≡ None → joined found (items_up_to item m rest) ≡ whole → whole ≡ (found, rest)
items_end item m rest found whole none so_far = sym so_far ∙ (ap (joined found) (items_none item m rest none) ∙ nil_joined found rest)

-- no room for an item more
pub items_full : {A : Type 0} (item : List ℕ → Option (A × List ℕ)) (n i : ℕ) (rest : List ℕ) (found : List A) (whole : List A × List ℕ) → n ≤ i → joined found (items_up_to item (n - i) rest) ≡ whole → whole ≡ (found, rest)
items_full item n i rest found whole le so_far =
    let none : n - i ≡ 0 = omega arith in
    sym so_far ∙ (ap (λ k. joined found (items_up_to item k rest)) none ∙ nil_joined found rest)

-- ---- closing brackets

closed_step : (halves : List Half) (i : ℕ) (rest : List ℕ) → i < length halves → closed_at (drop i halves) rest ≡ (mark_at 41 rest >>= closed_at (drop (i + 1) halves))
closed_step halves i rest lt =
    let split : drop i halves ≡ get_or halves i High ∷ drop (i + 1) halves = rw add-one (drop-cons halves i High lt) in
    ap (λ hs. closed_at hs rest) split

pub closed_more : (halves : List Half) (i : ℕ) (rest after : List ℕ) (whole : Option (List ℕ)) → i < length halves → mark_at 41 rest ≡ Some after → closed_at (drop i halves) rest ≡ whole → closed_at (drop (i + 1) halves) after ≡ whole
closed_more halves i rest after whole lt mark so_far =
    sym (closed_step halves i rest lt ∙ ap (λ o. o >>= closed_at (drop (i + 1) halves)) mark) ∙ so_far

pub closed_fails : (unread : Unread) (halves : List Half) (i : ℕ) (rest : List ℕ) (whole : Option (List ℕ)) → i < length halves → Fails unread (mark_at 41 rest) → closed_at (drop i halves) rest ≡ whole → Fails unread whole
closed_fails Memory halves i rest whole lt mark so_far = tt
closed_fails Other halves i rest whole lt mark so_far =
    sym so_far ∙ (closed_step halves i rest lt ∙ ap (λ o. o >>= closed_at (drop (i + 1) halves)) mark)
