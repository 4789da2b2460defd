-- The bracket of a word, byte by byte.
use Rattle.std.proofs.Common.{◌≡◌, ℕ, suc, ◌+◌, Bool, true, false, cond, List, ◌∷◌, drop, length, Option, Some, None, refl, sym, ◌∙◌, ap, arith}
use Rattle.std.specs.Option.{option_map}
use Rattle.std.specs.Prelude.{◌==◌, ◌&&◌}
use Rattle.std.proofs.lemmas.List.{drop-drop}
use Rattle.bind_run.specs.NetWords.{bracket, closes, opens}

-- a place among the bytes behind so many
abbrev pub behind : ℕ → Option ℕ → Option ℕ
behind n o = option_map (λ k. n + k) o

pub behind_none : (o : Option ℕ) → behind 0 o ≡ o
behind_none None = refl
behind_none (Some k) = let e : 0 + k ≡ k = omega arith in ap Some e

pub behind_more : (n : ℕ) (o : Option ℕ) → behind (n + 1) o ≡ behind n (option_map suc o)
behind_more n None = refl
behind_more n (Some k) = let e : n + 1 + k ≡ n + suc k = omega arith in ap Some e

-- what stands behind the first of the rest
pub behind_first : {X : Type 0} (xs rest more : List X) (x : X) (n : ℕ) → rest ≡ drop n xs → rest ≡ x ∷ more → drop (n + 1) xs ≡ more
behind_first xs rest more x n e f = sym (drop-drop 1 n xs) ∙ ap (drop 1) (sym e ∙ f)

pub bracket_not : (word rest more : List ℕ) (c n : ℕ) → behind n (bracket rest) ≡ bracket word → rest ≡ c ∷ more → false ≡ opens c more
    → behind (n + 1) (bracket more) ≡ bracket word
bracket_not word rest more c n h e f =
    behind_more n (bracket more) ∙ ap (λ t. behind n (cond t (Some 0) (option_map suc (bracket more)))) f
    ∙ ap (λ r. behind n (bracket r)) (sym e) ∙ h

pub bracket_here : (word rest more : List ℕ) (c n : ℕ) → behind n (bracket rest) ≡ bracket word → rest ≡ c ∷ more → true ≡ opens c more
    → Some n ≡ bracket word
bracket_here word rest more c n h e f =
    (let z : n ≡ n + 0 = omega arith in ap Some z) ∙ ap (λ t. behind n (cond t (Some 0) (option_map suc (bracket more)))) f
    ∙ ap (λ r. behind n (bracket r)) (sym e) ∙ h

opens_closes : (t u : Bool) → true ≡ (t && u) → u ≡ true
opens_closes true u e = sym e
opens_closes false u e = absurd cc

pub closed_here : (word rest more : List ℕ) (c n : ℕ) → rest ≡ drop n word → rest ≡ c ∷ more → true ≡ opens c more → closes (drop (n + 1) word) ≡ true
closed_here word rest more c n h e f =
    ap closes (behind_first word rest more c n h e) ∙ opens_closes (c == 91) (closes more) f

pub length_first : {X : Type 0} (rest more : List X) (x : X) → rest ≡ x ∷ more → length rest ≡ length more + 1
length_first rest more x e = let l = ap length e in omega arith
