-- The variable of a label, and whether it has one.
use Rattle.std.proofs.Common.{◌≡◌, ◌≢◌, ℕ, suc, ◌<◌, ◌≤◌, Bool, true, false, ◌||◌, cond, nat_eq, List, [], ◌∷◌, length, get_or, Some, None, refl, sym, ap}
use Rattle.std.specs.List.Sorted.{IsStrictlyIncreasing}
use Rattle.std.proofs.lemmas.Bool.{eq-eqb, ne_eqb}
use Rattle.coco_model.specs.Goals.{is_among, variable_of}
use Rattle.node_clauses.proofs.LabelLemmas.{found_place, missing_place}

there : (a : Bool) (v i : ℕ) → cond a (Some v) None ≡ Some i → (a ≡ true) × (v ≡ i)
there true v i e = (refl, cc)
there false v i e = absurd cc

nowhere : (a : Bool) (v : ℕ) → cond a (Some v) None ≡ None → a ≡ false
nowhere true v e = absurd cc
nowhere false v e = refl

pub found : (xs : List ℕ) → IsStrictlyIncreasing xs → (x i : ℕ) → i < length xs → get_or xs i 0 ≡ x → (is_among xs x ≡ true) × (variable_of xs x ≡ i)
found xs up x i within here = there (is_among xs x) (variable_of xs x) i (found_place xs up x i within here)

neither : (a b : Bool) → (a || b) ≡ false → (a ≡ false) × (b ≡ false)
neither true b e = absurd cc
neither false b e = (refl, e)

without : (xs : List ℕ) (x : ℕ) → is_among xs x ≡ false → variable_of xs x ≡ length xs
without [] x e = refl
without (n ∷ ns) x e =
    let both = neither (nat_eq x n) (is_among ns x) e in
    let other : n ≢ x = λ s. absurd (let t : nat_eq x n ≡ true = eq-eqb x n (sym s) in cc) in
    rw (ne_eqb n x other) (ap suc (without ns x both.1))

pub missing : (xs : List ℕ) (x i : ℕ) → ((k : ℕ) → k < i → get_or xs k 0 < x) → ((k : ℕ) → i ≤ k → k < length xs → x < get_or xs k 0)
    → (is_among xs x ≡ false) × (variable_of xs x ≡ length xs)
missing xs x i low high =
    let no = nowhere (is_among xs x) (variable_of xs x) (missing_place xs x i low high) in
    (no, without xs x no)
