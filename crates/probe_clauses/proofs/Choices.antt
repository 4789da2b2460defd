-- What a build is where its conditions are known.
use Rattle.std.proofs.Common.{◌≡◌, ◌≢◌, ℕ, ◌+◌, ◌-◌, ◌*◌, ◌/◌, ◌%◌, ◌<◌, ◌≤◌, ◌||◌, Bool, true, false, List, length, eqb, leb, nat_lt, suc, refl, sym, ap, ◌∙◌, arith}
use Rattle.std.proofs.lemmas.Bool.{le-leb, lt-leb, eq-eqb, ne_eqb}
use Rattle.circuit_clauses.specs.declared.signal.Signal.{Signal}
use Rattle.circuit_clauses.specs.declared.signal.Signal.TheVariants.{Constant}
use Rattle.circuit_clauses.specs.Formulas.{Formula}
use Rattle.clause_builds.specs.Builds.{Build, made, after, done}
use Rattle.clause_builds.specs.Rows.{signal_at}
use Rattle.clause_builds.proofs.Leaving.{made-done, after-done}
use Rattle.probe_clauses.specs.Windows.{to_block_end, from_block_start, over_window}

pub done_made : {X : Type 0} (f : Formula) (build : Build X) (x : X) → build ≡ done x → x ≡ made f build
done_made f build x e = sym (ap (λ b. made f b) e ∙ made-done f x)

pub done_after : {X : Type 0} (f : Formula) (build : Build X) (x : X) → build ≡ done x → f ≡ after f build
done_after f build x e = sym (ap (λ b. after f b) e ∙ after-done f x)

pub in_last_block : (window : ℕ) (row : List Signal) (u : ℕ) (tails : List Signal) → length row - u / window * window ≤ window
    → to_block_end window row u tails ≡ done (Constant false)
in_last_block window row u tails le =
    let q = u / window * window in
    let e : leb (length row) (q + window) ≡ true = le-leb (length row) (q + window) (omega arith) in
    rw e refl

pub at_block_end : (window : ℕ) (row : List Signal) (u : ℕ) (tails : List Signal) → window < length row - u / window * window
    → u % window ≡ window - 1 → to_block_end window row u tails ≡ done (signal_at row u)
at_block_end window row u tails lt same =
    let q = u / window * window in
    let e : leb (length row) (q + window) ≡ false = lt-leb (length row) (q + window) (omega arith) in
    let k : eqb (u % window) (window - 1) ≡ true = eq-eqb (u % window) (window - 1) same in
    rw (e, k) refl

pub at_block_start : (window : ℕ) (row : List Signal) (u : ℕ) (tails : List Signal) → window < length row - u / window * window
    → u % window ≢ window - 1 → u % window ≡ 0 → to_block_end window row u tails ≡ done (Constant false)
at_block_start window row u tails lt ne same =
    let q = u / window * window in
    let e : leb (length row) (q + window) ≡ false = lt-leb (length row) (q + window) (omega arith) in
    let k : eqb (u % window) (window - 1) ≡ false = ne_eqb (u % window) (window - 1) ne in
    let z : eqb (u % window) 0 ≡ true = eq-eqb (u % window) 0 same in
    rw (e, k, z) refl

pub starts_block : (window : ℕ) (row : List Signal) (u : ℕ) (head : Signal) → u % window ≡ 0 → from_block_start window row u head ≡ done (signal_at row u)
starts_block window row u head same =
    let z : eqb (u % window) 0 ≡ true = eq-eqb (u % window) 0 same in
    rw z refl

or_true : (a : Bool) → (a || true) ≡ true
or_true true = refl
or_true false = refl

pub ends_block : (window : ℕ) (tails : List Signal) (u : ℕ) (head : Signal) → u % window ≡ window - 1 → over_window window tails u head ≡ done head
ends_block window tails u head same =
    let k : eqb (u % window) (window - 1) ≡ true = eq-eqb (u % window) (window - 1) same in
    rw k refl

pub in_first_block : (window : ℕ) (tails : List Signal) (u : ℕ) (head : Signal) → u < window → over_window window tails u head ≡ done head
in_first_block window tails u head lt =
    let k : nat_lt u window ≡ true = le-leb (suc u) window lt in
    rw (k, or_true (eqb (u % window) (window - 1))) refl
