-- Pickers that are taken from the end of a list.
use Rattle.std.proofs.Common.{◌≡◌, ℕ, ◌+◌, ◌-◌, ◌≤◌, List, length, take, min, Result, Ok, Err, IfOk, sym, ap, subst, ◌∙◌, inl, inr, arith}
use Rattle.std.proofs.lemmas.Bool.{cases_lt}
use Rattle.std.proofs.lemmas.List.{take-take, take_all, length-take-le}
use Rattle.clause_store.specs.declared.lit.Lit.{Lit}
use Rattle.clause_solver.specs.declared.outcome.Outcome.{Outcome}
use Rattle.clause_solver.specs.declared.outcome.Outcome.TheVariants.{Satisfied, Derived, Spent}
use Rattle.clause_solver.specs.Outcomes.{IsOutcome}
use Rattle.clause_solver.specs.Restarts.{restarts_of, AreLeft, TakesOthers, TakesPickers}
use Rattle.clause_solver.proofs.RestartFacts.{restarts_bounded}

-- items that are left after some and some more were taken
pub left_more : {X : Type 0} → (first middle last : List X) (some more : ℕ) → AreLeft first some middle → AreLeft middle more last → AreLeft first (some + more) last
left_more first middle last some more a b =
    let m : length middle ≡ length first - some = ap length a ∙ length-take-le (length first - some) first (omega arith) in
    let n : length middle - more ≡ length first - (some + more) = omega arith in
    b ∙ ap (λ k. take k middle) n ∙ ap (take (length first - (some + more))) a ∙ take-take (length first - (some + more)) (length first - some) first (omega arith)

pub left_none : {X : Type 0} → (first : List X) → AreLeft first 0 first
left_none first = sym (ap (λ k. take k first) (let e : length first - 0 ≡ length first = omega arith in e) ∙ take_all (length first) first (omega arith))

pub length_left : {X : Type 0} → (first last : List X) (taken : ℕ) → AreLeft first taken last → length last ≡ length first - taken
length_left first last taken a = ap length a ∙ length-take-le (length first - taken) first (omega arith)

pub left_zero : {X : Type 0} → (first : List X) (a b : ℕ) → a ≡ b → AreLeft first (a - b) first
left_zero first a b e = let z : a - b ≡ 0 = omega arith in subst (λ n. AreLeft first n first) (sym z) (left_none first)

pub left_one : {X : Type 0} → (first last : List X) (a b : ℕ) → a ≡ b + 1 → AreLeft first 1 last → AreLeft first (a - b) last
left_one first last a b e h = let o : a - b ≡ 1 = omega arith in subst (λ n. AreLeft first n last) (sym o) h

-- items left after restarts, from those before
pub left_since : {X : Type 0} → (first middle last : List X) (before after : ℕ) → before ≤ after → AreLeft first before middle → AreLeft middle (after - before) last → AreLeft first after last
left_since first middle last before after le a b = let e : before + (after - before) ≡ after = omega arith in subst (λ n. AreLeft first n last) e (left_more first middle last before (after - before) a b)

-- two facts of an answer
pub both_ok : {X E : Type 0} → (r : Result X E) (P Q R : X → Type 0) → ((x : X) → P x → Q x → R x) → IfOk r P → IfOk r Q → IfOk r R
both_ok (Ok x) P Q R f p q = f x p q
both_ok (Err e) P Q R f p q = tt

-- pickers taken from the end of a list whose last one is taken first
pub takes_first : (store : List (List Lit)) (vars steps every before rest after : ℕ) (o : Outcome) → before ≡ rest + 1 → IsOutcome store vars steps o → TakesOthers (min every steps) rest after o → TakesPickers every before after o
takes_first store vars steps every before rest after (Satisfied values) e is t = let le : after ≤ rest = t in omega arith
takes_first store vars steps every before rest after (Derived d) e is t =
    let same : restarts_of (min every steps) (length d.lines) ≡ restarts_of every (length d.lines) = restarts_bounded every steps (length d.lines) is.0 in
    let took : after ≡ rest - restarts_of (min every steps) (length d.lines) = t in
    omega arith
takes_first store vars steps every before rest after (Spent d) e is t =
    let len : length d.lines ≡ steps = is.0 in
    let same : restarts_of (min every steps) (length d.lines) ≡ restarts_of every (length d.lines) = restarts_bounded every steps (length d.lines) (omega arith) in
    let took : after ≡ rest - restarts_of (min every steps) (length d.lines) = t in
    omega arith

-- what is left is a front of the list
pub left_front : {X : Type 0} → (first last : List X) (taken : ℕ) → AreLeft first taken last → last ≡ take (length last) first
left_front first last taken a = let n : length last ≡ length first - taken = length_left first last taken a in a ∙ ap (λ k. take k first) (sym n)

pub whole_front : {X : Type 0} → (first : List X) → first ≡ take (length first) first
whole_front first = sym (take_all (length first) first (omega arith))

pub front_less : {X : Type 0} → (first last : List X) → last ≡ take (length last) first → length last ≤ length first
front_less first last e =
    elim (cases_lt (length first) (length last)) [
      | inl more ↦ let whole : take (length last) first ≡ first = take_all (length last) first (omega arith) in let same : length last ≡ length first = ap length (e ∙ whole) in omega arith
      | inr le ↦ le
    ]

-- a front of a front
pub front_again : {X : Type 0} → (first middle last : List X) → middle ≡ take (length middle) first → last ≡ take (length last) middle → last ≡ take (length last) first
front_again first middle last a b =
    let le : length last ≤ length middle = front_less middle last b in
    b ∙ ap (take (length last)) a ∙ take-take (length last) (length middle) first le
