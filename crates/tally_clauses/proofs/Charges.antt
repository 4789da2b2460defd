-- The cost of a tree of tallies is charged to what its parts are worth.
use Rattle.std.proofs.Common.{◌≡◌, ℕ, zero, suc, ◌+◌, ◌-◌, ◌*◌, ◌<◌, ◌≤◌, min, List, [], ◌∷◌, ◌++◌, length, All, refl, ap, subst, arith, ◌^◌, length-append}
use Rattle.std.specs.Prelude.{sum_by}
use Rattle.std.proofs.Math.Nat.{mul-le-mul_left}
use Rattle.circuit_clauses.specs.Formulas.{Formula, extended, Fits}
use Rattle.std.proofs.lemmas.List.Elements.{All-head, All-tail}
use Rattle.std.proofs.lemmas.List.Sums.{sum_by-cons}
use Rattle.circuit_clauses.specs.declared.signal.Signal.{Signal}
use Rattle.circuit_clauses.specs.Steps.{Step, variables_after, clauses_of_steps}
use Rattle.tally_clauses.specs.Tallies.{places, bounds, merge, pair_up, levels, add_up, tally_of}
use Rattle.tally_clauses.specs.Counts.{potential}
use Rattle.tally_clauses.proofs.Summing.{length-places}
use Rattle.tally_clauses.proofs.Costs.{Costs, cost_nil, cost-append, places_cost, bounds_cost, total, ends, all_most, worth, worth_of_sum}

-- steps cost no more than what was there is worth more than what is there now
pub record IsCharged (var : ℕ) (steps : List Step) (before after : ℕ) : Type 0 where
  pub cost : ℕ
  pub costs : Costs var steps cost
  pub paid : cost + after ≤ before

charged_nil : (var before after : ℕ) → after ≤ before → IsCharged var [] before after
charged_nil var before after le = record { cost = 0; costs = cost_nil var; paid = omega arith }

charged-append : (var : ℕ) (steps more : List Step) (before between after : ℕ) → IsCharged var steps before between → IsCharged (variables_after var steps) more between after → IsCharged var (steps ++ more) before after
charged-append var steps more before between after a b =
    let ap : a.cost + between ≤ before = a.paid in
    let bp : b.cost + after ≤ between = b.paid in
    record { cost = a.cost + b.cost; costs = cost-append var steps more a.cost b.cost a.costs b.costs; paid = omega arith }

-- the same with something else beside
charged_beside : (var : ℕ) (steps : List Step) (before after other : ℕ) → IsCharged var steps before after → IsCharged var steps (before + other) (after + other)
charged_beside var steps before after other a =
    let ap : a.cost + after ≤ before = a.paid in
    record { cost = a.cost; costs = a.costs; paid = omega arith }

double : (a b : ℕ) → 0 < b → a * (b + 1) ≤ 2 * (a * b)
double a zero lt = absurd (omega arith)
double a (suc b) lt = omega arith

pub short_merge : (limit var : ℕ) (ones others : List Signal) → length ones ≤ limit → length others ≤ limit → length (merge limit var ones others).tally ≤ limit
short_merge limit var ones [] lo lt = lo
short_merge limit var ones (other ∷ others) lo lt =
    let len = length-places var ones (other ∷ others) 0 (min limit (length ones + length (other ∷ others))) in
    omega arith

-- a sum of two tallies
charged_merge : (limit var : ℕ) (ones others : List Signal) → length ones ≤ limit → length others ≤ limit
    → IsCharged var (merge limit var ones others).steps (potential limit ones + potential limit others) (potential limit (merge limit var ones others).tally)
charged_merge limit var ones [] lo lt = charged_nil var (potential limit ones + potential limit []) (potential limit ones) (omega arith)
charged_merge limit var ones (other ∷ others) lo lt =
    let a = length ones in
    let b = length (other ∷ others) in
    let n = min limit (a + b) in
    let made = places var ones (other ∷ others) 0 n in
    let len : length made.tally ≡ n = length-places var ones (other ∷ others) 0 n in
    let most : total a b 0 n + ends a b limit ≤ a * (b + 1) = all_most a b n limit (omega arith) in
    let two : a * (b + 1) ≤ 2 * (a * b) = double a b (omega arith) in
    let sum : worth limit n + 2 * (a * b) ≤ worth limit a + worth limit b = worth_of_sum limit a b lo lt in
    let top : worth limit (length made.tally) ≡ worth limit n = ap (worth limit) len in
    record {
      cost = total a b 0 n + ends a b limit;
      costs = cost-append var made.steps (bounds ones (other ∷ others) limit) (total a b 0 n) (ends a b limit) (places_cost var ones (other ∷ others) 0 n) (bounds_cost (variables_after var made.steps) ones (other ∷ others) limit);
      paid = omega arith;
    }

abbrev pub AllShort : ℕ → List (List Signal) → Type 0
AllShort limit [] = Unit {0}
AllShort limit (part ∷ parts) = (length part ≤ limit) × AllShort limit parts

abbrev pub worths : ℕ → List (List Signal) → ℕ
worths limit [] = 0
worths limit (part ∷ parts) = potential limit part + worths limit parts

short_pairs : (limit var : ℕ) (parts : List (List Signal)) → AllShort limit parts → AllShort limit (pair_up limit var parts).tallies
short_pairs limit var [] h = tt
short_pairs limit var (one ∷ []) h = h
short_pairs limit var (one ∷ other ∷ parts) h =
    let first = merge limit var one other in
    (short_merge limit var one other h.0 h.1.0, short_pairs limit (variables_after var first.steps) parts h.1.1)

same_before : (var : ℕ) (steps : List Step) (before other after : ℕ) → before ≡ other → IsCharged var steps before after → IsCharged var steps other after
same_before var steps before other after e a = subst (λ (k : ℕ). IsCharged var steps k after) e a

same_after : (var : ℕ) (steps : List Step) (before after other : ℕ) → after ≡ other → IsCharged var steps before after → IsCharged var steps before other
same_after var steps before after other e a = subst (λ (k : ℕ). IsCharged var steps before k) e a

charged_pairs : (limit var : ℕ) (parts : List (List Signal)) → AllShort limit parts → IsCharged var (pair_up limit var parts).steps (worths limit parts) (worths limit (pair_up limit var parts).tallies)
charged_pairs limit var [] h = charged_nil var 0 0 (omega arith)
charged_pairs limit var (one ∷ []) h = charged_nil var (potential limit one + 0) (potential limit one + 0) (omega arith)
charged_pairs limit var (one ∷ other ∷ parts) h =
    let first = merge limit var one other in
    let rest = pair_up limit (variables_after var first.steps) parts in
    let p = potential limit one in
    let q = potential limit other in
    let t = potential limit first.tally in
    let a = charged_beside var first.steps (p + q) t (worths limit parts) (charged_merge limit var one other h.0 h.1.0) in
    let b = charged_beside (variables_after var first.steps) rest.steps (worths limit parts) (worths limit rest.tallies) t (charged_pairs limit (variables_after var first.steps) parts h.1.1) in
    let b' = same_before (variables_after var first.steps) rest.steps (worths limit parts + t) (t + worths limit parts) (worths limit rest.tallies + t) (omega arith) b in
    let c = charged-append var first.steps rest.steps ((p + q) + worths limit parts) (t + worths limit parts) (worths limit rest.tallies + t) a b' in
    same_before var (first.steps ++ rest.steps) ((p + q) + worths limit parts) (p + (q + worths limit parts)) (t + worths limit rest.tallies) (omega arith)
    (same_after var (first.steps ++ rest.steps) ((p + q) + worths limit parts) (worths limit rest.tallies + t) (t + worths limit rest.tallies) (omega arith) c)

short_levels : (limit count var : ℕ) (parts : List (List Signal)) → AllShort limit parts → AllShort limit (levels count limit var parts).tallies
unfolding levels
short_levels limit zero var parts h = h
short_levels limit (suc count) var parts h =
    let first = pair_up limit var parts in
    short_levels limit count (variables_after var first.steps) first.tallies (short_pairs limit var parts h)

charged_levels : (limit count var : ℕ) (parts : List (List Signal)) → AllShort limit parts → IsCharged var (levels count limit var parts).steps (worths limit parts) (worths limit (levels count limit var parts).tallies)
unfolding levels
charged_levels limit zero var parts h = charged_nil var (worths limit parts) (worths limit parts) (omega arith)
charged_levels limit (suc count) var parts h =
    let first = pair_up limit var parts in
    let rest = levels count limit (variables_after var first.steps) first.tallies in
    charged-append var first.steps rest.steps (worths limit parts) (worths limit first.tallies) (worths limit rest.tallies) (charged_pairs limit var parts h) (charged_levels limit count (variables_after var first.steps) first.tallies (short_pairs limit var parts h))

charged_adds : (limit var : ℕ) (sum : List Signal) (parts : List (List Signal)) → length sum ≤ limit → AllShort limit parts
    → IsCharged var (add_up limit var sum parts).steps (potential limit sum + worths limit parts) (potential limit (add_up limit var sum parts).tally)
charged_adds limit var sum [] ls h = charged_nil var (potential limit sum + 0) (potential limit sum) (omega arith)
charged_adds limit var sum (part ∷ parts) ls h =
    let first = merge limit var sum part in
    let rest = add_up limit (variables_after var first.steps) first.tally parts in
    let p = potential limit sum in
    let q = potential limit part in
    let t = potential limit first.tally in
    let a = charged_beside var first.steps (p + q) t (worths limit parts) (charged_merge limit var sum part ls h.0) in
    let b = charged_adds limit (variables_after var first.steps) first.tally parts (short_merge limit var sum part ls h.0) h.1 in
    same_before var (first.steps ++ rest.steps) ((p + q) + worths limit parts) (p + (q + worths limit parts)) (potential limit rest.tally) (omega arith)
    (charged-append var first.steps rest.steps ((p + q) + worths limit parts) (t + worths limit parts) (potential limit rest.tally) a b)

pub charged_tally : (limit var : ℕ) (parts : List (List Signal)) → AllShort limit parts → IsCharged var (tally_of limit var parts).steps (worths limit parts) (potential limit (tally_of limit var parts).tally)
charged_tally limit var parts h =
    let tree = levels 32 limit var parts in
    let top = add_up limit (variables_after var tree.steps) [] tree.tallies in
    let a = charged_levels limit 32 var parts h in
    let b = charged_adds limit (variables_after var tree.steps) [] tree.tallies (omega arith) (short_levels limit 32 var parts h) in
    let b' = same_before (variables_after var tree.steps) top.steps (potential limit [] + worths limit tree.tallies) (worths limit tree.tallies) (potential limit top.tally) (omega arith) b in
    charged-append var tree.steps top.steps (worths limit parts) (worths limit tree.tallies) (potential limit top.tally) a b'

short : (limit : ℕ) (parts : List (List Signal)) → All (λ (part : List Signal). length part ≤ limit) parts → AllShort limit parts
short limit [] h = tt
short limit (part ∷ parts) h = (All-head (λ (x : List Signal). length x ≤ limit) part parts h, short limit parts (All-tail (λ (x : List Signal). length x ≤ limit) part parts h))

worths_are : (limit : ℕ) (parts : List (List Signal)) → worths limit parts ≡ sum_by (potential limit) parts
worths_are limit [] = refl
worths_are limit (part ∷ parts) =
    let rest = worths_are limit parts in
    let e = sum_by-cons (potential limit) part parts in
    omega arith

pub tally_size : (limit var : ℕ) (parts : List (List Signal)) → All (λ (part : List Signal). length part ≤ limit) parts
    → (variables_after var (tally_of limit var parts).steps + potential limit (tally_of limit var parts).tally ≤ var + sum_by (potential limit) parts)
    × (length (clauses_of_steps var (tally_of limit var parts).steps) + 4 * potential limit (tally_of limit var parts).tally ≤ 4 * sum_by (potential limit) parts)
tally_size limit var parts h =
    let made = tally_of limit var parts in
    let c = charged_tally limit var parts (short limit parts h) in
    let v : variables_after var made.steps ≤ var + c.cost = c.costs.vars in
    let k : length (clauses_of_steps var made.steps) ≤ 4 * c.cost = c.costs.clauses in
    let paid : c.cost + potential limit made.tally ≤ worths limit parts = c.paid in
    let e = worths_are limit parts in
    (omega arith, omega arith)

worth_most : (limit n : ℕ) → n ≤ limit → limit ≤ 64 → n * (3 * limit - n) ≤ 12288
worth_most limit n ln ll =
    let a : n * (3 * limit - n) ≤ n * 192 = mul-le-mul_left n (omega arith) in
    omega arith

worths_most : (limit : ℕ) (parts : List (List Signal)) → AllShort limit parts → limit ≤ 64 → worths limit parts ≤ length parts * 12288
worths_most limit [] h ll = omega arith
worths_most limit (part ∷ parts) h ll =
    let one = worth_most limit (length part) h.0 ll in
    let rest = worths_most limit parts h.1 ll in
    omega arith

pub tally_fits : (f : Formula) (limit : ℕ) (parts : List (List Signal)) → All (λ (part : List Signal). length part ≤ limit) parts → limit ≤ 64
    → f.vars + length parts * 12288 ≤ 2 ^ 30 → length f.clauses + 4 * (length parts * 12288) ≤ 2 ^ 31 → Fits (extended f (tally_of limit f.vars parts).steps)
tally_fits f limit parts h ll lv lc =
    let size = tally_size limit f.vars parts h in
    let most = worths_most limit parts (short limit parts h) ll in
    let e = worths_are limit parts in
    let len = length-append f.clauses (clauses_of_steps f.vars (tally_of limit f.vars parts).steps) in
    record { vars = omega arith; clauses = omega arith }
