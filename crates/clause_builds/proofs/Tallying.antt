-- How many variables and clauses tallies take, and how long they are.
use Rattle.std.proofs.Common.{◌≡◌, ℕ, zero, suc, ◌-◌, ◌*◌, ◌≤◌, List, [], ◌∷◌, length, All, arith}
use Rattle.std.specs.Prelude.{sum_by}
use Rattle.std.proofs.lemmas.List.Sums.{sum_by-cons}
use Rattle.std.proofs.lemmas.List.Elements.{All-nil, All-cons}
use Rattle.circuit_clauses.specs.declared.signal.Signal.{Signal}
use Rattle.circuit_clauses.specs.Steps.{variables_after}
use Rattle.circuit_clauses.proofs.Sequences.{variables_above}
use Rattle.tally_clauses.specs.Tallies.{merge, pair_up, levels, add_up, tally_of}
use Rattle.tally_clauses.specs.Counts.{potential}
use Rattle.tally_clauses.proofs.Charges.{AllShort, short_merge, tally_size}
use Rattle.clause_builds.specs.Builds.{tally}
use Rattle.clause_builds.specs.Rows.{singles, count_up}
use Rattle.clause_builds.proofs.Sizing.{Takes, Makes}

few_pairs : (limit var : ℕ) (parts : List (List Signal)) → AllShort limit parts → AllShort limit (pair_up limit var parts).tallies
few_pairs limit var [] h = tt
few_pairs limit var (one ∷ []) h = h
few_pairs limit var (one ∷ other ∷ parts) h =
    let first = merge limit var one other in
    (short_merge limit var one other h.0 h.1.0, few_pairs limit (variables_after var first.steps) parts h.1.1)

few_levels : (count limit var : ℕ) (parts : List (List Signal)) → AllShort limit parts → AllShort limit (levels count limit var parts).tallies
unfolding levels
few_levels zero limit var parts h = h
few_levels (suc count) limit var parts h =
    let first = pair_up limit var parts in
    few_levels count limit (variables_after var first.steps) first.tallies (few_pairs limit var parts h)

few_sums : (limit var : ℕ) (sum : List Signal) (parts : List (List Signal)) → length sum ≤ limit → AllShort limit parts → length (add_up limit var sum parts).tally ≤ limit
few_sums limit var sum [] ls h = ls
few_sums limit var sum (part ∷ parts) ls h =
    let first = merge limit var sum part in
    few_sums limit (variables_after var first.steps) first.tally parts (short_merge limit var sum part ls h.0) h.1

short_parts : (limit : ℕ) (parts : List (List Signal)) → AllShort limit parts → All (λ (part : List Signal). length part ≤ limit) parts
short_parts limit [] h = All-nil (λ (part : List Signal). length part ≤ limit)
short_parts limit (part ∷ parts) h = All-cons (λ (part : List Signal). length part ≤ limit) part parts h.0 (short_parts limit parts h.1)

-- a tally is no longer than its limit, and worth no more than so much
pub record IsWorth (limit most : ℕ) (tally : List Signal) : Type 0 where
  pub short : length tally ≤ limit
  pub worth : potential limit tally ≤ most

pub takes-tally : (limit worth : ℕ) (parts : List (List Signal)) → AllShort limit parts → sum_by (potential limit) parts ≤ worth → Takes (tally limit parts) worth (4 * worth)
takes-tally limit worth parts short le =
    record {
      vars = λ var. (let size = tally_size limit var parts (short_parts limit parts short) in omega arith);
      clauses = λ var. (let size = tally_size limit var parts (short_parts limit parts short) in omega arith);
    }

pub makes-tally : (limit worth : ℕ) (parts : List (List Signal)) → AllShort limit parts → sum_by (potential limit) parts ≤ worth → Makes (IsWorth limit worth) (tally limit parts)
makes-tally limit worth parts short le = λ var. (
    let tree = levels 32 limit var parts in
    let size = tally_size limit var parts (short_parts limit parts short) in
    let above = variables_above var (tally_of limit var parts).steps in
    record {
      short = few_sums limit (variables_after var tree.steps) [] tree.tallies (omega arith) (few_levels 32 limit var parts short);
      worth = omega arith;
    })

short_singles : (limit : ℕ) (signals : List Signal) → 1 ≤ limit → AllShort limit (singles signals)
short_singles limit [] le = tt
short_singles limit (s ∷ signals) le = (omega arith, short_singles limit signals le)

worth_singles : (limit : ℕ) (signals : List Signal) → sum_by (potential limit) (singles signals) ≡ length signals * (3 * limit - 1)
worth_singles limit [] = omega arith
worth_singles limit (s ∷ signals) =
    let rest = worth_singles limit signals in
    let e = sum_by-cons (potential limit) (s ∷ []) (singles signals) in
    omega arith

pub takes-count_up : (limit : ℕ) (signals : List Signal) → 1 ≤ limit → Takes (count_up limit signals) (length signals * (3 * limit - 1)) (4 * (length signals * (3 * limit - 1)))
takes-count_up limit signals le =
    let e = worth_singles limit signals in
    takes-tally limit (length signals * (3 * limit - 1)) (singles signals) (short_singles limit signals le) (omega arith)

pub makes-count_up : (limit : ℕ) (signals : List Signal) → 1 ≤ limit → Makes (IsWorth limit (length signals * (3 * limit - 1))) (count_up limit signals)
makes-count_up limit signals le =
    let e = worth_singles limit signals in
    makes-tally limit (length signals * (3 * limit - 1)) (singles signals) (short_singles limit signals le) (omega arith)
