-- Tallies: signals that count how many of some signals are true, up to a limit.
use Rattle.std.specs.Prelude.{ℕ, zero, suc, ◌+◌, true, false, min, List, [], ◌∷◌, ◌++◌, length, get_or}
use Rattle.circuit_clauses.specs.declared.signal.Signal.{Signal}
use Rattle.circuit_clauses.specs.declared.signal.Signal.TheVariants.{Constant}
use Rattle.circuit_clauses.specs.Signals.{negated}
use Rattle.circuit_clauses.specs.Steps.{Step, variables_after}
use Rattle.circuit_clauses.specs.Steps.Step.{demand}
use Rattle.circuit_clauses.specs.Gates.{Made, or_and}

-- a tally with the steps that make it. Its first place says that at least 1 of the counted signals is true, the second
-- that at least 2 are, and so on
pub record MadeTally : Type 0 where
  pub tally : List Signal
  pub steps : List Step

-- tallies with the steps that make them
pub record MadeTallies : Type 0 where
  pub tallies : List (List Signal)
  pub steps : List Step

-- the signal of "at least so many": always true for 0, and false past the end
abbrev pub at_least : List Signal → ℕ → Signal
at_least tally count = get_or (Constant true ∷ tally) count (Constant false)

-- sum or one of: at least i of the ones and at least count - i of the others, for i from 1 on; var is the next variable
abbrev pub sum_of : ℕ → Signal → List Signal → List Signal → ℕ → Made
sum_of var sum [] others count = record { signal = sum; steps = [] }
sum_of var sum (one ∷ ones) others zero = record { signal = sum; steps = [] }
sum_of var sum (one ∷ ones) others (suc count) =
    let first = or_and var sum one (at_least others count) in
    let rest = sum_of (variables_after var first.steps) first.signal ones others count in
    record { signal = rest.signal; steps = first.steps ++ rest.steps }

-- that at least count are true of what two tallies count together
abbrev pub place : ℕ → List Signal → List Signal → ℕ → Made
place var ones others count = sum_of var (at_least others count) ones others count

-- the places of the sum of two tallies: so many after those of counts up to done
abbrev pub places : ℕ → List Signal → List Signal → ℕ → ℕ → MadeTally
places var ones others done zero = record { tally = []; steps = [] }
places var ones others done (suc left) =
    let first = place var ones others (done + 1) in
    let rest = places (variables_after var first.steps) ones others (done + 1) left in
    record { tally = first.signal ∷ rest.tally; steps = first.steps ++ rest.steps }

-- that not more than limit are true of what two tallies count together: for each i from 1 to the limit not both at least
-- i of the ones and at least limit + 1 - i of the others
abbrev pub bounds : List Signal → List Signal → ℕ → List Step
bounds [] others limit = []
bounds (one ∷ ones) others zero = []
bounds (one ∷ ones) others (suc limit) =
    demand (negated one ∷ negated (at_least others (suc limit)) ∷ []) ∷ bounds ones others limit

-- the sum of two tallies up to a limit, with the demand that it is not passed
abbrev pub merge : ℕ → ℕ → List Signal → List Signal → MadeTally
merge limit var ones [] = record { tally = ones; steps = [] }
merge limit var ones (other ∷ others) =
    let made = places var ones (other ∷ others) 0 (min limit (length ones + length (other ∷ others))) in
    record { tally = made.tally; steps = made.steps ++ bounds ones (other ∷ others) limit }

-- each two neighbours become their sum; an odd last one stays
abbrev pub pair_up : ℕ → ℕ → List (List Signal) → MadeTallies
pair_up limit var [] = record { tallies = []; steps = [] }
pair_up limit var (one ∷ []) = record { tallies = one ∷ []; steps = [] }
pair_up limit var (one ∷ other ∷ parts) =
    let first = merge limit var one other in
    let rest = pair_up limit (variables_after var first.steps) parts in
    record { tallies = first.tally ∷ rest.tallies; steps = first.steps ++ rest.steps }

-- as many levels of a tree as are told, from the leaves on
unfoldable pub levels : ℕ → ℕ → ℕ → List (List Signal) → MadeTallies
levels zero limit var parts = record { tallies = parts; steps = [] }
levels (suc count) limit var parts =
    let first = pair_up limit var parts in
    let rest = levels count limit (variables_after var first.steps) first.tallies in
    record { tallies = rest.tallies; steps = first.steps ++ rest.steps }

-- the sum of a tally and those of a list, one after the other
abbrev pub add_up : ℕ → ℕ → List Signal → List (List Signal) → MadeTally
add_up limit var sum [] = record { tally = sum; steps = [] }
add_up limit var sum (part ∷ parts) =
    let first = merge limit var sum part in
    let rest = add_up limit (variables_after var first.steps) first.tally parts in
    record { tally = rest.tally; steps = first.steps ++ rest.steps }

-- the sum of tallies up to a limit, as a tree of 32 levels, with the demand that it is not passed. A list that can be
-- stored has fewer than 2 ^ 32 items, so at most one tally is left at the top
abbrev pub tally_of : ℕ → ℕ → List (List Signal) → MadeTally
tally_of limit var parts =
    let tree = levels 32 limit var parts in
    let top = add_up limit (variables_after var tree.steps) [] tree.tallies in
    record { tally = top.tally; steps = tree.steps ++ top.steps }
