-- Signals that last: over a window that ends with a cycle some signal of a row is true.
use Rattle.std.specs.Prelude.{ℕ, ◌+◌, ◌-◌, ◌*◌, ◌/◌, ◌%◌, true, false, cond, ◌||◌, nat_eq, nat_lt, nat_le, List, [], ◌∷◌, ◌++◌, length, reverse, replicate, slice_set}
use Rattle.std.specs.List.{range_with_len}
use Rattle.circuit_clauses.specs.declared.signal.Signal.{Signal}
use Rattle.circuit_clauses.specs.declared.signal.Signal.TheVariants.{Constant}
use Rattle.clause_builds.specs.Builds.{Build, done, ◌>>=◌, through, or_gate}
use Rattle.clause_builds.specs.Rows.{signal_at}

-- one signal or another
abbrev pub either : Signal → Signal → Build Signal
either one other = or_gate one other (Constant true)

-- in blocks as long as a window: from a cycle to the end of its block some signal of the row is true. The last block
-- and the first cycle of a longer one are not asked
abbrev pub to_block_end : ℕ → List Signal → ℕ → List Signal → Build Signal
to_block_end window row u tails =
    cond (nat_le (length row) (u / window * window + window)) (done (Constant false))
    (cond (nat_eq (u % window) (window - 1)) (done (signal_at row u))
    (cond (nat_eq (u % window) 0) (done (Constant false))
    (either (signal_at tails (u + 1)) (signal_at row u))))

abbrev pub next_tail : ℕ → List Signal → ℕ → List Signal → Build (List Signal)
next_tail window row u tails = to_block_end window row u tails >>= (λ (s : Signal). done (slice_set tails u s))

-- from the last cycle to the first
abbrev pub tails : ℕ → List Signal → Build (List Signal)
tails window row =
    through (next_tail window row) (reverse (range_with_len 0 (length row))) (replicate (length row) (Constant false))

-- from the start of its block to a cycle some signal of the row is true
abbrev pub from_block_start : ℕ → List Signal → ℕ → Signal → Build Signal
from_block_start window row u head =
    cond (nat_eq (u % window) 0) (done (signal_at row u)) (either head (signal_at row u))

-- over the window that ends with a cycle: what is in its block, and the end of the block before
abbrev pub over_window : ℕ → List Signal → ℕ → Signal → Build Signal
over_window window tails u head =
    cond (nat_eq (u % window) (window - 1) || nat_lt u window) (done head)
    (either (signal_at tails (u + 1 - window)) head)

-- the signals up to a cycle, and that of its block
pub record Lasting : Type 0 where
  pub head : Signal
  pub row : List Signal

abbrev pub lasting : Signal → List Signal → Lasting
lasting head row = record { head = head; row = row }

abbrev pub keep_lasting : ℕ → List Signal → ℕ → List Signal → Signal → Build Lasting
keep_lasting window tails u row head =
    over_window window tails u head >>= (λ (s : Signal). done (lasting head (row ++ s ∷ [])))

abbrev pub next_lasting : ℕ → List Signal → List Signal → ℕ → Lasting → Build Lasting
next_lasting window row tails u so_far =
    from_block_start window row u so_far.head >>= keep_lasting window tails u so_far.row

-- place u: some signal of the row at a cycle t with u - window < t ≤ u is true
abbrev pub heads : ℕ → List Signal → List Signal → Build Lasting
heads window row tails =
    through (next_lasting window row tails) (range_with_len 0 (length row)) (lasting (Constant false) [])

abbrev pub windowed : ℕ → List Signal → Build (List Signal)
windowed window row =
    tails window row >>= (λ (tails : List Signal).
    heads window row tails >>= (λ (all : Lasting). done all.row))
