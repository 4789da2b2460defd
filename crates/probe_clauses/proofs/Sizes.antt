-- How many variables and clauses each pass takes.
use Rattle.std.proofs.Common.{◌≡◌, ℕ, ◌+◌, ◌-◌, ◌*◌, ◌/◌, ◌%◌, ◌≤◌, ◌||◌, Bool, true, false, cond, nat_eq, nat_lt, nat_le, List, [], ◌∷◌, length, reverse, arith}
use Rattle.std.specs.List.{range_with_len}
use Rattle.std.proofs.Math.Nat.{mul-le-mul_right}
use Rattle.std.proofs.lemmas.List.FromFn.{length-range_with_len}
use Rattle.coco_base.specs.declared.netlist.Wire.{Wire}
use Rattle.coco_base.specs.declared.netlist.Wire.TheVariants.{Const, Bit}
use Rattle.circuit_clauses.specs.declared.signal.Signal.{Signal}
use Rattle.circuit_clauses.specs.declared.signal.Signal.TheVariants.{Constant}
use Rattle.clause_builds.specs.Builds.{Build, done, ◌>>=◌}
use Rattle.clause_builds.specs.Rows.{signal_at, fresh_row, count_up}
use Rattle.clause_builds.proofs.Sizing.{Takes, Makes, takes_more, takes-done, makes-done, takes-bind, makes-bind, takes-through, takes-or_gate, takes-or_into, takes-fresh_row}
use Rattle.clause_builds.proofs.Tallying.{IsWorth, takes-count_up, makes-count_up}
use Rattle.probe_clauses.specs.declared.counted.Counted.{Counted}
use Rattle.probe_clauses.specs.Probings.{Probing, open_wire}
use Rattle.probe_clauses.specs.Rows.{picked, counted, counted_row}
use Rattle.probe_clauses.specs.Windows.{either, to_block_end, next_tail, tails, from_block_start, over_window, Lasting, lasting, keep_lasting, next_lasting, heads, windowed}
use Rattle.probe_clauses.proofs.Ranges.{length-backwards}
use Rattle.probe_clauses.specs.Walks.{pass_to, pass_at, pass_on, walk_down}

-- what sizes go by: a cell has at most 4 wires, there are no more cells than bits, and some probe may be chosen
pub record IsSized (run : Probing) : Type 0 where
  pub wires : (cell : ℕ) → length (run.wires cell) ≤ 4
  pub cells : length run.cells ≤ run.bits
  pub order : 1 ≤ run.order

-- what a single signal is worth to a tally
abbrev pub worth_of : ℕ → ℕ
worth_of limit = 3 * limit - 1

-- as many bits: of those for which a variable is wanted at most so many are picked
pub length-picked : (ws : List Bool) (ss : List Signal) → length (picked ws ss) ≤ length ws
length-picked [] ss = omega arith
length-picked (w ∷ ws) [] = omega arith
length-picked (true ∷ ws) (s ∷ ss) = (let h = length-picked ws ss in omega arith)
length-picked (false ∷ ws) (s ∷ ss) = (let h = length-picked ws ss in omega arith)

pub takes-cond : {X : Type 0} (b : Bool) (one other : Build X) (v c : ℕ) → Takes one v c → Takes other v c → Takes (cond b one other) v c
takes-cond true one other v c h k = h
takes-cond false one other v c h k = k

pub free : {X : Type 0} (x : X) (v c : ℕ) → Takes (done x) v c
free x v c = takes_more (done x) 0 0 v c (takes-done x) (omega arith) (omega arith)

-- what a counted row makes
abbrev pub IsCountedRow : ℕ → ℕ → Counted → Type 0
IsCountedRow limit n c = IsWorth limit (n * worth_of limit) c.count

takes-picks : (limit n : ℕ) (ws : List Bool) (row : List Signal) → length ws ≡ n → 1 ≤ limit
    → Takes (count_up limit (picked ws row)) (n * worth_of limit) (4 * (n * worth_of limit))
takes-picks limit n ws row e le =
    let few : length (picked ws row) ≤ n = (let h = length-picked ws row in omega arith) in
    let k : length (picked ws row) * worth_of limit ≤ n * worth_of limit = mul-le-mul_right (worth_of limit) few in
    takes_more (count_up limit (picked ws row)) (length (picked ws row) * worth_of limit) (4 * (length (picked ws row) * worth_of limit)) (n * worth_of limit) (4 * (n * worth_of limit))
    (takes-count_up limit (picked ws row) le) k (omega arith)

makes-picks : (limit n : ℕ) (ws : List Bool) (row : List Signal) → length ws ≡ n → 1 ≤ limit → Makes (IsWorth limit (n * worth_of limit)) (count_up limit (picked ws row))
makes-picks limit n ws row e le = λ var. (
    let few : length (picked ws row) ≤ n = (let h = length-picked ws row in omega arith) in
    let k : length (picked ws row) * worth_of limit ≤ n * worth_of limit = mul-le-mul_right (worth_of limit) few in
    let m = makes-count_up limit (picked ws row) le var in
    record { short = m.short; worth = (let h = m.worth in omega arith) })

pub takes-counted : (limit n : ℕ) (ws : List Bool) → length ws ≡ n → 1 ≤ limit → Takes (counted_row limit ws) (n + n * worth_of limit) (4 * (n * worth_of limit))
takes-counted limit n ws e le =
    let w = n * worth_of limit in
    takes_more (counted_row limit ws) (length ws * 1 + (w + 0)) (length ws * 0 + (4 * w + 0)) (n + w) (4 * w)
    (takes-bind (fresh_row ws) (λ (row : List Signal). count_up limit (picked ws row) >>= (λ (count : List Signal). done (counted row count))) (length ws * 1) (length ws * 0) (w + 0) (4 * w + 0) (takes-fresh_row ws)
    (λ (row : List Signal). takes-bind (count_up limit (picked ws row)) (λ (count : List Signal). done (counted row count)) w (4 * w) 0 0 (takes-picks limit n ws row e le) (λ (count : List Signal). takes-done (counted row count))))
    (omega arith) (omega arith)

pub makes-counted : (limit n : ℕ) (ws : List Bool) → length ws ≡ n → 1 ≤ limit → Makes (IsCountedRow limit n) (counted_row limit ws)
makes-counted limit n ws e le =
    makes-bind (λ (row : List Signal). Unit {0}) (IsCountedRow limit n) (fresh_row ws) (λ (row : List Signal). count_up limit (picked ws row) >>= (λ (count : List Signal). done (counted row count))) (λ var. tt)
    (λ (row : List Signal) (u : Unit {0}). makes-bind (IsWorth limit (n * worth_of limit)) (IsCountedRow limit n) (count_up limit (picked ws row)) (λ (count : List Signal). done (counted row count)) (makes-picks limit n ws row e le)
    (λ (count : List Signal) (h : IsWorth limit (n * worth_of limit) count). makes-done (IsCountedRow limit n) (counted row count) h))

-- walks
takes-pass_to : (wire : Wire) (output : ℕ) (row : List Signal) → Takes (pass_to wire output row) 1 4
takes-pass_to (Const value) output row = free row 1 4
takes-pass_to (Bit bit) output row = takes-or_into row bit (signal_at row output)

takes-pass_on : (run : Probing) (times : List ℕ) (cell : ℕ) (row : List Signal) → IsSized run → Takes (pass_on run times cell row) 4 16
takes-pass_on run times cell row sized =
    let places = range_with_len 0 (length (run.wires cell)) in
    let e : length places ≡ length (run.wires cell) = length-range_with_len 0 (length (run.wires cell)) in
    let few : length (run.wires cell) ≤ 4 = sized.wires cell in
    takes_more (pass_on run times cell row) (length places * 1) (length places * 4) 4 16
    (takes-through (pass_at run times cell) places row 1 4 (λ (place : ℕ) (s : List Signal). takes-pass_to (open_wire run times cell place) (run.output cell) s)) (omega arith) (omega arith)

pub takes-walk_down : (run : Probing) (times : List ℕ) (row : List Signal) → IsSized run → Takes (walk_down run times row) (run.bits * 4) (run.bits * 16)
takes-walk_down run times row sized =
    let few : length run.cells ≤ run.bits = sized.cells in
    takes_more (walk_down run times row) (length run.cells * 4) (length run.cells * 16) (run.bits * 4) (run.bits * 16)
    (takes-through (pass_on run times) run.cells row 4 16 (λ (cell : ℕ) (s : List Signal). takes-pass_on run times cell s sized)) (omega arith) (omega arith)

-- windows
takes-either : (one other : Signal) → Takes (either one other) 1 4
takes-either one other = takes-or_gate one other (Constant true)

takes-next_tail : (window : ℕ) (row : List Signal) (u : ℕ) (ends : List Signal) → Takes (next_tail window row u ends) 1 4
takes-next_tail window row u ends =
    takes-bind (to_block_end window row u ends) _ 1 4 0 0
    (takes-cond (nat_le (length row) (u / window * window + window)) (done (Constant false)) _ 1 4 (free (Constant false) 1 4)
    (takes-cond (nat_eq (u % window) (window - 1)) (done (signal_at row u)) _ 1 4 (free (signal_at row u) 1 4)
    (takes-cond (nat_eq (u % window) 0) (done (Constant false)) (either (signal_at ends (u + 1)) (signal_at row u)) 1 4 (free (Constant false) 1 4) (takes-either (signal_at ends (u + 1)) (signal_at row u)))))
    (λ s. takes-done _)

takes-next_lasting : (window : ℕ) (row ends : List Signal) (u : ℕ) (so_far : Lasting) → Takes (next_lasting window row ends u so_far) 2 8
takes-next_lasting window row ends u so_far =
    takes-bind (from_block_start window row u so_far.head) (keep_lasting window ends u so_far.row) 1 4 1 4
    (takes-cond (nat_eq (u % window) 0) (done (signal_at row u)) (either so_far.head (signal_at row u)) 1 4 (free (signal_at row u) 1 4) (takes-either so_far.head (signal_at row u)))
    (λ (head : Signal). takes-bind (over_window window ends u head) _ 1 4 0 0
    (takes-cond (nat_eq (u % window) (window - 1) || nat_lt u window) (done head) (either (signal_at ends (u + 1 - window)) head) 1 4 (free head 1 4) (takes-either (signal_at ends (u + 1 - window)) head))
    (λ s. takes-done _))

pub takes-windowed : (window : ℕ) (row : List Signal) → Takes (windowed window row) (length row * 3) (length row * 12)
takes-windowed window row =
    let n = length row in
    let cycles = reverse (range_with_len 0 n) in
    let e : length cycles ≡ n = length-backwards n in
    let k : length (range_with_len 0 n) ≡ n = length-range_with_len 0 n in
    let first : Takes (tails window row) (length cycles * 1) (length cycles * 4) = takes-through (next_tail window row) cycles _ 1 4 (takes-next_tail window row) in
    let second : (ends : List Signal) → Takes (heads window row ends >>= (λ (all : Lasting). done all.row)) (length (range_with_len 0 n) * 2 + 0) (length (range_with_len 0 n) * 8 + 0) =
    λ ends. takes-bind (heads window row ends) (λ (all : Lasting). done all.row) (length (range_with_len 0 n) * 2) (length (range_with_len 0 n) * 8) 0 0
    (takes-through (next_lasting window row ends) (range_with_len 0 n) (lasting (Constant false) []) 2 8 (takes-next_lasting window row ends)) (λ all. takes-done all.row) in
    takes_more (windowed window row) (length cycles * 1 + (length (range_with_len 0 n) * 2 + 0)) (length cycles * 4 + (length (range_with_len 0 n) * 8 + 0)) (n * 3) (n * 12)
    (takes-bind (tails window row) (λ (ends : List Signal). heads window row ends >>= (λ (all : Lasting). done all.row)) (length cycles * 1) (length cycles * 4)
    (length (range_with_len 0 n) * 2 + 0) (length (range_with_len 0 n) * 8 + 0) first second) (omega arith) (omega arith)
