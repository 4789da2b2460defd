-- Windows and walks read earlier variables alone and ask nothing.
use Rattle.std.proofs.Common.{ℕ, ◌+◌, ◌-◌, ◌*◌, ◌/◌, ◌%◌, ◌||◌, Bool, true, false, cond, nat_eq, nat_lt, nat_le, List, [], ◌∷◌, ◌++◌, length, reverse, replicate, slice_set, sym, subst, arith, inl, inr}
use Rattle.std.specs.List.{range_with_len}
use Rattle.std.proofs.lemmas.Bool.{cases_lt}
use Rattle.std.proofs.lemmas.List.{length-replicate, get_or-replicate, get_or_past}
use Rattle.coco_base.specs.declared.netlist.Wire.{Wire}
use Rattle.coco_base.specs.declared.netlist.Wire.TheVariants.{Const, Bit}
use Rattle.circuit_clauses.specs.declared.signal.Signal.{Signal}
use Rattle.circuit_clauses.specs.declared.signal.Signal.TheVariants.{Constant}
use Rattle.circuit_clauses.specs.Meanings.{IsBelow}
use Rattle.clause_builds.specs.Builds.{done, ◌>>=◌}
use Rattle.clause_builds.specs.Rows.{signal_at}
use Rattle.probe_clauses.specs.Probings.{Probing, open_wire}
use Rattle.probe_clauses.specs.Walks.{pass_to, pass_at, pass_on, walk_down}
use Rattle.probe_clauses.specs.Windows.{Lasting, lasting, either, to_block_end, next_tail, tails, from_block_start, over_window, keep_lasting, next_lasting, heads, windowed}
use Rattle.probe_laws.proofs.Lower.{Low, low-done, low-bind, low-through, low-or_gate, low-or_into, AllowsGates, RowBelow, row_more, row_set, row_push, row_nil, below_more}
use Rattle.probe_laws.proofs.Extending.{AsksNothing}

gate : AllowsGates AsksNothing
gate a p b = tt

low-either : (var : ℕ) (a b : Signal) → IsBelow var a → IsBelow var b → Low AsksNothing var (either a b) IsBelow
low-either var a b ha hb = low-or_gate AsksNothing gate var a b (Constant true) ha hb tt

low-to_block_end : (var window : ℕ) (row : List Signal) (u : ℕ) (ends : List Signal) → RowBelow var row → RowBelow var ends
    → Low AsksNothing var (to_block_end window row u ends) IsBelow
low-to_block_end var window row u ends hr he = go (nat_le (length row) (u / window * window + window)) (nat_eq (u % window) (window - 1)) (nat_eq (u % window) 0)
  where
    go : (last end start : Bool)
        → Low AsksNothing var (cond last (done (Constant false)) (cond end (done (signal_at row u)) (cond start (done (Constant false)) (either (signal_at ends (u + 1)) (signal_at row u))))) IsBelow
    go true end start = low-done AsksNothing var IsBelow (Constant false) tt
    go false true start = low-done AsksNothing var IsBelow (signal_at row u) (hr u)
    go false false true = low-done AsksNothing var IsBelow (Constant false) tt
    go false false false = low-either var (signal_at ends (u + 1)) (signal_at row u) (he (u + 1)) (hr u)

falses_below : (now n : ℕ) → RowBelow now (replicate n (Constant false))
falses_below now n i = elim (cases_lt i n) [
  | inl lt ↦ subst (IsBelow now) (sym (get_or-replicate n i (Constant false) (Constant false) lt)) tt
  | inr past ↦ subst (IsBelow now) (sym (get_or_past (replicate n (Constant false)) i (Constant false) (let e = length-replicate n (Constant false) in omega arith))) tt
]

low-tails : (var window : ℕ) (row : List Signal) → RowBelow var row → Low AsksNothing var (tails window row) RowBelow
low-tails var window row hr =
    low-through AsksNothing var RowBelow (next_tail window row)
    (λ u (ends : List Signal) now le he.
    low-bind AsksNothing now RowBelow IsBelow (to_block_end window row u ends) (λ (s : Signal). done (slice_set ends u s))
    (low-to_block_end now window row u ends (row_more var now row le hr) he)
    (λ (s : Signal) later up low. low-done AsksNothing later RowBelow (slice_set ends u s) (row_set later ends u s (row_more now later ends up he) low)))
    (reverse (range_with_len 0 (length row))) var (replicate (length row) (Constant false)) (omega arith) (falses_below var (length row))

low-from_block_start : (var window : ℕ) (row : List Signal) (u : ℕ) (head : Signal) → RowBelow var row → IsBelow var head
    → Low AsksNothing var (from_block_start window row u head) IsBelow
low-from_block_start var window row u head hr hh = go (nat_eq (u % window) 0)
  where
    go : (start : Bool) → Low AsksNothing var (cond start (done (signal_at row u)) (either head (signal_at row u))) IsBelow
    go true = low-done AsksNothing var IsBelow (signal_at row u) (hr u)
    go false = low-either var head (signal_at row u) hh (hr u)

low-over_window : (var window : ℕ) (ends : List Signal) (u : ℕ) (head : Signal) → RowBelow var ends → IsBelow var head
    → Low AsksNothing var (over_window window ends u head) IsBelow
low-over_window var window ends u head he hh = go (nat_eq (u % window) (window - 1) || nat_lt u window)
  where
    go : (alone : Bool) → Low AsksNothing var (cond alone (done head) (either (signal_at ends (u + 1 - window)) head)) IsBelow
    go true = low-done AsksNothing var IsBelow head hh
    go false = low-either var (signal_at ends (u + 1 - window)) head (he (u + 1 - window)) hh

abbrev LastingBelow : ℕ → Lasting → Type 0
LastingBelow now so_far = IsBelow now so_far.head × RowBelow now so_far.row

low-next_lasting : (var window : ℕ) (row ends : List Signal) (u : ℕ) (so_far : Lasting) → RowBelow var row → RowBelow var ends → LastingBelow var so_far
    → Low AsksNothing var (next_lasting window row ends u so_far) LastingBelow
low-next_lasting var window row ends u so_far hr he h =
    low-bind AsksNothing var LastingBelow IsBelow (from_block_start window row u so_far.head) (keep_lasting window ends u so_far.row)
    (low-from_block_start var window row u so_far.head hr h.0)
    (λ (head : Signal) now le hh.
    low-bind AsksNothing now LastingBelow IsBelow (over_window window ends u head) (λ (s : Signal). done (lasting head (so_far.row ++ s ∷ [])))
    (low-over_window now window ends u head (row_more var now ends le he) hh)
    (λ (s : Signal) later up low. low-done AsksNothing later LastingBelow (lasting head (so_far.row ++ s ∷ []))
    (below_more now later head up hh, row_push later so_far.row s (row_more var later so_far.row (omega arith) h.1) low)))

low-heads : (var window : ℕ) (row ends : List Signal) → RowBelow var row → RowBelow var ends → Low AsksNothing var (heads window row ends) LastingBelow
low-heads var window row ends hr he =
    low-through AsksNothing var LastingBelow (next_lasting window row ends)
    (λ u (so_far : Lasting) now le h. low-next_lasting now window row ends u so_far (row_more var now row le hr) (row_more var now ends le he) h)
    (range_with_len 0 (length row)) var (lasting (Constant false) []) (omega arith) (tt, row_nil var)

pub low-windowed : (var window : ℕ) (row : List Signal) → RowBelow var row → Low AsksNothing var (windowed window row) RowBelow
low-windowed var window row hr =
    low-bind AsksNothing var RowBelow RowBelow (tails window row) (λ (ends : List Signal). heads window row ends >>= (λ (all : Lasting). done all.row))
    (low-tails var window row hr)
    (λ (ends : List Signal) now le he.
    low-bind AsksNothing now RowBelow LastingBelow (heads window row ends) (λ (all : Lasting). done all.row)
    (low-heads now window row ends (row_more var now row le hr) he)
    (λ (all : Lasting) later up h. low-done AsksNothing later RowBelow all.row h.1))

-- ---- walks

low-pass_to : (var : ℕ) (wire : Wire) (output : ℕ) (row : List Signal) → RowBelow var row → Low AsksNothing var (pass_to wire output row) RowBelow
low-pass_to var (Const bit) output row h = low-done AsksNothing var RowBelow row h
low-pass_to var (Bit bit) output row h = low-or_into AsksNothing gate var row bit (signal_at row output) h (h output)

pub low-walk : (var : ℕ) (run : Probing) (times : List ℕ) (row : List Signal) → RowBelow var row → Low AsksNothing var (walk_down run times row) RowBelow
low-walk var run times row h =
    low-through AsksNothing var RowBelow (pass_on run times)
    (λ cell (now_row : List Signal) now le low.
    low-through AsksNothing now RowBelow (pass_at run times cell)
    (λ place (r : List Signal) later up l. low-pass_to later (open_wire run times cell place) (run.output cell) r l)
    (range_with_len 0 (length (run.wires cell))) now now_row (omega arith) low)
    run.cells var row (omega arith) h
