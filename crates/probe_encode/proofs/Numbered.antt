-- The rows of probes and of pairs: one for each cycle, with a signal for each bit.
use Rattle.std.proofs.Common.{◌≡◌, ℕ, zero, suc, ◌<◌, ◌^◌, Bool, List, [], ◌∷◌, length, get_or, refl, ap, subst, arith, inl, inr}
use Rattle.std.proofs.lemmas.Bool.{cases_lt}
use Rattle.std.proofs.lemmas.List.{get_or_past}
use Rattle.std.proofs.lemmas.List.FromFn.{length-range_with_len, length-map-range_with_len}
use Rattle.circuit_clauses.specs.declared.signal.Signal.{Signal}
use Rattle.clause_builds.specs.Builds.{Build, done, ◌>>=◌, each}
use Rattle.clause_builds.specs.Rows.{fresh_if, fresh_row, count_up}
use Rattle.clause_builds.proofs.Sizing.{Makes, AreAll, makes-bind, makes-done, makes-each}
use Rattle.node_clauses.specs.Sums.{NodeSums, node_sums}
use Rattle.probe_clauses.specs.declared.part.ProbePart.{ProbePart}
use Rattle.probe_clauses.specs.Probings.{Probing, probing_of, all_bits, all_cycles, probed, can_probe}
use Rattle.probe_clauses.specs.Rows.{picked, counted, counted_row, rows_of}
use Rattle.probe_clauses.specs.Passes.{grouped_by, group_bits, probes_in, probe_rows, bound_probes, probes, pair_of, pairs_in, pairs}
use Rattle.probe_clauses.specs.Parts.{part_of, shown_by, shown_of, probe_part}
use Rattle.probe_encode.specs.Formulas.{Encoding, Tables, first_part, labels_of, nodes_of, tables_of}
use Rattle.probe_encode.specs.Goals.{label_variables, label_sums}
use Rattle.probe_encode.specs.Weights.{pair_weights}
use Rattle.probe_encode.specs.Readable.{AreNumbered}

-- types that are inside their crate, by their makers
abbrev TypeOf : {X : Type 0} → X → Type 0
TypeOf {X = X} x = X

abbrev Counted : Type 0
Counted = TypeOf (counted [] [])

abbrev Grouped : Type 0
Grouped = TypeOf (grouped_by [] [])

abbrev Shown : Type 0
Shown = TypeOf (shown_by [] [] [])

-- nothing is asked of what is made
abbrev Anything : {X : Type 0} → X → Type 0
Anything x = Unit {0}

abbrev IsLong : {X : Type 0} → ℕ → List X → Type 0
IsLong n xs = length xs ≡ n

as_long : {Y : Type 0} (P : Y → Type 0) (n : ℕ) (ys : List Y) → AreAll P n ys → length ys ≡ n
as_long P zero [] h = refl
as_long P zero (y ∷ ys) h = absurd h
as_long P (suc n) [] h = absurd h
as_long P (suc n) (y ∷ ys) h = ap suc (as_long P n ys h.1)

one_of_all : {Y : Type 0} (P : Y → Type 0) (n : ℕ) (ys : List Y) → AreAll P n ys → (k : ℕ) (d : Y) → k < n → P (get_or ys k d)
one_of_all P zero ys h k d lt = absurd (omega arith)
one_of_all P (suc n) [] h k d lt = absurd h
one_of_all P (suc n) (y ∷ ys) h zero d lt = h.0
one_of_all P (suc n) (y ∷ ys) h (suc k) d lt = one_of_all P n ys h.1 k d (omega arith)

-- ---- what is made

each_long : {X Y : Type 0} (build : X → Build Y) (xs : List X) → Makes (IsLong (length xs)) (each build xs)
each_long {Y = Y} build xs var = as_long (λ (y : Y). Unit {0}) (length xs) (each build xs var).result (makes-each (λ (y : Y). Unit {0}) build xs (λ x v. tt) var)

abbrev HasRow : ℕ → Counted → Type 0
HasRow n c = length c.row ≡ n

counted_long : (limit : ℕ) (wanted : List Bool) → Makes (HasRow (length wanted)) (counted_row limit wanted)
counted_long limit wanted =
    makes-bind (IsLong (length wanted)) (HasRow (length wanted)) (fresh_row wanted)
    (λ (row : List Signal). count_up limit (picked wanted row) >>= (λ (count : List Signal). done (counted row count)))
    (each_long fresh_if wanted)
    (λ (row : List Signal) long.
    makes-bind Anything (HasRow (length wanted)) (count_up limit (picked wanted row)) (λ (count : List Signal). done (counted row count)) (λ var. tt)
    (λ (count : List Signal) any. makes-done (HasRow (length wanted)) (counted row count) long))

probes_long : (run : Probing) → Makes (AreAll (HasRow run.bits) (length (all_cycles run))) (probes run)
probes_long run =
    makes-bind (AreAll (HasRow run.bits) (length (all_cycles run))) (AreAll (HasRow run.bits) (length (all_cycles run))) (probe_rows run)
    (λ (cycles : List Counted). bound_probes run cycles >>= (λ (u : Unit {0}). done cycles))
    (makes-each (HasRow run.bits) (probes_in run) (all_cycles run)
    (λ t. subst (λ n. Makes (HasRow n) (counted_row run.order (probed run))) (length-map-range_with_len (can_probe run) 0 run.bits) (counted_long run.order (probed run))))
    (λ (cycles : List Counted) h.
    makes-bind Anything (AreAll (HasRow run.bits) (length (all_cycles run))) (bound_probes run cycles) (λ (u : Unit {0}). done cycles) (λ var. tt)
    (λ (u : Unit {0}) any. makes-done (AreAll (HasRow run.bits) (length (all_cycles run))) cycles h))

pairs_long : (run : Probing) (shown : Shown) → Makes (AreAll (IsLong run.bits) (length (all_cycles run))) (pairs run shown)
pairs_long run shown =
    makes-each (IsLong run.bits) (pairs_in run shown) (all_cycles run)
    (λ t. subst (λ n. Makes (IsLong n) (pairs_in run shown t)) (length-range_with_len 0 run.bits) (each_long (pair_of run shown t) (all_bits run)))

-- ---- numbers

rows_long : (n m : ℕ) (cycles : List Counted) → AreAll (HasRow n) m cycles → AreAll (IsLong n) m (rows_of cycles)
rows_long n zero [] h = tt
rows_long n zero (c ∷ cs) h = absurd h
rows_long n (suc m) [] h = absurd h
rows_long n (suc m) (c ∷ cs) h = (h.0, rows_long n m cs h.1)

are_numbered : (bits cycles : ℕ) (rows : List (List Signal)) → bits < 2 ^ 32 → cycles < 2 ^ 32 → AreAll (IsLong bits) cycles rows → AreNumbered rows
are_numbered bits cycles rows few_bits few_cycles h = record {
  cycles = (let e = as_long (IsLong bits) cycles rows h in omega arith);
  bits = λ t. elim (cases_lt t cycles) [
    | inl lt ↦ (let e : length (get_or rows t []) ≡ bits = one_of_all (IsLong bits) cycles rows h t [] lt in omega arith)
    | inr past ↦ (let e : length (get_or rows t []) ≡ 0 = ap length (get_or_past rows t [] (let l = as_long (IsLong bits) cycles rows h in omega arith)) in omega arith)
  ];
}

-- probes and pairs are numbered
abbrev pub IsNumbered : ProbePart → Type 0
IsNumbered part = AreNumbered part.probes × AreNumbered part.pairs

part_numbered : (run : Probing) → run.bits < 2 ^ 32 → run.cycles < 2 ^ 32 → Makes IsNumbered (probe_part run)
part_numbered run few_bits few_cycles =
    makes-bind Anything IsNumbered (group_bits run)
    (λ (all : Grouped).
    probes run >>= (λ (cycles : List Counted).
    shown_of run all cycles >>= (λ (shown : Shown).
    pairs run shown >>= (λ (rows : List (List Signal)).
    done (part_of cycles rows)))))
    (λ var. tt)
    (λ (all : Grouped) any.
    makes-bind (AreAll (HasRow run.bits) (length (all_cycles run))) IsNumbered (probes run)
    (λ (cycles : List Counted).
    shown_of run all cycles >>= (λ (shown : Shown).
    pairs run shown >>= (λ (rows : List (List Signal)).
    done (part_of cycles rows))))
    (probes_long run)
    (λ (cycles : List Counted) h.
    makes-bind Anything IsNumbered (shown_of run all cycles)
    (λ (shown : Shown). pairs run shown >>= (λ (rows : List (List Signal)). done (part_of cycles rows)))
    (λ var. tt)
    (λ (shown : Shown) none.
    makes-bind (AreAll (IsLong run.bits) (length (all_cycles run))) IsNumbered (pairs run shown) (λ (rows : List (List Signal)). done (part_of cycles rows))
    (pairs_long run shown)
    (λ (rows : List (List Signal)) k.
    makes-done IsNumbered (part_of cycles rows) (
      are_numbered run.bits (length (all_cycles run)) (rows_of cycles) few_bits few (rows_long run.bits (length (all_cycles run)) cycles h),
      are_numbered run.bits (length (all_cycles run)) rows few_bits few k,
    )))))
  where
    few : length (all_cycles run) < 2 ^ 32
    few = let e = length-range_with_len 0 run.cycles in omega arith

abbrev pub HasNumbers : Tables → Type 0
HasNumbers tables = AreNumbered tables.probes × AreNumbered tables.pairs

-- so are those of the tables of a run
pub first_numbered : (e : Encoding) → (probing_of e.view).bits < 2 ^ 32 → (probing_of e.view).cycles < 2 ^ 32 → Makes HasNumbers (first_part e)
first_numbered e few_bits few_cycles =
    makes-bind Anything HasNumbers (label_variables (labels_of e)) _ (λ v. tt) (λ (variables : List Signal) a.
    makes-bind IsNumbered HasNumbers (probe_part (probing_of e.view)) _ (part_numbered (probing_of e.view) few_bits few_cycles) (λ (part : ProbePart) numbered.
    makes-bind Anything HasNumbers (node_sums (nodes_of e) (pair_weights e.view part.pairs)) _ (λ v. tt) (λ (sums : NodeSums) d.
    makes-bind Anything HasNumbers (label_sums variables sums.totals) _ (λ v. tt) (λ (all : Unit {0}) g.
    makes-done HasNumbers (tables_of e variables part sums) numbered))))
