-- Walks against the wires, the other way: what is reached is true after them, where no later cell reads an earlier one.
use Rattle.std.proofs.Common.{◌≡◌, ◌≢◌, ℕ, suc, ◌<◌, Bool, true, false, cond, List, length, get_or, slice_set, refl, sym, ap, ◌∙◌, subst, arith, ◌⊎◌, inl, inr, Contains}
use Rattle.std.specs.List.{range_with_len}
use Rattle.std.proofs.lemmas.Bool.{cases_eq, cases_lt}
use Rattle.std.proofs.lemmas.List.{length-set, get_or-set_same, get_or-set_other, get_or_past}
use Rattle.std.proofs.lemmas.List.Elements.{at_from_Contains}
use Rattle.std.proofs.lemmas.List.FromFn.{length-range_with_len, get_or-range_with_len}
use Rattle.coco_base.specs.declared.netlist.Wire.{Wire}
use Rattle.coco_base.specs.declared.netlist.Wire.TheVariants.{Const, Bit}
use Rattle.circuit_clauses.specs.declared.signal.Signal.{Signal}
use Rattle.circuit_clauses.specs.declared.signal.Signal.TheVariants.{Constant}
use Rattle.circuit_clauses.specs.Signals.{value}
use Rattle.circuit_clauses.specs.Laws.{GatesLaw}
use Rattle.clause_builds.specs.Builds.{done, or_gate}
use Rattle.clause_builds.specs.Rows.{signal_at, or_into}
use Rattle.probe_clauses.specs.Probings.{Probing, is_open, open_wire}
use Rattle.probe_clauses.specs.Walks.{pass_to, pass_at, pass_on, walk_down}
use Rattle.probe_laws.specs.Laws.{IsOrderly}
use Rattle.probe_laws.proofs.Meant.{Means, means-done, means-bind, means_more, value_at}
use Rattle.probe_laws.proofs.Converse.{through_turns, means_from_either}

-- what is true stays true
abbrev pub IsKept : (ℕ → Bool) → List Signal → List Signal → Type 0
IsKept values row next = (i : ℕ) → value_at values row i ≡ true → value_at values next i ≡ true

-- one place takes over what another signal is
record TakesOver (values : ℕ → Bool) (row : List Signal) (place : ℕ) (other : Signal) (next : List Signal) : Type 0 where
  pub as_long : length next ≡ length row
  pub kept : IsKept values row next
  pub elsewhere : (i : ℕ) → i ≢ place → value_at values next i ≡ value_at values row i
  pub here : place < length row → value values other ≡ true → value_at values next place ≡ true

or_takes : GatesLaw → (values : ℕ → Bool) (row : List Signal) (place : ℕ) (other : Signal) → Means values (or_into row place other) (TakesOver values row place other)
or_takes gates values row place other =
    means-bind values (TakesOver values row place other) (λ (s : Signal). (value_at values row place ≡ true) ⊎ (value values other ≡ true) → value values s ≡ true)
    (or_gate (signal_at row place) other (Constant true)) (λ (s : Signal). done (slice_set row place s))
    (means_from_either gates values (signal_at row place) other)
    (λ (s : Signal) one. means-done values (TakesOver values row place other) (slice_set row place s) (takes s one))
  where
    takes : (s : Signal) → ((value_at values row place ≡ true) ⊎ (value values other ≡ true) → value values s ≡ true) → TakesOver values row place other (slice_set row place s)
    takes s one = record {
      as_long = length-set row place s;
      kept = kept;
      elsewhere = λ i ne. ap (value values) (get_or-set_other row place i s (Constant false) ne);
      here = λ lt e. ap (value values) (get_or-set_same row place s (Constant false) lt) ∙ one (inr e);
    }
      where
        kept : IsKept values row (slice_set row place s)
        kept i e = elim (cases_eq i place) [
          | inl same ↦ elim (cases_lt place (length row)) [
            | inl lt ↦ subst (λ k. value_at values (slice_set row place s) k ≡ true) (sym same)
                (ap (value values) (get_or-set_same row place s (Constant false) lt) ∙ one (inl (subst (λ k. value_at values row k ≡ true) same e)))
            | inr ge ↦ (let none = ap (value values) (get_or_past row i (Constant false) (omega (arith, same, ge))) in absurd (cc))
          ]
          | inr other_place ↦ ap (value values) (get_or-set_other row place i s (Constant false) other_place) ∙ e
        ]

-- the bit of a wire takes over what an output is
record PassesTo (values : ℕ → Bool) (wire : Wire) (output : ℕ) (row next : List Signal) : Type 0 where
  pub as_long : length next ≡ length row
  pub kept : IsKept values row next
  pub elsewhere : (i : ℕ) → wire ≢ Bit i → value_at values next i ≡ value_at values row i
  pub here : (bit : ℕ) → wire ≡ Bit bit → bit < length row → value_at values row output ≡ true → value_at values next bit ≡ true

bit_same : (a b : ℕ) → ◌≡◌ {A = Wire} (Bit a) (Bit b) → a ≡ b
bit_same a b e = cc

pass_to_passes : GatesLaw → (values : ℕ → Bool) (wire : Wire) (output : ℕ) (row : List Signal) → Means values (pass_to wire output row) (PassesTo values wire output row)
pass_to_passes gates values (Const b) output row =
    means-done values (PassesTo values (Const b) output row) row (record {
      as_long = refl;
      kept = λ i e. e;
      elsewhere = λ i ne. refl;
      here = λ bit e lt h. absurd (let f : ◌≡◌ {A = Wire} (Const b) (Bit bit) = e in cc);
    })
pass_to_passes gates values (Bit b) output row =
    means_more values (TakesOver values row b (signal_at row output)) (PassesTo values (Bit b) output row) (or_into row b (signal_at row output))
    (or_takes gates values row b (signal_at row output))
    (λ (next : List Signal) takes. record {
      as_long = takes.as_long;
      kept = takes.kept;
      elsewhere = λ i ne. takes.elsewhere i (λ same. ne (ap Bit (sym same)));
      here = λ bit e lt h. (let same = bit_same b bit e in
          subst (λ k. value_at values next k ≡ true) same (takes.here (omega (arith, lt, same)) h));
    })

module _ (gates : GatesLaw) (values : ℕ → Bool) (run : Probing) (times : List ℕ) where
  abbrev wire_at : ℕ → ℕ → Wire
  wire_at cell place = get_or (run.wires cell) place (Const false)

  -- the first places of a cell have passed on its output
  record PassesOn (cell : ℕ) (row : List Signal) (k : ℕ) (next : List Signal) : Type 0 where
    pub as_long : length next ≡ length row
    pub kept : IsKept values row next
    pub elsewhere : (i : ℕ) → ((place : ℕ) → wire_at cell place ≢ Bit i) → value_at values next i ≡ value_at values row i
    pub passed : (place bit : ℕ) → place < k → is_open run times cell place ≡ true → wire_at cell place ≡ Bit bit → bit < length row
        → value_at values row (run.output cell) ≡ true → value_at values next bit ≡ true

  not_open : (cell place i : ℕ) → wire_at cell place ≢ Bit i → open_wire run times cell place ≢ Bit i
  not_open cell place i ne = go (is_open run times cell place)
    where
      go : (b : Bool) → cond b (wire_at cell place) (Const false) ≢ Bit i
      go true = ne
      go false = λ e. (let f : ◌≡◌ {A = Wire} (Const false) (Bit i) = e in cc)

  is_the_wire : (cell place : ℕ) → is_open run times cell place ≡ true → open_wire run times cell place ≡ wire_at cell place
  is_the_wire cell place e = ap (λ b. cond b (wire_at cell place) (Const false)) e

  one_place : (cell : ℕ) (row : List Signal) → ((place : ℕ) → wire_at cell place ≢ Bit (run.output cell)) → (k : ℕ) (now : List Signal) → PassesOn cell row k now
      → Means values (pass_at run times cell k now) (PassesOn cell row (suc k))
  one_place cell row alone k now on =
      means_more values (PassesTo values (open_wire run times cell k) (run.output cell) now) (PassesOn cell row (suc k)) (pass_at run times cell k now)
      (pass_to_passes gates values (open_wire run times cell k) (run.output cell) now)
      (λ (next : List Signal) to. record {
        as_long = to.as_long ∙ on.as_long;
        kept = λ i e. to.kept i (on.kept i e);
        elsewhere = λ i ne. to.elsewhere i (not_open cell k i (ne k)) ∙ on.elsewhere i ne;
        passed = λ place bit lt lets e within h. elim (cases_eq place k) [
          | inl same ↦
              (let open_k : is_open run times cell k ≡ true = subst (λ p. is_open run times cell p ≡ true) same lets in
              let wire_k : wire_at cell k ≡ Bit bit = subst (λ p. wire_at cell p ≡ Bit bit) same e in
              to.here bit (is_the_wire cell k open_k ∙ wire_k) (let long = on.as_long in omega arith) (on.elsewhere (run.output cell) alone ∙ h))
          | inr other ↦ to.kept bit (on.passed place bit (omega (arith, lt, other)) lets e within h)
        ];
      })

  all_places : (cell : ℕ) (row : List Signal) → ((place : ℕ) → wire_at cell place ≢ Bit (run.output cell))
      → Means values (pass_on run times cell row) (PassesOn cell row (length (run.wires cell)))
  all_places cell row alone =
      let n = length (run.wires cell) in
      let long : length (range_with_len 0 n) ≡ n = length-range_with_len 0 n in
      subst (λ k. Means values (pass_on run times cell row) (PassesOn cell row k)) long
      (through_turns values (PassesOn cell row) (pass_at run times cell) (range_with_len 0 n) 0
      (λ k (now : List Signal) lt on.
      let item : get_or (range_with_len 0 n) k 0 ≡ k = get_or-range_with_len 0 n k 0 (omega arith) ∙ omega arith in
      subst (λ p. Means values (pass_at run times cell p now) (PassesOn cell row (suc k))) (sym item) (one_place cell row alone k now on))
      row (record { as_long = refl; kept = λ i e. e; elsewhere = λ i ne. refl; passed = λ place bit lt. absurd (omega arith) }))

  abbrev cell_at : ℕ → ℕ
  cell_at i = get_or run.cells i 0

  -- the first cells have passed on all that their outputs are
  record WalkedTo (row : List Signal) (k : ℕ) (next : List Signal) : Type 0 where
    pub as_long : length next ≡ length row
    pub kept : IsKept values row next
    pub closed : (i place bit : ℕ) → i < k → is_open run times (cell_at i) place ≡ true → wire_at (cell_at i) place ≡ Bit bit → bit < length row
        → value_at values next (run.output (cell_at i)) ≡ true → value_at values next bit ≡ true

  place_within : (cell place bit : ℕ) → wire_at cell place ≡ Bit bit → place < length (run.wires cell)
  place_within cell place bit e = elim (cases_lt place (length (run.wires cell))) [
    | inl lt ↦ lt
    | inr ge ↦ (let past : wire_at cell place ≡ Const false = get_or_past (run.wires cell) place (Const false) ge in
        let f : ◌≡◌ {A = Wire} (Const false) (Bit bit) = sym past ∙ e in absurd (cc))
  ]

  one_cell : IsOrderly run → (row : List Signal) (k : ℕ) (now : List Signal) → k < length run.cells → WalkedTo row k now
      → Means values (pass_on run times (cell_at k) now) (WalkedTo row (suc k))
  one_cell orderly row k now lt to =
      means_more values (PassesOn (cell_at k) now (length (run.wires (cell_at k)))) (WalkedTo row (suc k)) (pass_on run times (cell_at k) now)
      (all_places (cell_at k) now (λ place. orderly.falling k k place (omega arith) lt))
      (λ (next : List Signal) on. record {
        as_long = on.as_long ∙ to.as_long;
        kept = λ i e. on.kept i (to.kept i e);
        closed = λ i place bit less lets e within h.
            (let same = on.elsewhere (run.output (cell_at i)) (λ p. orderly.falling i k p (omega arith) lt) in
            elim (cases_eq i k) [
              | inl is ↦ on.passed place bit (place_within (cell_at k) place bit (subst (λ j. wire_at (cell_at j) place ≡ Bit bit) is e))
                  (subst (λ j. is_open run times (cell_at j) place ≡ true) is lets) (subst (λ j. wire_at (cell_at j) place ≡ Bit bit) is e)
                  (let long = to.as_long in omega arith)
                  (subst (λ j. value_at values now (run.output (cell_at j)) ≡ true) is (sym same ∙ h))
              | inr other ↦ on.kept bit (to.closed i place bit (omega (arith, less, other)) lets e within (sym same ∙ h))
            ]);
      })

  -- a row that has all that was true, and with each output all inputs that it lets through
  walk_closes : IsOrderly run → (row : List Signal) → Means values (walk_down run times row) (WalkedTo row (length run.cells))
  walk_closes orderly row =
      through_turns values (WalkedTo row) (pass_on run times) run.cells 0
      (λ k (now : List Signal) lt to. one_cell orderly row k now lt to)
      row (record { as_long = refl; kept = λ i e. e; closed = λ i place bit lt. absurd (omega arith) })

-- what a walk keeps and closes
pub record IsWalked (values : ℕ → Bool) (run : Probing) (times : List ℕ) (row next : List Signal) : Type 0 where
  pub as_long : length next ≡ length row
  pub kept : IsKept values row next
  pub closed : (cell place bit : ℕ) → Contains run.cells cell → is_open run times cell place ≡ true → get_or (run.wires cell) place (Const false) ≡ Bit bit
      → bit < length row → value_at values next (run.output cell) ≡ true → value_at values next bit ≡ true

pub walk_is_walked : GatesLaw → (values : ℕ → Bool) (run : Probing) (times : List ℕ) → IsOrderly run → (row : List Signal)
    → Means values (walk_down run times row) (IsWalked values run times row)
walk_is_walked gates values run times orderly row =
    means_more values (WalkedTo gates values run times row (length run.cells)) (IsWalked values run times row) (walk_down run times row)
    (walk_closes gates values run times orderly row)
    (λ (next : List Signal) to. record {
      as_long = to.as_long;
      kept = to.kept;
      closed = λ cell place bit has lets e within h.
          (let at = at_from_Contains run.cells cell has in
          let is : get_or run.cells at.0 0 ≡ cell = at.2 0 in
          subst (λ c. value_at values next bit ≡ true) is
          (to.closed at.0 place bit at.1 (subst (λ c. is_open run times c place ≡ true) (sym is) lets)
          (subst (λ c. get_or (run.wires c) place (Const false) ≡ Bit bit) (sym is) e) within
          (subst (λ c. value_at values next (run.output c) ≡ true) (sym is) h)));
    })
