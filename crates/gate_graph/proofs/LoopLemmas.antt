-- A walk that comes back to one of its cells names the loop, and where no walk does, every bit has a level.
use Rattle.std.proofs.Common.{◌≡◌, ◌≢◌, ℕ, zero, suc, ◌+◌, ◌-◌, ◌<◌, ◌≤◌, ◌⊎◌, inl, inr, Bool, true, false, List, [], ◌∷◌, ◌++◌, map, length, get_or, replicate, refl, sym, ◌∙◌, ap, subst, arith}
use Rattle.std.specs.Prelude.{Contains, Some, None, slice_get}
use Rattle.std.proofs.lemmas.Bool.{cases_order}
use Rattle.std.proofs.lemmas.List.{length-append, length-map, get_or-map, get_or_append_left, get_or_push, get_or_past, get_or-replicate, length-replicate}
use Rattle.coco_base.specs.declared.netlist.Flat.{Flat}
use Rattle.coco_base.specs.declared.netlist.FlatCell.{FlatCell}
use Rattle.coco_base.specs.declared.netlist.Wire.TheVariants.{Bit}
use Rattle.coco_model.specs.Netlist.{wires_of, HasNoRepeat, HasOneDriver, IsInRange, IsCellBit}
use Rattle.coco_model.proofs.Basics.{some_from_any}
use Rattle.model_laws.proofs.Lists.{member_of_place, place_of_member}
use Rattle.gate_graph.specs.declared.driver.Driver.{Driver}
use Rattle.gate_graph.specs.declared.driver.Driver.TheVariants.{Port, Cell, Flop, Nothing}
use Rattle.gate_graph.specs.declared.mark.Mark.{Mark}
use Rattle.gate_graph.specs.declared.mark.Mark.TheVariants.{New, Walked, Level}
use Rattle.gate_graph.specs.Drivers.{IsDriver, IsCellOutput, IsWired}
use Rattle.gate_graph.specs.Levels.{HasLevel, LacksLevel}
use Rattle.gate_graph.specs.Levels.HasLevel.{leaf, output}
use Rattle.gate_graph.specs.Loops.{GoesTo, IsWalk, IsLeastWithoutLevel, IsLoop, names_from}
use Rattle.gate_graph.specs.Marks.{mark_of, mark_level, driver_level, has_level, HasCellLevel, AreMarks, LeadsOn, IsClosedPath, AreLeft, AreBitLevels}
use Rattle.gate_graph.proofs.Items.{place_below, same_at}
use Rattle.gate_graph.proofs.LevelLemmas.{one_cell, cell_bit}
use Rattle.gate_graph.proofs.StepLemmas.{no_cell_by}

-- a cell that leads on to another of a list
record LeadsInto (flat : Flat) (path : List ℕ) (from : ℕ) : Type 0 where
  place : ℕ
  inside : place < length path
  leads : LeadsOn flat from (get_or path place 0)

leads_into : (flat : Flat) (start entry : ℕ) (path : List ℕ) → IsClosedPath flat start path entry → (k : ℕ) → k < length path
    → LeadsInto flat path (get_or path k 0)
leads_into flat start entry path c k below = go (cases_order (suc k) (length path))
  where
    go : (suc k ≡ length path) ⊎ ((suc k < length path) ⊎ (length path < suc k)) → LeadsInto flat path (get_or path k 0)
    go (inl e) = record {
      place = entry;
      inside = c.inside;
      leads = subst (λ n. LeadsOn flat (get_or path n 0) (get_or path entry 0)) (let f : length path - 1 ≡ k = omega arith in f) c.back;
    }
    go (inr (inl more)) = record { place = suc k; inside = more; leads = c.path_is.steps k more }
    go (inr (inr less)) = absurd (omega arith)

-- no bit has a level that a cell drives whose walk never ends
lacks : (flat : Flat) → HasOneDriver flat → (path : List ℕ) → ((k : ℕ) → k < length path → LeadsInto flat path (get_or path k 0)) → (bit n : ℕ)
    → HasLevel flat bit n → (k : ℕ) → k < length path → (c : FlatCell) → slice_get flat.cells (get_or path k 0) ≡ Some c → c.output ≡ bit → ⊥
lacks flat one path on bit n (leaf b none) k below c at drives = none (cell_bit flat c b (member_of_place flat.cells (get_or path k 0) c at) drives)
lacks flat one path on bit n (output cell level listed inputs) k below c at drives =
    go (on k below) (λ b read. lacks flat one path on b (level b) (inputs b read))
  where
    go : LeadsInto flat path (get_or path k 0)
        → ((b : ℕ) → Contains (wires_of cell) (Bit b) → (j : ℕ) → j < length path → (d : FlatCell) → slice_get flat.cells (get_or path j 0) ≡ Some d → d.output ≡ b → ⊥)
        → ⊥
    go into rest =
        let lead = into.leads in
        let first : lead.cell ≡ c = same_at flat.cells (get_or path k 0) lead.cell c lead.at at in
        let is_cell : c ≡ cell = one_cell flat one c cell (member_of_place flat.cells (get_or path k 0) c at) listed drives in
        let read : Contains (wires_of cell) (Bit lead.bit) =
        subst (λ d. Contains (wires_of d) (Bit lead.bit)) (first ∙ is_cell) (member_of_place (wires_of lead.cell) lead.place (Bit lead.bit) lead.input) in
        rest lead.bit read into.place into.inside lead.driven.cell lead.driven.at lead.driven.drives

-- an input that leads on to a cell without a level is the first input without one
goes : (flat : Flat) (from to : ℕ) → LeadsOn flat from to → ((c : FlatCell) → slice_get flat.cells to ≡ Some c → LacksLevel flat c.output) → GoesTo flat from to
goes flat from to lead none = record {
  cell = lead.cell;
  at = lead.at;
  place = lead.place;
  bit = lead.bit;
  input = lead.input;
  lacks = subst (LacksLevel flat) lead.driven.drives (none lead.driven.cell lead.driven.at);
  first = lead.first;
  driven = lead.driven;
}

no_repeat_by_place : (path : List ℕ) → ((j k : ℕ) → j < k → k < length path → get_or path j 0 ≢ get_or path k 0) → HasNoRepeat path
no_repeat_by_place [] once = tt
no_repeat_by_place (x ∷ xs) once = (new, no_repeat_by_place xs (λ j k lt h. once (suc j) (suc k) (omega arith) (omega arith)))
  where
    get_any : (ys : List ℕ) (k d : ℕ) → k < length ys → get_or ys k d ≡ get_or ys k 0
    get_any [] k d h = absurd (omega arith)
    get_any (y ∷ ys) zero d h = refl
    get_any (y ∷ ys) (suc k) d h = get_any ys k d (omega arith)

    new : Contains xs x → ⊥
    new (k, below, is) = once 0 (suc k) (omega arith) (omega arith) (sym is ∙ get_any xs k x below)

pub closes : (flat : Flat) → HasOneDriver flat → (start entry : ℕ) (path : List ℕ) (cell : FlatCell) → slice_get flat.cells start ≡ Some cell
    → ((k : ℕ) (c : FlatCell) → k < start → slice_get flat.cells k ≡ Some c → (level : ℕ) × HasLevel flat c.output level)
    → IsClosedPath flat start path entry → IsLoop flat (names_from flat path entry)
closes flat one start entry path cell at lower c = record {
  path = path;
  entry = entry;
  inside = c.inside;
  start = subst (IsLeastWithoutLevel flat) (sym c.first) (record {
    cell = cell;
    at = at;
    lacks = without 0 (let i = c.inside in omega arith) cell (ap (slice_get flat.cells) c.first ∙ at);
    least = lower;
  });
  walk = λ k h. walk k (cases_order (suc k) (length path)) h;
  once = no_repeat_by_place path c.path_is.once;
  named = refl;
}
  where
    without : (k : ℕ) → k < length path → (d : FlatCell) → slice_get flat.cells (get_or path k 0) ≡ Some d → LacksLevel flat d.output
    without k below d at_d = λ n has. lacks flat one path (leads_into flat start entry path c) d.output n has k below d at_d refl

    ends : List ℕ
    ends = path ++ get_or path entry 0 ∷ []

    front : (k : ℕ) → k < length path → get_or ends k 0 ≡ get_or path k 0
    front k h = get_or_append_left path (get_or path entry 0 ∷ []) 0 k h

    walk : (k : ℕ) → (suc k ≡ length path) ⊎ ((suc k < length path) ⊎ (length path < suc k)) → suc k < length ends
        → GoesTo flat (get_or ends k 0) (get_or ends (suc k) 0)
    walk k (inl e) h =
        subst (λ x. GoesTo flat x (get_or ends (suc k) 0)) (sym (front k (omega arith)))
        (subst (GoesTo flat (get_or path k 0)) (sym (get_or_push path (get_or path entry 0) 0 (suc k) (sym e)))
        (goes flat (get_or path k 0) (get_or path entry 0)
        (subst (λ n. LeadsOn flat (get_or path n 0) (get_or path entry 0)) (let f : length path - 1 ≡ k = omega arith in f) c.back) (without entry c.inside)))
    walk k (inr (inl below)) h =
        subst (λ x. GoesTo flat x (get_or ends (suc k) 0)) (sym (front k (omega arith)))
        (subst (GoesTo flat (get_or path k 0)) (sym (front (suc k) below))
        (goes flat (get_or path k 0) (get_or path (suc k) 0) (c.path_is.steps k below) (without (suc k) below)))
    walk k (inr (inr above)) h = absurd (let l = length-append path (get_or path entry 0 ∷ []) in omega arith)

-- before the first walk
pub new_marks : (flat : Flat) (marks : List Mark) → marks ≡ replicate (length flat.cells) New → AreMarks flat marks × AreLeft marks
new_marks flat marks e = (
  record {
    as_long = ap length e ∙ length-replicate (length flat.cells) New;
    levels = λ i l h. absurd (never i l h);
    bound = λ i l h. absurd (never i l h);
  },
  λ i h. let f : New ≡ Walked = sym (all_new i) ∙ h in cc,
)
  where
    at : (n i : ℕ) → get_or (replicate {A = Mark} n New) i New ≡ New
    at zero i = refl
    at (suc n) zero = refl
    at (suc n) (suc i) = at n i

    all_new : (i : ℕ) → mark_of marks i ≡ New
    all_new i = ap (λ ms. mark_of ms i) e ∙ at (length flat.cells) i

    never : (i l : ℕ) → mark_of marks i ≡ Level l → ⊥
    never i l h = let f : New ≡ Level l = sym (all_new i) ∙ h in cc

-- a cell with a marked level
pub level_of_mark : (flat : Flat) (marks : List Mark) → AreMarks flat marks → (i : ℕ) (c : FlatCell) → slice_get flat.cells i ≡ Some c
    → has_level (mark_of marks i) ≡ true → (level : ℕ) × HasLevel flat c.output level
level_of_mark flat marks a i c at h = go (mark_of marks i) refl h
  where
    go : (m : Mark) → mark_of marks i ≡ m → has_level m ≡ true → (level : ℕ) × HasLevel flat c.output level
    go New e t = absurd cc
    go Walked e t = absurd cc
    go (Level l) e t =
        let has = a.levels i l e in
        (l, subst (λ (d : FlatCell). HasLevel flat d.output l) (same_at flat.cells i has.cell c has.at at) has.level_is)

-- the levels of all bits, once all cells have theirs
pub bit_levels : (flat : Flat) (drivers : List Driver) (marks : List Mark) (levels : List ℕ) → IsWired flat drivers → AreMarks flat marks
    → ((i : ℕ) → i < length flat.cells → has_level (mark_of marks i) ≡ true) → levels ≡ map (driver_level marks) drivers → AreBitLevels flat levels
bit_levels flat drivers marks levels w a every is = record {
  as_long = ap length is ∙ length-map drivers (driver_level marks) ∙ w.driven.as_long;
  each = λ b. each b (cases_order b (length drivers));
}
  where
    by_driver : (b : ℕ) (d : Driver) → IsDriver flat b d → HasLevel flat b (driver_level marks d)
    by_driver b (Port p) drives = leaf b (no_cell_by flat w.one_driver b (Port p) drives (λ i e. cc))
    by_driver b (Flop f) drives = leaf b (no_cell_by flat w.one_driver b (Flop f) drives (λ i e. cc))
    by_driver b Nothing drives = leaf b drives.no_cell
    by_driver b (Cell i) drives = go (mark_of marks i) refl (every i (inside drives))
      where
        inside : IsCellOutput flat i b → i < length flat.cells
        inside d = place_below flat.cells i d.cell d.at

        go : (m : Mark) → mark_of marks i ≡ m → has_level (mark_of marks i) ≡ true → HasLevel flat b (mark_level (mark_of marks i))
        go New e t = absurd (let f : false ≡ true = sym (ap has_level e) ∙ t in cc)
        go Walked e t = absurd (let f : false ≡ true = sym (ap has_level e) ∙ t in cc)
        go (Level l) e t =
            let has = a.levels i l e in
            let same : has.cell ≡ drives.cell = same_at flat.cells i has.cell drives.cell has.at drives.at in
            subst (HasLevel flat b) (sym (ap mark_level e))
            (subst (λ n. HasLevel flat n l) (ap (λ (c : FlatCell). c.output) same ∙ drives.drives) has.level_is)

    past : (b : ℕ) → length drivers ≤ b → HasLevel flat b (get_or levels b 0)
    past b high =
        subst (HasLevel flat b) (sym (get_or_past levels b 0 (let l = ap length is ∙ length-map drivers (driver_level marks) in omega arith)))
        (leaf b (λ h.
        let s = some_from_any (λ (c : FlatCell). c.output ≡ b) flat.cells h in
        let r = w.range.outputs s.member s.listed in
        let e = s.holds in
        let l = w.driven.as_long in omega arith))

    each : (b : ℕ) → (b ≡ length drivers) ⊎ ((b < length drivers) ⊎ (length drivers < b)) → HasLevel flat b (get_or levels b 0)
    each b (inl e) = past b (omega arith)
    each b (inr (inr above)) = past b (omega arith)
    each b (inr (inl below)) =
        subst (HasLevel flat b) (sym (ap (λ ls. get_or ls b 0) is ∙ get_or-map (driver_level marks) drivers b Nothing 0 below))
        (by_driver b (get_or drivers b Nothing) (w.driven.each b))
