-- A walk, step by step.
use Rattle.std.proofs.Common.{◌≡◌, ◌≢◌, ℕ, zero, suc, ◌+◌, ◌-◌, ◌*◌, ◌<◌, ◌≤◌, ◌⊎◌, inl, inr, Bool, true, false, cond, List, [], ◌∷◌, ◌++◌, length, get_or, set, take, refl, sym, ◌∙◌, ap, subst, arith}
use Rattle.std.specs.Prelude.{Contains, Some, None, slice_get, count_by}
use Rattle.std.proofs.lemmas.Bool.{cases_eq, cases_order}
use Rattle.std.proofs.lemmas.List.{length-append, length-set, length-take-le, get_or-set_same, get_or-set_other, get_or-take, get_or_append_left, get_or_push, get_or_past, get_or_default}
use Rattle.std.proofs.lemmas.List.Sums.{sum_by-set, count_by-le-length}
use Rattle.coco_base.specs.declared.netlist.Flat.{Flat}
use Rattle.gate_graph.specs.declared.mark.Mark.{Mark}
use Rattle.gate_graph.specs.declared.mark.Mark.TheVariants.{New, Walked, Level}
use Rattle.gate_graph.specs.Marks.{mark_of, is_new, has_level, HasCellLevel, AreMarks, LeadsOn, IsPath, IsOpenPath, IsClosedPath, AreLeft, KeepLevels, AreWalkedFrom}

-- a mark after one is set
mark_same : (marks : List Mark) (i j : ℕ) (m : Mark) → i < length marks → j ≡ i → mark_of (set marks i m) j ≡ m
mark_same marks i j m inside e = ap (mark_of (set marks i m)) e ∙ get_or-set_same marks i m New inside

mark_other : (marks : List Mark) (i j : ℕ) (m : Mark) → j ≢ i → mark_of (set marks i m) j ≡ mark_of marks j
mark_other marks i j m n = get_or-set_other marks i j m New n

-- a cell that is marked as walked is one of the cells
pub walked_inside : (marks : List Mark) (i : ℕ) → mark_of marks i ≡ Walked → i < length marks
walked_inside marks i is = go (cases_order i (length marks))
  where
    past : length marks ≤ i → ⊥
    past h = let e : New ≡ Walked = sym (get_or_past marks i New h) ∙ is in cc

    go : (i ≡ length marks) ⊎ ((i < length marks) ⊎ (length marks < i)) → i < length marks
    go (inl e) = absurd (past (omega arith))
    go (inr (inl below)) = below
    go (inr (inr above)) = absurd (past (omega arith))

-- counts of marks after one is set
level_count : (marks : List Mark) (i : ℕ) (m : Mark) → i < length marks
    → count_by has_level (set marks i m) + cond (has_level (mark_of marks i)) 1 0 ≡ count_by has_level marks + cond (has_level m) 1 0
level_count marks i m inside = sum_by-set (λ x. cond (has_level x) 1 0) marks i m New inside

new_count : (marks : List Mark) (i : ℕ) (m : Mark) → i < length marks
    → count_by is_new (set marks i m) + cond (is_new (mark_of marks i)) 1 0 ≡ count_by is_new marks + cond (is_new m) 1 0
new_count marks i m inside = sum_by-set (λ x. cond (is_new x) 1 0) marks i m New inside

-- what a mark counts
level_bit : (m n : Mark) → m ≡ n → cond {A = ℕ} (has_level m) 1 0 ≡ cond {A = ℕ} (has_level n) 1 0
level_bit m n e = ap {B = ℕ} (λ (x : Mark). cond {A = ℕ} (has_level x) 1 0) e

new_bit : (m n : Mark) → m ≡ n → cond {A = ℕ} (is_new m) 1 0 ≡ cond {A = ℕ} (is_new n) 1 0
new_bit m n e = ap {B = ℕ} (λ (x : Mark). cond {A = ℕ} (is_new x) 1 0) e

pub marks_walked : (flat : Flat) (marks : List Mark) (i : ℕ) → i < length marks → mark_of marks i ≡ New → AreMarks flat marks → AreMarks flat (set marks i Walked)
marks_walked flat marks i inside is a = record {
  as_long = length-set marks i Walked ∙ a.as_long;
  levels = λ j l e. a.levels j l (old j l (cases_eq j i) e);
  bound = λ j l e.
      let b = a.bound j l (old j l (cases_eq j i) e) in
      let c = level_count marks i Walked inside in
      let z : cond {A = ℕ} (has_level (mark_of marks i)) 1 0 ≡ 0 = level_bit (mark_of marks i) New is in omega arith;
}
  where
    old : (j l : ℕ) → (j ≡ i) ⊎ (j ≢ i) → mark_of (set marks i Walked) j ≡ Level l → mark_of marks j ≡ Level l
    old j l (inl e) h = absurd (let f : Walked ≡ Level l = sym (mark_same marks i j Walked inside e) ∙ h in cc)
    old j l (inr n) h = sym (mark_other marks i j Walked n) ∙ h

pub marks_level : (flat : Flat) (marks : List Mark) (i level : ℕ) → mark_of marks i ≡ Walked → HasCellLevel flat i level
    → level ≤ suc (count_by has_level marks) → AreMarks flat marks → AreMarks flat (set marks i (Level level))
marks_level flat marks i level is has small a = record {
  as_long = length-set marks i (Level level) ∙ a.as_long;
  levels = λ j l e. levels j l (cases_eq j i) e;
  bound = λ j l e. bound j l (cases_eq j i) e;
}
  where
    inside : i < length marks
    inside = walked_inside marks i is

    count : count_by has_level (set marks i (Level level)) ≡ suc (count_by has_level marks)
    count = let c = level_count marks i (Level level) inside in let z : cond {A = ℕ} (has_level (mark_of marks i)) 1 0 ≡ 0 = level_bit (mark_of marks i) Walked is in omega arith

    levels : (j l : ℕ) → (j ≡ i) ⊎ (j ≢ i) → mark_of (set marks i (Level level)) j ≡ Level l → HasCellLevel flat j l
    levels j l (inl e) h =
        let f : Level level ≡ Level l = sym (mark_same marks i j (Level level) inside e) ∙ h in
        let g : level ≡ l = cc in
        subst (λ n. HasCellLevel flat n l) (sym e) (subst (HasCellLevel flat i) g has)
    levels j l (inr n) h = a.levels j l (sym (mark_other marks i j (Level level) n) ∙ h)

    bound : (j l : ℕ) → (j ≡ i) ⊎ (j ≢ i) → mark_of (set marks i (Level level)) j ≡ Level l → l ≤ count_by has_level (set marks i (Level level))
    bound j l (inl e) h =
        let f : Level level ≡ Level l = sym (mark_same marks i j (Level level) inside e) ∙ h in
        let g : level ≡ l = cc in
        let c = count in omega arith
    bound j l (inr n) h = let b = a.bound j l (sym (mark_other marks i j (Level level) n) ∙ h) in let c = count in omega arith

-- a walk that is under way from a cell, where initial has the marks at its beginning
pub record IsWalking (flat : Flat) (start : ℕ) (initial marks : List Mark) (path : List ℕ) : Type 0 where
  pub are_marks : AreMarks flat marks
  pub open_path : IsOpenPath flat marks path
  pub kept : KeepLevels initial marks
  pub first : 0 < length path → get_or path 0 0 ≡ start
  pub done : length path ≡ 0 → has_level (mark_of marks start) ≡ true

-- before the first step
pub walk_starts : (flat : Flat) (start : ℕ) (marks : List Mark) → start < length marks → AreMarks flat marks → AreLeft marks
    → mark_of marks start ≡ New → IsWalking flat start marks (set marks start Walked) (start ∷ [])
walk_starts flat start marks inside a left is = record {
  are_marks = marks_walked flat marks start inside is a;
  open_path = record {
    path_is = record { once = λ j k lt h. absurd (omega arith); steps = λ k h. absurd (omega arith) };
    walked = λ k h. let z : k ≡ 0 = omega arith in ap (λ n. mark_of (set marks start Walked) (get_or (start ∷ []) n 0)) z ∙ mark_same marks start start Walked inside refl;
    all = λ i e. all i (cases_eq i start) e;
  };
  kept = λ i h. kept i (cases_eq i start) h;
  first = λ h. refl;
  done = λ h. absurd (omega arith);
}
  where
    all : (i : ℕ) → (i ≡ start) ⊎ (i ≢ start) → mark_of (set marks start Walked) i ≡ Walked → (k : ℕ) × (k < length (start ∷ [])) × (get_or (start ∷ []) k 0 ≡ i)
    all i (inl e) h = (0, omega arith, sym e)
    all i (inr n) h = absurd (left i (sym (mark_other marks start i Walked n) ∙ h))

    kept : (i : ℕ) → (i ≡ start) ⊎ (i ≢ start) → has_level (mark_of marks i) ≡ true → has_level (mark_of (set marks start Walked) i) ≡ true
    kept i (inl e) h = absurd (let f : false ≡ true = sym (ap has_level (ap (mark_of marks) e ∙ is)) ∙ h in cc)
    kept i (inr n) h = ap has_level (mark_other marks start i Walked n) ∙ h

pub walk_stays : (flat : Flat) (start : ℕ) (marks : List Mark) → AreMarks flat marks → AreLeft marks → mark_of marks start ≢ New
    → IsWalking flat start marks marks []
walk_stays flat start marks a left other = record {
  are_marks = a;
  open_path = record {
    path_is = record { once = λ j k lt h. absurd (omega arith); steps = λ k h. absurd (omega arith) };
    walked = λ k h. absurd (omega arith);
    all = λ i e. absurd (left i e);
  };
  kept = λ i h. h;
  first = λ h. absurd (omega arith);
  done = λ h. leveled (mark_of marks start) other (left start);
}
  where
    leveled : (m : Mark) → m ≢ New → m ≢ Walked → has_level m ≡ true
    leveled New no_new no_walked = absurd (no_new refl)
    leveled Walked no_new no_walked = absurd (no_walked refl)
    leveled (Level l) no_new no_walked = refl

-- items of a list with one more
front : (path : List ℕ) (x k : ℕ) → k < length path → get_or (path ++ x ∷ []) k 0 ≡ get_or path k 0
front path x k h = get_or_append_left path (x ∷ []) 0 k h

last : (path : List ℕ) (x k : ℕ) → k ≡ length path → get_or (path ++ x ∷ []) k 0 ≡ x
last path x k e = get_or_push path x 0 k (sym e)

-- a step down
pub walk_down : (flat : Flat) (start : ℕ) (initial marks : List Mark) (path : List ℕ) (to : ℕ) → 0 < length path
    → LeadsOn flat (get_or path (length path - 1) 0) to → mark_of marks to ≡ New → to < length marks → IsWalking flat start initial marks path
    → IsWalking flat start initial (set marks to Walked) (path ++ to ∷ [])
walk_down flat start initial marks path to some lead is inside w = record {
  are_marks = marks_walked flat marks to inside is w.are_marks;
  open_path = record {
    path_is = record { once = λ j k lt h. once j k lt (cases_order k (length path)) h; steps = λ k h. steps k (cases_order (suc k) (length path)) h };
    walked = λ k h. walked k (cases_order k (length path)) h;
    all = λ i e. all i (cases_eq i to) e;
  };
  kept = λ i h. kept i (cases_eq i to) (w.kept i h);
  first = λ h. front path to 0 some ∙ w.first some;
  done = λ h. absurd (let l = length-append path (to ∷ []) in omega arith);
}
  where
    long : length (path ++ to ∷ []) ≡ length path + 1
    long = let l = length-append path (to ∷ []) in omega arith

    old_is_other : (k : ℕ) → k < length path → get_or path k 0 ≢ to
    old_is_other k h e = let f : Walked ≡ New = sym (w.open_path.walked k h) ∙ ap (mark_of marks) e ∙ is in cc

    once : (j k : ℕ) → j < k → (k ≡ length path) ⊎ ((k < length path) ⊎ (length path < k)) → k < length (path ++ to ∷ [])
        → get_or (path ++ to ∷ []) j 0 ≢ get_or (path ++ to ∷ []) k 0
    once j k lt (inl e) h same = old_is_other j (omega arith) (sym (front path to j (omega arith)) ∙ same ∙ last path to k e)
    once j k lt (inr (inl below)) h same =
        w.open_path.path_is.once j k lt below (sym (front path to j (omega arith)) ∙ same ∙ front path to k below)
    once j k lt (inr (inr above)) h same = let l = long in omega arith

    steps : (k : ℕ) → (suc k ≡ length path) ⊎ ((suc k < length path) ⊎ (length path < suc k)) → suc k < length (path ++ to ∷ [])
        → LeadsOn flat (get_or (path ++ to ∷ []) k 0) (get_or (path ++ to ∷ []) (suc k) 0)
    steps k (inl e) h =
        subst (LeadsOn flat (get_or (path ++ to ∷ []) k 0)) (sym (last path to (suc k) e))
        (subst (λ x. LeadsOn flat x to) (ap (λ n. get_or path n 0) (let f : length path - 1 ≡ k = omega arith in f) ∙ sym (front path to k (omega arith))) lead)
    steps k (inr (inl below)) h =
        subst (LeadsOn flat (get_or (path ++ to ∷ []) k 0)) (sym (front path to (suc k) below))
        (subst (λ x. LeadsOn flat x (get_or path (suc k) 0)) (sym (front path to k (omega arith))) (w.open_path.path_is.steps k below))
    steps k (inr (inr above)) h = absurd (let l = long in omega arith)

    walked : (k : ℕ) → (k ≡ length path) ⊎ ((k < length path) ⊎ (length path < k)) → k < length (path ++ to ∷ [])
        → mark_of (set marks to Walked) (get_or (path ++ to ∷ []) k 0) ≡ Walked
    walked k (inl e) h = mark_same marks to (get_or (path ++ to ∷ []) k 0) Walked inside (last path to k e)
    walked k (inr (inl below)) h =
        ap (mark_of (set marks to Walked)) (front path to k below)
        ∙ mark_other marks to (get_or path k 0) Walked (old_is_other k below) ∙ w.open_path.walked k below
    walked k (inr (inr above)) h = absurd (let l = long in omega arith)

    all : (i : ℕ) → (i ≡ to) ⊎ (i ≢ to) → mark_of (set marks to Walked) i ≡ Walked
        → (k : ℕ) × (k < length (path ++ to ∷ [])) × (get_or (path ++ to ∷ []) k 0 ≡ i)
    all i (inl e) h = (length path, (let l = long in omega arith), last path to (length path) refl ∙ sym e)
    all i (inr n) h =
        let p = w.open_path.all i (sym (mark_other marks to i Walked n) ∙ h) in
        let below : p.0 < length path = p.1 in
        (p.0, (let l = long in omega arith), front path to p.0 below ∙ p.2)

    kept : (i : ℕ) → (i ≡ to) ⊎ (i ≢ to) → has_level (mark_of marks i) ≡ true → has_level (mark_of (set marks to Walked) i) ≡ true
    kept i (inl e) h = absurd (let f : false ≡ true = sym (ap has_level (ap (mark_of marks) e ∙ is)) ∙ h in cc)
    kept i (inr n) h = ap has_level (mark_other marks to i Walked n) ∙ h

-- a step back up
pub walk_up : (flat : Flat) (start : ℕ) (initial marks : List Mark) (path : List ℕ) (top level : ℕ) → 0 < length path
    → top ≡ get_or path (length path - 1) 0 → HasCellLevel flat top level → level ≤ suc (count_by has_level marks)
    → IsWalking flat start initial marks path → IsWalking flat start initial (set marks top (Level level)) (take (length path - 1) path)
walk_up flat start initial marks path top level some is has small w = record {
  are_marks = marks_level flat marks top level top_walked has small w.are_marks;
  open_path = record {
    path_is = record {
      once = λ j k lt h same. w.open_path.path_is.once j k lt (let l = short in omega arith) (sym (kept_item j (let l = short in omega arith)) ∙ same ∙ kept_item k (let l = short in omega arith));
      steps = λ k h.
          let below : suc k < length path - 1 = let l = short in omega arith in
          subst (LeadsOn flat (get_or (take (length path - 1) path) k 0)) (sym (kept_item (suc k) below))
          (subst (λ x. LeadsOn flat x (get_or path (suc k) 0)) (sym (kept_item k (omega arith))) (w.open_path.path_is.steps k (omega arith)));
    };
    walked = λ k h.
        let below : k < length path - 1 = let l = short in omega arith in
        ap (mark_of (set marks top (Level level))) (kept_item k below)
        ∙ mark_other marks top (get_or path k 0) (Level level) (λ e. w.open_path.path_is.once k (length path - 1) below (omega arith) (e ∙ is))
        ∙ w.open_path.walked k (omega arith);
    all = λ i e. all i (cases_eq i top) e;
  };
  kept = λ i h. kept i (cases_eq i top) (w.kept i h);
  first = λ h. kept_item 0 (let l = short in omega arith) ∙ w.first some;
  done = λ h.
      let one : length path - 1 ≡ 0 = let l = short in omega arith in
      ap has_level (mark_same marks top start (Level level) inside (sym (w.first some) ∙ ap (λ n. get_or path n 0) (sym one) ∙ sym is));
}
  where
    short : length (take (length path - 1) path) ≡ length path - 1
    short = length-take-le (length path - 1) path (omega arith)

    kept_item : (k : ℕ) → k < length path - 1 → get_or (take (length path - 1) path) k 0 ≡ get_or path k 0
    kept_item k h = get_or-take (length path - 1) path k 0 h

    top_walked : mark_of marks top ≡ Walked
    top_walked = ap (mark_of marks) is ∙ w.open_path.walked (length path - 1) (omega arith)

    inside : top < length marks
    inside = walked_inside marks top top_walked

    all : (i : ℕ) → (i ≡ top) ⊎ (i ≢ top) → mark_of (set marks top (Level level)) i ≡ Walked
        → (k : ℕ) × (k < length (take (length path - 1) path)) × (get_or (take (length path - 1) path) k 0 ≡ i)
    all i (inl e) h = absurd (let f : Level level ≡ Walked = sym (mark_same marks top i (Level level) inside e) ∙ h in cc)
    all i (inr n) h =
        let p = w.open_path.all i (sym (mark_other marks top i (Level level) n) ∙ h) in
        let inner : p.0 < length path - 1 = not_last p.0 p.1 p.2 (cases_eq p.0 (length path - 1)) in
        (p.0, (let l = short in omega arith), kept_item p.0 inner ∙ p.2)
      where
        not_last : (k : ℕ) → k < length path → get_or path k 0 ≡ i → (k ≡ length path - 1) ⊎ (k ≢ length path - 1) → k < length path - 1
        not_last k below at (inl e) = absurd (n (sym at ∙ ap (λ m. get_or path m 0) e ∙ sym is))
        not_last k below at (inr other) = omega arith

    kept : (i : ℕ) → (i ≡ top) ⊎ (i ≢ top) → has_level (mark_of marks i) ≡ true → has_level (mark_of (set marks top (Level level)) i) ≡ true
    kept i (inl e) h = ap has_level (mark_same marks top i (Level level) inside e)
    kept i (inr n) h = ap has_level (mark_other marks top i (Level level) n) ∙ h

-- the walk comes back to a cell
pub walk_closes : (flat : Flat) (start : ℕ) (initial marks : List Mark) (path : List ℕ) (to entry : ℕ) → 0 < length path
    → LeadsOn flat (get_or path (length path - 1) 0) to → entry < length path → get_or path entry 0 ≡ to → IsWalking flat start initial marks path
    → IsClosedPath flat start path entry
walk_closes flat start initial marks path to entry some lead inside at w = record {
  path_is = w.open_path.path_is;
  first = w.first some;
  inside = inside;
  back = subst (LeadsOn flat (get_or path (length path - 1) 0)) (sym at) lead;
}

-- the walk has left all cells
pub walk_ends : (flat : Flat) (start : ℕ) (initial marks : List Mark) (path : List ℕ) → length path ≡ 0 → IsWalking flat start initial marks path
    → AreWalkedFrom flat start initial marks
walk_ends flat start initial marks path none w = record {
  marks = w.are_marks;
  left = λ i e. let p = w.open_path.all i e in let below : p.0 < length path = p.1 in omega arith;
  kept = w.kept;
  start_has = w.done none;
}

-- each step makes the walk shorter: down it takes a new cell, up it leaves one
pub shorter_down : (marks : List Mark) (path : List ℕ) (to : ℕ) → to < length marks → mark_of marks to ≡ New
    → 2 * count_by is_new (set marks to Walked) + length (path ++ to ∷ []) < 2 * count_by is_new marks + length path
shorter_down marks path to inside is =
    let c = new_count marks to Walked inside in
    let z : cond {A = ℕ} (is_new (mark_of marks to)) 1 0 ≡ 1 = new_bit (mark_of marks to) New is in let l = length-append path (to ∷ []) in omega arith

pub shorter_up : (marks : List Mark) (path : List ℕ) (top level : ℕ) → 0 < length path → mark_of marks top ≡ Walked
    → 2 * count_by is_new (set marks top (Level level)) + length (take (length path - 1) path) < 2 * count_by is_new marks + length path
shorter_up marks path top level some is =
    let c = new_count marks top (Level level) (walked_inside marks top is) in
    let z : cond {A = ℕ} (is_new (mark_of marks top)) 1 0 ≡ 0 = new_bit (mark_of marks top) Walked is in
    let l = length-take-le (length path - 1) path (omega arith) in omega arith

-- while a walk is under way at a cell, not all cells have levels
pub level_room : (marks : List Mark) (i : ℕ) → mark_of marks i ≡ Walked → count_by has_level marks < length marks
level_room marks i is =
    let inside = walked_inside marks i is in
    let c = level_count marks i (Level 0) inside in
    let z : cond {A = ℕ} (has_level (mark_of marks i)) 1 0 ≡ 0 = level_bit (mark_of marks i) Walked is in
    let l = count_by-le-length has_level (set marks i (Level 0)) in
    let s = length-set marks i (Level 0) in omega arith

-- the last cell of a walk
pub top_at : (path : List ℕ) (n top : ℕ) → n ≡ length path - 1 → 0 < length path → top ≡ get_or path n top → top ≡ get_or path (length path - 1) 0
top_at path n top e some is = is ∙ get_or_default path n top 0 (omega arith) ∙ ap (λ m. get_or path m 0) e

pub top_walked : (flat : Flat) (start : ℕ) (initial marks : List Mark) (path : List ℕ) (top : ℕ) → 0 < length path
    → top ≡ get_or path (length path - 1) 0 → IsWalking flat start initial marks path → mark_of marks top ≡ Walked
top_walked flat start initial marks path top some is w = ap (mark_of marks) is ∙ w.open_path.walked (length path - 1) (omega arith)
