-- Marks of the nodes that matter, from the last node down.
use Rattle.std.proofs.Common.{◌≡◌, ◌≢◌, ℕ, zero, suc, ◌+◌, ◌<◌, ◌≤◌, ◌⊎◌, ◌↔◌, inl, inr, Bool, true, false, List, length, get_or, set, replicate, refl, sym, ◌∙◌, ap, subst, arith}
use Rattle.std.proofs.lemmas.List.{get_or-set_same, get_or-set_other, length-set, length-replicate}
use Rattle.std.proofs.lemmas.Bool.{cases_eq, cases_order}
use Rattle.coco_base.specs.declared.cell.Kind.{Kind}
use Rattle.coco_base.specs.declared.cell.Part.{Part}
use Rattle.coco_base.specs.declared.unrolled.Node.{Node}
use Rattle.coco_base.specs.declared.unrolled.Node.TheVariants.{Nothing, Label, Copy, Gate}
use Rattle.coco_model.specs.Matters.{AreMattering, Matters}
use Rattle.coco_model.specs.Matters.Matters.{labelled, copied, read}
use Rattle.label_cone.specs.Coned.{mark_at}
use Rattle.label_cone.specs.NodeCones.{AreOrdered, ReadsEarlier, node_in}
use Rattle.label_cone.specs.Marks.{AreMarkedTo, AreMarksTo, IsMade, MakesMatter, ReadsBelow, ReadsPlace}
use Rattle.label_cone.specs.Marks.MakesMatter.{copies, reads}
use Rattle.label_cone.proofs.NodeLemmas.{node_inside, part_of_input, place_below_four}

same_truth : (a b : Bool) → a ≡ b → (a ≡ true) ↔ (b ≡ true)
same_truth a b e = ((λ h. sym e ∙ h), (λ h. e ∙ h))

-- nothing is added
no_more : (a b : Bool) (P : Type 0) → a ≡ b → (P → ⊥) → (a ≡ true) ↔ ((b ≡ true) ⊎ P)
no_more a b P e none = ((λ h. inl (sym e ∙ h)), back)
  where
    back : (b ≡ true) ⊎ P → a ≡ true
    back (inl h) = e ∙ h
    back (inr p) = absurd (none p)

pub settled_by : (nodes : List Node) (place : ℕ) (old new : List Bool) → AreMarksTo nodes (place + 1) old
    → length new ≡ length old → place < length nodes
    → (mark_at new place ≡ true) ↔ Matters (node_in nodes) place
    → ((k : ℕ) → place < k → (mark_at new k ≡ true) ↔ (mark_at old k ≡ true))
    → ((k : ℕ) → k < place → (mark_at new k ≡ true) ↔ ((mark_at old k ≡ true) ⊎ MakesMatter nodes place k))
    → AreMarksTo nodes place new
settled_by nodes place old new known long inside at after before = record {
  as_long = long ∙ known.as_long;
  settled = λ k from below. settled_case k (cases_order k place) from below;
  pending = λ k lower. ((λ h. to_case k lower ((before k lower).0 h)), (λ m. (before k lower).1 (back_case k lower m (cases_order m.reader place))));
}
  where
    settled_case : (k : ℕ) → (k ≡ place) ⊎ ((k < place) ⊎ (place < k)) → place ≤ k → k < length nodes
        → (mark_at new k ≡ true) ↔ Matters (node_in nodes) k
    settled_case k (inl e) from below = subst (λ i. (mark_at new i ≡ true) ↔ Matters (node_in nodes) i) (sym e) at
    settled_case k (inr (inl lower)) from below = absurd (omega (arith, lower, from))
    settled_case k (inr (inr higher)) from below =
        let m = known.settled k (omega (arith, higher)) below in
        ((λ h. m.0 ((after k higher).0 h)), (λ h. (after k higher).1 (m.1 h)))

    to_case : (k : ℕ) → k < place → (mark_at old k ≡ true) ⊎ MakesMatter nodes place k → IsMade nodes place k
    to_case k lower (inl h) =
        let m = (known.pending k (omega (arith, lower))).0 h in
        record { reader = m.reader; later = (let n = m.later in omega (arith, n)); inside = m.inside; makes = m.makes }
    to_case k lower (inr makes) = record { reader = place; later = omega arith; inside = inside; makes = makes }

    back_case : (k : ℕ) → k < place → (m : IsMade nodes place k) → (m.reader ≡ place) ⊎ ((m.reader < place) ⊎ (place < m.reader))
        → (mark_at old k ≡ true) ⊎ MakesMatter nodes place k
    back_case k lower m (inl e) = inr (subst (λ r. MakesMatter nodes r k) e m.makes)
    back_case k lower m (inr (inl below)) = absurd (let n = m.later in omega (arith, n, below))
    back_case k lower m (inr (inr above)) =
        inl ((known.pending k (omega (arith, lower))).1
        (record { reader = m.reader; later = omega (arith, above); inside = m.inside; makes = m.makes }))

-- a gate that a later node makes matter matters
made_matters : (nodes : List Node) (p : ℕ) (kind : Kind) (parts : List Part) (operands : List ℕ)
    → node_in nodes p ≡ Gate kind parts operands → (reader : ℕ) → MakesMatter nodes reader p → Matters (node_in nodes) p
made_matters nodes p kind parts operands e reader (copies c) = copied p reader kind parts operands e c
made_matters nodes p kind parts operands e reader (reads other others sources place g m v at) =
    read p reader place kind other parts others operands sources e g m v at

-- what a node makes matter comes before it
makes_earlier : (nodes : List Node) → AreOrdered nodes → (reader k : ℕ) → MakesMatter nodes reader k
    → (k < reader) × (reader < length nodes)
makes_earlier nodes ordered reader k (copies c) =
    let inside = node_inside nodes reader (λ none. let f : Copy k ≡ Nothing = sym c ∙ none in cc) in
    (subst (ReadsEarlier reader) c (ordered reader inside), inside)
makes_earlier nodes ordered reader k (reads kind parts operands place g m v at) =
    let inside = node_inside nodes reader (λ none. let f : Gate kind parts operands ≡ Nothing = sym g ∙ none in cc) in
    (subst (λ i. i < reader) at (subst (ReadsEarlier reader) g (ordered reader inside) place (part_of_input kind parts place v)), inside)

-- what makes a node matter that is no label
maker : (nodes : List Node) (p : ℕ) → ((l : ℕ) → node_in nodes p ≢ Label l) → Matters (node_in nodes) p
    → (reader : ℕ) × MakesMatter nodes reader p
maker nodes p bare (labelled i l e) = absurd (bare l e)
maker nodes p bare (copied i j kind parts operands e f) = (j, copies f)
maker nodes p bare (read i j place kind other parts others operands sources e g m v at) =
    (j, reads other others sources place g m v at)

matters_made : (nodes : List Node) (p : ℕ) → AreOrdered nodes → ((l : ℕ) → node_in nodes p ≢ Label l)
    → Matters (node_in nodes) p → IsMade nodes (p + 1) p
matters_made nodes p ordered bare m =
    let r = maker nodes p bare m in
    let low = makes_earlier nodes ordered r.0 p r.1 in
    record { reader = r.0; later = (let a = low.0 in omega (arith, a)); inside = low.1; makes = r.1 }

-- a node that is neither label nor gate does not matter
plain : (nodes : List Node) (p : ℕ) → ((l : ℕ) → node_in nodes p ≢ Label l)
    → ((kind : Kind) (parts : List Part) (operands : List ℕ) → node_in nodes p ≢ Gate kind parts operands)
    → Matters (node_in nodes) p → ⊥
plain nodes p bare none (labelled i l e) = bare l e
plain nodes p bare none (copied i j kind parts operands e f) = none kind parts operands e
plain nodes p bare none (read i j place kind other parts others operands sources e g m v at) = none kind parts operands e

-- a node that is neither copy nor gate makes nothing matter
idle : (nodes : List Node) (p k : ℕ) → ((j : ℕ) → node_in nodes p ≢ Copy j)
    → ((kind : Kind) (parts : List Part) (operands : List ℕ) → node_in nodes p ≢ Gate kind parts operands)
    → MakesMatter nodes p k → ⊥
idle nodes p k bare none (copies c) = bare k c
idle nodes p k bare none (reads kind parts operands place g m v at) = none kind parts operands g

pub settle_nothing : (nodes : List Node) (p : ℕ) (old : List Bool) → p < length nodes → node_in nodes p ≡ Nothing
    → AreMarksTo nodes (p + 1) old → AreMarksTo nodes p (set old p false)
settle_nothing nodes p old inside e known =
    settled_by nodes p old (set old p false) known (length-set old p false) inside (
      (λ h. absurd (let f : false ≡ true = sym off ∙ h in cc)),
      (λ m. absurd (plain nodes p (λ l f. let g : Nothing ≡ Label l = sym e ∙ f in cc) (λ kind parts operands f. let g : Nothing ≡ Gate kind parts operands = sym e ∙ f in cc) m)),
    )
    (λ k higher. same_truth (mark_at (set old p false) k) (mark_at old k) (get_or-set_other old p k false false (λ f. omega (arith, f, higher))))
    (λ k lower. no_more (mark_at (set old p false) k) (mark_at old k) (MakesMatter nodes p k) (get_or-set_other old p k false false (λ f. omega (arith, f, lower)))
    (idle nodes p k (λ j f. let g : Nothing ≡ Copy j = sym e ∙ f in cc) (λ kind parts operands f. let g : Nothing ≡ Gate kind parts operands = sym e ∙ f in cc)))
  where
    off : mark_at (set old p false) p ≡ false
    off = get_or-set_same old p false false (let n = known.as_long in omega (arith, n, inside))

pub settle_label : (nodes : List Node) (p m : ℕ) (old : List Bool) → p < length nodes → node_in nodes p ≡ Label m
    → AreMarksTo nodes (p + 1) old → AreMarksTo nodes p (set old p true)
settle_label nodes p m old inside e known =
    settled_by nodes p old (set old p true) known (length-set old p true) inside
    ((λ h. labelled p m e), (λ h. on))
    (λ k higher. same_truth (mark_at (set old p true) k) (mark_at old k) (get_or-set_other old p k true false (λ f. omega (arith, f, higher))))
    (λ k lower. no_more (mark_at (set old p true) k) (mark_at old k) (MakesMatter nodes p k) (get_or-set_other old p k true false (λ f. omega (arith, f, lower)))
    (idle nodes p k (λ j f. let g : Label m ≡ Copy j = sym e ∙ f in cc) (λ kind parts operands f. let g : Label m ≡ Gate kind parts operands = sym e ∙ f in cc)))
  where
    on : mark_at (set old p true) p ≡ true
    on = get_or-set_same old p true false (let n = known.as_long in omega (arith, n, inside))

pub settle_copy : (nodes : List Node) (p o : ℕ) (old : List Bool) → p < length nodes → o < p → node_in nodes p ≡ Copy o
    → AreMarksTo nodes (p + 1) old → AreMarksTo nodes p (set (set old p false) o true)
settle_copy nodes p o old inside low e known =
    settled_by nodes p old (set (set old p false) o true) known (length-set (set old p false) o true ∙ length-set old p false) inside (
      (λ h. absurd (let f : false ≡ true = sym off ∙ h in cc)),
      (λ m. absurd (plain nodes p (λ l f. let g : Copy o ≡ Label l = sym e ∙ f in cc) (λ kind parts operands f. let g : Copy o ≡ Gate kind parts operands = sym e ∙ f in cc) m)),
    )
    (λ k higher. same_truth (mark_at (set (set old p false) o true) k) (mark_at old k) (kept k (λ f. omega (arith, f, higher)) (λ f. omega (arith, f, higher, low))))
    (λ k lower. before k lower (cases_eq k o))
  where
    kept : (k : ℕ) → k ≢ p → k ≢ o → mark_at (set (set old p false) o true) k ≡ mark_at old k
    kept k not_p not_o = get_or-set_other (set old p false) o k true false not_o ∙ get_or-set_other old p k false false not_p

    off : mark_at (set (set old p false) o true) p ≡ false
    off = get_or-set_other (set old p false) o p true false (λ f. omega (arith, f, low))
        ∙ get_or-set_same old p false false (let n = known.as_long in omega (arith, n, inside))

    on : mark_at (set (set old p false) o true) o ≡ true
    on = get_or-set_same (set old p false) o true false (let n = known.as_long in let s = length-set old p false in omega (arith, n, s, inside, low))

    leads : (k : ℕ) → MakesMatter nodes p k → k ≡ o
    leads k (copies c) = let f : Copy k ≡ Copy o = sym c ∙ e in cc
    leads k (reads kind parts operands place g m v at) = absurd (let f : Gate kind parts operands ≡ Copy o = sym g ∙ e in cc)

    before : (k : ℕ) → k < p → (k ≡ o) ⊎ (k ≢ o) → (mark_at (set (set old p false) o true) k ≡ true) ↔ ((mark_at old k ≡ true) ⊎ MakesMatter nodes p k)
    before k lower (inl f) = ((λ h. inr (subst (MakesMatter nodes p) (sym f) (copies e))), (λ h. ap (mark_at (set (set old p false) o true)) f ∙ on))
    before k lower (inr not) =
        no_more (mark_at (set (set old p false) o true) k) (mark_at old k) (MakesMatter nodes p k) (kept k (λ f. omega (arith, f, lower)) not) (λ m. not (leads k m))

-- a gate matters where a later node makes it matter
gate_matters : (nodes : List Node) (p : ℕ) (kind : Kind) (parts : List Part) (operands : List ℕ) (old : List Bool)
    → AreOrdered nodes → node_in nodes p ≡ Gate kind parts operands → AreMarksTo nodes (p + 1) old
    → (mark_at old p ≡ true) ↔ Matters (node_in nodes) p
gate_matters nodes p kind parts operands old ordered e known = (
  (λ h. let m = (known.pending p (omega arith)).0 h in made_matters nodes p kind parts operands e m.reader m.makes),
  (λ m. (known.pending p (omega arith)).1 (matters_made nodes p ordered (λ l f. let g : Gate kind parts operands ≡ Label l = sym e ∙ f in cc) m)),
)

pub settle_idle_gate : (nodes : List Node) (p : ℕ) (kind : Kind) (parts : List Part) (operands : List ℕ) (old : List Bool)
    → AreOrdered nodes → p < length nodes → node_in nodes p ≡ Gate kind parts operands → mark_at old p ≡ false
    → AreMarksTo nodes (p + 1) old → AreMarksTo nodes p old
settle_idle_gate nodes p kind parts operands old ordered inside e off known =
    settled_by nodes p old old known refl inside (gate_matters nodes p kind parts operands old ordered e known)
    (λ k higher. same_truth (mark_at old k) (mark_at old k) refl)
    (λ k lower. no_more (mark_at old k) (mark_at old k) (MakesMatter nodes p k) refl (none k))
  where
    none : (k : ℕ) → MakesMatter nodes p k → ⊥
    none k (copies c) = let f : Gate kind parts operands ≡ Copy k = sym e ∙ c in cc
    none k (reads other others sources place g m v at) =
        let f : false ≡ true = sym off ∙ (gate_matters nodes p kind parts operands old ordered e known).1 m in cc

pub settle_gate : (nodes : List Node) (p : ℕ) (kind : Kind) (parts : List Part) (operands : List ℕ) (old new : List Bool)
    → AreOrdered nodes → p < length nodes → node_in nodes p ≡ Gate kind parts operands → mark_at old p ≡ true
    → AreMarkedTo kind parts operands 4 old new → AreMarksTo nodes (p + 1) old → AreMarksTo nodes p new
settle_gate nodes p kind parts operands old new ordered inside e on marked known =
    settled_by nodes p old new known marked.as_long inside
    ((λ h. here.0 ((kept p (omega arith)).0 h)), (λ m. (kept p (omega arith)).1 (here.1 m)))
    (λ k higher. kept k (omega (arith, higher)))
    (λ k lower. ((λ h. to k ((marked.each k).0 h)), (λ h. (marked.each k).1 (back k h))))
  where
    here : (mark_at old p ≡ true) ↔ Matters (node_in nodes) p
    here = gate_matters nodes p kind parts operands old ordered e known

    makes : (k : ℕ) → ReadsBelow kind parts operands 4 k → MakesMatter nodes p k
    makes k r = reads kind parts operands r.place e (here.0 on) r.reads r.is

    kept : (k : ℕ) → p ≤ k → (mark_at new k ≡ true) ↔ (mark_at old k ≡ true)
    kept k high = ((λ h. back_case ((marked.each k).0 h)), (λ h. (marked.each k).1 (inl h)))
      where
        back_case : (mark_at old k ≡ true) ⊎ ReadsBelow kind parts operands 4 k → mark_at old k ≡ true
        back_case (inl h) = h
        back_case (inr r) = absurd (let low = (makes_earlier nodes ordered p k (makes k r)).0 in omega (arith, low, high))

    to : (k : ℕ) → (mark_at old k ≡ true) ⊎ ReadsBelow kind parts operands 4 k → (mark_at old k ≡ true) ⊎ MakesMatter nodes p k
    to k (inl h) = inl h
    to k (inr r) = inr (makes k r)

    read_below : (k : ℕ) → MakesMatter nodes p k → ReadsBelow kind parts operands 4 k
    read_below k (copies c) = absurd (let f : Gate kind parts operands ≡ Copy k = sym e ∙ c in cc)
    read_below k (reads other others sources place g m v at) =
        let f : Gate other others sources ≡ Gate kind parts operands = sym g ∙ e in
        let kinds : other ≡ kind = cc in let same_parts : others ≡ parts = cc in let same_operands : sources ≡ operands = cc in
        let vary : ReadsPlace kind parts place = subst (λ n. ReadsPlace n parts place) kinds (subst (λ ps. ReadsPlace other ps place) same_parts v) in
        record { place = place; within = place_below_four kind parts place vary; reads = vary; is = ap (λ os. get_or os place 0) (sym same_operands) ∙ at }

    back : (k : ℕ) → (mark_at old k ≡ true) ⊎ MakesMatter nodes p k → (mark_at old k ≡ true) ⊎ ReadsBelow kind parts operands 4 k
    back k (inl h) = inl h
    back k (inr m) = inr (read_below k m)

-- no mark at first
pub marks_none : (nodes : List Node) (marks : List Bool) → marks ≡ replicate (length nodes) false → AreMarksTo nodes (length nodes) marks
marks_none nodes marks e = record {
  as_long = ap length e ∙ length-replicate (length nodes) false;
  settled = λ k from below. absurd (omega (arith, from, below));
  pending = λ k lower. (
    (λ h. absurd (let f : false ≡ true = sym (all_false (length nodes) k) ∙ ap (λ m. mark_at m k) (sym e) ∙ h in cc)),
    (λ m. absurd (let a = m.later in let b = m.inside in omega (arith, a, b))),
  );
}
  where
    all_false : (n k : ℕ) → mark_at (replicate n false) k ≡ false
    all_false zero k = refl
    all_false (suc n) zero = refl
    all_false (suc n) (suc k) = all_false n k

pub marks_all : (nodes : List Node) (marks : List Bool) (left : ℕ) → left ≤ 0 → AreMarksTo nodes left marks → AreMattering nodes (mark_at marks)
marks_all nodes marks left low known = record { each = λ i below. known.settled i (omega (arith, low)) below }

-- the operands of a gate, place by place
pub marked_none : (kind : Kind) (parts : List Part) (operands : List ℕ) (marks : List Bool) → AreMarkedTo kind parts operands 0 marks marks
marked_none kind parts operands marks = record {
  as_long = refl;
  each = λ k. no_more (mark_at marks k) (mark_at marks k) (ReadsBelow kind parts operands 0 k) refl (λ r. let w = r.within in omega (arith, w));
}

wider : (kind : Kind) (parts : List Part) (operands : List ℕ) (below k : ℕ) → ReadsBelow kind parts operands below k
    → ReadsBelow kind parts operands (below + 1) k
wider kind parts operands below k r = record { place = r.place; within = (let w = r.within in omega (arith, w)); reads = r.reads; is = r.is }

pub marked_less : (kind : Kind) (parts : List Part) (operands : List ℕ) (below : ℕ) (old new : List Bool)
    → (ReadsPlace kind parts below → ⊥) → AreMarkedTo kind parts operands below old new → AreMarkedTo kind parts operands (below + 1) old new
marked_less kind parts operands below old new dead known = record {
  as_long = known.as_long;
  each = λ k. ((λ h. to k ((known.each k).0 h)), (λ h. (known.each k).1 (back k h)));
}
  where
    to : (k : ℕ) → (mark_at old k ≡ true) ⊎ ReadsBelow kind parts operands below k → (mark_at old k ≡ true) ⊎ ReadsBelow kind parts operands (below + 1) k
    to k (inl h) = inl h
    to k (inr r) = inr (wider kind parts operands below k r)

    by_place : (k : ℕ) (r : ReadsBelow kind parts operands (below + 1) k) → (r.place ≡ below) ⊎ ((r.place < below) ⊎ (below < r.place))
        → ReadsBelow kind parts operands below k
    by_place k r (inl e) = absurd (dead (subst (ReadsPlace kind parts) e r.reads))
    by_place k r (inr (inl lower)) = record { place = r.place; within = lower; reads = r.reads; is = r.is }
    by_place k r (inr (inr higher)) = absurd (let w = r.within in omega (arith, w, higher))

    back : (k : ℕ) → (mark_at old k ≡ true) ⊎ ReadsBelow kind parts operands (below + 1) k → (mark_at old k ≡ true) ⊎ ReadsBelow kind parts operands below k
    back k (inl h) = inl h
    back k (inr r) = inr (by_place k r (cases_order r.place below))

pub marked_more : (kind : Kind) (parts : List Part) (operands : List ℕ) (below : ℕ) (old new : List Bool)
    → ReadsPlace kind parts below → get_or operands below 0 < length old
    → AreMarkedTo kind parts operands below old new → AreMarkedTo kind parts operands (below + 1) old (set new (get_or operands below 0) true)
marked_more kind parts operands below old new varies inside known = record {
  as_long = length-set new (get_or operands below 0) true ∙ known.as_long;
  each = λ k. each_case k (cases_eq k (get_or operands below 0));
}
  where
    by_place : (k : ℕ) → k ≢ get_or operands below 0 → (r : ReadsBelow kind parts operands (below + 1) k)
        → (r.place ≡ below) ⊎ ((r.place < below) ⊎ (below < r.place)) → ReadsBelow kind parts operands below k
    by_place k not r (inl e) = absurd (not (sym r.is ∙ ap (λ p. get_or operands p 0) e))
    by_place k not r (inr (inl lower)) = record { place = r.place; within = lower; reads = r.reads; is = r.is }
    by_place k not r (inr (inr higher)) = absurd (let w = r.within in omega (arith, w, higher))

    to : (k : ℕ) → (mark_at old k ≡ true) ⊎ ReadsBelow kind parts operands below k → (mark_at old k ≡ true) ⊎ ReadsBelow kind parts operands (below + 1) k
    to k (inl h) = inl h
    to k (inr r) = inr (wider kind parts operands below k r)

    back : (k : ℕ) → k ≢ get_or operands below 0 → (mark_at old k ≡ true) ⊎ ReadsBelow kind parts operands (below + 1) k
        → (mark_at old k ≡ true) ⊎ ReadsBelow kind parts operands below k
    back k not (inl h) = inl h
    back k not (inr r) = inr (by_place k not r (cases_order r.place below))

    each_case : (k : ℕ) → (k ≡ get_or operands below 0) ⊎ (k ≢ get_or operands below 0)
        → (mark_at (set new (get_or operands below 0) true) k ≡ true) ↔ ((mark_at old k ≡ true) ⊎ ReadsBelow kind parts operands (below + 1) k)
    each_case k (inl e) = (
      (λ h. inr (record { place = below; within = omega arith; reads = varies; is = sym e })),
      (λ h. ap (mark_at (set new (get_or operands below 0) true)) e
          ∙ get_or-set_same new (get_or operands below 0) true false (let n = known.as_long in omega (arith, n, inside))),
    )
    each_case k (inr not) =
        let same = get_or-set_other new (get_or operands below 0) k true false not in
        ((λ h. to k ((known.each k).0 (sym same ∙ h))), (λ h. same ∙ (known.each k).1 (back k not h)))
