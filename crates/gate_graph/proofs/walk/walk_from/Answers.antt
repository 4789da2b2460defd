use Rattle.std.proofs.Common.{◌≡◌, ◌+◌, ◌-◌, ◌*◌, ◌<◌, length, get_or, set, take, refl, sym, ◌∙◌, ap, subst, arith}
use Rattle.std.specs.Prelude.{count_by}
use Rattle.gate_graph.specs.declared.mark.Mark.TheVariants.{New, Walked, Level}
use Rattle.gate_graph.specs.Marks.{mark_of, is_new, LeadsOn}
use Rattle.gate_graph.proofs.WalkLemmas.{IsWalking, walked_inside, walk_starts, walk_stays, walk_down, walk_up, shorter_up, top_at, top_walked}
use Rattle.gate_graph.proofs.walk.walk_from.Goals as goal
use Rattle.gate_graph.proofs.walk.walk_from.Goals.{then-is_new+in_ok-push, else-is_new}

pub walk-init : goal.walk-init
walk-init c = elim c.if-is_new.branch [
  | then-is_new+in_ok-push w ↦ rw (w.marks-is, w.path-is, w.in_ok-push.ensures.items, c.new-path.ensures.items)
      (walk_starts c.args.flat.now c.args.start c.args.marks.now c.requires.inside c.requires.marks c.requires.left (w.if-is_new.ensures.0 refl))
  | else-is_new w ↦ rw (w.marks-is, w.path-is, c.new-path.ensures.items)
      (walk_stays c.args.flat.now c.args.start c.args.marks.now c.requires.marks c.requires.left (λ e. let f = w.if-is_new.ensures.1 e in absurd cc))
]

pub step_at-requires-clause-inside : goal.step_at-requires-clause-inside
step_at-requires-clause-inside c =
    let some : 0 < length c.walk.path.items = let t = c.walk-test.true in let l = c.len.ensures in let ok = c.walk.path.ok.0 in omega arith in
    let top : c.index-top.result.now ≡ get_or c.walk.path.items (length c.walk.path.items - 1) 0 = top_at c.walk.path.items (c.len-in-walk.result - 1) c.index-top.result.now (let l = c.len-in-walk.ensures in let ok = c.walk.path.ok.0 in omega arith) some c.index-top.ensures in
    let walked : mark_of c.walk.marks c.index-top.result.now ≡ Walked = top_walked c.args.flat.now c.args.start c.args.marks.now c.walk.marks c.walk.path.items c.index-top.result.now some top c.walk.invariant in
    walked_inside c.walk.marks c.index-top.result.now walked

pub step_at-requires-clause-walked : goal.step_at-requires-clause-walked
step_at-requires-clause-walked c =
    let some : 0 < length c.walk.path.items = let t = c.walk-test.true in let l = c.len.ensures in let ok = c.walk.path.ok.0 in omega arith in
    let top : c.index-top.result.now ≡ get_or c.walk.path.items (length c.walk.path.items - 1) 0 = top_at c.walk.path.items (c.len-in-walk.result - 1) c.index-top.result.now (let l = c.len-in-walk.ensures in let ok = c.walk.path.ok.0 in omega arith) some c.index-top.ensures in
    top_walked c.args.flat.now c.args.start c.args.marks.now c.walk.marks c.walk.path.items c.index-top.result.now some top c.walk.invariant

pub walk-preserved-in-Down : goal.walk-preserved-in-Down
walk-preserved-in-Down c =
    let some : 0 < length c.walk.path.items = let t = c.walk-test.true in let l = c.len.ensures in let ok = c.walk.path.ok.0 in omega arith in
    let top : c.index-top.result.now ≡ get_or c.walk.path.items (length c.walk.path.items - 1) 0 = top_at c.walk.path.items (c.len-in-walk.result - 1) c.index-top.result.now (let l = c.len-in-walk.ensures in let ok = c.walk.path.ok.0 in omega arith) some c.index-top.ensures in
    rw c.in_ok-push-in-Down.ensures.items
    (walk_down c.args.flat.now c.args.start c.args.marks.now c.walk.marks c.walk.path.items c.in-Down.cell some
    (subst (λ x. LeadsOn c.args.flat.now x c.in-Down.cell) top c.in-Down.ensures.0) c.in-Down.ensures.1 c.in-Down.ensures.2 c.walk.invariant)

pub bounds-marks-top : goal.bounds-marks-top
bounds-marks-top c =
    let some : 0 < length c.walk.path.items = let t = c.walk-test.true in let l = c.len.ensures in let ok = c.walk.path.ok.0 in omega arith in
    let top : c.index-top.result.now ≡ get_or c.walk.path.items (length c.walk.path.items - 1) 0 = top_at c.walk.path.items (c.len-in-walk.result - 1) c.index-top.result.now (let l = c.len-in-walk.ensures in let ok = c.walk.path.ok.0 in omega arith) some c.index-top.ensures in
    let walked : mark_of c.walk.marks c.index-top.result.now ≡ Walked = top_walked c.args.flat.now c.args.start c.args.marks.now c.walk.marks c.walk.path.items c.index-top.result.now some top c.walk.invariant in
    walked_inside c.walk.marks c.index-top.result.now walked

pub walk-smaller : goal.walk-smaller
walk-smaller c =
    let some : 0 < length c.walk.path.items = let t = c.walk-test.true in let l = c.len.ensures in let ok = c.walk.path.ok.0 in omega arith in
    let top : c.index-top.result.now ≡ get_or c.walk.path.items (length c.walk.path.items - 1) 0 = top_at c.walk.path.items (c.len-in-walk.result - 1) c.index-top.result.now (let l = c.len-in-walk.ensures in let ok = c.walk.path.ok.0 in omega arith) some c.index-top.ensures in
    let walked : mark_of c.walk.marks c.index-top.result.now ≡ Walked = top_walked c.args.flat.now c.args.start c.args.marks.now c.walk.marks c.walk.path.items c.index-top.result.now some top c.walk.invariant in
    let cut : c.truncate.new.self.items ≡ take (length c.walk.path.items - 1) c.walk.path.items = c.truncate.ensures.items ∙ ap (λ n. take n c.walk.path.items) (let e : c.len-in-Up.result - 1 ≡ length c.walk.path.items - 1 = let l = c.len-in-Up.ensures in let ok = c.walk.path.ok.0 in omega arith in e) in
    subst (λ xs. 2 * count_by is_new (set c.walk.marks c.index-top.result.now (Level c.in-Up.level)) + length xs < 2 * count_by is_new c.walk.marks + length c.walk.path.items) (sym cut)
    (shorter_up c.walk.marks c.walk.path.items c.index-top.result.now c.in-Up.level some walked)

pub walk-preserved : goal.walk-preserved
walk-preserved c =
    let some : 0 < length c.walk.path.items = let t = c.walk-test.true in let l = c.len.ensures in let ok = c.walk.path.ok.0 in omega arith in
    let top : c.index-top.result.now ≡ get_or c.walk.path.items (length c.walk.path.items - 1) 0 = top_at c.walk.path.items (c.len-in-walk.result - 1) c.index-top.result.now (let l = c.len-in-walk.ensures in let ok = c.walk.path.ok.0 in omega arith) some c.index-top.ensures in
    let cut : c.truncate.new.self.items ≡ take (length c.walk.path.items - 1) c.walk.path.items = c.truncate.ensures.items ∙ ap (λ n. take n c.walk.path.items) (let e : c.len-in-Up.result - 1 ≡ length c.walk.path.items - 1 = let l = c.len-in-Up.ensures in let ok = c.walk.path.ok.0 in omega arith in e) in
    subst (IsWalking c.args.flat.now c.args.start c.args.marks.now (set c.walk.marks c.index-top.result.now (Level c.in-Up.level))) (sym cut)
    (walk_up c.args.flat.now c.args.start c.args.marks.now c.walk.marks c.walk.path.items c.index-top.result.now c.in-Up.level some top c.in-Up.ensures.0 c.in-Up.ensures.1 c.walk.invariant)
