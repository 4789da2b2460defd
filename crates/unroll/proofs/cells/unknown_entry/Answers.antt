use Rattle.std.proofs.Common.{ℕ, ◌∙◌, ap, arith}
use Rattle.unroll.specs.RootedRuns.{number_in}
use Rattle.unroll.proofs.CellLemmas.{kept_entry, own_entry, before_less}
use Rattle.unroll.proofs.cells.unknown_entry.Goals as goal
use Rattle.unroll.proofs.cells.unknown_entry.Goals.{else-at-gt0-via-then-at-gt0+else-is_kept, else-at-gt0-via-else-at-gt0}

pub returns-then-is_kept : goal.returns-then-is_kept
returns-then-is_kept c = λ run at olds inputs has.
    let m = c.args.at.now in
    let some = c.if-at-gt0.true in
    kept_entry m.graph.now m.setup.now m.cycle m.known.now m.before.now c.args.old.now c.args.roots.now c.args.cell.now run at olds inputs has
    c.requires.varies some (c.is_kept.ensures.0 c.if-is_kept.true) c.number.result _
    (c.number.ensures.number ∙ ap (λ (s : ℕ). number_in m.graph.now s c.args.cell.now.output) (before_less m.cycle)) c.origin_at.ensures

pub returns : goal.returns
returns c = λ run at olds inputs has.
    let m = c.args.at.now in
    own_entry m.graph.now m.setup.now m.cycle m.known.now m.before.now c.args.old.now c.args.roots.now c.args.cell.now run at olds inputs has
    c.requires.varies (elim c.else-at-gt0.branch [
      | else-at-gt0-via-then-at-gt0+else-is_kept w ↦ λ k. let h = w.is_kept.ensures.1 k.1 in let i = w.if-is_kept.false in absurd cc
      | else-at-gt0-via-else-at-gt0 w ↦ λ k. let h = w.if-at-gt0.false in let i = k.0 in absurd (omega arith)
    ]) c.gate_of.result c.gate_of.ensures.gate c.gate_of.ensures.places
