use Rattle.std.proofs.Common.{◌≡◌, ◌∷◌, ◌++◌, [], length, Some, slice_get, refl, arith}
use Rattle.std.proofs.lemmas.Option.{slice_get_read}
use Rattle.clause_store.specs.declared.line.Line.{Line}
use Rattle.derivation_check.specs.Trimmed.{moved_number, moved_line}
use Rattle.derivation_check.proofs.Picking.{picked_skip, picked_more}
use Rattle.derivation_check.proofs.Picked.{picked_named, picked_ends}
use Rattle.derivation_check.proofs.trim.pick.Goals as goal
use Rattle.derivation_check.proofs.trim.pick.Goals.{then-used-place+in_ok-move_line+in_ok-push-2, else-used-place}

pub picking-preserved : goal.picking-preserved
picking-preserved c =
    let lines = c.args.lines.now in
    let k = c.picking.place in
    let line : Line = c.index-lines-place.result in
    let at : slice_get lines k ≡ Some line = slice_get_read lines (length lines) k line refl (omega arith) c.index-lines-place.is in
    let table : c.push.new.self.items ≡ c.picking.places.items ++ c.len.result ∷ [] = c.in_ok-push.ensures.items in
    elim c.if-used-place.branch [
      | then-used-place+in_ok-move_line+in_ok-push-2 w ↦
          let moved : Line = w.in_ok-move_line.field-0 in
          let moves : moved ≡ moved_line (moved_number c.args.count (c.picking.places.items ++ c.len.result ∷ [])) line =
          rw (w.deref.ensures.value, table) at w.in_ok-move_line.ensures in
          rw (table, w.picked-is, w.in_ok-push-2.ensures.ok) (picked_more k c.args.count lines c.args.used.now c.picking.places.items c.picking.picked line moved c.len.result
          c.len.ensures at c.requires.earlier c.requires.used w.if-used-place.true moves c.picking.invariant)
      | else-used-place w ↦
          rw (table, w.picked-is) (picked_skip k c.args.count lines c.args.used.now c.picking.places.items c.picking.picked c.len.result c.len.ensures w.if-used-place.false c.picking.invariant)
    ]

pub returns-clause-named : goal.returns-clause-named
returns-clause-named c =
    picked_named c.picking.place c.args.count c.args.lines.now c.args.used.now c.picking.places.items c.picking.picked (omega arith) c.requires.used c.picking.invariant

pub returns-clause-ends : goal.returns-clause-ends
returns-clause-ends c = λ clause e.
    picked_ends c.picking.place c.args.count c.args.lines.now c.args.used.now c.picking.places.items c.picking.picked clause (omega arith) c.requires.used c.picking.invariant e
