use Rattle.std.proofs.Common.{◌≡◌, ◌+◌, ◌-◌, ◌<◌, ◌≤◌, false, length, get_or, Some, slice_get, refl, sym, ◌∙◌, arith}
use Rattle.std.proofs.lemmas.List.{get_or_read}
use Rattle.std.proofs.lemmas.List.Elements.{All-weaker}
use Rattle.std.proofs.lemmas.Option.{slice_get_read}
use Rattle.clause_store.specs.declared.line.Line.{Line}
use Rattle.derivation_check.specs.Trimmed.{numbers_of}
use Rattle.derivation_check.specs.Used.{IsUsed}
use Rattle.derivation_check.proofs.Adding.{marked_more, written}
use Rattle.derivation_check.proofs.used.used_lines.Goals as goal

pub index-requires : goal.index-requires
index-requires c =
    let within : c.marking.place ≤ length c.args.lines.now = c.marking.invariant.within in
    let long : length c.marking.used.items ≡ length c.args.lines.now = c.marking.invariant.len in
    omega (arith, c.marking.used.ok.0)

pub bounds-lines-place : goal.bounds-lines-place
bounds-lines-place c =
    let within : c.marking.place ≤ length c.args.lines.now = c.marking.invariant.within in
    omega arith

pub add_named-requires : goal.add_named-requires
add_named-requires c =
    let within : c.marking.place ≤ length c.args.lines.now = c.marking.invariant.within in
    let long : length c.marking.used.items ≡ length c.args.lines.now = c.marking.invariant.len in
    let place = c.marking.place - 1 in
    let line : Line = c.index-lines-place.result in
    let at : slice_get c.args.lines.now place ≡ Some line = slice_get_read c.args.lines.now (length c.args.lines.now) place line refl (omega arith) c.index-lines-place.is in
    rw c.deref_mut.ensures.value
    (All-weaker (λ n. n < c.args.count + place) (λ n. n < c.args.count + length c.marking.used.items) (λ n low. omega arith) (numbers_of line) (c.requires place line at))

pub marking-preserved-then-index : goal.marking-preserved-then-index
marking-preserved-then-index c =
    let within : c.marking.place ≤ length c.args.lines.now = c.marking.invariant.within in
    let long : length c.marking.used.items ≡ length c.args.lines.now = c.marking.invariant.len in
    let place = c.marking.place - 1 in
    let line : Line = c.index-lines-place.result in
    let at : slice_get c.args.lines.now place ≡ Some line = slice_get_read c.args.lines.now (length c.args.lines.now) place line refl (omega arith) c.index-lines-place.is in
    let read : c.index.result.now ≡ get_or c.marking.used.items place false =
    get_or_read c.marking.used.items place c.index.result.now (omega arith) c.index.ensures false in
    let here : IsUsed c.marking.used.items place = sym read ∙ c.if-index.true in
    let adds = rw c.deref_mut.ensures.value at c.add_named.ensures in
    let all = written c.marking.used.items c.add_named.new.used c.marking.used.len (adds.len ∙ sym c.marking.used.ok.0) (sym c.marking.used.ok.0) in
    rw all (marked_more c.marking.place place c.args.count c.args.lines.now line c.marking.used.items c.add_named.new.used (omega arith) c.requires at here adds c.marking.invariant)
