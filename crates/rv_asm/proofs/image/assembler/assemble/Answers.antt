use Rattle.std.proofs.Common.{ℕ, List, Option, IfOk, subst}
use Rattle.std.specs.Option.{MatchOption}
use Rattle.std.specs.Str.Lines.{lines}
use Rattle.rv_asm.specs.declared.fault.AsmFault.{AsmFault}
use Rattle.rv_asm.specs.declared.layout.Placed.{Placed}
use Rattle.rv_asm.specs.Programs.{AreWithin, HasPlaced, IsCutBy, IsOutsideAt}
use Rattle.rv_asm.proofs.LayoutLemmas.{stops_itself}
use Rattle.rv_asm.proofs.RoomLemmas.{room_if_ok}
use Rattle.rv_asm.proofs.image.assembler.assemble.Goals as goal

pub returns-in-Some-clause-fault : goal.returns-in-Some-clause-fault
returns-in-Some-clause-fault c =
    let layout = c.in_ok-layout.field-0.layout in
    let seen = c.as_slice.result.now in
    let cut = subst (λ (o : Option AsmFault). IsCutBy (lines c.args.bytes.now) layout o) c.in-Some.is c.in_ok-layout.ensures in
    let within = subst (λ (o : Option ℕ). MatchOption o (AreWithin layout.names seen) (IsOutsideAt layout.names seen)) c.in-None-2.is c.in_ok-line-in-Some.ensures in
    stops_itself (lines c.args.bytes.now) layout c.in-Some.fault cut (subst (λ (ps : List Placed). AreWithin layout.names ps) c.as_slice.ensures within)

pub returns-clause-room : goal.returns-clause-room
returns-clause-room c =
    let layout = c.in_ok-layout.field-0.layout in
    let laid = subst (λ (o : Option AsmFault). IsCutBy (lines c.args.bytes.now) layout o) c.in-None.is c.in_ok-layout.ensures in
    let has = subst (λ (ps : List Placed). IfOk c.image_of.result (HasPlaced layout.names ps)) c.as_slice-in-None.ensures c.image_of.ensures.ok in
    room_if_ok (lines c.args.bytes.now) layout c.image_of.result laid has
