use Rattle.std.proofs.Common.{◌≡◌, ◌<◌, length, get_or, drop, refl, sym, ◌∙◌, ap, subst, arith}
use Rattle.std.specs.Prelude.{All, None, Some}
use Rattle.std.proofs.lemmas.List.{length-replicate, take_at, get_or_default}
use Rattle.gate_graph.specs.declared.driver.Driver.TheVariants.{Nothing}
use Rattle.gate_graph.specs.Drivers.{drivings, IsWired}
use Rattle.gate_graph.specs.Tables.{IsDriving, IsTable, IsSecond}
use Rattle.gate_graph.proofs.TableLemmas.{second_below, two_drivers_fault}
use Rattle.gate_graph.proofs.WiredLemmas.{all_driving, wired}
use Rattle.gate_graph.proofs.table.drivers_of.Goals as goal

pub fill-requires-clause-places : goal.fill-requires-clause-places
fill-requires-clause-places c =
    let n = ap length (c.as_mut_slice.ensures.value ∙ c.in_ok-drivers.ensures) ∙ length-replicate c.args.flat.now.bits Nothing in
    subst (λ m. All (IsDriving m) c.as_slice.result.now) (sym n)
    (subst (All (IsDriving c.args.flat.now.bits)) (sym (c.as_slice.ensures.value ∙ c.in_ok-places.ensures)) (all_driving c.args.flat.now c.requires.range))

pub returns-in-None-clause-drivers : goal.returns-in-None-clause-drivers
returns-in-None-clause-drivers c =
    let n = ap length (c.as_mut_slice.ensures.value ∙ c.in_ok-drivers.ensures) ∙ length-replicate c.args.flat.now.bits Nothing in
    subst (IsWired c.args.flat.now) (sym (take_at c.fill.new.drivers _ c.in_ok-drivers.drivers.len (c.fill.auto.drivers ∙ c.as_mut_slice.ensures.len)))
    (wired c.args.flat.now c.fill.new.drivers c.requires.range c.requires.numbers (c.fill.auto.drivers ∙ n)
    (subst (λ ps. IsTable ps c.fill.new.drivers None) (c.as_slice.ensures.value ∙ c.in_ok-places.ensures) c.in-None.ensures))

pub index-first-requires : goal.index-first-requires
index-first-requires c =
    let n = ap length (c.as_mut_slice.ensures.value ∙ c.in_ok-drivers.ensures) ∙ length-replicate c.args.flat.now.bits Nothing in
    let all : All (IsDriving c.args.flat.now.bits) c.as_slice.result.now =
    subst (All (IsDriving c.args.flat.now.bits)) (sym (c.as_slice.ensures.value ∙ c.in_ok-places.ensures)) (all_driving c.args.flat.now c.requires.range) in
    let below = second_below c.args.flat.now.bits c.as_slice.result.now c.in-Some.second all c.in-Some.ensures.second_is in
    subst (λ m. c.in-Some.second.bit < m) (sym n ∙ c.as_mut_slice.ensures.len) below

pub returns-clause-fault : goal.returns-clause-fault
returns-clause-fault c =
    let n = ap length (c.as_mut_slice.ensures.value ∙ c.in_ok-drivers.ensures) ∙ length-replicate c.args.flat.now.bits Nothing in
    let all : All (IsDriving c.args.flat.now.bits) c.as_slice.result.now =
    subst (All (IsDriving c.args.flat.now.bits)) (sym (c.as_slice.ensures.value ∙ c.in_ok-places.ensures)) (all_driving c.args.flat.now c.requires.range) in
    let below = second_below c.args.flat.now.bits c.as_slice.result.now c.in-Some.second all c.in-Some.ensures.second_is in
    let inside : c.in-Some.second.bit < length c.fill.new.drivers = subst (λ m. c.in-Some.second.bit < m) (sym (c.fill.auto.drivers ∙ n)) below in
    let table : IsTable (drivings c.args.flat.now) c.fill.new.drivers (Some c.in-Some.second) =
    subst (λ ps. IsTable ps c.fill.new.drivers (Some c.in-Some.second)) (c.as_slice.ensures.value ∙ c.in_ok-places.ensures) c.in-Some.ensures in
    two_drivers_fault c.args.flat.now c.index-first.result.now c.in-Some.second c.in_ok-two_drivers-in-Some.field-0 c.in_ok-two_drivers-in-Some.ensures
    table.second_is
    (c.index-first.ensures
    ∙ ap (λ xs. get_or xs c.in-Some.second.bit c.index-first.result.now)
    (take_at c.fill.new.drivers _ c.in_ok-drivers.drivers.len (c.fill.auto.drivers ∙ c.as_mut_slice.ensures.len))
    ∙ get_or_default c.fill.new.drivers c.in-Some.second.bit c.index-first.result.now Nothing inside
    ∙ table.each c.in-Some.second.bit inside)
