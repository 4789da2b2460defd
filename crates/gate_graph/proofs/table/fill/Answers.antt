use Rattle.std.proofs.Common.{◌≡◌, ◌<◌, length, get_or, take, refl, sym, subst, arith}
use Rattle.std.specs.Prelude.{All}
use Rattle.std.proofs.lemmas.List.{take_more}
use Rattle.std.proofs.lemmas.List.Elements.{All-take}
use Rattle.gate_graph.specs.declared.driver.Driver.TheVariants.{Port}
use Rattle.gate_graph.specs.declared.driver.Driving.{Driving}
use Rattle.gate_graph.specs.Tables.{IsDriving, IsTable}
use Rattle.gate_graph.proofs.TableLemmas.{table_first, table_second, table_later}
use Rattle.gate_graph.proofs.table.fill.Goals as goal
use Rattle.gate_graph.proofs.table.fill.Goals.{then-is_open, else-is_open+then-is_before, else-is_open+else-is_before}

pub places-preserved : goal.places-preserved
places-preserved c =
    let d : Driving = record { bit = 0; driver = Port 0 } in
    let i = c.places.place-index in
    let x = get_or c.args.places.now i d in
    let n = length c.args.drivers.now in
    let long : length c.places.drivers ≡ n = c.places.auto.drivers in
    let all : All (IsDriving n) (take i c.args.places.now) = All-take (IsDriving n) i c.args.places.now c.requires.places in
    let driving : IsDriving n x = c.requires.places i d c.places-test.true in
    subst (λ ps. IsTable ps c.if-is_open.drivers c.if-is_open.second) (sym (take_more c.args.places.now i d c.places-test.true))
    (elim c.if-is_open.branch [
      | then-is_open w ↦ rw (w.drivers-is, w.second-is)
          (table_first n (take i c.args.places.now) c.places.drivers c.places.second x long all driving c.places.invariant (w.if-is_open.ensures.0 refl))
      | else-is_open+then-is_before w ↦ rw (w.drivers-is, w.second-is)
          (table_second n (take i c.args.places.now) c.places.drivers c.places.second x long driving c.places.invariant
          (λ e. let f = w.if-is_open.ensures.1 e in absurd cc) (w.if-is_before.ensures.0 refl))
      | else-is_open+else-is_before w ↦ rw (w.drivers-is, w.second-is)
          (table_later n (take i c.args.places.now) c.places.drivers c.places.second x long driving c.places.invariant
          (λ e. let f = w.if-is_open.ensures.1 e in absurd cc) (λ b. let f = w.if-is_before.ensures.1 b in absurd cc))
    ])
