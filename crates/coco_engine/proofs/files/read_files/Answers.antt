-- each of the files may be one that is not read
use Rattle.std.proofs.Common.{◌≤◌, length, inl, inr, refl, arith}
use Rattle.command_words.specs.Shown.{shown_files}
use Rattle.coco_engine.specs.Files.{file_limit}
use Rattle.coco_engine.proofs.Stops.{AreFirst, long_labels, long_netlist, long_program, stops_files, stops_later}
use Rattle.coco_engine.proofs.files.read_files.Goals as goal

pub returns-in-Err-clause-stop : goal.returns-in-Err-clause-stop
returns-in-Err-clause-stop g c =
    let told = g.F.Shelf.holds c.args.shelf.now in
    let names = shown_files c.args.files.now in
    rw c.in-Err.ensures.named (stops_files told _ _ names names.netlist c.in-Err.stop.stop (long_netlist told names) (inl refl) c.in-Err.ensures.stop)

pub returns-in-Err-read_file-clause-stop : goal.returns-in-Err-read_file-clause-stop
returns-in-Err-read_file-clause-stop g c =
    let told = g.F.Shelf.holds c.args.shelf.now in
    let names = shown_files c.args.files.now in
    let why = c.in-Err-read_file.stop.stop in
    let short : length c.in-Ok.bytes.items ≤ file_limit = omega (arith, c.in-Ok.ensures.short) in
    let here = rw c.in-Ok.ensures.held at c.in-Err-read_file.ensures.stop in
    let stop = stops_later told (g.F.Shelf.faults c.args.shelf.now) (g.F.Shelf.faults c.read_file.new.shelf) _ names.labels why c.in-Ok.ensures.later here in
    rw c.in-Err-read_file.ensures.named (stops_files told _ _ names names.labels why (long_labels told names c.in-Ok.bytes.items c.in-Ok.ensures.content short) (inr (inl refl)) stop)

pub returns-in-Err-read_program-clause-stop : goal.returns-in-Err-read_program-clause-stop
returns-in-Err-read_program-clause-stop g c =
    let told = g.F.Shelf.holds c.args.shelf.now in
    let names = shown_files c.args.files.now in
    let name = c.in-Err-read_program.stop.name.now in
    let why = c.in-Err-read_program.stop.stop in
    let netlist = c.in-Ok.bytes.items in
    let labels = c.in-Ok-read_file.bytes.items in
    let short_netlist : length netlist ≤ file_limit = omega (arith, c.in-Ok.ensures.short) in
    let short_labels : length labels ≤ file_limit = omega (arith, c.in-Ok-read_file.ensures.short) in
    let content = rw c.in-Ok.ensures.held at c.in-Ok-read_file.ensures.content in
    let read : AreFirst told names netlist labels = record { netlist = c.in-Ok.ensures.content; labels = content; short_netlist = short_netlist; short_labels = short_labels } in
    let here = rw (c.in-Ok-read_file.ensures.held, c.in-Ok.ensures.held) at c.in-Err-read_program.ensures.stop in
    let order : g.F.Shelf.faults c.args.shelf.now ≤ g.F.Shelf.faults c.read_file-2.new.shelf = omega (arith, c.in-Ok.ensures.later, c.in-Ok-read_file.ensures.later) in
    let stop = stops_later told (g.F.Shelf.faults c.args.shelf.now) (g.F.Shelf.faults c.read_file-2.new.shelf) _ name why order here in
    let named = c.in-Err-read_program.ensures.named in
    stops_files told _ _ names name why (long_program told names netlist labels name named read) (inr (inr named)) stop
