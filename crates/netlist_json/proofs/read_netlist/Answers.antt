-- what is answered is what the bytes are read as
use Rattle.std.proofs.Common.{refl}
use Rattle.std.proofs.lemmas.Bool.{false≢true}
use Rattle.serde_json.specs.View.{view}
use Rattle.netlist_json.proofs.Json.{json_of_other, json_of_value}
use Rattle.netlist_json.proofs.read_netlist.Goals as goal

pub returns-in-Err-2 : goal.returns-in-Err-2
returns-in-Err-2 c =
    λ _. rw (json_of_other c.args.bytes.now (c.in-Err.ensures.err (λ memory. false≢true (c.if-is_memory.ensures.1 memory)))) refl

pub returns : goal.returns
returns c =
    rw (json_of_value c.args.bytes.now (view c.in-Ok.file) c.in-Ok.ensures.ok.0 c.in-Ok.ensures.ok.1) c.netlist.ensures
