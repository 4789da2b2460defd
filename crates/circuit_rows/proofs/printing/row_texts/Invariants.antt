-- the texts of the rows so far
use Rattle.std.proofs.Common.{◌≡◌, take, map, flat_map}
use Rattle.circuit_rows.specs.Json.{cell_texts, net_text, port_texts}
use Rattle.circuit_rows.specs.declared.circuit.Row.{Row}
use Rattle.circuit_rows.proofs.printing.row_texts.Given as goal

abbrev pub invariant-rows : goal.invariant-rows
invariant-rows l = record {
  ports : l.texts.ports ≡ flat_map (λ (r : Row). port_texts r r.form) (take l.row-index l.rows);
  cells : l.texts.cells ≡ flat_map (λ (r : Row). cell_texts r r.form) (take l.row-index l.rows);
  nets : l.texts.nets ≡ map net_text (take l.row-index l.rows);
}
