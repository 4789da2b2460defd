use Rattle.std.proofs.Common.{arith}
use Rattle.std.proofs.lemmas.Int.{to_z-of_z}
use Rattle.std.proofs.lemmas.Grind.{common_steps}
use Rattle.rv_isa.proofs.Formats.{i_word-bits, i_fields}
use Rattle.rv_isa.proofs.Operands.{operand_fits, operand_field-operand_at, holds_operand, shift_funct7-bound}
use Rattle.rv_isa.proofs.decoding.decode_imm.Goals as goal

pub returns : goal.returns
returns c = record {
  fits = grind (arith, common_steps, to_z-of_z, operand_fits);
  has_word = grind (arith, common_steps, to_z-of_z, i_word-bits, operand_field-operand_at);
  every = λ i f e. grind (arith, common_steps, to_z-of_z, i_fields, holds_operand, shift_funct7-bound);
}
