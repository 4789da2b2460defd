use Rattle.std.proofs.Common.{arith}
use Rattle.std.proofs.lemmas.Int.{to_z-of_z}
use Rattle.std.proofs.lemmas.Grind.{common_steps}
use Rattle.rv_isa.proofs.Formats.{b_word-bits, sign_extension-branch, b_fields}
use Rattle.rv_isa.proofs.decoding.decode_branch.Goals as goal

pub returns : goal.returns
returns c = record {
  fits = grind (arith, common_steps, to_z-of_z, sign_extension-branch);
  has_word = grind (arith, common_steps, to_z-of_z, b_word-bits);
  every = λ i f e. grind (arith, common_steps, to_z-of_z, b_fields);
}
