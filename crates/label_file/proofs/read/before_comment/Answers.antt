use Rattle.std.proofs.Common.{List, ℕ, Bor, arith}
use Rattle.std.specs.List.{take-map}
use Rattle.std.proofs.lemmas.Grind.{common_steps}
use Rattle.label_file.proofs.read.before_comment.Goals as goal

pub returns : goal.returns
returns c = grind (arith, common_steps, take-map (λ (r : Bor (List ℕ)). r.now) c.words_of.result c.args.words.now)
