use Rattle.std.proofs.Common.{◌*◌, ◌≤◌, arith}
use Rattle.std.proofs.Math.Nat.{mul-le-mul}
use Rattle.probe_clauses.proofs.room.times.Goals as goal

pub overflow_mul-result : goal.overflow_mul-result
overflow_mul-result c =
    let le : c.args.a * c.args.b ≤ 4294967296 * 65536 = mul-le-mul c.requires.a c.requires.b in
    omega arith

pub returns-clause-small : goal.returns-clause-small
returns-clause-small c =
    let le : c.args.a * c.args.b ≤ 4294967296 * 65536 = mul-le-mul c.requires.a c.requires.b in
    omega arith
