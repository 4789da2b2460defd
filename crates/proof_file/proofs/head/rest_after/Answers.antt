-- one line more is compared
use Rattle.std.proofs.Common.{length, length-append, ap, arith, Some, None}
use Rattle.std.proofs.lemmas.Bool.Decides.{Decides-eqb}
use Rattle.std.proofs.lemmas.Slice.Eq.{strip_prefix_is}
use Rattle.proof_file.proofs.Heads.{line_compared, line_other, none_other}
use Rattle.proof_file.proofs.head.rest_after.Goals as goal

pub returns-in-None-clause-other : goal.returns-in-None-clause-other
returns-in-None-clause-other c =
    let head = c.args.head.now in
    let file = c.args.file.now in
    let left = c.comparing.left.now in
    let rest = c.comparing.rest.now in
    let line = c.first_line.result.0.now in
    let later = c.first_line.result.1.now in
    let other = strip_prefix_is Decides-eqb rest line None c.in-None.ensures.cases in
    line_other head file left line later rest c.comparing.number (omega (arith, ap length c.first_line.ensures.split, length-append line later, c.first_line.ensures.some)) c.first_line.ensures.line c.first_line.ensures.split other c.comparing.invariant

pub returns-in-None-clause-exact : goal.returns-in-None-clause-exact
returns-in-None-clause-exact c = none_other c.args.head.now c.args.file.now c.comparing.number (returns-in-None-clause-other c)

pub comparing-preserved : goal.comparing-preserved
comparing-preserved c =
    let head = c.args.head.now in
    let file = c.args.file.now in
    let left = c.comparing.left.now in
    let rest = c.comparing.rest.now in
    let line = c.first_line.result.0.now in
    let later = c.first_line.result.1.now in
    let same = strip_prefix_is Decides-eqb rest line (Some c.in-Some.more) c.in-Some.ensures.cases in
    line_compared head file left line later rest c.in-Some.more.now c.comparing.number c.first_line.ensures.some c.first_line.ensures.line c.first_line.ensures.split same c.comparing.invariant
