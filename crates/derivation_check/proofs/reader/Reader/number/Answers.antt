use Rattle.std.proofs.Common.{◌≡◌, ◌∷◌, ◌++◌, length, decimal, ap, arith}
use Rattle.std.proofs.Math.Seq.{get_or-append_seam}
use Rattle.derivation_check.proofs.Numbers.{decimal_digits, front_is, front_text, length-seam, front_digits}
use Rattle.derivation_check.proofs.reader.Reader.number.Goals as goal

pub returns-then-len-self-clause-none : goal.returns-then-len-self-clause-none
returns-then-len-self-clause-none c = λ n more le e.
    let v : c.self.inside.rest.now ≡ decimal n ++ c.args.end ∷ more = rw c.self.view_is e in
    let same : c.digits_len-len.result ≡ length (decimal n) =
    front_is c.self.inside.rest.now (decimal n) more c.args.end c.digits_len-len.result v (decimal_digits n le) c.requires c.digits_len-len.ensures.digits c.digits_len-len.ensures.within c.digits_len-len.ensures.end in
    absurd (omega (arith, ap length v, length-seam (decimal n) more c.args.end))

pub returns-then-self-len-clause-none : goal.returns-then-self-len-clause-none
returns-then-self-len-clause-none c = λ n more le e.
    let v : c.self.inside.rest.now ≡ decimal n ++ c.args.end ∷ more = rw c.self.view_is e in
    let same : c.digits_len-len.result ≡ length (decimal n) =
    front_is c.self.inside.rest.now (decimal n) more c.args.end c.digits_len-len.result v (decimal_digits n le) c.requires c.digits_len-len.ensures.digits c.digits_len-len.ensures.within c.digits_len-len.ensures.end in
    c.if-self-len.true (rw (v, same) (get_or-append_seam (decimal n) c.args.end more 0))

pub value_of-requires : goal.value_of-requires
value_of-requires c = front_digits c.self.inside.rest.now c.digits_len-len.result c.digits_len-len.ensures.within c.digits_len-len.ensures.digits

pub returns-in-None-clause-none : goal.returns-in-None-clause-none
returns-in-None-clause-none c = λ n more le e.
    let v : c.self.inside.rest.now ≡ decimal n ++ c.args.end ∷ more = rw c.self.view_is e in
    let same : c.digits_len-len.result ≡ length (decimal n) =
    front_is c.self.inside.rest.now (decimal n) more c.args.end c.digits_len-len.result v (decimal_digits n le) c.requires c.digits_len-len.ensures.digits c.digits_len-len.ensures.within c.digits_len-len.ensures.end in
    c.in-None.ensures.none n le (front_text c.self.inside.rest.now (decimal n) more c.args.end c.digits_len-len.result v same)
