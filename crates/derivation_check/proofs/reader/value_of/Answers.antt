use Rattle.std.proofs.Common.{◌≡◌, ◌<◌, length, get_or, decimal, Ok, Err, ap, sym, ◌∙◌, arith}
use Rattle.std.specs.Str.Parse.{digits_value}
use Rattle.coco_base.specs.Numbers.{number_of}
use Rattle.derivation_check.proofs.Numbers.{decimal_some, decimal_plain, decimal_value, digits_write, number_some, number_read, number_missed}
use Rattle.derivation_check.proofs.reader.value_of.Goals.{else-digits-gt1-via-then-digits-gt1+else-digits-eq48, else-digits-gt1-via-else-digits-gt1}
use Rattle.derivation_check.proofs.reader.value_of.Goals as goal

pub returns-then-digits-eq48-clause-none : goal.returns-then-digits-eq48-clause-none
returns-then-digits-eq48-clause-none c = λ n le e.
    let first : get_or (decimal n) 0 0 ≡ 48 = rw (← e) c.if-digits-eq48.true in
    absurd (omega (arith, ap length e, decimal_plain n le first))

pub returns-in-Ok-clause-some : goal.returns-in-Ok-clause-some
returns-in-Ok-clause-some c =
    let read : number_of 10 2147483647 c.args.digits.now ≡ Ok c.in-Ok.value = sym c.number_of.ensures ∙ c.in-Ok.is in
    let some : 0 < length c.args.digits.now = number_some 2147483647 c.in-Ok.value c.args.digits.now read in
    let parts = number_read 2147483647 c.in-Ok.value c.args.digits.now c.requires some read in
    let value : digits_value 10 c.args.digits.now ≡ c.in-Ok.value = parts.0 in
    let plain : get_or c.args.digits.now 0 0 ≡ 48 → length c.args.digits.now ≡ 1 = λ first.
    elim c.else-digits-gt1.branch [
      | else-digits-gt1-via-then-digits-gt1+else-digits-eq48 w ↦ absurd (w.if-digits-eq48.false first)
      | else-digits-gt1-via-else-digits-gt1 w ↦ omega arith
    ] in
    (parts.1, rw (← value) (digits_write c.args.digits.now c.requires some plain (omega (arith, parts.1))))

pub returns-in-Err-clause-none : goal.returns-in-Err-clause-none
returns-in-Err-clause-none c = λ n le e.
    let missed : number_of 10 2147483647 c.args.digits.now ≡ Err c.in-Err.field-0 = sym c.number_of.ensures ∙ c.in-Err.is in
    let some : 0 < length c.args.digits.now = omega (arith, ap length e, decimal_some n le) in
    let past = number_missed 2147483647 c.in-Err.field-0 c.args.digits.now c.requires some missed in
    absurd (omega (arith, past, ap (digits_value 10) e, decimal_value n le))
