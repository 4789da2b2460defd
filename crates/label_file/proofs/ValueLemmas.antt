-- The values of words, read one by one.
use Rattle.std.proofs.Common.{◌≡◌, ◌∷◌, ◌++◌, [], List, Result, Ok, Err, refl, ap, append_assoc, sym}
use Rattle.label_file.specs.declared.cause.Cause.{Cause}
use Rattle.label_file.specs.declared.line.LabelValue.{LabelValue}
use Rattle.label_file.specs.Causes.{◌>>=◌}

-- values before those of an outcome
abbrev pub behind : List LabelValue → Result (List LabelValue) Cause → Result (List LabelValue) Cause
behind front (Ok values) = Ok (front ++ values)
behind front (Err cause) = Err cause

pub behind_one : (front : List LabelValue) (v : LabelValue) (o : Result (List LabelValue) Cause)
    → behind front (o >>= λ vs. Ok (v ∷ vs)) ≡ behind (front ++ v ∷ []) o
behind_one front v (Ok values) = ap Ok (sym (append_assoc front (v ∷ []) values))
behind_one front v (Err cause) = refl
