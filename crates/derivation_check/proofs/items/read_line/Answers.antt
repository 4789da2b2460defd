use Rattle.std.proofs.Common.{◌≡◌, ◌∷◌, ◌++◌, sym, ◌∙◌, subst, List}
use Rattle.std.specs.List.{All}
use Rattle.clause_store.specs.declared.lit.Lit.{Lit}
use Rattle.clause_store.specs.Signs.{Ascends}
use Rattle.derivation_check.specs.Texts.{IsLitInRange, lits_text, cuts_text, index_text}
use Rattle.derivation_check.proofs.Reading.{line_front, line_first}
use Rattle.derivation_check.proofs.items.read_line.Goals as goal

pub returns-then-not-is_ascending-clause-none : goal.returns-then-not-is_ascending-clause-none
returns-then-not-is_ascending-clause-none c = λ line more good e.
    let read : All IsLitInRange c.in-Some.clause × (c.args.reader.now ≡ lits_text c.in-Some.clause ++ 48 ∷ 32 ∷ c.read_lits.new.reader) = rw c.in-Some.is at c.in_ok-clause.ensures.some in
    let same : c.in-Some.clause ≡ line.clause = (line_front line c.in-Some.clause c.args.reader.now c.read_lits.new.reader more good read.0 read.1 e).0 in
    let slice : c.as_slice.result.now ≡ line.clause = c.as_slice.ensures ∙ same in
    let P : List Lit → Type 0 = λ l. Ascends l in
    let h = c.if-not-is_ascending.ensures.1 (subst P (sym slice) good.ascending) in
    absurd (cc)

pub returns-in_default-read_index-clause-none : goal.returns-in_default-read_index-clause-none
returns-in_default-read_index-clause-none c = λ line more good e.
    let read : All IsLitInRange c.in-Some.clause × (c.args.reader.now ≡ lits_text c.in-Some.clause ++ 48 ∷ 32 ∷ c.read_lits.new.reader) = rw c.in-Some.is at c.in_ok-clause.ensures.some in
    c.in_default-read_index.ensures.none line.first (cuts_text line.cuts ++ 48 ∷ 10 ∷ more) good.first
    (line_front line c.in-Some.clause c.args.reader.now c.read_lits.new.reader more good read.0 read.1 e).1

pub returns-in_default-2-clause-none : goal.returns-in_default-2-clause-none
returns-in_default-2-clause-none c = λ line more good e.
    let read : All IsLitInRange c.in-Some.clause × (c.args.reader.now ≡ lits_text c.in-Some.clause ++ 48 ∷ 32 ∷ c.read_lits.new.reader) = rw c.in-Some.is at c.in_ok-clause.ensures.some in
    let front : c.read_lits.new.reader ≡ index_text line.first ++ (cuts_text line.cuts ++ 48 ∷ 10 ∷ more) = (line_front line c.in-Some.clause c.args.reader.now c.read_lits.new.reader more good read.0 read.1 e).1 in
    let later : c.read_index.new.reader ≡ cuts_text line.cuts ++ 48 ∷ 10 ∷ more =
    (line_first line c.in-Some-read_index.first c.read_lits.new.reader c.read_index.new.reader more good c.in-Some-read_index.ensures.some.0 c.in-Some-read_index.ensures.some.1 front).1 in
    let none = rw c.in_default-2.is at c.in_ok-cuts.ensures.none in
    none line.cuts more good.cuts later
