-- How many words and bytes the lines of a program fill, and that there is room for them.
use Rattle.std.proofs.Common.{◌≡◌, ℕ, suc, ◌+◌, ◌*◌, ◌≤◌, min, Bool, true, false, cond, leb, List, [], ◌∷◌, ◌++◌, length, map, flat_map, take, Option, Some, None, Result, Ok, Err, IfOk, IsOk, refl, ap, sym, subst, ◌∙◌, arith, length-append, append-nil, replicate, ℤ, pos}
use Rattle.std.specs.List.{sum_by}
use Rattle.std.specs.Int.{to_le_bytes, w32}
use Rattle.std.proofs.lemmas.List.{length-replicate, length-take}
use Rattle.std.proofs.lemmas.List.Sums.{sum_by-append}
use Rattle.std.proofs.lemmas.Bool.Decides.{nat_tests}
use Rattle.rv_isa.specs.declared.instruction.Instr.{Instr}
use Rattle.rv_isa.specs.declared.instruction.Instr.TheVariants as instr
use Rattle.rv_isa.specs.declared.instruction.ImmOp.TheVariants.{Addi}
use Rattle.rv_asm.specs.declared.layout.cause.Cause.{Cause}
use Rattle.rv_asm.specs.declared.layout.cause.Cause.TheVariants.{BadLine, Range, UnknownName}
use Rattle.rv_asm.specs.declared.line.expression.Expr.{Expr}
use Rattle.rv_asm.specs.declared.fault.AsmFault.{AsmFault}
use Rattle.rv_asm.specs.declared.image.Image.{Image}
use Rattle.rv_asm.specs.declared.line.statement.Part.{Part}
use Rattle.rv_asm.specs.declared.line.statement.Part.TheVariants.{Text, Data}
use Rattle.rv_asm.specs.declared.line.statement.Size.TheVariants.{Byte, Half, Word}
use Rattle.rv_asm.specs.declared.line.statement.Demand.{Demand}
use Rattle.rv_asm.specs.declared.line.statement.Demand.TheVariants as for
use Rattle.rv_asm.specs.declared.line.statement.Statement.{Statement}
use Rattle.rv_asm.specs.declared.line.statement.Statement.TheVariants.{Nothing, Whole, Asks, LoadNumber, Enter, Zeros, Align, Equal}
use Rattle.rv_asm.specs.declared.line.statement.Line.{Line}
use Rattle.rv_asm.specs.declared.layout.place.Place.{Place}
use Rattle.rv_asm.specs.declared.layout.content.Content.{Content}
use Rattle.rv_asm.specs.declared.layout.content.Content.TheVariants.{Known, Fill, Asked}
use Rattle.rv_asm.specs.declared.layout.Layout.{Layout}
use Rattle.rv_asm.specs.declared.layout.Placed.{Placed}
use Rattle.rv_asm.specs.Causes.{◌>>=◌}
use Rattle.rv_asm.specs.Lines.{number_after}
use Rattle.rv_asm.specs.Regions.{IsWithinRegions, most_cells}
use Rattle.rv_asm.specs.Names.{Table}
use Rattle.rv_asm.specs.Values.{high_half, low_half, low_word, value_of}
use Rattle.rv_asm.specs.SourceLines.{line_of}
use Rattle.rv_asm.specs.Demands.{address_words, all_words, byte_count, field_of, field_words, fit_word, is_stored, single, word_count, words_at, words_of as words_of_value}
use Rattle.rv_asm.specs.Layouts.{address_of, after_cells, bytes_each, cells_filled, content_of, content_put, content_effect, in_part, equal_named, equal_effect, has_outside, is_misplaced, line_effect, parts_effect, put_place, read_effect, statement_effect, Effect, with_labels, words_in}
use Rattle.rv_asm.specs.Programs.{after_line, after_lines, all_known, AreRight, data_bytes, found, HasPlaced, in_data, in_text, IsImageOf, layout_of, put_at, start, stored_bytes, text_lines, text_words, with_effect, words_of, words_of_bytes, words_placed}

-- ---- outcomes that are right

unless_ok : {A : Type 0} (b : Bool) (c : Cause) (r : Result A Cause) (y : A) → cond b (Err c) r ≡ Ok y → r ≡ Ok y
unless_ok true c r y e = cc
unless_ok false c r y e = e

when_ok : {A : Type 0} (b : Bool) (c : Cause) (r : Result A Cause) (y : A) → cond b r (Err c) ≡ Ok y → (b ≡ true) × (r ≡ Ok y)
when_ok true c r y e = (refl, e)
when_ok false c r y e = cc

abbrev Is : {A : Type 0} → Result A Cause → A → Type 0
Is r y = r ≡ Ok y

ok_is : {A : Type 0} (x y : A) → Is (Ok x) y → x ≡ y
ok_is x y e = cc

-- ---- how many words contents stand for

two_length : (r q : Result ℕ Cause) (ws : List ℕ) → (r >>= λ a. q >>= λ b. Ok (a ∷ b ∷ [])) ≡ Ok ws → length ws ≡ 2
two_length (Ok a) (Ok b) ws e = ap length (sym (ok_is (a ∷ b ∷ []) ws e))
two_length (Ok a) (Err c) ws e = cc
two_length (Err c) q ws e = cc

address_length : (rd word : ℕ) (ws : List ℕ) → address_words rd word ≡ Ok ws → length ws ≡ 2
unfolding address_words
address_length rd word ws e = two_length (fit_word (instr.Lui rd (high_half word))) (fit_word (instr.Imm Addi rd rd (low_half word))) ws e

one_length : (r : Result ℕ Cause) (ws : List ℕ) → (r >>= single) ≡ Ok ws → length ws ≡ 1
one_length (Ok a) ws e = ap length (sym (ok_is (a ∷ []) ws e))
one_length (Err c) ws e = cc

instr_length : (r : Result Instr Cause) (ws : List ℕ) → (r >>= λ i. fit_word i >>= single) ≡ Ok ws → length ws ≡ 1
instr_length (Ok i) ws e = one_length (fit_word i) ws e
instr_length (Err c) ws e = cc

field_length : (demand : Demand) (here z : ℤ) (ws : List ℕ) → field_words demand here z ≡ Ok ws → length ws ≡ 1
unfolding field_words
field_length demand here z ws e = instr_length (field_of demand here z) ws e

value_length : (demand : Demand) (here z : ℤ) (ws : List ℕ) → words_of_value demand here z ≡ Ok ws → length ws ≡ word_count demand
value_length (for.Imm op rd rs1) here z ws e = field_length _ here z ws e
value_length (for.Load op rd rs1) here z ws e = field_length _ here z ws e
value_length (for.Store op rs1 rs2) here z ws e = field_length _ here z ws e
value_length (for.Branch op rs1 rs2) here z ws e = field_length _ here z ws e
value_length (for.Lui rd) here z ws e = field_length _ here z ws e
value_length (for.Auipc rd) here z ws e = field_length _ here z ws e
value_length (for.Jal rd) here z ws e = field_length _ here z ws e
value_length (for.Jalr rd rs1) here z ws e = field_length _ here z ws e
value_length (for.Address rd) here z ws e = address_length rd _ ws e
value_length (for.Value size) here z ws e = ap length (sym (ok_is (low_word z ∷ []) ws (when_ok (is_stored size z) Range (Ok (low_word z ∷ [])) ws e).1))

known_length : (demand : Demand) (here : ℤ) (r : Result ℤ Cause) (ws : List ℕ) → (r >>= words_of_value demand here) ≡ Ok ws → length ws ≡ word_count demand
known_length demand here (Ok z) ws h = value_length demand here z ws h
known_length demand here (Err c) ws h = cc

at_length : (names : Table) (here : ℤ) (demand : Demand) (e : Expr) (ws : List ℕ) → words_at names here demand e ≡ Ok ws → length ws ≡ word_count demand
unfolding words_at
at_length names here demand e ws h = known_length demand here (value_of names here e) ws h

joined_length : (r q : Result (List ℕ) Cause) (n m : ℕ) (ws : List ℕ) → ((w : List ℕ) → r ≡ Ok w → length w ≡ n) → ((w : List ℕ) → q ≡ Ok w → length w ≡ m) → (r >>= λ first. q >>= λ more. Ok (first ++ more)) ≡ Ok ws → length ws ≡ n + m
joined_length (Ok w) (Ok v) n m ws hr hq e = ap length (sym (ok_is (w ++ v) ws e)) ∙ length-append w v ∙ omega (arith, hr w refl, hq v refl)
joined_length (Ok w) (Err c) n m ws hr hq e = cc
joined_length (Err c) q n m ws hr hq e = cc

all_length : (names : Table) (here : ℤ) (demand : Demand) (es : List Expr) (ws : List ℕ) → all_words names here demand es ≡ Ok ws → length ws ≡ word_count demand * length es
all_length names here demand [] ws h = ap length (sym (ok_is [] ws h)) ∙ omega arith
all_length names here demand (e ∷ es) ws h =
    joined_length (words_at names here demand e) (all_words names here demand es) (word_count demand) (word_count demand * length es) ws (λ w k. at_length names here demand e w k) (λ w k. all_length names here demand es w k) h ∙ omega arith

placed_length : (names : Table) (place : Place) (content : Content) (ws : List ℕ) → words_placed names place content ≡ Ok ws → length ws ≡ words_in content
placed_length names place (Known words) ws h = ap length (sym (ok_is words ws h))
placed_length names place (Fill count word) ws h = ap length (sym (ok_is (replicate count word) ws h)) ∙ length-replicate count word
placed_length names place (Asked demand values) ws h =
    all_length names (pos (address_of place)) demand values ws (when_ok (all_known names values) UnknownName (all_words names (pos (address_of place)) demand values) ws h).1

found_length : (names : Table) (p : Placed) → IsOk (words_of names p) → length (found (words_of names p)) ≡ words_in p.content
found_length names p ok =
    elim (words_of names p) as (λ r. IsOk r → words_of names p ≡ r → length (found r) ≡ words_in p.content) [
      | Ok ws ↦ λ _ e. placed_length names p.place p.content ws e
      | Err c ↦ λ ok e. cc
    ] ok refl

-- ---- how many cells of each part a line fills

abbrev text_count : Part → ℕ → ℕ
text_count Text n = n
text_count Data n = 0

abbrev data_count : Part → ℕ → ℕ
data_count Text n = 0
data_count Data n = n

abbrev text_cells : Placed → ℕ
text_cells p = text_count p.place.part (words_in p.content)

abbrev data_cells : Placed → ℕ
data_cells p = data_count p.place.part (bytes_each p.content * words_in p.content)

in_text_length : (part : Part) (n : ℕ) (ws : List ℕ) → length ws ≡ n → length (in_text part ws) ≡ text_count part n
in_text_length Text n ws h = h
in_text_length Data n ws h = refl

stored_length : (count : ℕ) (ws : List ℕ) → count ≤ 4 → length (stored_bytes count ws) ≡ count * length ws
stored_length count [] h = omega arith
stored_length count (w ∷ ws) h =
    let one : length (take count (to_le_bytes w32 w)) ≡ min count 4 = length-take count (to_le_bytes w32 w) in
    let rest : length (stored_bytes count ws) ≡ count * length ws = stored_length count ws h in
    let whole : length (stored_bytes count (w ∷ ws)) ≡ length (take count (to_le_bytes w32 w)) + length (stored_bytes count ws) = length-append (take count (to_le_bytes w32 w)) (stored_bytes count ws) in
    let each : count * length (w ∷ ws) ≡ count + count * length ws = omega arith in
    omega (arith, one, rest, whole, each)

in_data_length : (part : Part) (count n : ℕ) (ws : List ℕ) → count ≤ 4 → length ws ≡ n → length (in_data part count ws) ≡ data_count part (count * n)
in_data_length Text count n ws h e = refl
in_data_length Data count n ws h e = stored_length count ws h ∙ ap (λ k. count * k) e

byte_count-small : (demand : Demand) → byte_count demand ≤ 4
byte_count-small (for.Imm op rd rs1) = omega arith
byte_count-small (for.Load op rd rs1) = omega arith
byte_count-small (for.Store op rs1 rs2) = omega arith
byte_count-small (for.Branch op rs1 rs2) = omega arith
byte_count-small (for.Lui rd) = omega arith
byte_count-small (for.Auipc rd) = omega arith
byte_count-small (for.Jal rd) = omega arith
byte_count-small (for.Jalr rd rs1) = omega arith
byte_count-small (for.Address rd) = omega arith
byte_count-small (for.Value Byte) = omega arith
byte_count-small (for.Value Half) = omega arith
byte_count-small (for.Value Word) = omega arith

bytes_each-small : (content : Content) → bytes_each content ≤ 4
bytes_each-small (Known words) = omega arith
bytes_each-small (Fill count word) = omega arith
bytes_each-small (Asked demand values) = byte_count-small demand

-- ---- the words and bytes of all lines

texts_length : (names : Table) (ps : List Placed) → AreRight names ps → length (flat_map (text_words names) ps) ≡ sum_by text_cells ps
texts_length names [] right = refl
texts_length names (p ∷ ps) right =
    let one : length (text_words names p) ≡ text_cells p = in_text_length p.place.part _ _ (found_length names p (right 0 p (omega arith))) in
    let rest : length (flat_map (text_words names) ps) ≡ sum_by text_cells ps = texts_length names ps (λ k d lt. right (suc k) d (omega arith)) in
    length-append (text_words names p) (flat_map (text_words names) ps) ∙ omega (arith, one, rest, sum_by-append text_cells (p ∷ []) ps)

bytes_length : (names : Table) (ps : List Placed) → AreRight names ps → length (flat_map (data_bytes names) ps) ≡ sum_by data_cells ps
bytes_length names [] right = refl
bytes_length names (p ∷ ps) right =
    let one : length (data_bytes names p) ≡ data_cells p = in_data_length p.place.part _ _ _ (bytes_each-small p.content) (found_length names p (right 0 p (omega arith))) in
    let rest : length (flat_map (data_bytes names) ps) ≡ sum_by data_cells ps = bytes_length names ps (λ k d lt. right (suc k) d (omega arith)) in
    length-append (data_bytes names p) (flat_map (data_bytes names) ps) ∙ omega (arith, one, rest, sum_by-append data_cells (p ∷ []) ps)

map_length : (line : ℕ) (ws : List ℕ) → length (map (λ _. line) ws) ≡ length ws
map_length line [] = refl
map_length line (w ∷ ws) = ap suc (map_length line ws)

lines_length : (names : Table) (ps : List Placed) → length (flat_map (text_lines names) ps) ≡ length (flat_map (text_words names) ps)
lines_length names [] = refl
lines_length names (p ∷ ps) =
    let one : length (text_lines names p) ≡ length (text_words names p) = map_length p.line (text_words names p) in
    let rest = lines_length names ps in
    length-append (text_lines names p) (flat_map (text_lines names) ps) ∙ omega (arith, one, rest, length-append (text_words names p) (flat_map (text_words names) ps))

values_length : (bytes : List ℕ) → 4 * length (words_of_bytes bytes) ≤ length bytes + 3
values_length [] = omega arith
values_length (a ∷ []) = omega arith
values_length (a ∷ b ∷ []) = omega arith
values_length (a ∷ b ∷ c ∷ []) = omega arith
values_length (a ∷ b ∷ c ∷ d ∷ more) = omega (arith, values_length more)

-- ---- places

-- what is placed fills the parts up to the place
record IsCounted (place : Place) (ps : List Placed) : Type 0 where
  words : sum_by text_cells ps ≡ place.words
  bytes : sum_by data_cells ps ≡ place.bytes
  words_fit : place.words ≤ most_cells
  bytes_fit : place.bytes ≤ most_cells

-- how a line moves the place
abbrev MovesBy : Place → Place → Option Content → Type 0
MovesBy place after None = (after.words ≡ place.words) × (after.bytes ≡ place.bytes)
MovesBy place after (Some content) = after_cells place (cells_filled place.part content) ≡ Ok after

le_true : (a b : ℕ) → leb a b ≡ true → a ≤ b
le_true a b h = grind (arith, nat_tests)

counted_more : (part : Part) (words bytes number : ℕ) (ps : List Placed) (content : Content) (after : Place) → after_cells (record { part = part; words = words; bytes = bytes }) (cells_filled part content) ≡ Ok after → IsCounted (record { part = part; words = words; bytes = bytes }) ps → IsCounted after (ps ++ record { place = record { part = part; words = words; bytes = bytes }; content = content; line = number } ∷ [])
counted_more Text words bytes number ps content after e h =
    let p : Placed = record { place = record { part = Text; words = words; bytes = bytes }; content = content; line = number } in
    let moved : Place = record { part = Text; words = words + words_in content; bytes = bytes } in
    let fits = when_ok (leb (words + words_in content) most_cells) Range (Ok moved) after e in
    let is = ok_is moved after fits.1 in
    let more_words : sum_by text_cells (ps ++ p ∷ []) ≡ sum_by text_cells ps + sum_by text_cells (p ∷ []) = sum_by-append text_cells ps (p ∷ []) in
    let more_bytes : sum_by data_cells (ps ++ p ∷ []) ≡ sum_by data_cells ps + sum_by data_cells (p ∷ []) = sum_by-append data_cells ps (p ∷ []) in
    subst (λ (a : Place). IsCounted a (ps ++ p ∷ [])) is (record { words = omega (arith, more_words, h.words); bytes = omega (arith, more_bytes, h.bytes); words_fit = le_true _ _ fits.0; bytes_fit = h.bytes_fit })
counted_more Data words bytes number ps content after e h =
    let p : Placed = record { place = record { part = Data; words = words; bytes = bytes }; content = content; line = number } in
    let moved : Place = record { part = Data; words = words; bytes = bytes + bytes_each content * words_in content } in
    let fits = when_ok (leb (bytes + bytes_each content * words_in content) most_cells) Range (Ok moved) after e in
    let is = ok_is moved after fits.1 in
    let more_words : sum_by text_cells (ps ++ p ∷ []) ≡ sum_by text_cells ps + sum_by text_cells (p ∷ []) = sum_by-append text_cells ps (p ∷ []) in
    let more_bytes : sum_by data_cells (ps ++ p ∷ []) ≡ sum_by data_cells ps + sum_by data_cells (p ∷ []) = sum_by-append data_cells ps (p ∷ []) in
    subst (λ (a : Place). IsCounted a (ps ++ p ∷ [])) is (record { words = omega (arith, more_words, h.words); bytes = omega (arith, more_bytes, h.bytes); words_fit = h.words_fit; bytes_fit = le_true _ _ fits.0 })

counted_put : (place after : Place) (number : ℕ) (ps : List Placed) (content : Option Content) → MovesBy place after content → IsCounted place ps → IsCounted after (ps ++ put_at place number content)
counted_put place after number ps None moves h =
    subst (λ (l : List Placed). IsCounted after l) (sym (append-nil ps)) (record { words = h.words ∙ sym moves.0; bytes = h.bytes ∙ sym moves.1; words_fit = omega (arith, h.words_fit, moves.0); bytes_fit = omega (arith, h.bytes_fit, moves.1) })
counted_put place after number ps (Some content) moves h = counted_more place.part place.words place.bytes number ps content after moves h

-- ---- lines

stays : (place after : Place) (names : Table) (taken : Effect) → after.words ≡ place.words → after.bytes ≡ place.bytes → Is (Ok (record { place = after; names = names; content = None })) taken → MovesBy place taken.place taken.content
stays place after names taken words bytes h =
    let t : Effect = record { place = after; names = names; content = None } in
    let here : MovesBy place t.place t.content = (words, bytes) in
    subst (λ (u : Effect). MovesBy place u.place u.content) (ok_is t taken h) here

names_move : (place : Place) (r : Result Table Cause) (taken : Effect) → (r >>= λ named. Ok (record { place = place; names = named; content = None })) ≡ Ok taken → MovesBy place taken.place taken.content
names_move place (Ok named) taken h = stays place place named taken refl refl h
names_move place (Err c) taken h = cc

equal_moves : (place : Place) (names : Table) (name : List ℕ) (e : Expr) (taken : Effect) → equal_effect place names name e ≡ Ok taken → MovesBy place taken.place taken.content
unfolding equal_effect
equal_moves place names name e taken h = names_move place (equal_named names (pos (address_of place)) name e) taken h

after_put : (content : Content) (q r : Result Place Cause) (put : Content × Place) → ((after : Place) → q ≡ Ok after → r ≡ Ok after) → (q >>= λ after. Ok (content, after)) ≡ Ok put → (content ≡ put.0) × (r ≡ Ok put.1)
after_put content (Ok after) r put here e =
    let is : (content, after) ≡ put = cc in
    (ap (λ p. p.0) is, here after refl ∙ ap (λ (p : Content × Place). Ok p.1) is)
after_put content (Err c) r put here e = cc

put_moves : (place : Place) (names : Table) (r : Result Content Cause) (put : Content × Place) → (r >>= λ content. put_place place names content >>= λ after. Ok (content, after)) ≡ Ok put → after_cells place (cells_filled place.part put.0) ≡ Ok put.1
unfolding put_place
put_moves place names (Ok content) put e =
    let cells = after_cells place (cells_filled place.part content) in
    let moved = after_put content (cond (has_outside names place content) (Err Range) cells) cells put (λ after h. unless_ok (has_outside names place content) Range cells after h) e in
    ap (λ (c : Content). after_cells place (cells_filled place.part c)) (sym moved.0) ∙ moved.1
put_moves place names (Err c) put e = cc

put_effect_moves : (place : Place) (names : Table) (r : Result (Content × Place) Cause) (taken : Effect) → ((put : Content × Place) → r ≡ Ok put → after_cells place (cells_filled place.part put.0) ≡ Ok put.1) → (r >>= λ put. Ok (record { place = put.1; names = names; content = Some put.0 })) ≡ Ok taken → MovesBy place taken.place taken.content
put_effect_moves place names (Ok put) taken here h =
    let t : Effect = record { place = put.1; names = names; content = Some put.0 } in
    subst (λ (u : Effect). MovesBy place u.place u.content) (ok_is t taken h) (here put refl)
put_effect_moves place names (Err c) taken here h = cc

content_moves : (place : Place) (names : Table) (s : Statement) (taken : Effect) → content_effect place names s ≡ Ok taken → MovesBy place taken.place taken.content
unfolding content_effect content_put
content_moves place names s taken h =
    put_effect_moves place names (content_put place names s) taken (λ put e. put_moves place names (content_of place names s) put e) h

statement_moves : (place : Place) (names : Table) (s : Statement) (taken : Effect) → statement_effect place names s ≡ Ok taken → MovesBy place taken.place taken.content
statement_moves place names Nothing taken h = stays place place names taken refl refl h
statement_moves place names (Enter part) taken h = stays place (in_part part place) names taken refl refl h
statement_moves place names (Equal name e) taken h = equal_moves place names name e taken h
statement_moves place names (Whole i) taken h = content_moves place names (Whole i) taken h
statement_moves place names (Asks demand values) taken h = content_moves place names (Asks demand values) taken h
statement_moves place names (LoadNumber rd source) taken h = content_moves place names (LoadNumber rd source) taken h
statement_moves place names (Zeros number) taken h = content_moves place names (Zeros number) taken h
statement_moves place names (Align exponent) taken h = content_moves place names (Align exponent) taken h

named_moves : (place : Place) (r : Result Table Cause) (s : Statement) (taken : Effect) → (r >>= λ named. statement_effect place named s) ≡ Ok taken → MovesBy place taken.place taken.content
named_moves place (Ok named) s taken h = statement_moves place named s taken h
named_moves place (Err c) s taken h = cc

parts_move : (place : Place) (names : Table) (line : Line) (taken : Effect) → parts_effect place names line ≡ Ok taken → MovesBy place taken.place taken.content
unfolding parts_effect
parts_move place names line taken h =
    let named = with_labels names (pos (address_of place)) line.labels in
    named_moves place named line.statement taken (unless_ok (is_misplaced place.part line.statement) BadLine (named >>= λ n. statement_effect place n line.statement) taken h)

read_moves : (place : Place) (names : Table) (line : Option Line) (taken : Effect) → read_effect place names line ≡ Ok taken → MovesBy place taken.place taken.content
read_moves place names None taken h = cc
read_moves place names (Some line) taken h = parts_move place names line taken h

line_moves : (place : Place) (names : Table) (bytes : List ℕ) (taken : Effect) → line_effect place names bytes ≡ Ok taken → MovesBy place taken.place taken.content
unfolding line_effect
line_moves place names bytes taken h = read_moves place names (line_of bytes) taken h

effect_counted : (layout next : Layout) (number : ℕ) (r : Result Effect Cause) → ((taken : Effect) → r ≡ Ok taken → MovesBy layout.place taken.place taken.content) → (r >>= λ taken. Ok (with_effect layout number taken)) ≡ Ok next → IsCounted layout.place layout.placed → IsCounted next.place next.placed
effect_counted layout next number (Ok taken) moves h counted =
    let here = counted_put layout.place taken.place number layout.placed taken.content (moves taken refl) counted in
    subst (λ (l : Layout). IsCounted l.place l.placed) (ok_is (with_effect layout number taken) next h) here
effect_counted layout next number (Err c) moves h counted = cc

line_counted : (layout next : Layout) (number : ℕ) (line : List ℕ) → after_line layout number line ≡ Ok next → IsCounted layout.place layout.placed → IsCounted next.place next.placed
unfolding after_line
line_counted layout next number line h counted =
    effect_counted layout next number (line_effect layout.place layout.names line) (λ taken e. line_moves layout.place layout.names line taken e) h counted

counted_on : (r : Result Layout Cause) (f : Layout → Result Layout Cause) (last : Layout) → ((next : Layout) → r ≡ Ok next → IsCounted next.place next.placed) → ((next : Layout) → f next ≡ Ok last → IsCounted next.place next.placed → IsCounted last.place last.placed) → (r >>= f) ≡ Ok last → IsCounted last.place last.placed
counted_on (Ok next) f last here onwards h = onwards next h (here next refl)
counted_on (Err c) f last here onwards h = cc

lines_counted : (layout last : Layout) (before : ℕ) (ls : List (List ℕ)) → after_lines layout before ls ≡ Ok last → IsCounted layout.place layout.placed → IsCounted last.place last.placed
lines_counted layout last before [] h counted = subst (λ (l : Layout). IsCounted l.place l.placed) (ok_is layout last h) counted
lines_counted layout last before (line ∷ more) h counted =
    counted_on (after_line layout (number_after before) line) (λ next. after_lines next (before + 1) more) last (λ next e. line_counted layout next (number_after before) line e counted) (λ next e c. lines_counted next last (before + 1) more e c) h

-- the image of a program has room in memory
image_has_room : (ls : List (List ℕ)) (image : Image) → IsImageOf ls image → IsWithinRegions image
image_has_room ls image is =
    let counted = lines_counted start is.layout 0 ls is.laid (record { words = refl; bytes = refl; words_fit = omega arith; bytes_fit = omega arith }) in
    let names = is.layout.names in
    let ps = is.layout.placed in
    let text = ap length is.has.text ∙ texts_length names ps is.has.right in
    let bytes = bytes_length names ps is.has.right in
    let values = ap length is.has.values in
    record {
      text = omega (arith, text, counted.words, counted.words_fit);
      lines = ap length is.has.lines ∙ lines_length names ps ∙ sym (ap length is.has.text);
      values = omega (arith, values, values_length (flat_map (data_bytes names) ps), bytes, counted.bytes, counted.bytes_fit);
    }

pub room_if_ok : (ls : List (List ℕ)) (layout : Layout) (outcome : Result Image AsmFault) → layout_of ls ≡ Ok layout → IfOk outcome (HasPlaced layout.names layout.placed) → IfOk outcome IsWithinRegions
room_if_ok ls layout (Ok image) laid has = image_has_room ls image (record { layout = layout; laid = laid; has = has })
room_if_ok ls layout (Err f) laid has = has
