-- Short words are outside the grammar.
use Rattle.std.proofs.Common.{◌≡◌, ◌==◌, ◌||◌, ◌∙◌, ap, Bool, true, false, List, [], ◌∷◌, Option, Some, None, cond, option_and_then, option_map, refl, sym}
use Rattle.std.specs.List.{list_any}
use Rattle.command_words.specs.Clap.{is_short}
use Rattle.command_words.specs.Tables.{Argument, Table, Text, has_value}
use Rattle.command_words.specs.Words.{Given, begins_with_minus, given, given_by, if_once, known_met, option_met, option_named, option_word, place_met, split, value_among, value_met, values_by, word_met}

same_by : (b : Bool) → let none : Option Given = None in cond b none none ≡ none
same_by true = refl
same_by false = refl

-- where the words that follow have no split, neither has the whole

value_fails : (a : Argument) (w : Text) (rest : Option Argument → Option Given) → ((o : Option Argument) → rest o ≡ None)
    → value_met a w rest ≡ None
value_fails a w rest h =
    ap (λ more. cond (begins_with_minus w) None (given a w more)) (h None) ∙ same_by (begins_with_minus w)

place_fails : (place : Option Argument) (w : Text) (rest : Option Argument → Option Given) → ((o : Option Argument) → rest o ≡ None)
    → place_met place w rest ≡ None
place_fails None w rest h = refl
place_fails (Some a) w rest h = value_fails a w rest h

option_fails : (b : Bool) (a : Argument) (v : Option Text) (rest : Option Argument → Option Given) → ((o : Option Argument) → rest o ≡ None)
    → option_met b a v rest ≡ None
option_fails true a None rest h = h (Some a)
option_fails true a (Some v) rest h = ap (given a v) (h None)
option_fails false a None rest h = ap (given a []) (h None)
option_fails false a (Some v) rest h = refl

known_fails : (o : Option Argument) (v : Option Text) (rest : Option Argument → Option Given) → ((o : Option Argument) → rest o ≡ None)
    → known_met o v rest ≡ None
known_fails None v rest h = refl
known_fails (Some a) v rest h = option_fails (has_value a.meaning) a v rest h

word_fails : (t : Table) (o : Option (Text × Option Text)) (w : Text) (rest : Option Argument → Option Given)
    → ((o : Option Argument) → rest o ≡ None) → word_met t o w rest ≡ None
word_fails t None w rest h = place_fails t.place w rest h
word_fails t (Some p) w rest h = known_fails (option_named t.options p.0) p.1 rest h

-- ---- a short word

-- it begins with a minus sign, and is no option or one without a name
pub record IsShort (w : Text) : Type 0 where
  pub minus : begins_with_minus w ≡ true
  pub unnamed : (t : Table) → option_named t.options [] ≡ None → (rest : Option Argument → Option Given)
      → word_met t (option_word w) w rest ≡ None

place_minus : (place : Option Argument) (w : Text) (rest : Option Argument → Option Given) → begins_with_minus w ≡ true
    → place_met place w rest ≡ None
place_minus None w rest h = refl
place_minus (Some a) w rest h = ap (λ b. cond b None (given a w (rest None))) h

short_is : (w : Text) → is_short w ≡ true → IsShort w
short_is [] h = cc
short_is (c ∷ []) h = go (c == 45) refl
  where
    go : (b : Bool) → (c == 45) ≡ b → IsShort (c ∷ [])
    go true e = record {
      minus = rw e refl;
      unnamed = λ t n rest. rw e (place_minus t.place (c ∷ []) rest (rw e refl));
    }
    go false e = let bad : false ≡ true = rw e at h in cc
short_is (c ∷ d ∷ ds) h = go (c == 45) refl
  where
    second : (e : Text) → is_short (c ∷ d ∷ e) ≡ true → (c == 45) ≡ true → (b : Bool) → (d == 45) ≡ b → IsShort (c ∷ d ∷ e)
    second [] k e true f = record {
      minus = rw e refl;
      unnamed = λ t n rest. rw (e, f) (ap (λ o. known_met o None rest) n);
    }
    second (x ∷ xs) k e true f = let bad : false ≡ true = rw (e, f) at k in cc
    second more k e false f = record {
      minus = rw e refl;
      unnamed = λ t n rest. rw (e, f) (place_minus t.place (c ∷ d ∷ more) rest (rw e refl));
    }

    go : (b : Bool) → (c == 45) ≡ b → IsShort (c ∷ d ∷ ds)
    go true e = second ds h e (d == 45) refl
    go false e = let bad : false ≡ true = rw e at h in cc

short_fails : (t : Table) → option_named t.options [] ≡ None → (words : List Text) → list_any is_short words ≡ true
    → (o : Option Argument) → split t words o ≡ None
short_fails t n [] h o = cc
short_fails t n (w ∷ words) h o = go (is_short w) refl h (short_fails t n words) o
  where
    go : (b : Bool) → is_short w ≡ b → (b || list_any is_short words) ≡ true
        → (list_any is_short words ≡ true → (o : Option Argument) → split t words o ≡ None)
        → (o : Option Argument) → split t (w ∷ words) o ≡ None
    go true e k next None = (short_is w e).unnamed t n (split t words)
    go true e k next (Some a) = ap (λ b. cond b None (given a w (split t words None))) (short_is w e).minus
    go false e k next None = word_fails t (option_word w) w (split t words) (next k)
    go false e k next (Some a) = value_fails a w (split t words) (next k)

pub short_refused : (t : Table) → option_named t.options [] ≡ None → (words : List Text) → list_any is_short words ≡ true
    → None ≡ values_by t words
unfolding given_by
short_refused t n words h =
    sym (ap (λ more. option_map value_among (option_and_then if_once more)) (short_fails t n words h None))
