-- A word that is not short is plain or a long option, for the grammar as for clap.
use Rattle.std.proofs.Common.{◌≡◌, ◌⊎◌, ◌==◌, Bool, true, false, [], ◌∷◌, Option, Some, None, bytes_eq, inl, inr, refl}
use Rattle.clap.specs.Lexer.{long_of, short_of}
use Rattle.command_words.specs.Clap.{is_short}
use Rattle.command_words.specs.Tables.{Text}
use Rattle.command_words.specs.Words.{begins_with_minus, name_and_value, option_word}

-- no minus sign is first
pub record IsPlain (w : Text) : Type 0 where
  pub dashes : bytes_eq w (45 ∷ 45 ∷ []) ≡ false
  pub long : long_of w ≡ None
  pub short : short_of w ≡ None
  pub word : option_word w ≡ None
  pub minus : begins_with_minus w ≡ false

-- a name, and maybe a value, after two minus signs
pub record IsLong (w : Text) : Type 0 where
  pub name : Text
  pub value : Option Text
  pub dashes : bytes_eq w (45 ∷ 45 ∷ []) ≡ false
  pub long : long_of w ≡ Some (name, value)
  pub word : option_word w ≡ Some (name, value)
  pub minus : begins_with_minus w ≡ true

pub look : (w : Text) → is_short w ≡ false → IsPlain w ⊎ IsLong w
look [] h = inl (record { dashes = refl; long = refl; short = refl; word = refl; minus = refl })
look (c ∷ []) h = go (c == 45) refl
  where
    go : (b : Bool) → (c == 45) ≡ b → IsPlain (c ∷ []) ⊎ IsLong (c ∷ [])
    go true e = let bad : true ≡ false = rw e at h in cc
    go false e = inl (record {
      dashes = rw e refl;
      long = rw e refl;
      short = rw e refl;
      word = rw e refl;
      minus = rw e refl;
    })
look (c ∷ d ∷ ds) h = go (c == 45) refl
  where
    second : (e : Text) → is_short (c ∷ d ∷ e) ≡ false → (c == 45) ≡ true → (d == 45) ≡ true → IsLong (c ∷ d ∷ e)
    second [] k e f = let bad : true ≡ false = rw (e, f) at k in cc
    second (x ∷ xs) k e f = record {
      name = (name_and_value (x ∷ xs)).0;
      value = (name_and_value (x ∷ xs)).1;
      dashes = rw (e, f) refl;
      long = rw (e, f) refl;
      word = rw (e, f) refl;
      minus = rw e refl;
    }

    first : (b : Bool) → (d == 45) ≡ b → (c == 45) ≡ true → IsPlain (c ∷ d ∷ ds) ⊎ IsLong (c ∷ d ∷ ds)
    first true f e = inr (second ds h e f)
    first false f e = let bad : true ≡ false = rw (e, f) at h in cc

    go : (b : Bool) → (c == 45) ≡ b → IsPlain (c ∷ d ∷ ds) ⊎ IsLong (c ∷ d ∷ ds)
    go true e = first (d == 45) refl e
    go false e = inl (record {
      dashes = rw e refl;
      long = rw e refl;
      short = rw e refl;
      word = rw e refl;
      minus = rw e refl;
    })
