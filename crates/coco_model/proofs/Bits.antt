-- Bits: whether two are the same, exclusive or, and signs.
use Rattle.std.proofs.Common.{◌≡◌, ◌≢◌, ◌⊎◌, inl, inr, Bool, true, false, ◌&&◌, not, refl, sym, arith, ℤ, pos, neg_ℤ, ◌+ℤ◌}
use Rattle.std.proofs.lemmas.Int.{ints}
use Rattle.std.proofs.lemmas.Bool.{true≢false, false≢true}
use Rattle.coco_model.specs.Cells.{xor, signed}

pub same_or_not : (a b : Bool) → (a ≡ b) ⊎ (a ≢ b)
same_or_not true true = inl refl
same_or_not true false = inr true≢false
same_or_not false true = inr false≢true
same_or_not false false = inl refl

pub xor-false : (a : Bool) → xor a false ≡ a
xor-false true = refl
xor-false false = refl

pub xor-same : (a : Bool) → xor a a ≡ false
xor-same true = refl
xor-same false = refl

pub xor-swap : (a b c : Bool) → xor a (xor b c) ≡ xor b (xor a c)
xor-swap true true c = refl
xor-swap true false c = refl
xor-swap false b c = refl

pub not-not : (b : Bool) → not (not b) ≡ b
not-not true = refl
not-not false = refl

pub xor-assoc : (a b c : Bool) → xor (xor a b) c ≡ xor a (xor b c)
xor-assoc true true c = sym (not-not c)
xor-assoc true false c = refl
xor-assoc false b c = refl

pub xor-comm : (a b : Bool) → xor a b ≡ xor b a
xor-comm true true = refl
xor-comm true false = refl
xor-comm false true = refl
xor-comm false false = refl

-- a value that is taken out twice
pub xor-twice : (a b : Bool) → xor a (xor a b) ≡ b
xor-twice true true = refl
xor-twice true false = refl
xor-twice false b = refl

pub xor-four : (a b c d : Bool) → xor (xor a b) (xor c d) ≡ xor (xor a c) (xor b d)
xor-four true true c d = go c
  where
    go : (c : Bool) → xor c d ≡ xor (not c) (not d)
    go true = refl
    go false = sym (not-not d)
xor-four true false c d = go c
  where
    go : (c : Bool) → not (xor c d) ≡ xor (not c) d
    go true = not-not d
    go false = refl
xor-four false b c d = xor-swap b c d

pub and-false : (a : Bool) → (a && false) ≡ false
and-false true = refl
and-false false = refl

pub and-true : (a : Bool) → (a && true) ≡ a
and-true true = refl
and-true false = refl

-- one factor out of an exclusive or
pub and-xor : (a b c : Bool) → (xor a b && c) ≡ xor (a && c) (b && c)
and-xor true true true = refl
and-xor true true false = refl
and-xor true false c = sym (xor-false c)
and-xor false b c = refl

pub and-xor_right : (a b c : Bool) → (a && xor b c) ≡ xor (a && b) (a && c)
and-xor_right true b c = refl
and-xor_right false b c = refl

pub signed-xor : (a b : Bool) (x : ℤ) → signed (xor a b) x ≡ signed a (signed b x)
signed-xor true true x = omega (arith, ints)
signed-xor true false x = refl
signed-xor false b x = refl

pub signed-add : (b : Bool) (x y : ℤ) → signed b (x +ℤ y) ≡ signed b x +ℤ signed b y
signed-add true x y = omega (arith, ints)
signed-add false x y = refl

pub signed-zero : (b : Bool) → signed b (pos 0) ≡ pos 0
signed-zero true = omega (arith, ints)
signed-zero false = refl

pub signed-neg : (b : Bool) (x : ℤ) → signed b (neg_ℤ x) ≡ neg_ℤ (signed b x)
signed-neg true x = refl
signed-neg false x = refl

pub signed_from_zero : (b : Bool) (x : ℤ) → signed b x ≡ pos 0 → x ≡ pos 0
signed_from_zero true x e = omega (arith, ints)
signed_from_zero false x e = e
