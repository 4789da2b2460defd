-- A text stands for one list of items only.
use Rattle.std.proofs.Common.{◌≡◌, ℕ, suc, ◌+◌, ◌<◌, ◌≤◌, Bool, true, false, List, [], ◌∷◌, ◌++◌, length, get_or, decimal, refl, sym, ◌∙◌, ap, subst, arith}
use Rattle.std.specs.List.{flat_map, All}
use Rattle.std.proofs.lemmas.List.{append_assoc, append-nil, get_or_append_left}
use Rattle.std.proofs.lemmas.Fmt.{decimal_injective, first_decimal, decimal_digit, decimal_nonempty}
use Rattle.clause_store.specs.declared.lit.Lit.{Lit}
use Rattle.clause_store.specs.declared.line.Cut.{Cut}
use Rattle.clause_store.specs.declared.line.Line.{Line}
use Rattle.clause_store.proofs.Signs.{lits_equal}
use Rattle.derivation_check.specs.Texts.{index_text, lit_text, cut_text, line_text, lits_text, cuts_text, IsIndex, IsLitInRange, IsCutInRange, IsPrintable, AreDigits}
use Rattle.derivation_check.proofs.Numbers.{decimal_digits}

pub digits_tail : (d : ℕ) (ds : List ℕ) → AreDigits (d ∷ ds) → AreDigits ds
digits_tail d ds digits = λ k lt. digits (suc k) (omega arith)

-- digits up to a byte that is none
pub digits_prefix : (ds es x y : List ℕ) (end : ℕ) → AreDigits ds → AreDigits es → end < 48 → ds ++ end ∷ x ≡ es ++ end ∷ y → (ds ≡ es) × (x ≡ y)
digits_prefix [] [] x y end dd de small e = let t : x ≡ y = cc in (refl, t)
digits_prefix [] (f ∷ es) x y end dd de small e =
    let h : end ≡ f = cc in let low : 48 ≤ f = (de 0 (omega arith)).0 in absurd (omega arith)
digits_prefix (d ∷ ds) [] x y end dd de small e =
    let h : d ≡ end = cc in let low : 48 ≤ d = (dd 0 (omega arith)).0 in absurd (omega arith)
digits_prefix (d ∷ ds) (f ∷ es) x y end dd de small e =
    let h : d ≡ f = cc in
    let t : ds ++ end ∷ x ≡ es ++ end ∷ y = cc in
    let rest : (ds ≡ es) × (x ≡ y) = digits_prefix ds es x y end (digits_tail d ds dd) (digits_tail f es de) small t in
    let a : ds ≡ es = rest.0 in
    let whole : d ∷ ds ≡ f ∷ es = cc in
    (whole, rest.1)

pub number_unique : (m n : ℕ) (x y : List ℕ) (end : ℕ) → m ≤ 2147483647 → n ≤ 2147483647 → end < 48 → decimal m ++ end ∷ x ≡ decimal n ++ end ∷ y → (m ≡ n) × (x ≡ y)
number_unique m n x y end hm hn small e =
    let p : (decimal m ≡ decimal n) × (x ≡ y) = digits_prefix (decimal m) (decimal n) x y end (decimal_digits m hm) (decimal_digits n hn) small e in
    (decimal_injective m n (omega arith) (omega arith) p.0, p.1)

pub index-append : (n : ℕ) (x : List ℕ) → index_text n ++ x ≡ decimal (n + 1) ++ 32 ∷ x
index-append n x = append_assoc (decimal (n + 1)) (32 ∷ []) x

pub index_unique : (m n : ℕ) (x y : List ℕ) → IsIndex m → IsIndex n → index_text m ++ x ≡ index_text n ++ y → (m ≡ n) × (x ≡ y)
index_unique m n x y hm hn e =
    let f : decimal (m + 1) ++ 32 ∷ x ≡ decimal (n + 1) ++ 32 ∷ y = sym (index-append m x) ∙ e ∙ index-append n y in
    let p : (m + 1 ≡ n + 1) × (x ≡ y) = number_unique (m + 1) (n + 1) x y 32 (omega arith) (omega arith) (omega arith) f in
    let q : m + 1 ≡ n + 1 = p.0 in
    (omega arith, p.1)

-- the first byte of a number from 1 on is a digit above 0
pub index_not : (n b : ℕ) (x y : List ℕ) → IsIndex n → b ≤ 48 → index_text n ++ x ≡ b ∷ y → ⊥
index_not n b x y h le e =
    let f : decimal (n + 1) ++ 32 ∷ x ≡ b ∷ y = sym (index-append n x) ∙ e in
    let some : 0 < length (decimal (n + 1)) = decimal_nonempty (n + 1) (omega arith) in
    let at : get_or (decimal (n + 1) ++ 32 ∷ x) 0 0 ≡ get_or (decimal (n + 1)) 0 0 = get_or_append_left (decimal (n + 1)) (32 ∷ x) 0 0 some in
    let first : 48 < get_or (decimal (n + 1)) 0 0 = first_decimal (n + 1) (omega arith) (omega arith) in
    let byte : get_or (decimal (n + 1) ++ 32 ∷ x) 0 0 ≡ b = rw f refl in
    omega arith

pub zero_no_index : (n : ℕ) (x y : List ℕ) → IsIndex n → decimal 0 ++ 32 ∷ x ≡ index_text n ++ y → ⊥
zero_no_index n x y h e =
    let z : decimal 0 ≡ 48 ∷ [] = decimal_digit 0 (omega arith) in
    let f : index_text n ++ y ≡ 48 ∷ 32 ∷ x = sym e ∙ ap (λ t. t ++ 32 ∷ x) z in
    index_not n 48 y (32 ∷ x) h (omega arith) f

lit_text-yes : (l : Lit) → l.positive ≡ true → lit_text l ≡ index_text l.var
lit_text-yes l e = rw e refl

lit_text-no : (l : Lit) → l.positive ≡ false → lit_text l ≡ 45 ∷ index_text l.var
lit_text-no l e = rw e refl

pub lit_unique : (l m : Lit) (x y : List ℕ) → IsLitInRange l → IsLitInRange m → lit_text l ++ x ≡ lit_text m ++ y → (l ≡ m) × (x ≡ y)
lit_unique l m x y hl hm e = go l.positive m.positive refl refl
  where
    go : (p q : Bool) → l.positive ≡ p → m.positive ≡ q → (l ≡ m) × (x ≡ y)
    go true true p q =
        let f : index_text l.var ++ x ≡ index_text m.var ++ y = rw (lit_text-yes l p, lit_text-yes m q) at e in
        let u : (l.var ≡ m.var) × (x ≡ y) = index_unique l.var m.var x y hl hm f in
        (lits_equal l m u.0 (p ∙ sym q), u.1)
    go true false p q =
        let f : index_text l.var ++ x ≡ 45 ∷ (index_text m.var ++ y) = rw (lit_text-yes l p, lit_text-no m q) at e in
        absurd (index_not l.var 45 x (index_text m.var ++ y) hl (omega arith) f)
    go false true p q =
        let f : 45 ∷ (index_text l.var ++ x) ≡ index_text m.var ++ y = rw (lit_text-no l p, lit_text-yes m q) at e in
        absurd (index_not m.var 45 y (index_text l.var ++ x) hm (omega arith) (sym f))
    go false false p q =
        let f : 45 ∷ (index_text l.var ++ x) ≡ 45 ∷ (index_text m.var ++ y) = rw (lit_text-no l p, lit_text-no m q) at e in
        let g : index_text l.var ++ x ≡ index_text m.var ++ y = cc in
        let u : (l.var ≡ m.var) × (x ≡ y) = index_unique l.var m.var x y hl hm g in
        (lits_equal l m u.0 (p ∙ sym q), u.1)

pub lit_stop : (l : Lit) (x y : List ℕ) → IsLitInRange l → lit_text l ++ x ≡ 48 ∷ y → ⊥
lit_stop l x y h e = go l.positive refl
  where
    go : (p : Bool) → l.positive ≡ p → ⊥
    go true p =
        let f : index_text l.var ++ x ≡ 48 ∷ y = rw (lit_text-yes l p) at e in
        index_not l.var 48 x y h (omega arith) f
    go false p =
        let f : 45 ∷ (index_text l.var ++ x) ≡ 48 ∷ y = rw (lit_text-no l p) at e in
        let n : get_or (45 ∷ (index_text l.var ++ x)) 0 0 ≡ get_or (48 ∷ y) 0 0 = ap (λ (t : List ℕ). get_or t 0 0) f in
        absurd (omega arith)

-- behind a minus sign only a negative literal can stand
pub minus_lit : (l : Lit) (x y : List ℕ) → IsLitInRange l → 45 ∷ y ≡ lit_text l ++ x → ((n : ℕ) (more : List ℕ) → IsIndex n → y ≡ index_text n ++ more → ⊥) → ⊥
minus_lit l x y h e none = go l.positive refl
  where
    go : (p : Bool) → l.positive ≡ p → ⊥
    go true p =
        let f : 45 ∷ y ≡ index_text l.var ++ x = rw (lit_text-yes l p) at e in
        index_not l.var 45 x y h (omega arith) (sym f)
    go false p =
        let f : 45 ∷ y ≡ 45 ∷ (index_text l.var ++ x) = rw (lit_text-no l p) at e in
        let g : y ≡ index_text l.var ++ x = cc in
        none l.var x h g

abbrev cut_of : ℕ → ℕ → Cut
cut_of v i = record { var = v; id = i }

cuts_equal : (a b : Cut) → a.var ≡ b.var → a.id ≡ b.id → a ≡ b
cuts_equal a b v i =
    let e : cut_of a.var a.id ≡ cut_of b.var b.id = cc in e

pub cut_unique : (a b : Cut) (x y : List ℕ) → IsCutInRange a → IsCutInRange b → cut_text a ++ x ≡ cut_text b ++ y → (a ≡ b) × (x ≡ y)
cut_unique a b x y ha hb e =
    let f : index_text a.var ++ (index_text a.id ++ x) ≡ index_text b.var ++ (index_text b.id ++ y) =
    sym (append_assoc (index_text a.var) (index_text a.id) x) ∙ e ∙ append_assoc (index_text b.var) (index_text b.id) y in
    let u : (a.var ≡ b.var) × (index_text a.id ++ x ≡ index_text b.id ++ y) = index_unique a.var b.var (index_text a.id ++ x) (index_text b.id ++ y) ha.var hb.var f in
    let w : (a.id ≡ b.id) × (x ≡ y) = index_unique a.id b.id x y ha.id hb.id u.1 in
    (cuts_equal a b u.0 w.0, w.1)

pub cut_stop : (a : Cut) (x y : List ℕ) → IsCutInRange a → cut_text a ++ x ≡ 48 ∷ y → ⊥
cut_stop a x y h e =
    index_not a.var 48 (index_text a.id ++ x) y h.var (omega arith) (sym (append_assoc (index_text a.var) (index_text a.id) x) ∙ e)

-- texts of items that tell the items, and never begin like what stands behind the last one
pub record AreTold {X : Type 0} (text : X → List ℕ) (Good : X → Type 0) : Type 0 where
  pub unique : (a b : X) (x y : List ℕ) → Good a → Good b → text a ++ x ≡ text b ++ y → (a ≡ b) × (x ≡ y)
  pub stop : (a : X) (x y : List ℕ) → Good a → text a ++ x ≡ 48 ∷ y → ⊥

pub lits_told : AreTold lit_text IsLitInRange
lits_told = record { unique = lit_unique; stop = lit_stop }

pub cuts_told : AreTold cut_text IsCutInRange
cuts_told = record { unique = cut_unique; stop = cut_stop }

pub all_first : {X : Type 0} (P : X → Type 0) (x : X) (xs : List X) → All P (x ∷ xs) → P x
all_first P x xs all = all 0 x (omega arith)

pub all_rest : {X : Type 0} (P : X → Type 0) (x : X) (xs : List X) → All P (x ∷ xs) → All P xs
all_rest P x xs all = λ k d lt. all (suc k) d (omega arith)

-- the items of a text begin with those that were read
pub items_prefix : {X : Type 0} (text : X → List ℕ) (Good : X → Type 0) → AreTold text Good → (done xs : List X) (now tail : List ℕ) → All Good done → All Good xs → flat_map text done ++ now ≡ flat_map text xs ++ 48 ∷ tail → (rest : List X) × (xs ≡ done ++ rest) × (now ≡ flat_map text rest ++ 48 ∷ tail)
items_prefix text Good told [] xs now tail gd gx e = (xs, refl, e)
items_prefix text Good told (d ∷ done) [] now tail gd gx e =
    let f : text d ++ (flat_map text done ++ now) ≡ 48 ∷ tail = sym (append_assoc (text d) (flat_map text done) now) ∙ e in
    absurd (told.stop d (flat_map text done ++ now) tail (all_first Good d done gd) f)
items_prefix {X} text Good told (d ∷ done) (x ∷ xs) now tail gd gx e =
    let f : text d ++ (flat_map text done ++ now) ≡ text x ++ (flat_map text xs ++ 48 ∷ tail) =
    sym (append_assoc (text d) (flat_map text done) now) ∙ e ∙ append_assoc (text x) (flat_map text xs) (48 ∷ tail) in
    let u : (d ≡ x) × (flat_map text done ++ now ≡ flat_map text xs ++ 48 ∷ tail) =
    told.unique d x (flat_map text done ++ now) (flat_map text xs ++ 48 ∷ tail) (all_first Good d done gd) (all_first Good x xs gx) f in
    let r : (rest : List X) × (xs ≡ done ++ rest) × (now ≡ flat_map text rest ++ 48 ∷ tail) =
    items_prefix text Good told done xs now tail (all_rest Good d done gd) (all_rest Good x xs gx) u.1 in
    let a : d ≡ x = u.0 in
    let b : xs ≡ done ++ r.0 = r.1 in
    (r.0, cc, r.2)

pub good_behind : {X : Type 0} (Good : X → Type 0) (done : List X) (x : X) (rest : List X) → All Good (done ++ x ∷ rest) → Good x
good_behind Good [] x rest all = all_first Good x rest all
good_behind Good (d ∷ done) x rest all = good_behind Good done x rest (all_rest Good d (done ++ x ∷ rest) all)

-- where neither an item nor the end follows what was read, the text is none of a list
pub items_stop : {X : Type 0} (text : X → List ℕ) (Good : X → Type 0) → AreTold text Good → (end : ℕ) (done : List X) (init now : List ℕ) → ((more : List ℕ) → now ≡ 48 ∷ end ∷ more → ⊥) → ((x : X) (more : List ℕ) → Good x → now ≡ text x ++ more → ⊥) → All Good done → init ≡ flat_map text done ++ now → (xs : List X) (more : List ℕ) → All Good xs → init ≡ flat_map text xs ++ 48 ∷ end ∷ more → ⊥
items_stop {X} text Good told end done init now no_end no_item gd read xs more gx e =
    let r : (rest : List X) × (xs ≡ done ++ rest) × (now ≡ flat_map text rest ++ 48 ∷ end ∷ more) =
    items_prefix text Good told done xs now (end ∷ more) gd gx (sym read ∙ e) in
    go r.0 r.1 r.2
  where
    go : (rest : List X) → xs ≡ done ++ rest → now ≡ flat_map text rest ++ 48 ∷ end ∷ more → ⊥
    go [] same at = no_end more at
    go (x ∷ rest) same at =
        let all : All Good (done ++ x ∷ rest) = subst (λ (l : List X). All Good l) same gx in
        no_item x (flat_map text rest ++ 48 ∷ end ∷ more) (good_behind Good done x rest all) (at ∙ append_assoc (text x) (flat_map text rest) (48 ∷ end ∷ more))

-- two lists with one text
pub items_same : {X : Type 0} (text : X → List ℕ) (Good : X → Type 0) → AreTold text Good → (end : ℕ) (xs ys : List X) (x y : List ℕ) → All Good xs → All Good ys → flat_map text xs ++ 48 ∷ end ∷ x ≡ flat_map text ys ++ 48 ∷ end ∷ y → (xs ≡ ys) × (x ≡ y)
items_same {X} text Good told end xs ys x y gx gy e =
    let r : (rest : List X) × (ys ≡ xs ++ rest) × (48 ∷ end ∷ x ≡ flat_map text rest ++ 48 ∷ end ∷ y) =
    items_prefix text Good told xs ys (48 ∷ end ∷ x) (end ∷ y) gx gy e in
    go r.0 r.1 r.2
  where
    go : (rest : List X) → ys ≡ xs ++ rest → 48 ∷ end ∷ x ≡ flat_map text rest ++ 48 ∷ end ∷ y → (xs ≡ ys) × (x ≡ y)
    go [] same at = let t : x ≡ y = cc in (sym (same ∙ append-nil xs), t)
    go (z ∷ rest) same at =
        let all : All Good (xs ++ z ∷ rest) = subst (λ (l : List X). All Good l) same gy in
        absurd (told.stop z (flat_map text rest ++ 48 ∷ end ∷ y) (end ∷ x) (good_behind Good xs z rest all)
        (sym (at ∙ append_assoc (text z) (flat_map text rest) (48 ∷ end ∷ y))))

pub line_parts : (line : Line) (more : List ℕ) → line_text line ++ more ≡ lits_text line.clause ++ 48 ∷ 32 ∷ (index_text line.first ++ (cuts_text line.cuts ++ 48 ∷ 10 ∷ more))
line_parts line more =
    append_assoc (lits_text line.clause) (48 ∷ 32 ∷ (index_text line.first ++ (cuts_text line.cuts ++ 48 ∷ 10 ∷ []))) more
    ∙ ap (λ t. lits_text line.clause ++ 48 ∷ 32 ∷ t)
    (append_assoc (index_text line.first) (cuts_text line.cuts ++ 48 ∷ 10 ∷ []) more
    ∙ ap (λ t. index_text line.first ++ t) (append_assoc (cuts_text line.cuts) (48 ∷ 10 ∷ []) more))

-- the literals that were read are those of each line that the text may begin with
pub line_front : (line : Line) (clause : List Lit) (init new more : List ℕ) → IsPrintable line → All IsLitInRange clause → init ≡ lits_text clause ++ 48 ∷ 32 ∷ new → init ≡ line_text line ++ more → (clause ≡ line.clause) × (new ≡ index_text line.first ++ (cuts_text line.cuts ++ 48 ∷ 10 ∷ more))
line_front line clause init new more good in_range read e =
    items_same lit_text IsLitInRange lits_told 32 clause line.clause new (index_text line.first ++ (cuts_text line.cuts ++ 48 ∷ 10 ∷ more)) in_range good.lits
    (sym read ∙ e ∙ line_parts line more)

pub line_first : (line : Line) (first : ℕ) (new later more : List ℕ) → IsPrintable line → IsIndex first → new ≡ index_text first ++ later → new ≡ index_text line.first ++ (cuts_text line.cuts ++ 48 ∷ 10 ∷ more) → (first ≡ line.first) × (later ≡ cuts_text line.cuts ++ 48 ∷ 10 ∷ more)
line_first line first new later more good in_range read e =
    index_unique first line.first later (cuts_text line.cuts ++ 48 ∷ 10 ∷ more) in_range good.first (sym read ∙ e)
