-- Rows after writes.
use Rattle.std.proofs.Common.{◌≡◌, ◌≢◌, ℕ, zero, suc, ◌+◌, ◌<◌, ◌≤◌, ◌⊎◌, inl, inr, cond, nat_eq, List, [], ◌∷◌, ◌++◌, map, length, get_or, set, take, refl, sym, ◌∙◌, ap, subst, arith}
use Rattle.std.specs.Prelude.{Contains, flat_map}
use Rattle.std.proofs.lemmas.Bool.{cases_eq, ne_eqb, eq-eqb}
use Rattle.std.proofs.lemmas.List.{get_or-set_same, get_or-set_other, map-append, take_more, take_all}
use Rattle.std.proofs.lemmas.List.Elements.{Contains-get_or}
use Rattle.std.proofs.Math.ListN.{length-set}
use Rattle.std.proofs.Math.Seq.{take-append_seam}
use Rattle.coco_base.specs.declared.unrolled.Node.{Node}
use Rattle.coco_base.specs.declared.unrolled.Node.TheVariants.{Nothing}
use Rattle.unroll.specs.NodeRows.{NodeRow}
use Rattle.coco_model.specs.Netlist.{HasNoRepeat}
use Rattle.unroll.specs.NodeRows.{nodes_of}
use Rattle.coco_model.proofs.Basics.{Contains-here, Contains-later, Contains-cases, Contains-none}
use Rattle.gate_graph.proofs.Items.{taken_at}
use Rattle.unroll.specs.NodeWrites.{Write, put, after_writes, IsWritten, bit_writes}
use Rattle.cycle_sim.specs.Writes.{AreBitsBelow}

pub put-cong : (v u : NodeRow) (w : Write) → ((b : ℕ) → v b ≡ u b) → (b : ℕ) → put v w b ≡ put u w b
put-cong v u w same b = ap (λ x. cond (nat_eq w.bit b) w.node x) (same b)

pub after-cong : (ws : List Write) (v u : NodeRow) → ((b : ℕ) → v b ≡ u b) → (b : ℕ) → after_writes ws v b ≡ after_writes ws u b
after-cong [] v u same b = same b
after-cong (w ∷ ws) v u same b = after-cong ws (put v w) (put u w) (put-cong v u w same) b

pub after-append : (ws vs : List Write) (row : NodeRow) (b : ℕ) → after_writes (ws ++ vs) row b ≡ after_writes vs (after_writes ws row) b
after-append [] vs row b = refl
after-append (w ∷ ws) vs row b = after-append ws vs (put row w) b

-- a row with another part at a bit
pub set_row : (row : List Node) (bit : ℕ) (x : Node) → bit < length row → (b : ℕ)
    → nodes_of (set row bit x) b ≡ cond (nat_eq bit b) x (nodes_of row b)
set_row row bit x inside b = go (cases_eq bit b)
  where
    go : (bit ≡ b) ⊎ (bit ≢ b) → nodes_of (set row bit x) b ≡ cond (nat_eq bit b) x (nodes_of row b)
    go (inl is) =
        ap (λ n. get_or (set row bit x) n Nothing) (sym is) ∙ get_or-set_same row bit x Nothing inside
        ∙ sym (ap (λ t. cond t x (nodes_of row b)) (eq-eqb bit b is))
    go (inr n) = get_or-set_other row bit b x Nothing (λ e. n (sym e)) ∙ sym (ap (λ t. cond t x (nodes_of row b)) (ne_eqb bit b n))

pub written_none : (row : List Node) → IsWritten [] row row
written_none row = record { as_long = refl; bits = λ b. refl }

pub written_push : (ws : List Write) (old mid : List Node) (w : Write) → IsWritten ws old mid → w.bit < length old
    → IsWritten (ws ++ w ∷ []) old (set mid w.bit w.node)
written_push ws old mid w is below = record {
  as_long = length-set mid w.bit w.node ∙ is.as_long;
  bits =
      λ b. set_row mid w.bit w.node (let l = is.as_long in omega arith) b
      ∙ ap (λ x. cond (nat_eq w.bit b) w.node x) (is.bits b) ∙ sym (after-append ws (w ∷ []) (nodes_of old) b);
}

pub written_append : (ws vs : List Write) (old mid new : List Node) → IsWritten ws old mid → IsWritten vs mid new → IsWritten (ws ++ vs) old new
written_append ws vs old mid new is then = record {
  as_long = then.as_long ∙ is.as_long;
  bits = λ b. then.bits b ∙ after-cong vs (nodes_of mid) (after_writes ws (nodes_of old)) is.bits b ∙ sym (after-append ws vs (nodes_of old) b);
}

pub bit_writes-append : (f : ℕ → ℕ → Node) (j : ℕ) (bs : List ℕ) (b : ℕ)
    → bit_writes f j (bs ++ b ∷ []) ≡ bit_writes f j bs ++ record { bit = b; node = f (j + length bs) b } ∷ []
bit_writes-append f j [] b = let z : j ≡ j + 0 = omega arith in ap (λ i. record { bit = b; node = f i b } ∷ []) z
bit_writes-append f j (a ∷ bs) b =
    let z : suc j + length bs ≡ j + suc (length bs) = omega arith in
    ap (λ rest. record { bit = a; node = f j a } ∷ rest) (bit_writes-append f (suc j) bs b)
    ∙ ap (λ i. record { bit = a; node = f j a } ∷ (bit_writes f (suc j) bs ++ record { bit = b; node = f i b } ∷ [])) z

length_front : (bs : List ℕ) (place : ℕ) → place < length bs → length (take place bs) ≡ place
length_front [] place h = absurd (omega arith)
length_front (b ∷ bs) zero h = refl
length_front (b ∷ bs) (suc place) h = ap (λ n. suc n) (length_front bs place (omega arith))

-- one more bit is written
pub bits_more : (f : ℕ → ℕ → Node) (bs : List ℕ) (place : ℕ) (old mid : List Node) (x : Node) → x ≡ f place (get_or bs place 0)
    → AreBitsBelow (length old) bs → place < length bs → IsWritten (bit_writes f 0 (take place bs)) old mid
    → IsWritten (bit_writes f 0 (take (place + 1) bs)) old (set mid (get_or bs place 0) x)
bits_more f bs place old mid x is below inside so_far =
    subst (λ ws. IsWritten ws old (set mid (get_or bs place 0) x)) (sym listed)
    (subst (λ y. IsWritten (bit_writes f 0 (take place bs) ++ record { bit = get_or bs place 0; node = f place (get_or bs place 0) } ∷ []) old (set mid (get_or bs place 0) y)) (sym is)
    (written_push (bit_writes f 0 (take place bs)) old mid (record { bit = get_or bs place 0; node = f place (get_or bs place 0) }) so_far
    (below (get_or bs place 0) (Contains-get_or bs place 0 inside))))
  where
    number : 0 + length (take place bs) ≡ place
    number = let e = length_front bs place inside in omega arith

    listed : bit_writes f 0 (take (place + 1) bs) ≡ bit_writes f 0 (take place bs) ++ record { bit = get_or bs place 0; node = f place (get_or bs place 0) } ∷ []
    listed =
        ap (bit_writes f 0) (take_more bs place 0 inside) ∙ bit_writes-append f 0 (take place bs) (get_or bs place 0)
        ∙ ap (λ k. bit_writes f 0 (take place bs) ++ record { bit = get_or bs place 0; node = f k (get_or bs place 0) } ∷ []) number

pub bits_all : (f : ℕ → ℕ → Node) (bs : List ℕ) (place : ℕ) (old mid : List Node) → length bs ≤ place
    → IsWritten (bit_writes f 0 (take place bs)) old mid → IsWritten (bit_writes f 0 bs) old mid
bits_all f bs place old mid end so_far = subst (λ ts. IsWritten (bit_writes f 0 ts) old mid) (take_all place bs end) so_far

pub flat_map-push : {A X : Type 0} (f : A → List X) (xs : List A) (x : A) → flat_map f (xs ++ x ∷ []) ≡ flat_map f xs ++ f x
flat_map-push {A} {X} f [] x = append_none (f x)
  where
    append_none : (ys : List X) → ys ++ [] ≡ ys
    append_none [] = refl
    append_none (y ∷ ys) = ap (λ rest. y ∷ rest) (append_none ys)
flat_map-push f (y ∷ xs) x = ap (λ rest. f y ++ rest) (flat_map-push f xs x) ∙ append_more (f y) (flat_map f xs) (f x)
  where
    append_more : {Z : Type 0} (ys zs us : List Z) → ys ++ (zs ++ us) ≡ (ys ++ zs) ++ us
    append_more [] zs us = refl
    append_more (y ∷ ys) zs us = ap (λ rest. y ∷ rest) (append_more ys zs us)

-- the bits of writes
abbrev pub bits_of : List Write → List ℕ
bits_of ws = map (λ (w : Write). w.bit) ws

pub put_same : (row : NodeRow) (w : Write) (b : ℕ) → w.bit ≡ b → put row w b ≡ w.node
put_same row w b e = ap (λ t. cond t w.node (row b)) (eq-eqb w.bit b e)

pub put_other : (row : NodeRow) (w : Write) (b : ℕ) → w.bit ≢ b → put row w b ≡ row b
put_other row w b n = ap (λ t. cond t w.node (row b)) (ne_eqb w.bit b n)

-- a bit that no write names stays
pub after-none : (ws : List Write) (row : NodeRow) (b : ℕ) → (Contains (bits_of ws) b → ⊥) → after_writes ws row b ≡ row b
after-none [] row b none = refl
after-none (w ∷ ws) row b none =
    after-none ws (put row w) b (λ i. none (Contains-later w.bit b (bits_of ws) i))
    ∙ put_other row w b (λ same. none (subst (Contains (w.bit ∷ bits_of ws)) same (Contains-here w.bit (bits_of ws))))

pub Contains-bits_of : (ws : List Write) (w : Write) → Contains ws w → Contains (bits_of ws) w.bit
Contains-bits_of [] w h = absurd (Contains-none w h)
Contains-bits_of (v ∷ ws) w h = go (Contains-cases v w ws h) (λ i. Contains-bits_of ws w i)
  where
    go : (v ≡ w) ⊎ Contains ws w → (Contains ws w → Contains (bits_of ws) w.bit) → Contains (v.bit ∷ bits_of ws) w.bit
    go (inl is) rest = subst (λ (x : Write). Contains (v.bit ∷ bits_of ws) x.bit) is (Contains-here v.bit (bits_of ws))
    go (inr i) rest = Contains-later v.bit w.bit (bits_of ws) (rest i)

-- a bit that one write names has that write's part
pub after-listed : (ws : List Write) (row : NodeRow) → HasNoRepeat (bits_of ws) → (w : Write) → Contains ws w → after_writes ws row w.bit ≡ w.node
after-listed [] row once w h = absurd (Contains-none w h)
after-listed (v ∷ ws) row once w h = go (Contains-cases v w ws h) (λ i. after-listed ws (put row v) once.1 w i)
  where
    go : (v ≡ w) ⊎ Contains ws w → (Contains ws w → after_writes ws (put row v) w.bit ≡ w.node) → after_writes ws (put row v) w.bit ≡ w.node
    go (inl is) rest =
        after-none ws (put row v) w.bit (λ i. once.0 (subst (Contains (bits_of ws)) (ap (λ (x : Write). x.bit) (sym is)) i))
        ∙ put_same row v w.bit (ap (λ (x : Write). x.bit) is) ∙ ap (λ (x : Write). x.node) is
    go (inr i) rest = rest i

-- writes of 0 to bits that are 0
pub after_zeros : (ws : List Write) (row : NodeRow) → ((w : Write) → Contains ws w → w.node ≡ Nothing) → ((b : ℕ) → row b ≡ Nothing) → (b : ℕ)
    → after_writes ws row b ≡ Nothing
after_zeros [] row zeros still b = still b
after_zeros (w ∷ ws) row zeros still b =
    after_zeros ws (put row w) (λ v h. zeros v (Contains-later w v ws h)) (λ c. go c (cases_eq w.bit c)) b
  where
    go : (c : ℕ) → (w.bit ≡ c) ⊎ (w.bit ≢ c) → put row w c ≡ Nothing
    go c (inl e) = put_same row w c e ∙ zeros w (Contains-here w ws)
    go c (inr n) = put_other row w c n ∙ still c

-- one more write, of the next item of a list
pub mapped_more : {A : Type 0} (f : A → Write) (xs : List A) (i : ℕ) (x : A) (old mid : List Node) → i < length xs → x ≡ get_or xs i x
    → (f x).bit < length old → IsWritten (map f (take i xs)) old mid
    → IsWritten (map f (take (i + 1) xs)) old (set mid (f x).bit (f x).node)
mapped_more f xs i x old mid inside is below so_far =
    subst (λ ws. IsWritten ws old (set mid (f x).bit (f x).node)) (sym (ap (map f) (taken_at xs i x inside is) ∙ map-append f (take i xs) (x ∷ [])))
    (written_push (map f (take i xs)) old mid (f x) so_far below)

pub mapped_all : {A : Type 0} (f : A → Write) (xs : List A) (i : ℕ) (old mid : List Node) → length xs ≤ i
    → IsWritten (map f (take i xs)) old mid → IsWritten (map f xs) old mid
mapped_all f xs i old mid end so_far = subst (λ ys. IsWritten (map f ys) old mid) (take_all i xs end) so_far

-- the writes of one more item
pub joined_more : {A : Type 0} (f : A → List Write) (xs : List A) (i : ℕ) (x : A) (old mid new : List Node) → i < length xs → x ≡ get_or xs i x
    → IsWritten (flat_map f (take i xs)) old mid → IsWritten (f x) mid new → IsWritten (flat_map f (take (i + 1) xs)) old new
joined_more f xs i x old mid new inside is so_far then =
    subst (λ ws. IsWritten ws old new) (sym (ap (flat_map f) (taken_at xs i x inside is) ∙ flat_map-push f (take i xs) x))
    (written_append (flat_map f (take i xs)) (f x) old mid new so_far then)

pub joined_all : {A : Type 0} (f : A → List Write) (xs : List A) (i : ℕ) (old mid : List Node) → length xs ≤ i
    → IsWritten (flat_map f (take i xs)) old mid → IsWritten (flat_map f xs) old mid
joined_all f xs i old mid end so_far = subst (λ ys. IsWritten (flat_map f ys) old mid) (take_all i xs end) so_far

pub member_at : {X : Type 0} (xs : List X) (i : ℕ) (x : X) → i < length xs → x ≡ get_or xs i x → Contains xs x
member_at xs i x h is = subst (Contains xs) (sym is) (Contains-get_or xs i x h)

-- one more write, of a part that is known by an equation
pub mapped_part : {A : Type 0} (f : A → Write) (xs : List A) (i : ℕ) (x : A) (old mid : List Node) (y : Node) → i < length xs → x ≡ get_or xs i x
    → y ≡ (f x).node → (f x).bit < length old → IsWritten (map f (take i xs)) old mid
    → IsWritten (map f (take (i + 1) xs)) old (set mid (f x).bit y)
mapped_part f xs i x old mid y inside is same below so_far =
    subst (λ z. IsWritten (map f (take (i + 1) xs)) old (set mid (f x).bit z)) (sym same) (mapped_more f xs i x old mid inside is below so_far)

-- what is written back to a vector is what was written
pub take_front : {X : Type 0} (xs ys : List X) (n : ℕ) → length xs ≡ n → take n (xs ++ ys) ≡ xs
take_front xs ys n e = ap (λ k. take k (xs ++ ys)) (sym e) ∙ take-append_seam xs ys
