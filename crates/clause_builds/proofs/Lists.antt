-- Turns of loops that build along a list.
use Rattle.std.proofs.Common.{◌≡◌, ℕ, ◌+◌, ◌<◌, ◌≤◌, List, [], ◌∷◌, ◌++◌, length, get_or, drop, refl, sym, ap, ◌∙◌, subst, append_assoc, add-one}
use Rattle.std.proofs.Math.Seq.{drop-cons}
use Rattle.std.proofs.lemmas.List.{append-nil, drop_all, get_or_default}
use Rattle.circuit_clauses.specs.Formulas.{Formula, Fits}
use Rattle.clause_builds.specs.Builds.{Build, made, after, done, ◌>>=◌, each, through}
use Rattle.clause_builds.proofs.Leaving.{IsLeft, left_as, next_left, none_left, first_fits, AreSame, left_same, same_trans, same_back, bind_bind, bind_same, done_bind, bind_done}

pub next_item : {X : Type 0} (xs : List X) (i : ℕ) (x : X) → i < length xs → x ≡ get_or xs i x → drop i xs ≡ x ∷ drop (i + 1) xs
next_item xs i x lt e = rw add-one (drop-cons xs i x lt) ∙ ap (λ y. y ∷ drop (i + 1) xs) (sym e)

-- what is read within a list is read with any default
pub item : {X : Type 0} (xs : List X) (i : ℕ) (d : X) → i < length xs → get_or xs i d ≡ get_or xs i (get_or xs i d)
item xs i d lt = get_or_default xs i d (get_or xs i d) lt

pub each-nil : {X Y : Type 0} (build : X → Build Y) → each build [] ≡ done []
unfolding each
each-nil build = refl

pub each-cons : {X Y : Type 0} (build : X → Build Y) (x : X) (xs : List X) → each build (x ∷ xs) ≡ (build x >>= (λ y. each build xs >>= (λ ys. done (y ∷ ys))))
unfolding each
each-cons build x xs = refl

pub through-nil : {X S : Type 0} (build : X → S → Build S) (state : S) → through build [] state ≡ done state
unfolding through
through-nil build state = refl

pub through-cons : {X S : Type 0} (build : X → S → Build S) (x : X) (xs : List X) (state : S) → through build (x ∷ xs) state ≡ (build x state >>= through build xs)
unfolding through
through-cons build x xs state = refl

-- the rest of a list's builds, after results that are there
abbrev pub each_onto : {X Y : Type 0} → (X → Build Y) → List X → List Y → Build (List Y)
each_onto build xs ys = each build xs >>= (λ zs. done (ys ++ zs))

pub each_start : {X Y : Type 0} {f g : Formula} {whole : Build (List Y)} (build : X → Build Y) (xs : List X)
    → IsLeft f whole g (each build xs) → IsLeft f whole g (each_onto build xs [])
each_start build xs l = left_same (each_onto build xs []) l (same_back (bind_done (each build xs)))

onto_more : {X Y : Type 0} (build : X → Build Y) (xs : List X) (ys : List Y) (y : Y)
    → AreSame ((each build xs >>= (λ zs. done (y ∷ zs))) >>= (λ zs. done (ys ++ zs))) (each_onto build xs (ys ++ y ∷ []))
onto_more {Y = Y} build xs ys y =
    same_trans (bind_bind (each build xs) (λ (zs : List Y). done (y ∷ zs)) (λ (zs : List Y). done (ys ++ zs)))
    (bind_same (each build xs) (λ (zs : List Y). done (y ∷ zs) >>= (λ (ws : List Y). done (ys ++ ws))) (λ (zs : List Y). done ((ys ++ y ∷ []) ++ zs))
    (λ (zs : List Y). subst (λ (ws : List Y). AreSame (done (y ∷ zs) >>= (λ (vs : List Y). done (ys ++ vs))) (done ws)) (sym (append_assoc ys (y ∷ []) zs)) (done_bind (y ∷ zs) (λ (ws : List Y). done (ys ++ ws)))))

onto_cons : {X Y : Type 0} (build : X → Build Y) (x : X) (xs : List X) (ys : List Y)
    → AreSame (each_onto build (x ∷ xs) ys) (build x >>= (λ y. each_onto build xs (ys ++ y ∷ [])))
onto_cons {Y = Y} build x xs ys =
    subst (λ (b : Build (List Y)). AreSame (b >>= (λ zs. done (ys ++ zs))) (build x >>= (λ y. each_onto build xs (ys ++ y ∷ [])))) (sym (each-cons build x xs))
    (same_trans (bind_bind (build x) (λ (y : Y). each build xs >>= (λ zs. done (y ∷ zs))) (λ (zs : List Y). done (ys ++ zs)))
    (bind_same (build x) (λ (y : Y). (each build xs >>= (λ zs. done (y ∷ zs))) >>= (λ zs. done (ys ++ zs))) (λ (y : Y). each_onto build xs (ys ++ y ∷ [])) (λ (y : Y). onto_more build xs ys y)))

each_opened : {X Y : Type 0} {f g : Formula} {whole : Build (List Y)} (build : X → Build Y) (xs : List X) (ys : List Y) (i : ℕ) (x : X)
    → IsLeft f whole g (each_onto build (drop i xs) ys) → i < length xs → x ≡ get_or xs i x
    → IsLeft f whole g (build x >>= (λ y. each_onto build (drop (i + 1) xs) (ys ++ y ∷ [])))
each_opened {Y = Y} {f = f} {g = g} {whole = whole} build xs ys i x l lt e =
    left_same (build x >>= (λ (y : Y). each_onto build (drop (i + 1) xs) (ys ++ y ∷ [])))
    (subst (λ (zs : List _). IsLeft f whole g (each_onto build zs ys)) (next_item xs i x lt e) l)
    (onto_cons build x (drop (i + 1) xs) ys)

-- a turn: the build of the next item fits, and after it the rest is left
pub each_fits : {X Y : Type 0} {f g : Formula} {whole : Build (List Y)} (build : X → Build Y) (xs : List X) (ys : List Y) (i : ℕ) (x : X)
    → IsLeft f whole g (each_onto build (drop i xs) ys) → i < length xs → x ≡ get_or xs i x → Fits (after f whole) → Fits (after g (build x))
each_fits {Y = Y} build xs ys i x l lt e h =
    first_fits (build x) (λ (y : Y). each_onto build (drop (i + 1) xs) (ys ++ y ∷ [])) (each_opened build xs ys i x l lt e) h

pub each_turn : {X Y : Type 0} {f g : Formula} {whole : Build (List Y)} (build : X → Build Y) (xs : List X) (ys : List Y) (i : ℕ) (x : X) (h : Formula) (y : Y)
    → IsLeft f whole g (each_onto build (drop i xs) ys) → i < length xs → x ≡ get_or xs i x → h ≡ after g (build x) → y ≡ made g (build x)
    → IsLeft f whole h (each_onto build (drop (i + 1) xs) (ys ++ y ∷ []))
each_turn {Y = Y} build xs ys i x h y l lt e eh ey =
    next_left (build x) (λ (y : Y). each_onto build (drop (i + 1) xs) (ys ++ y ∷ [])) h y (each_opened build xs ys i x l lt e) eh ey

-- no turn is left
pub each_ended : {X Y : Type 0} {f g : Formula} {whole : Build (List Y)} (build : X → Build Y) (xs : List X) (ys : List Y) (i : ℕ)
    → IsLeft f whole g (each_onto build (drop i xs) ys) → length xs ≤ i → (ys ≡ made f whole) × (g ≡ after f whole)
each_ended {X = X} {Y = Y} {f = f} {g = g} {whole = whole} build xs ys i l le =
    let a : IsLeft f whole g (each_onto build [] ys) = subst (λ (zs : List X). IsLeft f whole g (each_onto build zs ys)) (drop_all i xs le) l in
    let b : IsLeft f whole g (done [] >>= (λ zs. done (ys ++ zs))) = subst (λ (b : Build (List Y)). IsLeft f whole g (b >>= (λ zs. done (ys ++ zs)))) (each-nil build) a in
    let c : IsLeft f whole g (done (ys ++ [])) = left_same (done (ys ++ [])) b (done_bind [] (λ (zs : List Y). done (ys ++ zs))) in
    let d = none_left (ys ++ []) c in
    (sym (append-nil ys) ∙ d.0, d.1)

through_opened : {X S : Type 0} {f g : Formula} {whole : Build S} (build : X → S → Build S) (xs : List X) (state : S) (i : ℕ) (x : X)
    → IsLeft f whole g (through build (drop i xs) state) → i < length xs → x ≡ get_or xs i x
    → IsLeft f whole g (build x state >>= through build (drop (i + 1) xs))
through_opened build xs state i x l lt e =
    left_as (build x state >>= through build (drop (i + 1) xs)) l
    (ap (λ ys. through build ys state) (next_item xs i x lt e) ∙ through-cons build x (drop (i + 1) xs) state)

pub through_fits : {X S : Type 0} {f g : Formula} {whole : Build S} (build : X → S → Build S) (xs : List X) (state : S) (i : ℕ) (x : X)
    → IsLeft f whole g (through build (drop i xs) state) → i < length xs → x ≡ get_or xs i x → Fits (after f whole) → Fits (after g (build x state))
through_fits build xs state i x l lt e h =
    first_fits (build x state) (through build (drop (i + 1) xs)) (through_opened build xs state i x l lt e) h

pub through_turn : {X S : Type 0} {f g : Formula} {whole : Build S} (build : X → S → Build S) (xs : List X) (state : S) (i : ℕ) (x : X) (h : Formula) (next : S)
    → IsLeft f whole g (through build (drop i xs) state) → i < length xs → x ≡ get_or xs i x → h ≡ after g (build x state) → next ≡ made g (build x state)
    → IsLeft f whole h (through build (drop (i + 1) xs) next)
through_turn build xs state i x h next l lt e eh en =
    next_left (build x state) (through build (drop (i + 1) xs)) h next (through_opened build xs state i x l lt e) eh en

pub through_ended : {X S : Type 0} {f g : Formula} {whole : Build S} (build : X → S → Build S) (xs : List X) (state : S) (i : ℕ)
    → IsLeft f whole g (through build (drop i xs) state) → length xs ≤ i → (state ≡ made f whole) × (g ≡ after f whole)
through_ended {X = X} {f = f} {g = g} {whole = whole} build xs state i l le =
    none_left state (left_as (done state) l (ap (λ (ys : List X). through build ys state) (drop_all i xs le) ∙ through-nil build state))
