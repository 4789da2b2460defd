-- A turn of the loop over the cycles of a window.
use Rattle.std.proofs.Common.{◌≡◌, ℕ, List, [], ◌∷◌, ◌++◌, refl, ◌∙◌}
use Rattle.circuit_clauses.specs.declared.signal.Signal.{Signal}
use Rattle.circuit_clauses.specs.Formulas.{Formula, Fits}
use Rattle.clause_builds.specs.Builds.{made, after, done, ◌>>=◌}
use Rattle.clause_builds.proofs.Leaving.{IsLeft, all_left, first_fits, next_left, none_left}
use Rattle.probe_clauses.specs.Windows.{Lasting, lasting, next_lasting, keep_lasting, from_block_start, over_window, tails, heads, windowed}

head_left : (g h : Formula) (window : ℕ) (row tails list : List Signal) (u : ℕ) (old head : Signal)
    → h ≡ after g (from_block_start window row u old) → head ≡ made g (from_block_start window row u old)
    → IsLeft g (next_lasting window row tails u (lasting old list)) h (keep_lasting window tails u list head)
head_left g h window row tails list u old head eh es =
    next_left (from_block_start window row u old) (keep_lasting window tails u list) h head
    (all_left g (next_lasting window row tails u (lasting old list))) eh es

pub over_fits : (g h : Formula) (window : ℕ) (row tails list : List Signal) (u : ℕ) (old head : Signal)
    → h ≡ after g (from_block_start window row u old) → head ≡ made g (from_block_start window row u old)
    → Fits (after g (next_lasting window row tails u (lasting old list))) → Fits (after h (over_window window tails u head))
over_fits g h window row tails list u old head eh es fits =
    first_fits (over_window window tails u head) (λ (s : Signal). done (lasting head (list ++ s ∷ [])))
    (head_left g h window row tails list u old head eh es) fits

pub over_turn : (g h i : Formula) (window : ℕ) (row tails list : List Signal) (u : ℕ) (old head s : Signal)
    → h ≡ after g (from_block_start window row u old) → head ≡ made g (from_block_start window row u old)
    → i ≡ after h (over_window window tails u head) → s ≡ made h (over_window window tails u head)
    → (lasting head (list ++ s ∷ []) ≡ made g (next_lasting window row tails u (lasting old list)))
    × (i ≡ after g (next_lasting window row tails u (lasting old list)))
over_turn g h i window row tails list u old head s eh es ei et =
    none_left (lasting head (list ++ s ∷ []))
    (next_left (over_window window tails u head) (λ (s : Signal). done (lasting head (list ++ s ∷ []))) i s
    (head_left g h window row tails list u old head eh es) ei et)

tails_left : (f h : Formula) (window : ℕ) (row ends : List Signal) → h ≡ after f (tails window row) → ends ≡ made f (tails window row)
    → IsLeft f (windowed window row) h (heads window row ends >>= (λ (all : Lasting). done all.row))
tails_left f h window row ends eh es =
    next_left (tails window row) (λ (ends : List Signal). heads window row ends >>= (λ (all : Lasting). done all.row)) h ends
    (all_left f (windowed window row)) eh es

pub heads_fits : (f h : Formula) (window : ℕ) (row ends : List Signal) → h ≡ after f (tails window row) → ends ≡ made f (tails window row)
    → Fits (after f (windowed window row)) → Fits (after h (heads window row ends))
heads_fits f h window row ends eh es fits =
    first_fits (heads window row ends) (λ (all : Lasting). done all.row) (tails_left f h window row ends eh es) fits

pub windowed_ends : (f h i : Formula) (window : ℕ) (row ends list : List Signal) → h ≡ after f (tails window row) → ends ≡ made f (tails window row)
    → i ≡ after h (heads window row ends) → list ≡ (made h (heads window row ends)).row
    → (list ≡ made f (windowed window row)) × (i ≡ after f (windowed window row))
windowed_ends f h i window row ends list eh es ei el =
    let all = made h (heads window row ends) in
    let t = none_left all.row (next_left (heads window row ends) (λ (all : Lasting). done all.row) i all (tails_left f h window row ends eh es) ei refl) in
    (el ∙ t.0, t.1)
