-- What a probe reaches is one.
use Rattle.std.proofs.Common.{◌≡◌, ℕ, ◌<◌, sym, ◌∙◌, ap, subst}
use Rattle.std.specs.Prelude.{Contains, ◌↔◌}
use Rattle.std.specs.List.Sorted.{IsStrictlyIncreasing}
use Rattle.std.proofs.Math.Path.{fun_ext}
use Rattle.coco_base.specs.declared.netlist.Flat.{Flat}
use Rattle.coco_base.specs.declared.setup.Setup.{Setup}
use Rattle.coco_model.specs.Netlist.{IsRanked, IsCellBit}
use Rattle.coco_model.specs.Carried.{IsBound}
use Rattle.coco_model.specs.Run.{before}
use Rattle.coco_model.specs.Calm.{both}
use Rattle.coco_model.specs.Reach.{Reach, Reaches, IsReach}
use Rattle.model_laws.proofs.Forced.{one_forced_row}
use Rattle.model_laws.proofs.Unique.{one_known_law}
use Rattle.coco_model.proofs.Keepers.{before_below}
use Rattle.model_laws.proofs.Ascending.{same_ascending}
use Rattle.model_laws.specs.Laws.{OneKnownLaw, OneReachLaw}

one_known : (flat : Flat) (setup : Setup) (cycles : ℕ) (rank : ℕ → ℕ) → IsRanked flat rank → IsBound flat setup
    → (reach other : Reach) → (r : IsReach flat setup cycles reach) (s : IsReach flat setup cycles other) → (t : ℕ) → t < cycles → (b : ℕ)
    → r.row t b ≡ s.row t b
unfolding OneKnownLaw
one_known flat setup cycles rank ranked bound reach other r s t below =
    (one_known_law flat setup cycles rank ranked bound r.row s.row r.word s.word r.known s.known t below).0

one_calm : (flat : Flat) (setup : Setup) (cycles : ℕ) (rank : ℕ → ℕ) → IsRanked flat rank → IsBound flat setup
    → (reach other : Reach) → (r : IsReach flat setup cycles reach) (s : IsReach flat setup cycles other) → (t : ℕ) → t < cycles
    → r.calm t ≡ s.calm t
one_calm flat setup cycles rank ranked bound reach other r s t below =
    fun_ext (one_forced_row flat rank (r.calm t) (s.calm t) ranked (r.still t below).forced (s.still t below).forced leaves)
  where
    same : (t : ℕ) → t < cycles → (b : ℕ) → r.row t b ≡ s.row t b
    same = one_known flat setup cycles rank ranked bound reach other r s

    leaves : (b : ℕ) → (IsCellBit flat b → ⊥) → r.calm t b ≡ s.calm t b
    leaves b none = (r.still t below).leaves b none ∙ ap (λ p. both p (r.row t b)) (same (before t) (before_below t cycles below) b)
        ∙ ap (both (s.row (before t) b)) (same t below b) ∙ sym ((s.still t below).leaves b none)

pub one_reach_law : OneReachLaw
unfolding OneReachLaw
one_reach_law flat setup cycles rank ranked bound reach other r s t b below inside =
    same_ascending (reach t b) (other t b) one.0 two.0
    (λ l h. (two.1 l).1 (subst (λ c. Reaches flat c l b) same ((one.1 l).0 h)))
    (λ l h. (one.1 l).1 (subst (λ c. Reaches flat c l b) (sym same) ((two.1 l).0 h)))
  where
    same : r.calm t ≡ s.calm t
    same = one_calm flat setup cycles rank ranked bound reach other r s t below

    one : IsStrictlyIncreasing (reach t b) × ((l : ℕ) → Contains (reach t b) l ↔ Reaches flat (r.calm t) l b)
    one = r.reached t below b inside

    two : IsStrictlyIncreasing (other t b) × ((l : ℕ) → Contains (other t b) l ↔ Reaches flat (s.calm t) l b)
    two = s.reached t below b inside
