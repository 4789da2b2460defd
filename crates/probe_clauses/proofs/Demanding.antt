-- Three demands one after the other, and what a pair is.
use Rattle.std.proofs.Common.{◌≡◌, ℕ, true, false, List, refl}
use Rattle.circuit_clauses.specs.declared.signal.Signal.{Signal}
use Rattle.circuit_clauses.specs.declared.signal.Signal.TheVariants.{Constant}
use Rattle.circuit_clauses.specs.Formulas.{Formula, Fits}
use Rattle.clause_builds.specs.Builds.{Build, after, done, ◌>>=◌, demanded}
use Rattle.clause_builds.proofs.Leaving.{IsLeft, all_left, first_fits, next_left, last_left, left_fits}
use Rattle.probe_clauses.specs.declared.shown.Shown.{Shown}
use Rattle.probe_clauses.specs.Probings.{Probing, is_pair}
use Rattle.probe_clauses.specs.Passes.{chosen_pair, pair_of}

abbrev pub two_demands : List Signal → List Signal → Unit {0} → Build (Unit {0})
two_demands b c none = demanded b >>= (λ _. demanded c)

abbrev pub three_demands : List Signal → List Signal → List Signal → Build (Unit {0})
three_demands a b c = demanded a >>= two_demands b c

pub first_demand : (f : Formula) (a b c : List Signal) → Fits (after f (three_demands a b c)) → Fits (after f (demanded a))
first_demand f a b c fits = first_fits (demanded a) (two_demands b c) (all_left f (three_demands a b c)) fits

after_first : (f g : Formula) (a b c : List Signal) → g ≡ after f (demanded a) → IsLeft f (three_demands a b c) g (two_demands b c tt)
after_first f g a b c e = next_left (demanded a) (two_demands b c) g tt (all_left f (three_demands a b c)) e refl

pub second_demand : (f g : Formula) (a b c : List Signal) → g ≡ after f (demanded a) → Fits (after f (three_demands a b c)) → Fits (after g (demanded b))
second_demand f g a b c e fits = first_fits (demanded b) (λ (none : Unit {0}). demanded c) (after_first f g a b c e) fits

after_second : (f g h : Formula) (a b c : List Signal) → g ≡ after f (demanded a) → h ≡ after g (demanded b) → IsLeft f (three_demands a b c) h (demanded c)
after_second f g h a b c e k = next_left (demanded b) (λ (none : Unit {0}). demanded c) h tt (after_first f g a b c e) k refl

pub third_demand : (f g h : Formula) (a b c : List Signal) → g ≡ after f (demanded a) → h ≡ after g (demanded b) → Fits (after f (three_demands a b c)) → Fits (after h (demanded c))
third_demand f g h a b c e k fits = left_fits (demanded c) (after_second f g h a b c e k) fits

pub all_demands : (f g h i : Formula) (a b c : List Signal) → g ≡ after f (demanded a) → h ≡ after g (demanded b) → i ≡ after h (demanded c) → i ≡ after f (three_demands a b c)
all_demands f g h i a b c e k l = (last_left (demanded c) i tt (after_second f g h a b c e k) l refl).1

pub with_pair : (run : Probing) (shown : Shown) (t b : ℕ) → is_pair run t b ≡ true → pair_of run shown t b ≡ chosen_pair shown t b
with_pair run shown t b e = rw e refl

pub without_pair : (run : Probing) (shown : Shown) (t b : ℕ) → is_pair run t b ≡ false → pair_of run shown t b ≡ done (Constant false)
without_pair run shown t b e = rw e refl
