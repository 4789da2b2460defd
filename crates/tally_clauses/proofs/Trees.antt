-- What the sum of a list of tallies says.
use Rattle.std.proofs.Common.{◌≡◌, ℕ, zero, suc, ◌+◌, ◌≤◌, Bool, List, [], ◌∷◌, All, refl, sym, ap, ◌∙◌, subst, arith, ◌↔◌}
use Rattle.std.specs.Prelude.{sum_by}
use Rattle.std.proofs.lemmas.List.Elements.{All-head, All-tail}
use Rattle.std.proofs.lemmas.List.Sums.{sum_by-cons}
use Rattle.circuit_clauses.specs.declared.signal.Signal.{Signal}
use Rattle.circuit_clauses.specs.Steps.{Step, variables_after}
use Rattle.circuit_clauses.specs.Meanings.{AreDefined, AllHold}
use Rattle.circuit_clauses.specs.Laws.{GatesLaw}
use Rattle.circuit_clauses.proofs.Sequences.{defined_front, defined_rest, hold_front, hold_rest, hold-append}
use Rattle.tally_clauses.specs.Tallies.{merge, pair_up, levels, add_up, tally_of}
use Rattle.tally_clauses.specs.Counts.{Tells, Count, IsCounted, tallies_of}
use Rattle.tally_clauses.proofs.Summing.{merge_says, merge_holds}

abbrev pub trues_of : List Count → ℕ
trues_of [] = 0
trues_of (c ∷ counts) = c.trues + trues_of counts

abbrev pub signals_of : List Count → ℕ
signals_of [] = 0
signals_of (c ∷ counts) = c.signals + signals_of counts

abbrev pub AllCounted : ℕ → (ℕ → Bool) → List Count → Type 0
AllCounted limit values [] = Unit {0}
AllCounted limit values (c ∷ counts) = IsCounted limit values c × AllCounted limit values counts

abbrev pub AllFew : ℕ → List Count → Type 0
AllFew limit [] = Unit {0}
AllFew limit (c ∷ counts) = (c.trues ≤ limit) × AllFew limit counts

-- what a level makes of counts: counts with the same sums, that stay within the limit where the steps hold
pub record IsLevel (limit : ℕ) (values : ℕ → Bool) (var : ℕ) (steps : List Step) (tallies : List (List Signal)) (old : List Count) : Type 0 where
  pub counts : List Count
  pub are : tallies ≡ tallies_of counts
  pub told : AllCounted limit values counts
  pub trues : trues_of counts ≡ trues_of old
  pub signals : signals_of counts ≡ signals_of old
  pub few : AllFew limit old → AllHold values var steps → AllFew limit counts
  pub hold : trues_of old ≤ limit → AllHold values var steps

abbrev count_of : List Signal → ℕ → ℕ → Count
count_of tally n s = record { tally = tally; trues = n; signals = s }

pair_says : (g : GatesLaw) (values : ℕ → Bool) (limit var : ℕ) (old : List Count) → AllCounted limit values old → AreDefined values var (pair_up limit var (tallies_of old)).steps
    → IsLevel limit values var (pair_up limit var (tallies_of old)).steps (pair_up limit var (tallies_of old)).tallies old
pair_says g values limit var [] told h =
    record { counts = []; are = refl; told = tt; trues = refl; signals = refl; few = λ f a. tt; hold = λ le. tt }
pair_says g values limit var (c ∷ []) told h =
    record { counts = c ∷ []; are = refl; told = told; trues = refl; signals = refl; few = λ f a. f; hold = λ le. tt }
pair_says g values limit var (c ∷ d ∷ old) told h =
    let first = merge limit var c.tally d.tally in
    let rest = pair_up limit (variables_after var first.steps) (tallies_of old) in
    let hf = defined_front values var first.steps rest.steps h in
    let says : Tells limit values first.tally (c.trues + d.trues) (c.signals + d.signals) = merge_says g values limit var c.tally d.tally c.trues d.trues c.signals d.signals told.0 told.1.0 hf in
    let r = pair_says g values limit (variables_after var first.steps) old told.1.1 (defined_rest values var first.steps rest.steps h) in
    let rt : trues_of r.counts ≡ trues_of old = r.trues in
    let rs : signals_of r.counts ≡ signals_of old = r.signals in
    record {
      counts = count_of first.tally (c.trues + d.trues) (c.signals + d.signals) ∷ r.counts;
      are = ap (λ (ts : List (List Signal)). first.tally ∷ ts) r.are;
      told = (says, r.told);
      trues = omega arith;
      signals = omega arith;
      few = λ f a. (
        (merge_holds values limit var c.tally d.tally c.trues d.trues c.signals d.signals told.0 told.1.0 f.0 f.1.0 hf).0 (hold_front values var first.steps rest.steps a),
        r.few f.1.1 (hold_rest values var first.steps rest.steps a),
      );
      hold = λ le. (
          let all : c.trues + (d.trues + trues_of old) ≤ limit = le in
          hold-append values var first.steps rest.steps
          ((merge_holds values limit var c.tally d.tally c.trues d.trues c.signals d.signals told.0 told.1.0 (omega arith) (omega arith) hf).1 (omega arith))
          (r.hold (omega arith))
          );
    }

pair_says_at : (g : GatesLaw) (values : ℕ → Bool) (limit var : ℕ) (parts : List (List Signal)) (old : List Count) → parts ≡ tallies_of old → AllCounted limit values old → AreDefined values var (pair_up limit var parts).steps
    → IsLevel limit values var (pair_up limit var parts).steps (pair_up limit var parts).tallies old
pair_says_at g values limit var parts old e told =
    subst (λ (ps : List (List Signal)). AreDefined values var (pair_up limit var ps).steps → IsLevel limit values var (pair_up limit var ps).steps (pair_up limit var ps).tallies old) (sym e) (pair_says g values limit var old told)

levels_say : (g : GatesLaw) (values : ℕ → Bool) (limit count var : ℕ) (parts : List (List Signal)) (old : List Count) → parts ≡ tallies_of old → AllCounted limit values old → AreDefined values var (levels count limit var parts).steps
    → IsLevel limit values var (levels count limit var parts).steps (levels count limit var parts).tallies old
unfolding levels
levels_say g values limit zero var parts old e told h =
    record { counts = old; are = e; told = told; trues = refl; signals = refl; few = λ f a. f; hold = λ le. tt }
levels_say g values limit (suc count) var parts old e told h =
    let first = pair_up limit var parts in
    let rest = levels count limit (variables_after var first.steps) first.tallies in
    let p = pair_says_at g values limit var parts old e told (defined_front values var first.steps rest.steps h) in
    let q = levels_say g values limit count (variables_after var first.steps) first.tallies p.counts p.are p.told (defined_rest values var first.steps rest.steps h) in
    let pt : trues_of p.counts ≡ trues_of old = p.trues in
    record {
      counts = q.counts;
      are = q.are;
      told = q.told;
      trues = q.trues ∙ p.trues;
      signals = q.signals ∙ p.signals;
      few = λ f a. q.few (p.few f (hold_front values var first.steps rest.steps a)) (hold_rest values var first.steps rest.steps a);
      hold = λ le. hold-append values var first.steps rest.steps (p.hold le) (q.hold (omega arith));
    }

-- what adding counts to a tally makes
pub record IsTop (limit : ℕ) (values : ℕ → Bool) (var : ℕ) (steps : List Step) (tally : List Signal) (n s : ℕ) (old : List Count) : Type 0 where
  pub tells : Tells limit values tally (n + trues_of old) (s + signals_of old)
  pub few : n ≤ limit → AllFew limit old → AllHold values var steps → n + trues_of old ≤ limit
  pub hold : n + trues_of old ≤ limit → AllHold values var steps

tells_same : (limit : ℕ) (values : ℕ → Bool) (tally : List Signal) (n m s t : ℕ) → n ≡ m → s ≡ t → Tells limit values tally n s → Tells limit values tally m t
tells_same limit values tally n m s t en es h = subst (λ (k : ℕ). Tells limit values tally k t) en (subst (λ (k : ℕ). Tells limit values tally n k) es h)

add_says : (g : GatesLaw) (values : ℕ → Bool) (limit var : ℕ) (sum : List Signal) (n s : ℕ) (old : List Count) → Tells limit values sum n s → AllCounted limit values old → AreDefined values var (add_up limit var sum (tallies_of old)).steps
    → IsTop limit values var (add_up limit var sum (tallies_of old)).steps (add_up limit var sum (tallies_of old)).tally n s old
add_says g values limit var sum n s [] ht told h =
    record {
      tells = tells_same limit values sum n (n + 0) s (s + 0) (omega arith) (omega arith) ht;
      few = λ le f a. omega arith;
      hold = λ le. tt;
    }
add_says g values limit var sum n s (c ∷ old) ht told h =
    let first = merge limit var sum c.tally in
    let rest = add_up limit (variables_after var first.steps) first.tally (tallies_of old) in
    let hf = defined_front values var first.steps rest.steps h in
    let says : Tells limit values first.tally (n + c.trues) (s + c.signals) = merge_says g values limit var sum c.tally n c.trues s c.signals ht told.0 hf in
    let r = add_says g values limit (variables_after var first.steps) first.tally (n + c.trues) (s + c.signals) old says told.1 (defined_rest values var first.steps rest.steps h) in
    record {
      tells = tells_same limit values rest.tally ((n + c.trues) + trues_of old) (n + (c.trues + trues_of old)) ((s + c.signals) + signals_of old) (s + (c.signals + signals_of old)) (omega arith) (omega arith) r.tells;
      few = λ le f a. (
          let here : n + c.trues ≤ limit = (merge_holds values limit var sum c.tally n c.trues s c.signals ht told.0 le f.0 hf).0 (hold_front values var first.steps rest.steps a) in
          let all : (n + c.trues) + trues_of old ≤ limit = r.few here f.1 (hold_rest values var first.steps rest.steps a) in
          omega arith
          );
      hold = λ le. (
          let all : n + (c.trues + trues_of old) ≤ limit = le in
          hold-append values var first.steps rest.steps
          ((merge_holds values limit var sum c.tally n c.trues s c.signals ht told.0 (omega arith) (omega arith) hf).1 (omega arith))
          (r.hold (omega arith))
          );
    }

add_says_at : (g : GatesLaw) (values : ℕ → Bool) (limit var : ℕ) (sum : List Signal) (n s : ℕ) (parts : List (List Signal)) (old : List Count) → parts ≡ tallies_of old → Tells limit values sum n s → AllCounted limit values old → AreDefined values var (add_up limit var sum parts).steps
    → IsTop limit values var (add_up limit var sum parts).steps (add_up limit var sum parts).tally n s old
add_says_at g values limit var sum n s parts old e ht told =
    subst (λ (ps : List (List Signal)). AreDefined values var (add_up limit var sum ps).steps → IsTop limit values var (add_up limit var sum ps).steps (add_up limit var sum ps).tally n s old) (sym e) (add_says g values limit var sum n s old ht told)

nothing_told : (limit : ℕ) (values : ℕ → Bool) → Tells limit values [] 0 0
nothing_told limit values = record { places = omega arith; most = omega arith; each = λ k d lt. absurd (omega arith) }

tally_says : (g : GatesLaw) (values : ℕ → Bool) (limit var : ℕ) (old : List Count) → AllCounted limit values old → AreDefined values var (tally_of limit var (tallies_of old)).steps
    → IsTop limit values var (tally_of limit var (tallies_of old)).steps (tally_of limit var (tallies_of old)).tally 0 0 old
tally_says g values limit var old told h =
    let tree = levels 32 limit var (tallies_of old) in
    let top = add_up limit (variables_after var tree.steps) [] tree.tallies in
    let p = levels_say g values limit 32 var (tallies_of old) old refl told (defined_front values var tree.steps top.steps h) in
    let q = add_says_at g values limit (variables_after var tree.steps) [] 0 0 tree.tallies p.counts p.are (nothing_told limit values) p.told (defined_rest values var tree.steps top.steps h) in
    let pt : trues_of p.counts ≡ trues_of old = p.trues in
    let ps : signals_of p.counts ≡ signals_of old = p.signals in
    record {
      tells = tells_same limit values top.tally (0 + trues_of p.counts) (0 + trues_of old) (0 + signals_of p.counts) (0 + signals_of old) (omega arith) (omega arith) q.tells;
      few = λ le f a. (
          let all : 0 + trues_of p.counts ≤ limit = q.few le (p.few f (hold_front values var tree.steps top.steps a)) (hold_rest values var tree.steps top.steps a) in
          omega arith
          );
      hold = λ le. hold-append values var tree.steps top.steps (p.hold (omega arith)) (q.hold (omega arith));
    }

trues_are : (counts : List Count) → 0 + trues_of counts ≡ sum_by (λ (c : Count). c.trues) counts
trues_are [] = refl
trues_are (c ∷ counts) =
    let rest = trues_are counts in
    let e = sum_by-cons (λ (x : Count). x.trues) c counts in
    omega arith

signals_are : (counts : List Count) → 0 + signals_of counts ≡ sum_by (λ (c : Count). c.signals) counts
signals_are [] = refl
signals_are (c ∷ counts) =
    let rest = signals_are counts in
    let e = sum_by-cons (λ (x : Count). x.signals) c counts in
    omega arith

counted : (limit : ℕ) (values : ℕ → Bool) (counts : List Count) → All (IsCounted limit values) counts → AllCounted limit values counts
counted limit values [] h = tt
counted limit values (c ∷ counts) h = (All-head (IsCounted limit values) c counts h, counted limit values counts (All-tail (IsCounted limit values) c counts h))

few_all : (limit : ℕ) (counts : List Count) → All (λ (c : Count). c.trues ≤ limit) counts → AllFew limit counts
few_all limit [] h = tt
few_all limit (c ∷ counts) h = (All-head (λ (x : Count). x.trues ≤ limit) c counts h, few_all limit counts (All-tail (λ (x : Count). x.trues ≤ limit) c counts h))

pub tally_tells : (g : GatesLaw) (values : ℕ → Bool) (limit var : ℕ) (counts : List Count) → All (IsCounted limit values) counts → AreDefined values var (tally_of limit var (tallies_of counts)).steps
    → Tells limit values (tally_of limit var (tallies_of counts)).tally (sum_by (λ (c : Count). c.trues) counts) (sum_by (λ (c : Count). c.signals) counts)
tally_tells g values limit var counts told h =
    tells_same limit values (tally_of limit var (tallies_of counts)).tally (0 + trues_of counts) (sum_by (λ (c : Count). c.trues) counts) (0 + signals_of counts) (sum_by (λ (c : Count). c.signals) counts) (trues_are counts) (signals_are counts) (tally_says g values limit var counts (counted limit values counts told) h).tells

pub tally_limits : (g : GatesLaw) (values : ℕ → Bool) (limit var : ℕ) (counts : List Count) → All (IsCounted limit values) counts → All (λ (c : Count). c.trues ≤ limit) counts → AreDefined values var (tally_of limit var (tallies_of counts)).steps
    → AllHold values var (tally_of limit var (tallies_of counts)).steps ↔ (sum_by (λ (c : Count). c.trues) counts ≤ limit)
tally_limits g values limit var counts told few h =
    let says = tally_says g values limit var counts (counted limit values counts told) h in
    let e : 0 + trues_of counts ≡ sum_by (λ (c : Count). c.trues) counts = trues_are counts in (
      λ a. subst (λ (k : ℕ). k ≤ limit) e (says.few (omega arith) (few_all limit counts few) a),
      λ le. says.hold (subst (λ (k : ℕ). k ≤ limit) (sym e) le),
    )
