-- The starts of bits: what is given to a bit once, and what they are where nothing is given.
use Rattle.std.proofs.Common.{◌≡◌, ℕ, zero, suc, ◌+◌, ◌<◌, ◌⊎◌, inl, inr, Bool, true, false, cond, List, [], ◌∷◌, length, get_or, refl, sym, ◌∙◌, subst, nat_eq, nat_lt, arith, if◌then◌else◌}
use Rattle.std.specs.Prelude.{All, Contains}
use Rattle.std.proofs.lemmas.Bool.Decides.{nat_tests}
use Rattle.std.proofs.lemmas.List.{get_or-set_other, get_or-set_same, length-set}
use Rattle.std.proofs.lemmas.List.Elements.{All-set}
use Rattle.coco_base.specs.declared.labels.LabelTable.{LabelTable}
use Rattle.coco_base.specs.declared.setup.Start.{Start}
use Rattle.coco_base.specs.declared.setup.Start.TheVariants.{Public, Label}
use Rattle.coco_base.specs.declared.setup.WordPlan.{WordPlan}
use Rattle.coco_model.specs.Carried.{IsLabelled, word_start}
use Rattle.coco_model.specs.Netlist.{HasNoRepeat}
use Rattle.coco_model.proofs.Basics.{Contains-here, Contains-later, Contains-cases, Contains-none}
use Rattle.label_file.specs.declared.line.LabelValue.{LabelValue}
use Rattle.label_file.specs.declared.line.LabelValue.TheVariants.{Number, Bits}
use Rattle.label_file.specs.Conditions.{IsValue}
use Rattle.bind_run.specs.Inputs.{Given, with_start, with_starts}
use Rattle.bind_run.specs.Values.{value_start}
use Rattle.bind_run.proofs.LineTimes.{given_bits}

pub starts_length : (ss : List Start) (gs : List Given) → length (with_starts ss gs) ≡ length ss
starts_length ss [] = refl
starts_length ss (g ∷ gs) = starts_length (with_start ss g) gs ∙ length-set ss g.bit g.start

-- a bit to which nothing is given keeps its start
pub start_kept : (ss : List Start) (gs : List Given) (b : ℕ) (d : Start) → (Contains (given_bits gs) b → ⊥) → get_or (with_starts ss gs) b d ≡ get_or ss b d
start_kept ss [] b d none = refl
start_kept ss (g ∷ gs) b d none =
    start_kept (with_start ss g) gs b d (λ i. none (Contains-later g.bit b (given_bits gs) i))
    ∙ get_or-set_other ss g.bit b g.start d (λ e. none (subst (Contains (g.bit ∷ given_bits gs)) (sym e) (Contains-here g.bit (given_bits gs))))

-- a bit to which a start is given, and nothing else, has it
pub start_given : (ss : List Start) (gs : List Given) → HasNoRepeat (given_bits gs) → (g : Given) → Contains gs g → g.bit < length ss → (d : Start)
    → get_or (with_starts ss gs) g.bit d ≡ g.start
start_given ss [] once g h below d = absurd (Contains-none g h)
start_given ss (k ∷ gs) once g h below d = go (Contains-cases k g gs h) (start_given (with_start ss k) gs once.1 g)
  where
    go : (k ≡ g) ⊎ Contains gs g
        → (Contains gs g → g.bit < length (with_start ss k) → (d : Start) → get_or (with_starts (with_start ss k) gs) g.bit d ≡ g.start)
        → get_or (with_starts (with_start ss k) gs) g.bit d ≡ g.start
    go (inl e) rest =
        subst (λ (x : Given). get_or (with_starts (with_start ss k) gs) x.bit d ≡ x.start) e
        (start_kept (with_start ss k) gs k.bit d once.0
        ∙ get_or-set_same ss k.bit k.start d (subst (λ (x : Given). x.bit < length ss) (sym e) below))
    go (inr i) rest = rest i (let l = length-set ss k.bit k.start in omega (arith, l, below)) d

-- what holds of all that is given holds of all starts
pub starts_all : (P : Start → Type 0) (ss : List Start) (gs : List Given) → All P ss → ((g : Given) → Contains gs g → P g.start) → All P (with_starts ss gs)
starts_all P ss [] h each = h
starts_all P ss (g ∷ gs) h each =
    starts_all P (with_start ss g) gs (All-set P ss g.bit g.start (each g (Contains-here g gs)) h) (λ k i. each k (Contains-later g k gs i))

-- ---- labels

pub value_labelled : (table : LabelTable) (v : LabelValue) → IsValue table.declared v → (k : ℕ) → IsLabelled table (value_start v k)
value_labelled table (Number n) is k = tt
value_labelled table (Bits first width) is k = go (nat_lt k width) refl
  where
    go : (t : Bool) → nat_lt k width ≡ t → IsLabelled table (if t then Label (first + k) else Public false)
    go true e = let b = is.below in let l : k < width = grind (arith, nat_tests, e) in omega (arith, b, l)
    go false e = tt

pub each_get_or : {X : Type 0} (P : X → Type 0) (xs : List X) (d : X) → ((x : X) → Contains xs x → P x) → P d → (k : ℕ) → P (get_or xs k d)
each_get_or P [] d each p k = p
each_get_or P (x ∷ xs) d each p zero = each x (Contains-here x xs)
each_get_or P (x ∷ xs) d each p (suc k) = each_get_or P xs d (λ y i. each y (Contains-later x y xs i)) p k

-- the words name labels, and so do the bits that start as theirs
pub word_labelled : (table : LabelTable) (words : List WordPlan)
    → ((w : WordPlan) → Contains words w → (s : Start) → Contains w.bits s → IsLabelled table s) → (address k : ℕ)
    → IsLabelled table (word_start words address k)
word_labelled table [] each address k = tt
word_labelled table (w ∷ words) each address k =
    go (nat_eq w.address address) (word_labelled table words (λ v i. each v (Contains-later w v words i)) address k)
  where
    go : (t : Bool) → IsLabelled table (word_start words address k)
        → IsLabelled table (cond t (get_or w.bits k (Public false)) (word_start words address k))
    go true rest = each_get_or (IsLabelled table) w.bits (Public false) (each w (Contains-here w words)) tt k
    go false rest = rest
