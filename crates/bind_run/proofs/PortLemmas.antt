-- Ports in order of names.
use Rattle.std.proofs.Common.{◌≡◌, ℕ, ◌+◌, false, cond, List, [], ◌∷◌, ◌++◌, take, drop, sym, ◌∙◌, ap}
use Rattle.std.specs.Cmp.Lexicographic.{slice_cmp}
use Rattle.std.specs.Ordering.{is_lt, nat_cmp}
use Rattle.std.proofs.Math.Seq.{take-add}
use Rattle.std.proofs.lemmas.List.{append_assoc}
use Rattle.coco_base.specs.declared.netlist.FlatPort.{FlatPort}
use Rattle.bind_run.specs.Widened.{with_port}

taken_rest : (ports rest more : List FlatPort) (q : FlatPort) (n : ℕ) → rest ≡ drop n ports → rest ≡ q ∷ more → take (n + 1) ports ≡ take n ports ++ q ∷ []
taken_rest ports rest more q n e f = take-add n 1 ports ∙ ap (λ ys. take n ports ++ take 1 ys) (sym e ∙ f)

-- a port whose name is not less than that of the next goes behind it
pub later_port : (p q : FlatPort) (more rest ports : List FlatPort) (n : ℕ) (name other : List ℕ) → p.name ≡ name → other ≡ q.name
    → false ≡ is_lt (slice_cmp nat_cmp name other) → rest ≡ q ∷ more → rest ≡ drop n ports
    → with_port p ports ≡ take n ports ++ with_port p rest → with_port p ports ≡ take (n + 1) ports ++ with_port p more
later_port p q more rest ports n name other pn qn lt e f h =
    h ∙ ap (λ r. take n ports ++ with_port p r) e
    ∙ ap (λ t. take n ports ++ cond t (p ∷ q ∷ more) (q ∷ with_port p more))
    (ap (λ m. is_lt (slice_cmp nat_cmp m q.name)) pn ∙ ap (λ m. is_lt (slice_cmp nat_cmp name m)) (sym qn) ∙ sym lt)
    ∙ sym (append_assoc (take n ports) (q ∷ []) (with_port p more))
    ∙ ap (λ ys. ys ++ with_port p more) (sym (taken_rest ports rest more q n f e))
