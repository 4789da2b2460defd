-- Which nodes of a masked share that is stored in a register matter.
use Rattle.std.proofs.Common.{◌≡◌, ◌≢◌, ℕ, zero, suc, ◌<◌, ◌≤◌, true, List, [], ◌∷◌, get_or, refl, sym, ◌∙◌, ap, arith}
use Rattle.std.specs.Prelude.{◌↔◌}
use Rattle.coco_base.specs.declared.cell.Kind.{Kind}
use Rattle.coco_base.specs.declared.cell.Kind.TheVariants.{Xor}
use Rattle.coco_base.specs.declared.cell.Part.{Part}
use Rattle.coco_base.specs.declared.cell.Part.TheVariants.{Zero, Vary}
use Rattle.coco_base.specs.declared.unrolled.Node.{Node}
use Rattle.coco_base.specs.declared.unrolled.Node.TheVariants.{Nothing, Label, Copy, Gate}
use Rattle.coco_model.specs.Matters.{Matters, AreMattering}
use Rattle.coco_model.specs.Matters.Matters.{labelled, copied, read}
use Rattle.coco_model.specs.Examples.{masked_nodes, masked_matters}

abbrev node_at : ℕ → Node
node_at i = get_or masked_nodes i Nothing

-- a copy is of one of the first five nodes
copies_low : (j i : ℕ) → node_at j ≡ Copy i → i < 5
copies_low zero i e = absurd cc
copies_low (suc zero) i e = absurd cc
copies_low (suc (suc zero)) i e = absurd cc
copies_low (suc (suc (suc zero))) i e = absurd cc
copies_low (suc (suc (suc (suc zero)))) i e = absurd cc
copies_low (suc (suc (suc (suc (suc zero))))) i e = absurd cc
copies_low (suc (suc (suc (suc (suc (suc zero)))))) i e = absurd cc
copies_low (suc (suc (suc (suc (suc (suc (suc zero))))))) i e = absurd cc
copies_low (suc (suc (suc (suc (suc (suc (suc (suc zero)))))))) i e = let f : 1 ≡ i = cc in omega arith
copies_low (suc (suc (suc (suc (suc (suc (suc (suc (suc zero))))))))) i e = let f : 2 ≡ i = cc in omega arith
copies_low (suc (suc (suc (suc (suc (suc (suc (suc (suc (suc zero)))))))))) i e = let f : 3 ≡ i = cc in omega arith
copies_low (suc (suc (suc (suc (suc (suc (suc (suc (suc (suc (suc zero))))))))))) i e = let f : 4 ≡ i = cc in omega arith
copies_low (suc (suc (suc (suc (suc (suc (suc (suc (suc (suc (suc (suc zero)))))))))))) i e = let f : 4 ≡ i = cc in omega arith
copies_low (suc (suc (suc (suc (suc (suc (suc (suc (suc (suc (suc (suc (suc zero))))))))))))) i e = absurd cc
copies_low (suc (suc (suc (suc (suc (suc (suc (suc (suc (suc (suc (suc (suc (suc j)))))))))))))) i e = absurd cc

-- no gate reads the nodes 6 and 13
record IsAway (reads : List ℕ) : Type 0 where
  first : ℕ
  second : ℕ
  is : reads ≡ first ∷ second ∷ 0 ∷ 0 ∷ []
  away : (first ≢ 6) × ((second ≢ 6) × ((first ≢ 13) × (second ≢ 13)))

gate_reads : (j : ℕ) (kind : Kind) (parts : List Part) (reads : List ℕ) → node_at j ≡ Gate kind parts reads → IsAway reads
gate_reads zero kind parts reads e = absurd cc
gate_reads (suc zero) kind parts reads e = absurd cc
gate_reads (suc (suc zero)) kind parts reads e = absurd cc
gate_reads (suc (suc (suc zero))) kind parts reads e = absurd cc
gate_reads (suc (suc (suc (suc zero)))) kind parts reads e = record { first = 1; second = 3; is = cc; away = (λ s. omega arith, (λ s. omega arith, (λ s. omega arith, λ s. omega arith))) }
gate_reads (suc (suc (suc (suc (suc zero))))) kind parts reads e = absurd cc
gate_reads (suc (suc (suc (suc (suc (suc zero)))))) kind parts reads e = record { first = 0; second = 2; is = cc; away = (λ s. omega arith, (λ s. omega arith, (λ s. omega arith, λ s. omega arith))) }
gate_reads (suc (suc (suc (suc (suc (suc (suc zero))))))) kind parts reads e = absurd cc
gate_reads (suc (suc (suc (suc (suc (suc (suc (suc zero)))))))) kind parts reads e = absurd cc
gate_reads (suc (suc (suc (suc (suc (suc (suc (suc (suc zero))))))))) kind parts reads e = absurd cc
gate_reads (suc (suc (suc (suc (suc (suc (suc (suc (suc (suc zero)))))))))) kind parts reads e = absurd cc
gate_reads (suc (suc (suc (suc (suc (suc (suc (suc (suc (suc (suc zero))))))))))) kind parts reads e = absurd cc
gate_reads (suc (suc (suc (suc (suc (suc (suc (suc (suc (suc (suc (suc zero)))))))))))) kind parts reads e = absurd cc
gate_reads (suc (suc (suc (suc (suc (suc (suc (suc (suc (suc (suc (suc (suc zero))))))))))))) kind parts reads e = record { first = 12; second = 9; is = cc; away = (λ s. omega arith, (λ s. omega arith, (λ s. omega arith, λ s. omega arith))) }
gate_reads (suc (suc (suc (suc (suc (suc (suc (suc (suc (suc (suc (suc (suc (suc j)))))))))))))) kind parts reads e = absurd cc

not_read : (a b target place : ℕ) → a ≢ target → b ≢ target → 0 ≢ target → get_or (a ∷ b ∷ 0 ∷ 0 ∷ []) place 0 ≢ target
not_read a b target zero p q r = p
not_read a b target (suc zero) p q r = q
not_read a b target (suc (suc zero)) p q r = r
not_read a b target (suc (suc (suc zero))) p q r = r
not_read a b target (suc (suc (suc (suc place)))) p q r = r

abbrev HasNoReader : ℕ → Type 0
HasNoReader i = (j : ℕ) (kind : Kind) (parts : List Part) (reads : List ℕ) (place : ℕ) → node_at j ≡ Gate kind parts reads
    → get_or reads place 0 ≢ i

no_reader_6 : HasNoReader 6
no_reader_6 j kind parts reads place e f =
    let g = gate_reads j kind parts reads e in
    not_read g.first g.second 6 place g.away.0 g.away.1.0 (λ s. omega arith) (ap (λ os. get_or os place 0) (sym g.is) ∙ f)

no_reader_13 : HasNoReader 13
no_reader_13 j kind parts reads place e f =
    let g = gate_reads j kind parts reads e in
    not_read g.first g.second 13 place g.away.1.1.0 g.away.1.1.1 (λ s. omega arith) (ap (λ os. get_or os place 0) (sym g.is) ∙ f)

-- a node behind the first five that is no label and that no gate reads does not matter
unread : (i : ℕ) → ((l : ℕ) → node_at i ≢ Label l) → 5 ≤ i → HasNoReader i → Matters node_at i → ⊥
unread i no_label high none (labelled k l e) = no_label l e
unread i no_label high none (copied k j kind parts operands e f) = let low = copies_low j i f in omega arith
unread i no_label high none (read k j place kind other parts others operands reads e f m varies at) = none j other others reads place f at

-- nor does a node that is no label and no gate
plain : (i : ℕ) → ((l : ℕ) → node_at i ≢ Label l)
    → ((kind : Kind) (parts : List Part) (operands : List ℕ) → node_at i ≢ Gate kind parts operands) → Matters node_at i → ⊥
plain i no_label no_gate (labelled k l e) = no_label l e
plain i no_label no_gate (copied k j kind parts operands e f) = no_gate kind parts operands e
plain i no_label no_gate (read k j place kind other parts others operands reads e f m varies at) = no_gate kind parts operands e

mattering : (i : ℕ) → i < 14 → (masked_matters i ≡ true) ↔ Matters node_at i
mattering zero below = ((λ e. absurd cc), (λ m. absurd (plain 0 (λ l e. cc) (λ kind parts operands e. cc) m)))
mattering (suc zero) below = ((λ e. labelled 1 0 refl), (λ m. refl))
mattering (suc (suc zero)) below = ((λ e. labelled 2 1 refl), (λ m. refl))
mattering (suc (suc (suc zero))) below = ((λ e. labelled 3 2 refl), (λ m. refl))
mattering (suc (suc (suc (suc zero)))) below = ((λ e. copied 4 11 Xor (Vary ∷ Vary ∷ Zero ∷ Zero ∷ []) (1 ∷ 3 ∷ 0 ∷ 0 ∷ []) refl refl), (λ m. refl))
mattering (suc (suc (suc (suc (suc zero))))) below = ((λ e. absurd cc), (λ m. absurd (plain 5 (λ l e. cc) (λ kind parts operands e. cc) m)))
mattering (suc (suc (suc (suc (suc (suc zero)))))) below = ((λ e. absurd cc), (λ m. absurd (unread 6 (λ l e. cc) (omega arith) no_reader_6 m)))
mattering (suc (suc (suc (suc (suc (suc (suc zero))))))) below = ((λ e. absurd cc), (λ m. absurd (plain 7 (λ l e. cc) (λ kind parts operands e. cc) m)))
mattering (suc (suc (suc (suc (suc (suc (suc (suc zero)))))))) below = ((λ e. absurd cc), (λ m. absurd (plain 8 (λ l e. cc) (λ kind parts operands e. cc) m)))
mattering (suc (suc (suc (suc (suc (suc (suc (suc (suc zero))))))))) below = ((λ e. absurd cc), (λ m. absurd (plain 9 (λ l e. cc) (λ kind parts operands e. cc) m)))
mattering (suc (suc (suc (suc (suc (suc (suc (suc (suc (suc zero)))))))))) below = ((λ e. absurd cc), (λ m. absurd (plain 10 (λ l e. cc) (λ kind parts operands e. cc) m)))
mattering (suc (suc (suc (suc (suc (suc (suc (suc (suc (suc (suc zero))))))))))) below = ((λ e. absurd cc), (λ m. absurd (plain 11 (λ l e. cc) (λ kind parts operands e. cc) m)))
mattering (suc (suc (suc (suc (suc (suc (suc (suc (suc (suc (suc (suc zero)))))))))))) below = ((λ e. absurd cc), (λ m. absurd (plain 12 (λ l e. cc) (λ kind parts operands e. cc) m)))
mattering (suc (suc (suc (suc (suc (suc (suc (suc (suc (suc (suc (suc (suc zero))))))))))))) below = ((λ e. absurd cc), (λ m. absurd (unread 13 (λ l e. cc) (omega arith) no_reader_13 m)))
mattering (suc (suc (suc (suc (suc (suc (suc (suc (suc (suc (suc (suc (suc (suc i)))))))))))))) below = absurd (omega arith)

pub are_mattering : AreMattering masked_nodes masked_matters
are_mattering = record { each = mattering }
