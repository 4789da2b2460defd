-- What is left of a build while it is carried out.
use Rattle.std.proofs.Common.{◌≡◌, refl, sym, ap₂, ◌∙◌, subst}
use Rattle.circuit_clauses.specs.Steps.{variables_after}
use Rattle.circuit_clauses.specs.Formulas.{Formula, Fits}
use Rattle.circuit_clauses.proofs.Sequences.{extended-append, extended-nil, fits_before}
use Rattle.clause_builds.specs.Builds.{Build, made, after, done, ◌>>=◌}

pub made-done : {X : Type 0} (f : Formula) (x : X) → made f (done x) ≡ x
unfolding done
made-done f x = refl

pub after-done : {X : Type 0} (f : Formula) (x : X) → after f (done x) ≡ f
unfolding done
after-done f x = extended-nil f

pub made-bind : {X Y : Type 0} (f : Formula) (first : Build X) (next : X → Build Y) → made f (first >>= next) ≡ made (after f first) (next (made f first))
unfolding ◌>>=◌
made-bind f first next = refl

pub after-bind : {X Y : Type 0} (f : Formula) (first : Build X) (next : X → Build Y) → after f (first >>= next) ≡ after (after f first) (next (made f first))
unfolding ◌>>=◌
after-bind f first next =
    extended-append f (first f.vars).steps (next (first f.vars).result (variables_after f.vars (first f.vars).steps)).steps

-- a whole build from f is as good as what is left of it from g
pub record IsLeft {X : Type 0} (f : Formula) (whole : Build X) (g : Formula) (left : Build X) : Type 0 where
  pub result : made g left ≡ made f whole
  pub formula : after g left ≡ after f whole

-- at the start all is left
pub all_left : {X : Type 0} (f : Formula) (whole : Build X) → IsLeft f whole f whole
all_left f whole = record { result = refl; formula = refl }

-- the same, said otherwise
pub left_as : {X : Type 0} {f g : Formula} {whole left : Build X} (other : Build X) → IsLeft f whole g left → left ≡ other → IsLeft f whole g other
left_as {f = f} {g = g} {whole = whole} other h e = subst (λ b. IsLeft f whole g b) e h

pub whole_as : {X : Type 0} {f g : Formula} {whole left : Build X} (other : Build X) → IsLeft f whole g left → whole ≡ other → IsLeft f other g left
whole_as {f = f} {g = g} {left = left} other h e = subst (λ b. IsLeft f b g left) e h

-- after the first build what comes next is left
pub next_left : {X Y : Type 0} {f g : Formula} {whole : Build Y} (first : Build X) (next : X → Build Y) (h : Formula) (x : X)
    → IsLeft f whole g (first >>= next) → h ≡ after g first → x ≡ made g first → IsLeft f whole h (next x)
next_left {X = X} {Y = Y} {f = f} {g = g} {whole = whole} first next h x l eh ex =
    let k : IsLeft f whole (after g first) (next (made g first)) = record {
      result = sym (made-bind g first next) ∙ l.result;
      formula = sym (after-bind g first next) ∙ l.formula;
    } in
    subst (λ y. IsLeft f whole h (next y)) (sym ex) (subst (λ i. IsLeft f whole i (next (made g first))) (sym eh) k)

-- where the last build is left, its outcome is that of the whole
pub last_left : {X : Type 0} {f g : Formula} {whole : Build X} (last : Build X) (h : Formula) (x : X)
    → IsLeft f whole g last → h ≡ after g last → x ≡ made g last → (x ≡ made f whole) × (h ≡ after f whole)
last_left last h x l eh ex = (ex ∙ l.result, eh ∙ l.formula)

-- where no step is left, the whole is built
pub none_left : {X : Type 0} {f g : Formula} {whole : Build X} (x : X) → IsLeft f whole g (done x) → (x ≡ made f whole) × (g ≡ after f whole)
none_left {g = g} x l = (sym (made-done g x) ∙ l.result, sym (after-done g x) ∙ l.formula)

-- where the whole fits, what is left fits, and so does its first build
pub left_fits : {X : Type 0} {f g : Formula} {whole : Build X} (left : Build X) → IsLeft f whole g left → Fits (after f whole) → Fits (after g left)
left_fits left l h = subst Fits (sym l.formula) h

pub first_fits : {X Y : Type 0} {f g : Formula} {whole : Build Y} (first : Build X) (next : X → Build Y)
    → IsLeft f whole g (first >>= next) → Fits (after f whole) → Fits (after g first)
first_fits {g = g} first next l h =
    let k : Fits (after (after g first) (next (made g first))) = subst Fits (sym (sym (after-bind g first next) ∙ l.formula)) h in
    fits_before (after g first) (next (made g first) (after g first).vars).steps k

-- two builds with the same outcome from every formula
pub record AreSame {X : Type 0} (one other : Build X) : Type 0 where
  pub result : (f : Formula) → made f one ≡ made f other
  pub formula : (f : Formula) → after f one ≡ after f other

pub same_refl : {X : Type 0} (build : Build X) → AreSame build build
same_refl build = record { result = λ f. refl; formula = λ f. refl }

pub same_trans : {X : Type 0} {a b c : Build X} → AreSame a b → AreSame b c → AreSame a c
same_trans p q = record { result = λ f. p.result f ∙ q.result f; formula = λ f. p.formula f ∙ q.formula f }

pub left_same : {X : Type 0} {f g : Formula} {whole left : Build X} (other : Build X) → IsLeft f whole g left → AreSame left other → IsLeft f whole g other
left_same {g = g} other l e = record { result = sym (e.result g) ∙ l.result; formula = sym (e.formula g) ∙ l.formula }

-- builds in one another: what comes first in the first comes first
pub bind_bind : {X Y Z : Type 0} (first : Build X) (next : X → Build Y) (last : Y → Build Z)
    → AreSame ((first >>= next) >>= last) (first >>= (λ x. next x >>= last))
bind_bind {Y = Y} first next last =
    record {
      result = λ f. (
          let h = after f first in
          let a : made f ((first >>= next) >>= last) ≡ made (after f (first >>= next)) (last (made f (first >>= next))) = made-bind f (first >>= next) last in
          let b : made f (first >>= (λ x. next x >>= last)) ≡ made (after h (next (made f first))) (last (made h (next (made f first)))) = made-bind f first (λ x. next x >>= last) ∙ made-bind h (next (made f first)) last in
          a ∙ (ap₂ (λ (g : Formula) (y : Y). made g (last y)) (after-bind f first next) (made-bind f first next) ∙ sym b)
          );
      formula = λ f. (
          let h = after f first in
          let a : after f ((first >>= next) >>= last) ≡ after (after f (first >>= next)) (last (made f (first >>= next))) = after-bind f (first >>= next) last in
          let b : after f (first >>= (λ x. next x >>= last)) ≡ after (after h (next (made f first))) (last (made h (next (made f first)))) = after-bind f first (λ x. next x >>= last) ∙ after-bind h (next (made f first)) last in
          a ∙ (ap₂ (λ (g : Formula) (y : Y). after g (last y)) (after-bind f first next) (made-bind f first next) ∙ sym b)
          );
    }

-- the same next builds
pub bind_same : {X Y : Type 0} (first : Build X) (next other : X → Build Y) → ((x : X) → AreSame (next x) (other x)) → AreSame (first >>= next) (first >>= other)
bind_same first next other h =
    record {
      result = λ f. made-bind f first next ∙ ((h (made f first)).result (after f first) ∙ sym (made-bind f first other));
      formula = λ f. after-bind f first next ∙ ((h (made f first)).formula (after f first) ∙ sym (after-bind f first other));
    }

-- no step before a build, and none after it
pub done_bind : {X Y : Type 0} (x : X) (next : X → Build Y) → AreSame (done x >>= next) (next x)
done_bind {X = X} x next =
    record {
      result = λ f. made-bind f (done x) next ∙ ap₂ (λ (g : Formula) (y : X). made g (next y)) (after-done f x) (made-done f x);
      formula = λ f. after-bind f (done x) next ∙ ap₂ (λ (g : Formula) (y : X). after g (next y)) (after-done f x) (made-done f x);
    }

pub bind_done : {X : Type 0} (build : Build X) → AreSame (build >>= done) build
bind_done build =
    record {
      result = λ f. made-bind f build done ∙ made-done (after f build) (made f build);
      formula = λ f. after-bind f build done ∙ after-done (after f build) (made f build);
    }

pub same_back : {X : Type 0} {a b : Build X} → AreSame a b → AreSame b a
same_back p = record { result = λ f. sym (p.result f); formula = λ f. sym (p.formula f) }

-- a build whose result is then turned into another
pub then_done : {X Y : Type 0} (f : Formula) (first : Build X) (turned : X → Y) (h : Formula) (x : X) → h ≡ after f first → x ≡ made f first
    → (turned x ≡ made f (first >>= (λ y. done (turned y)))) × (h ≡ after f (first >>= (λ y. done (turned y))))
then_done {X = X} f first turned h x eh ex =
    none_left (turned x) (next_left first (λ (y : X). done (turned y)) h x (all_left f (first >>= (λ (y : X). done (turned y)))) eh ex)

-- two builds one after the other, whose results are then turned into one
abbrev pub two : {X Y Z : Type 0} → Build X → (X → Build Y) → (X → Y → Z) → Build Z
two first second turned = first >>= (λ x. second x >>= (λ y. done (turned x y)))

second_left : {X Y Z : Type 0} (f : Formula) (first : Build X) (second : X → Build Y) (turned : X → Y → Z) (h : Formula) (x : X)
    → h ≡ after f first → x ≡ made f first → IsLeft f (two first second turned) h (second x >>= (λ y. done (turned x y)))
second_left {X = X} {Y = Y} f first second turned h x eh ex =
    next_left first (λ (x : X). second x >>= (λ (y : Y). done (turned x y))) h x (all_left f (two first second turned)) eh ex

pub second_fits : {X Y Z : Type 0} (f : Formula) (first : Build X) (second : X → Build Y) (turned : X → Y → Z) (h : Formula) (x : X)
    → h ≡ after f first → x ≡ made f first → Fits (after f (two first second turned)) → Fits (after h (second x))
second_fits {Y = Y} f first second turned h x eh ex fits =
    first_fits (second x) (λ (y : Y). done (turned x y)) (second_left f first second turned h x eh ex) fits

pub two_ends : {X Y Z : Type 0} (f : Formula) (first : Build X) (second : X → Build Y) (turned : X → Y → Z) (h : Formula) (x : X) (i : Formula) (y : Y)
    → h ≡ after f first → x ≡ made f first → i ≡ after h (second x) → y ≡ made h (second x)
    → (turned x y ≡ made f (two first second turned)) × (i ≡ after f (two first second turned))
two_ends {Y = Y} f first second turned h x i y eh ex ei ey =
    none_left (turned x y) (next_left (second x) (λ (y : Y). done (turned x y)) i y (second_left f first second turned h x eh ex) ei ey)
