-- The step of a rule of each kind, from the steps of what stands inside.
use Rattle.std.proofs.Common.{◌≡◌, ℕ, suc, ◌+◌, ◌<◌, ◌≤◌, Bool, false, List, [], ◌∷◌, ◌++◌, length, take, drop, sym, refl, ap, ◌∙◌, subst, append-nil, arith, vec_len}
use Rattle.feed.specs.declared.lines.Line.{Line}
use Rattle.book.specs.Rules.{Pattern, Rule, duty, trigger, bracket}
use Rattle.book.specs.Sizes.{nodes, depth}
use Rattle.book.specs.declared.terms.DutyKind.{DutyKind}
use Rattle.book.specs.declared.terms.TriggerKind.TheVariants.{Each, Once}
use Rattle.book.specs.declared.terms.BracketKind.TheVariants.{Else, And}
use Rattle.duty.specs.Matching.{Bindings, effect}
use Rattle.duty.specs.Sheet.{entry}
use Rattle.duty.specs.Facts.{All, Group}
use Rattle.duty.specs.Groups.{group_size, head}
use Rattle.duty.specs.Open.{Open, start, Left, met, missed, still, over, OnceOpen, waiting, running, EachOpen, watch, ElseOpen, first, second, AndOpen, two, left, right, duty_step, once_step, each_step, each_effect, else_step, and_step, Kept, broken, kept, unless_broken, step_duties, step, together, entries, shown}
use Rattle.duty.specs.Drafts.{Drafted, Adds, Cuts}
use Rattle.duty.specs.Stepping.{outcome, duties_outcome, sides, Came, CameAll, StepsAt, BothStepAt, DutiesStepAt, each_entries, marks, Closes}
use Rattle.duty.specs.declared.drafts.Draft.{Draft}
use Rattle.duty.specs.declared.entries.Entry.{Entry}
use Rattle.duty.specs.declared.matching.Effect.{Effect}
use Rattle.duty.specs.declared.outcomes.Outcome.{Outcome}
use Rattle.duty.specs.declared.outcomes.Outcome.TheVariants.{Satisfied, Breached, Open as StillOpen}
use Rattle.duty.specs.declared.outcomes.Sides.{Sides}
use Rattle.duty.specs.declared.outcomes.Sides.TheVariants as of
use Rattle.duty.specs.declared.places.Place.{Place}
use Rattle.duty.proofs.Listed.{group, within, In}
use Rattle.duty.proofs.Splits.{Shallow, group_splits, shallow_group}
use Rattle.duty.proofs.Written.{counted, adds_then}
use Rattle.duty.proofs.Ways.{came_as, came_still, came_over, running-entries}

-- what an answer says of what is left
pub met-is : {A : Type 0} (x : Left A) → Satisfied ≡ outcome x → x ≡ met
met-is met e = refl
met-is missed e = cc
met-is (still o) e = cc

pub missed-is : {A : Type 0} (x : Left A) → Breached ≡ outcome x → x ≡ missed
missed-is met e = cc
missed-is missed e = refl
missed-is (still o) e = cc

pub record Still {A : Type 0} (x : Left A) : Type 0 where
  pub o : A
  pub is : x ≡ still o

pub still-is : {A : Type 0} (x : Left A) → StillOpen ≡ outcome x → Still x
still-is met e = cc
still-is missed e = cc
still-is (still o) e = record { o = o; is = refl }

-- the head of a group
head_of : (P : Entry → Type 0) (lev : ℕ) (g : List Entry) → Group lev g → All P g → P (head g)
head_of P lev [] h k = absurd h
head_of P lev (e ∷ es) h k = k.0

pub head_in : (r : Rule) (n lev : ℕ) (o : Open r) (g : List Entry) → g ≡ entries r n lev o → (n ≤ (head g).node) × ((head g).node < n + nodes r)
head_in r n lev o g e =
    let h = head_of (In n (n + nodes r) (lev + depth r)) lev (entries r n lev o) (group r n lev o) (within r n lev o) in
    let i = subst (λ x. In n (n + nodes r) (lev + depth r) (head x)) (sym e) h in
    (i.0, i.1)

pub some-entry : (r : Rule) (n lev : ℕ) (o : Open r) (g : List Entry) → g ≡ entries r n lev o → 0 < length g
some-entry r n lev o g e = subst (λ x. 0 < length x) (sym e) (go (entries r n lev o) (group r n lev o))
  where
    go : (es : List Entry) → Group lev es → 0 < length es
    go [] h = absurd h
    go (x ∷ es) h = omega arith

-- cutting back undoes what was written
pub cut_back : (d d' d'' : Draft) (more : List Entry) → Adds d d' more → Cuts (vec_len d.entries) d' d'' → Adds d d'' []
cut_back d d' d'' more a c es h = subst (Drafted d'') (sym (append-nil es)) (c es more (a es h) (counted d es h))

came_met : (r : Rule) (n lev : ℕ) (x : Left (Open r)) (d d' : Draft) → x ≡ met → Adds d d' [] → Came r n lev x d d' Satisfied
came_met r n lev x d d' e a = came_as r n lev met x d d' Satisfied (sym e) (record { answer = refl; written = a })

came_missed : (r : Rule) (n lev : ℕ) (x : Left (Open r)) (d d' : Draft) → x ≡ missed → Adds d d' [] → Came r n lev x d d' Breached
came_missed r n lev x d d' e a = came_as r n lev missed x d d' Breached (sym e) (record { answer = refl; written = a })

-- a duty
pub duty-step : (k : DutyKind) (p q : Pattern) (n : ℕ) (L : ℕ) (g : List Entry) (x : Entry) (l : Line) (d d' : Draft) (a : Outcome) → x ≡ head g → Came (duty k p q) n L (duty_step k x.letters (effect p q x.letters l)) d d' a → (lev : ℕ) (f : Bindings) → g ≡ entries (duty k p q) n lev f → Came (duty k p q) n L (step (duty k p q) f l) d d' a
unfolding step entries
duty-step k p q n L g x l d d' a is h lev f e =
    came_as (duty k p q) n L _ _ d d' a (ap (λ y. duty_step k y.letters (effect p q y.letters l)) (is ∙ ap head e)) h

-- a `once`
pub once_waits : (p q : Pattern) (s : Rule) (n L : ℕ) (g : List Entry) (x : Entry) (l : Line) (d d' : Draft) (a : Outcome) → x ≡ head g → x.node ≡ n → Came (trigger Once p q s) n L (once_step x.letters (effect p q x.letters l) (start s)) d d' a → (lev : ℕ) (o : OnceOpen (Open s)) → g ≡ entries (trigger Once p q s) n lev o → Came (trigger Once p q s) n L (step (trigger Once p q s) o l) d d' a
unfolding step entries
once_waits p q s n L g x l d d' a is at h lev (waiting f) e =
    came_as (trigger Once p q s) n L _ _ d d' a (ap (λ y. once_step y.letters (effect p q y.letters l) (start s)) (is ∙ ap head e)) h
once_waits p q s n L g x l d d' a is at h lev (running o) e =
    let i = head_in s (suc n) lev o g e in
    let here : (head g).node ≡ n = ap (λ y. y.node) (sym is) ∙ at in
    absurd (omega arith)

pub once_runs : (p q : Pattern) (s : Rule) (n L : ℕ) (p' : Place) (g : List Entry) (l : Line) (d d' : Draft) (a : Outcome) → ((head g).node ≡ n → ⊥) → p'.node ≡ n + 1 → p'.level ≡ L → StepsAt s p' g l d a d' → (lev : ℕ) (o : OnceOpen (Open s)) → g ≡ entries (trigger Once p q s) n lev o → Came (trigger Once p q s) n L (step (trigger Once p q s) o l) d d' a
unfolding step entries
once_runs p q s n L p' g l d d' a at en el h lev (waiting f) e = absurd (at (ap (λ x. (head x).node) e))
once_runs p q s n L p' g l d d' a at en el h lev (running o) e =
    came_over (trigger Once p q s) s n L p'.node p'.level running (λ o. running-entries p q s n L p'.node p'.level o en el) (step s o l) d d' a
    (h lev o (e ∙ sym (running-entries p q s n lev p'.node lev o en refl)))

-- an `else`
pub second-entries : (r s : Rule) (n lev n' lev' : ℕ) (o : Open s) → n' ≡ n + (1 + nodes r) → lev' ≡ lev → entries s n' lev' o ≡ entries (bracket Else r s) n lev (second o)
unfolding entries
second-entries r s n lev n' lev' o a b = let a' : n' ≡ suc n + nodes r = omega arith in λ i. entries s (a' i) (b i) o

pub else_second : (r s : Rule) (n L : ℕ) (p' : Place) (g : List Entry) (l : Line) (d d' : Draft) (a : Outcome) → ((head g).node ≡ n → ⊥) → p'.node ≡ n + (1 + nodes r) → p'.level ≡ L → StepsAt s p' g l d a d' → (lev : ℕ) (o : ElseOpen (Open r) (Open s)) → g ≡ entries (bracket Else r s) n lev o → Came (bracket Else r s) n L (step (bracket Else r s) o l) d d' a
unfolding step entries
else_second r s n L p' g l d d' a at en el h lev (first f o) e = absurd (at (ap (λ x. (head x).node) e))
else_second r s n L p' g l d d' a at en el h lev (second o) e =
    came_over (bracket Else r s) s n L p'.node p'.level second (λ o. second-entries r s n L p'.node p'.level o en el) (step s o l) d d' a
    (h lev o (e ∙ sym (second-entries r s n lev p'.node lev o en refl)))

-- what is known once its first rule has stepped
pub record First (r s : Rule) (n L : ℕ) (p' : Place) (g : List Entry) (l : Line) (d d' : Draft) (a : Outcome) (o : ElseOpen (Open r) (Open s)) : Type 0 where
  pub inside : Open r
  pub stepped : step (bracket Else r s) o l ≡ else_step (head g).letters (step r inside l) (start s (head g).letters)
  pub came : Came r p'.node p'.level (step r inside l) d d' a

pub else_first : (r s : Rule) (n L : ℕ) (p' : Place) (g below : List Entry) (l : Line) (d d' : Draft) (a : Outcome) → (head g).node ≡ n → below ≡ drop 1 g → p'.node ≡ n + 1 → StepsAt r p' below l d a d' → (lev : ℕ) (o : ElseOpen (Open r) (Open s)) → g ≡ entries (bracket Else r s) n lev o → First r s n L p' g l d d' a o
unfolding step entries
else_first r s n L p' g below l d d' a at b en h lev (first f o) e =
    let en' : p'.node ≡ suc n = omega arith in
    record {
      inside = o;
      stepped = sym (ap (λ x. else_step (head x).letters (step r o l) (start s (head x).letters)) e);
      came = h (suc lev) o (b ∙ (ap (drop 1) e ∙ (λ i. entries r (sym en' i) (suc lev) o)));
    }
else_first r s n L p' g below l d d' a at b en h lev (second o) e = let i = head_in s (suc n + nodes r) lev o g e in absurd (omega arith)

pub else_met : (r s : Rule) (n L : ℕ) (p' : Place) (g : List Entry) (l : Line) (d d' d'' d''' : Draft) (x : List Entry) (o : ElseOpen (Open r) (Open s)) → Adds d d' x → First r s n L p' g l d' d'' Satisfied o → Cuts (vec_len d.entries) d'' d''' → Came (bracket Else r s) n L (step (bracket Else r s) o l) d d''' Satisfied
else_met r s n L p' g l d d' d'' d''' x o w f c =
    let f' = (head g).letters in
    came_met (bracket Else r s) n L _ d d''' (f.stepped ∙ ap (λ x. else_step f' x (start s f')) (met-is (step r f.inside l) f.came.answer))
    (cut_back d d'' d''' _ (adds_then d d' d'' x _ w f.came.written) c)

pub else_breached : (r s : Rule) (n L : ℕ) (p' p'' : Place) (g : List Entry) (l : Line) (d d' d'' d''' d'''' : Draft) (x : List Entry) (o : ElseOpen (Open r) (Open s)) → Adds d d' x → First r s n L p' g l d' d'' Breached o → Cuts (vec_len d.entries) d'' d''' → p''.node ≡ n + (1 + nodes r) → p''.level ≡ L → Adds d''' d'''' (entries s p''.node p''.level (start s (head g).letters)) → Came (bracket Else r s) n L (step (bracket Else r s) o l) d d'''' StillOpen
else_breached r s n L p' p'' g l d d' d'' d''' d'''' x o w f c en el a =
    let f' = (head g).letters in
    came_still (bracket Else r s) n L _ (second (start s f')) d d'''' (entries s p''.node p''.level (start s f'))
    (f.stepped ∙ ap (λ x. else_step f' x (start s f')) (missed-is (step r f.inside l) f.came.answer))
    (adds_then d d''' d'''' [] _ (cut_back d d'' d''' _ (adds_then d d' d'' x _ w f.came.written) c) a)
    (second-entries r s n L p''.node p''.level (start s f') en el)

pub else_open : (r s : Rule) (n L : ℕ) (p' : Place) (g : List Entry) (l : Line) (d d' d'' : Draft) (o : ElseOpen (Open r) (Open s)) → Adds d d' (entry n L false (head g).letters ∷ []) → First r s n L p' g l d' d'' StillOpen o → p'.node ≡ n + 1 → p'.level ≡ L + 1 → Came (bracket Else r s) n L (step (bracket Else r s) o l) d d'' StillOpen
unfolding entries
else_open r s n L p' g l d d' d'' o w f en el =
    let f' = (head g).letters in
    let t = still-is (step r f.inside l) f.came.answer in
    let a : p'.node ≡ suc n = omega arith in
    let b : p'.level ≡ suc L = omega arith in
    came_still (bracket Else r s) n L _ (first f' t.o) d d'' _
    (f.stepped ∙ ap (λ x. else_step f' x (start s f')) t.is)
    (adds_then d d' d'' (entry n L false f' ∷ []) _ w f.came.written)
    (ap (λ x. entry n L false f' ∷ shown (entries r p'.node p'.level) x) t.is ∙ (λ i. entry n L false f' ∷ entries r (a i) (b i) t.o))

-- an `and`
left-entries : (r s : Rule) (n lev n' lev' : ℕ) (o : Open r) → n' ≡ n + 1 → lev' ≡ lev → entries r n' lev' o ≡ entries (bracket And r s) n lev (left o)
unfolding entries
left-entries r s n lev n' lev' o a b = let a' : n' ≡ suc n = omega arith in λ i. entries r (a' i) (b i) o

right-entries : (r s : Rule) (n lev n' lev' : ℕ) (o : Open s) → n' ≡ n + (1 + nodes r) → lev' ≡ lev → entries s n' lev' o ≡ entries (bracket And r s) n lev (right o)
unfolding entries
right-entries r s n lev n' lev' o a b = let a' : n' ≡ suc n + nodes r = omega arith in λ i. entries s (a' i) (b i) o

pub and_two : (r s : Rule) (p : Place) (g : List Entry) (l : Line) (d d' : Draft) (a : Outcome) → (head g).node ≡ p.node → BothStepAt r s p g l d a d' → (lev : ℕ) (o : AndOpen (Open r) (Open s)) → g ≡ entries (bracket And r s) p.node lev o → Came (bracket And r s) p.node p.level (step (bracket And r s) o l) d d' a
unfolding step entries
and_two r s p g l d d' a at h lev (two f o o') e = h lev f o o' e
and_two r s p g l d d' a at h lev (left o) e = let i = head_in r (suc p.node) lev o g e in absurd (omega arith)
and_two r s p g l d d' a at h lev (right o) e = let i = head_in s (suc p.node + nodes r) lev o g e in absurd (omega arith)

pub and_left : (r s : Rule) (n L m : ℕ) (p' : Place) (g : List Entry) (l : Line) (d d' : Draft) (a : Outcome) → ((head g).node ≡ n → ⊥) → m ≡ n + (1 + nodes r) → (head g).node < m → p'.node ≡ n + 1 → p'.level ≡ L → StepsAt r p' g l d a d' → (lev : ℕ) (o : AndOpen (Open r) (Open s)) → g ≡ entries (bracket And r s) n lev o → Came (bracket And r s) n L (step (bracket And r s) o l) d d' a
unfolding step entries
and_left r s n L m p' g l d d' a at em lt en el h lev (two f o o') e = absurd (at (ap (λ x. (head x).node) e))
and_left r s n L m p' g l d d' a at em lt en el h lev (left o) e =
    came_over (bracket And r s) r n L p'.node p'.level left (λ o. left-entries r s n L p'.node p'.level o en el) (step r o l) d d' a
    (h lev o (e ∙ sym (left-entries r s n lev p'.node lev o en refl)))
and_left r s n L m p' g l d d' a at em lt en el h lev (right o) e = let i = head_in s (suc n + nodes r) lev o g e in absurd (omega arith)

pub and_right : (r s : Rule) (n L : ℕ) (p' : Place) (g : List Entry) (l : Line) (d d' : Draft) (a : Outcome) → ((head g).node ≡ n → ⊥) → p'.node ≤ (head g).node → p'.node ≡ n + (1 + nodes r) → p'.level ≡ L → StepsAt s p' g l d a d' → (lev : ℕ) (o : AndOpen (Open r) (Open s)) → g ≡ entries (bracket And r s) n lev o → Came (bracket And r s) n L (step (bracket And r s) o l) d d' a
unfolding step entries
and_right r s n L p' g l d d' a at le en el h lev (two f o o') e = absurd (at (ap (λ x. (head x).node) e))
and_right r s n L p' g l d d' a at le en el h lev (left o) e = let i = head_in r (suc n) lev o g e in absurd (omega arith)
and_right r s n L p' g l d d' a at le en el h lev (right o) e =
    came_over (bracket And r s) s n L p'.node p'.level right (λ o. right-entries r s n L p'.node p'.level o en el) (step s o l) d d' a
    (h lev o (e ∙ sym (right-entries r s n lev p'.node lev o en refl)))

-- both sides of an `and`
pub record Sided (r s : Rule) (n lev : ℕ) (g a b : List Entry) (f : Bindings) (o : Open r) (o' : Open s) : Type 0 where
  pub letters : (head g).letters ≡ f
  pub front : a ≡ entries r (n + 1) (suc lev) o
  pub back : b ≡ entries s (n + (1 + nodes r)) (suc lev) o'

pub sided : (r s : Rule) (n lev : ℕ) (g below a b : List Entry) (f : Bindings) (o : Open r) (o' : Open s) → g ≡ entries (bracket And r s) n lev (two f o o') → below ≡ drop 1 g → a ≡ take (group_size below) below → b ≡ drop (group_size below) below → Sided r s n lev g a b f o o'
unfolding entries
sided r s n lev g below x y f o o' e is front back =
    let A = entries r (suc n) (suc lev) o in
    let B = entries s (suc n + nodes r) (suc lev) o' in
    let t = group_splits (suc lev) below A B (is ∙ ap (drop 1) e) (group r (suc n) (suc lev) o) (subst (Shallow (suc lev)) (append-nil B) (shallow_group (suc lev) B [] (group s (suc n + nodes r) (suc lev) o'))) in
    let a : suc n ≡ n + 1 = omega arith in
    let b : suc n + nodes r ≡ n + (1 + nodes r) = omega arith in
    record {
      letters = ap (λ x. (head x).letters) e;
      front = front ∙ (t.front ∙ (λ i. entries r (a i) (suc lev) o));
      back = back ∙ (t.back ∙ (λ i. entries s (b i) (suc lev) o'));
    }

sides-breached : {A B : Type 0} (f : Bindings) (x : Left A) (y : Left B) → of.Breached ≡ sides (outcome x) (outcome y) → and_step f x y ≡ missed
sides-breached f met met e = cc
sides-breached f met missed e = refl
sides-breached f met (still o) e = cc
sides-breached f missed y e = refl
sides-breached f (still o) met e = cc
sides-breached f (still o) missed e = refl
sides-breached f (still o) (still o') e = cc

sides-met : {A B : Type 0} (f : Bindings) (x : Left A) (y : Left B) → of.Satisfied ≡ sides (outcome x) (outcome y) → and_step f x y ≡ met
sides-met f met met e = refl
sides-met f met missed e = cc
sides-met f met (still o) e = cc
sides-met f missed y e = cc
sides-met f (still o) met e = cc
sides-met f (still o) missed e = cc
sides-met f (still o) (still o') e = cc

sides-left : {A B : Type 0} (f : Bindings) (x : Left A) (y : Left B) → of.Left ≡ sides (outcome x) (outcome y) → and_step f x y ≡ over left x
sides-left f met met e = cc
sides-left f met missed e = cc
sides-left f met (still o) e = cc
sides-left f missed y e = cc
sides-left f (still o) met e = refl
sides-left f (still o) missed e = cc
sides-left f (still o) (still o') e = cc

sides-right : {A B : Type 0} (f : Bindings) (x : Left A) (y : Left B) → of.Right ≡ sides (outcome x) (outcome y) → and_step f x y ≡ over right y
sides-right f met met e = cc
sides-right f met missed e = cc
sides-right f met (still o) e = refl
sides-right f missed y e = cc
sides-right f (still o) met e = cc
sides-right f (still o) missed e = cc
sides-right f (still o) (still o') e = cc

record BothStill {A B : Type 0} (f : Bindings) (x : Left A) (y : Left B) : Type 0 where
  o : A
  o' : B
  first-is : x ≡ still o
  second_is : y ≡ still o'
  is : and_step f x y ≡ still (two f o o')

sides-both : {A B : Type 0} (f : Bindings) (x : Left A) (y : Left B) → of.Both ≡ sides (outcome x) (outcome y) → BothStill f x y
sides-both f met met e = cc
sides-both f met missed e = cc
sides-both f met (still o) e = cc
sides-both f missed y e = cc
sides-both f (still o) met e = cc
sides-both f (still o) missed e = cc
sides-both f (still o) (still o') e = record { o = o; o' = o'; first-is = refl; second_is = refl; is = refl }

-- what is known once both sides have stepped
pub record Stepped (r s : Rule) (p : Place) (p' p'' : Place) (l : Line) (f : Bindings) (o : Open r) (o' : Open s) (d d₁ d₂ d₃ : Draft) (a b : Outcome) : Type 0 where
  pub head : Adds d d₁ (entry p.node p.level false f ∷ [])
  pub left_at : (p'.node ≡ p.node + 1) × (p'.level ≡ p.level + 1)
  pub right_at : (p''.node ≡ p.node + (1 + nodes r)) × (p''.level ≡ p.level + 1)
  pub left_came : Came r p'.node p'.level (step r o l) d₁ d₂ a
  pub right_came : Came s p''.node p''.level (step s o' l) d₂ d₃ b

module _ (r s : Rule) (p p' p'' : Place) (l : Line) (f : Bindings) (o : Open r) (o' : Open s) (d d₁ d₂ d₃ : Draft) (a b : Outcome) (w : Stepped r s p p' p'' l f o o' d d₁ d₂ d₃ a b) (v : Sides) (told : v ≡ sides a b) where
  tells : v ≡ sides (outcome (step r o l)) (outcome (step s o' l))
  tells = told ∙ (λ i. sides (w.left_came.answer i) (w.right_came.answer i))

  all_written : Adds d d₃ (entry p.node p.level false f ∷ (shown (entries r p'.node p'.level) (step r o l) ++ shown (entries s p''.node p''.level) (step s o' l)))
  all_written = adds_then d d₁ d₃ (entry p.node p.level false f ∷ []) _ w.head (adds_then d₁ d₂ d₃ _ _ w.left_came.written w.right_came.written)

  pub both_open : v ≡ of.Both → Came (bracket And r s) p.node p.level (and_step f (step r o l) (step s o' l)) d d₃ StillOpen
  unfolding entries
  both_open e =
      let t = sides-both f (step r o l) (step s o' l) (sym e ∙ tells) in
      let n = p.node in
      let L = p.level in
      let a₁ : p'.node ≡ suc n = omega (arith, w.left_at.0) in
      let b₁ : p'.level ≡ suc L = omega (arith, w.left_at.1) in
      let a₂ : p''.node ≡ suc n + nodes r = omega (arith, w.right_at.0) in
      let b₂ : p''.level ≡ suc L = omega (arith, w.right_at.1) in
      came_still (bracket And r s) n L _ (two f t.o t.o') d d₃ _ t.is all_written
      ((λ i. entry n L false f ∷ (shown (entries r p'.node p'.level) (t.first-is i) ++ shown (entries s p''.node p''.level) (t.second_is i)))
      ∙ (λ i. entry n L false f ∷ (entries r (a₁ i) (b₁ i) t.o ++ entries s (a₂ i) (b₂ i) t.o')))

  module _ (d₄ : Draft) (c : Cuts (vec_len d.entries) d₃ d₄) where
    undone : Adds d d₄ []
    undone = cut_back d d₃ d₄ _ all_written c

    pub both-breached : v ≡ of.Breached → Came (bracket And r s) p.node p.level (and_step f (step r o l) (step s o' l)) d d₄ Breached
    both-breached e = came_missed (bracket And r s) p.node p.level _ d d₄ (sides-breached f (step r o l) (step s o' l) (sym e ∙ tells)) undone

    pub both-met : v ≡ of.Satisfied → Came (bracket And r s) p.node p.level (and_step f (step r o l) (step s o' l)) d d₄ Satisfied
    both-met e = came_met (bracket And r s) p.node p.level _ d d₄ (sides-met f (step r o l) (step s o' l) (sym e ∙ tells)) undone

    pub one_left : v ≡ of.Left → (p''' : Place) (d₅ : Draft) (x : Outcome) → p'''.node ≡ p.node + 1 → p'''.level ≡ p.level → Came r p'''.node p'''.level (step r o l) d₄ d₅ x → Came (bracket And r s) p.node p.level (and_step f (step r o l) (step s o' l)) d d₅ x
    one_left e p''' d₅ x en el h =
        came_as (bracket And r s) p.node p.level _ _ d d₅ x (sym (sides-left f (step r o l) (step s o' l) (sym e ∙ tells)))
        (came_over (bracket And r s) r p.node p.level p'''.node p'''.level left (λ o. left-entries r s p.node p.level p'''.node p'''.level o en el) (step r o l) d d₅ x
        (record { answer = h.answer; written = adds_then d d₄ d₅ [] _ undone h.written }))

    pub one_right : v ≡ of.Right → (p''' : Place) (d₅ : Draft) (x : Outcome) → p'''.node ≡ p.node + (1 + nodes r) → p'''.level ≡ p.level → Came s p'''.node p'''.level (step s o' l) d₄ d₅ x → Came (bracket And r s) p.node p.level (and_step f (step r o l) (step s o' l)) d d₅ x
    one_right e p''' d₅ x en el h =
        came_as (bracket And r s) p.node p.level _ _ d d₅ x (sym (sides-right f (step r o l) (step s o' l) (sym e ∙ tells)))
        (came_over (bracket And r s) s p.node p.level p'''.node p'''.level right (λ o. right-entries r s p.node p.level p'''.node p'''.level o en el) (step s o' l) d d₅ x
        (record { answer = h.answer; written = adds_then d d₄ d₅ [] _ undone h.written }))

-- an `each`
broken-is : {A : Type 0} (ks : Kept A) → Breached ≡ duties_outcome ks → ks ≡ broken
broken-is broken e = refl
broken-is (kept []) e = cc
broken-is (kept (x ∷ ds)) e = cc

record KeptSome {A : Type 0} (ks : Kept A) : Type 0 where
  ds : List A
  is : ks ≡ kept ds

kept-is : {A : Type 0} (ks : Kept A) (a : Outcome) → a ≡ duties_outcome ks → (a ≡ Breached → ⊥) → KeptSome ks
kept-is broken a e not = absurd (not e)
kept-is (kept ds) a e not = record { ds = ds; is = refl }

-- what is known once its duties have stepped
pub record Watched (p q : Pattern) (s : Rule) (p' : Place) (g : List Entry) (l : Line) (d d' : Draft) (a : Outcome) (o : EachOpen (Open s)) : Type 0 where
  pub ks : Kept (Open s)
  pub stepped : step (trigger Each p q s) o l ≡ unless_broken ks (each_step (head g).letters (each_effect (head g).mark (effect p q (head g).letters l)) (start s))
  pub came : CameAll s p'.node p'.level ks d d' a

pub each_watched : (p q : Pattern) (s : Rule) (n : ℕ) (p' : Place) (g below : List Entry) (l : Line) (d d' : Draft) (a : Outcome) → below ≡ drop 1 g → p'.node ≡ n + 1 → DutiesStepAt s p' below l d a d' → (lev : ℕ) (o : EachOpen (Open s)) → g ≡ entries (trigger Each p q s) n lev o → Watched p q s p' g l d d' a o
unfolding step entries
each_watched p q s n p' g below l d d' a b en h lev (watch f m ds) e =
    let en' : p'.node ≡ suc n = omega arith in
    record {
      ks = step_duties (step s) ds l;
      stepped = sym (ap (λ x. unless_broken (step_duties (step s) ds l) (each_step (head x).letters (each_effect (head x).mark (effect p q (head x).letters l)) (start s))) e);
      came = h (suc lev) ds (b ∙ (ap (drop 1) e ∙ (λ i. together (entries s (sym en' i) (suc lev)) ds)));
    }

pub each-breached : (p q : Pattern) (s : Rule) (n L : ℕ) (p' : Place) (g : List Entry) (l : Line) (d d₁ d₂ d₃ : Draft) (x : List Entry) (o : EachOpen (Open s)) → Adds d d₁ x → Watched p q s p' g l d₁ d₂ Breached o → Cuts (vec_len d.entries) d₂ d₃ → Came (trigger Each p q s) n L (step (trigger Each p q s) o l) d d₃ Breached
each-breached p q s n L p' g l d d₁ d₂ d₃ x o w f c =
    let E = each_step (head g).letters (each_effect (head g).mark (effect p q (head g).letters l)) (start s) in
    came_missed (trigger Each p q s) n L _ d d₃ (f.stepped ∙ ap (λ ks. unless_broken ks E) (broken-is f.ks f.came.answer))
    (cut_back d d₂ d₃ _ (adds_then d d₁ d₂ x _ w f.came.written) c)

each-shown : (p q : Pattern) (s : Rule) (n L n' L' : ℕ) → n' ≡ n + 1 → L' ≡ L + 1 → (x : Left (EachOpen (Open s))) → shown (each_entries s n L n' L') x ≡ shown (entries (trigger Each p q s) n L) x
unfolding entries
each-shown p q s n L n' L' a b met = refl
each-shown p q s n L n' L' a b missed = refl
each-shown p q s n L n' L' a b (still (watch f m ds)) =
    let a' : n' ≡ suc n = omega arith in
    let b' : L' ≡ suc L = omega arith in
    λ i. entry n L m f ∷ together (entries s (a' i) (b' i)) ds

pub each_closed : (p q : Pattern) (s : Rule) (n L : ℕ) (p' : Place) (g : List Entry) (l : Line) (d d₁ d₂ d₃ : Draft) (m : Effect) (mark : Bool) (a x : Outcome) (o : EachOpen (Open s)) → m ≡ each_effect (head g).mark (effect p q (head g).letters l) → mark ≡ marks m → Adds d d₁ (entry n L mark (head g).letters ∷ []) → p'.node ≡ n + 1 → p'.level ≡ L + 1 → Watched p q s p' g l d₁ d₂ a o → (a ≡ Breached → ⊥) → Closes s p' m a (vec_len d.entries) d₂ x d₃ → Came (trigger Each p q s) n L (step (trigger Each p q s) o l) d d₃ x
each_closed p q s n L p' g l d d₁ d₂ d₃ m mark a x o em ek w en el f not c =
    let f' = (head g).letters in
    let t = kept-is f.ks a f.came.answer not in
    let E = each_step f' m (start s) t.ds in
    let same : E ≡ step (trigger Each p q s) o l = ap (λ y. each_step f' y (start s) t.ds) em ∙ sym (f.stepped ∙ ap (λ ks. unless_broken ks (each_step f' (each_effect (head g).mark (effect p q f' l)) (start s))) t.is) in
    let told = f.came.answer ∙ ap duties_outcome t.is in
    let wrote = adds_then d d₁ d₂ (entry n L mark f' ∷ []) _ w f.came.written in
    let both : entry n L mark f' ∷ f.came.more ≡ entry n L (marks m) f' ∷ together (entries s p'.node p'.level) t.ds = (λ i. entry n L (ek i) f' ∷ f.came.listed t.ds t.is i) in
    let z = c n L f' t.ds told in
    came_as (trigger Each p q s) n L E _ d d₃ x same
    (record {
      answer = z.answer;
      written = λ es h. subst (λ y. Drafted d₃ (es ++ y)) (each-shown p q s n L p'.node p'.level en el E) (z.written es (subst (λ y. Drafted d₂ (es ++ y)) both (wrote es h)) (counted d es h));
    })

-- the entries after the head, and those of the two sides
module _ (r s : Rule) (p : Place) (g below x y : List Entry) (is : below ≡ drop 1 g) (front : x ≡ take (group_size below) below) (back : y ≡ drop (group_size below) below) (lev : ℕ) (f : Bindings) (o : Open r) (o' : Open s) (e : g ≡ entries (bracket And r s) p.node lev (two f o o')) where
  parts : Sided r s p.node lev g x y f o o'
  parts = sided r s p.node lev g below x y f o o' e is front back

  pub left_part : (l : Line) (p' : Place) (d d' : Draft) (a : Outcome) → p'.node ≡ p.node + 1 → StepsAt r p' x l d a d' → Came r p'.node p'.level (step r o l) d d' a
  left_part l p' d d' a en h = h (suc lev) o (parts.front ∙ (λ i. entries r (sym en i) (suc lev) o))

  pub right_part : (l : Line) (p' : Place) (d d' : Draft) (a : Outcome) → p'.node ≡ p.node + (1 + nodes r) → StepsAt s p' y l d a d' → Came s p'.node p'.level (step s o' l) d d' a
  right_part l p' d d' a en h = h (suc lev) o' (parts.back ∙ (λ i. entries s (sym en i) (suc lev) o'))

  pub both_stepped : (l : Line) (p' p'' : Place) (d d₁ d₂ d₃ : Draft) (a b : Outcome) (h : Entry) → h ≡ head g → Adds d d₁ (entry p.node p.level false h.letters ∷ []) → p'.node ≡ p.node + 1 → p'.level ≡ p.level + 1 → p''.node ≡ p.node + (1 + nodes r) → p''.level ≡ p.level + 1 → StepsAt r p' x l d₁ a d₂ → StepsAt s p'' y l d₂ b d₃ → Stepped r s p p' p'' l f o o' d d₁ d₂ d₃ a b
  both_stepped l p' p'' d d₁ d₂ d₃ a b h is w en el em ek u v =
      record {
        head = subst (λ z. Adds d d₁ (entry p.node p.level false z ∷ [])) (ap (λ e. e.letters) is ∙ parts.letters) w;
        left_at = (en, el);
        right_at = (em, ek);
        left_came = left_part l p' d₁ d₂ a en u;
        right_came = right_part l p'' d₂ d₃ b em v;
      }
