-- The duties of an `each` step one after the other.
use Rattle.std.proofs.Common.{◌≡◌, ℕ, List, [], ◌∷◌, ◌++◌, length, take, drop, sym, refl, ap, ◌∙◌, append_assoc, append-nil, arith, length-append}
use Rattle.std.proofs.lemmas.List.{nil_from_length}
use Rattle.feed.specs.declared.lines.Line.{Line}
use Rattle.book.specs.Rules.{Rule}
use Rattle.duty.specs.Facts.{Group}
use Rattle.duty.specs.Groups.{group_size}
use Rattle.duty.specs.Open.{Open, Kept, broken, kept, add_kept, add_duty, step_duties, step, together, entries, shown}
use Rattle.duty.specs.Drafts.{Adds}
use Rattle.duty.specs.Stepping.{duties_outcome, Came, CameAll, StepsAt}
use Rattle.duty.specs.declared.drafts.Draft.{Draft}
use Rattle.duty.specs.declared.entries.Entry.{Entry}
use Rattle.duty.specs.declared.outcomes.Outcome.{Outcome}
use Rattle.duty.specs.declared.outcomes.Outcome.TheVariants.{Satisfied, Breached, Open as StillOpen}
use Rattle.duty.specs.declared.places.Place.{Place}
use Rattle.duty.proofs.Listed as listed
use Rattle.duty.proofs.Splits.{group_splits, shallow_together}
use Rattle.duty.proofs.Written.{adds_none, adds_then, adds_as}
use Rattle.duty.proofs.Ways.{together-more}
use Rattle.duty.proofs.ByKind.{met-is, missed-is, still-is}

-- those that were kept before
abbrev pub add_front : {A : Type 0} → List A → Kept A → Kept A
add_front ks broken = broken
add_front ks (kept ds) = kept (ks ++ ds)

-- the duties before those of `more` have stepped
pub record Going (s : Rule) (p : Place) (lev : ℕ) (more : List Entry) (ds : List (Open s)) (l : Line) (d d' : Draft) (a : Outcome) : Type 0 where
  pub done : List (Open s)
  pub rest : List (Open s)
  pub ahead : more ≡ together (entries s p.node lev) rest
  pub steps : step_duties (step s) ds l ≡ add_front done (step_duties (step s) rest l)
  pub written : Adds d d' (together (entries s p.node p.level) done)
  pub so_far : a ≡ duties_outcome (kept done)

abbrev pub Goes : Rule → Place → List Entry → List Entry → Line → Draft → Draft → Outcome → Type 0
Goes s p below more l d d' a = (lev : ℕ) (ds : List (Open s)) → below ≡ together (entries s p.node lev) ds → Going s p lev more ds l d d' a

front-none : {A : Type 0} (ks : Kept A) → ks ≡ add_front [] ks
front-none broken = refl
front-none (kept ds) = refl

front-more : {A : Type 0} (done : List A) (x : A) (ks : Kept A) → add_front done (add_kept x ks) ≡ add_front (done ++ (x ∷ [])) ks
front-more done x broken = refl
front-more done x (kept ds) = ap kept (sym (append_assoc done (x ∷ []) ds))

some_more : {A : Type 0} (done : List A) (x : A) → StillOpen ≡ duties_outcome (kept (done ++ (x ∷ [])))
some_more [] x = refl
some_more (e ∷ done) x = refl

pub starts : (s : Rule) (p : Place) (below : List Entry) (l : Line) (d : Draft) → Goes s p below below l d d Satisfied
starts s p below l d lev ds e = record { done = []; rest = ds; ahead = e; steps = front-none (step_duties (step s) ds l); written = adds_none d; so_far = refl }

-- one more duty: its entries are those of the group at the front
pub record Turn (s : Rule) (p : Place) (lev : ℕ) (others : List Entry) (ds : List (Open s)) (l : Line) (d d' d'' : Draft) (a b : Outcome) : Type 0 where
  pub done : List (Open s)
  pub now_one : Open s
  pub rest : List (Open s)
  pub ahead : others ≡ together (entries s p.node lev) rest
  pub steps : step_duties (step s) ds l ≡ add_front done (add_duty (step s now_one l) (step_duties (step s) rest l))
  pub written : Adds d d' (together (entries s p.node p.level) done)
  pub so_far : a ≡ duties_outcome (kept done)
  pub came : Came s p.node p.level (step s now_one l) d' d'' b

pub turn : (s : Rule) (p : Place) (below more group others : List Entry) (l : Line) (d d' d'' : Draft) (a b : Outcome) → Goes s p below more l d d' a → (length more ≡ 0 → ⊥) → group ≡ take (group_size more) more → others ≡ drop (group_size more) more → StepsAt s p group l d' b d'' → (lev : ℕ) (ds : List (Open s)) → below ≡ together (entries s p.node lev) ds → Turn s p lev others ds l d d' d'' a b
turn s p below more group others l d d' d'' a b goes some front back h lev ds e = go g.rest g.ahead g.steps
  where
    g : Going s p lev more ds l d d' a
    g = goes lev ds e

    E : Open s → List Entry
    E = entries s p.node lev

    go : (rest : List (Open s)) → more ≡ together E rest → step_duties (step s) ds l ≡ add_front g.done (step_duties (step s) rest l) → Turn s p lev others ds l d d' d'' a b
    go [] x y = absurd (some (ap length x))
    go (o ∷ rest) x y =
        let t = group_splits lev more (E o) (together E rest) x (listed.group s p.node lev o) (shallow_together lev E (listed.group s p.node lev) rest) in
        record {
          done = g.done;
          now_one = o;
          rest = rest;
          ahead = back ∙ t.back;
          steps = y;
          written = g.written;
          so_far = g.so_far;
          came = h lev o (front ∙ t.front);
        }

pub turn_met : (s : Rule) (p : Place) (lev : ℕ) (others : List Entry) (ds : List (Open s)) (l : Line) (d d' d'' : Draft) (a : Outcome) → Turn s p lev others ds l d d' d'' a Satisfied → Going s p lev others ds l d d'' a
turn_met s p lev others ds l d d' d'' a t =
    let e = met-is (step s t.now_one l) t.came.answer in
    let K = step_duties (step s) t.rest l in
    let h = together (entries s p.node p.level) t.done in
    record {
      done = t.done;
      rest = t.rest;
      ahead = t.ahead;
      steps = t.steps ∙ ap (λ x. add_front t.done (add_duty x K)) e;
      written = adds_as d d'' _ _ (ap (λ x. h ++ shown (entries s p.node p.level) x) e ∙ append-nil h) (adds_then d d' d'' h _ t.written t.came.written);
      so_far = t.so_far;
    }

pub turn_open : (s : Rule) (p : Place) (lev : ℕ) (others : List Entry) (ds : List (Open s)) (l : Line) (d d' d'' : Draft) (a : Outcome) → Turn s p lev others ds l d d' d'' a StillOpen → Going s p lev others ds l d d'' StillOpen
turn_open s p lev others ds l d d' d'' a t =
    let q = still-is (step s t.now_one l) t.came.answer in
    let K = step_duties (step s) t.rest l in
    let E = entries s p.node p.level in
    let h = together E t.done in
    record {
      done = t.done ++ (q.o ∷ []);
      rest = t.rest;
      ahead = t.ahead;
      steps = t.steps ∙ (ap (λ x. add_front t.done (add_duty x K)) q.is ∙ front-more t.done q.o K);
      written = adds_as d d'' _ _ (ap (λ x. h ++ shown E x) q.is ∙ together-more E t.done q.o) (adds_then d d' d'' h _ t.written t.came.written);
      so_far = some_more t.done q.o;
    }

not_kept : {A X : Type 0} (ds : List A) → broken ≡ kept ds → X
not_kept ds e = cc

pub turn_breached : (s : Rule) (p : Place) (lev : ℕ) (others : List Entry) (ds : List (Open s)) (l : Line) (d d' d'' : Draft) (a : Outcome) → Turn s p lev others ds l d d' d'' a Breached → CameAll s p.node p.level (step_duties (step s) ds l) d d'' Breached
turn_breached s p lev others ds l d d' d'' a t =
    let e = missed-is (step s t.now_one l) t.came.answer in
    let K = step_duties (step s) t.rest l in
    let is : step_duties (step s) ds l ≡ broken = t.steps ∙ ap (λ x. add_front t.done (add_duty x K)) e in
    let h = together (entries s p.node p.level) t.done in
    record {
      answer = sym (ap duties_outcome is);
      more = h ++ shown (entries s p.node p.level) (step s t.now_one l);
      written = adds_then d d' d'' h _ t.written t.came.written;
      listed = λ ks x. not_kept ks (sym is ∙ x);
    }

none_left : (s : Rule) (n lev : ℕ) (rest : List (Open s)) → together (entries s n lev) rest ≡ [] → rest ≡ []
none_left s n lev [] e = refl
none_left s n lev (o ∷ rest) e = absurd (go (entries s n lev o) (listed.group s n lev o) (ap length e))
  where
    go : (es : List Entry) → Group lev es → length (es ++ together (entries s n lev) rest) ≡ 0 → ⊥
    go [] g k = g
    go (x ∷ es) g k = omega (arith, length-append es (together (entries s n lev) rest))

kept_same : {A : Type 0} (done ds : List A) → kept (done ++ []) ≡ kept ds → done ≡ ds
kept_same done ds e = let x : done ++ [] ≡ ds = cc in sym (append-nil done) ∙ x

pub ends : (s : Rule) (p : Place) (below more : List Entry) (l : Line) (d d' : Draft) (a : Outcome) → Goes s p below more l d d' a → length more ≡ 0 → (lev : ℕ) (ds : List (Open s)) → below ≡ together (entries s p.node lev) ds → CameAll s p.node p.level (step_duties (step s) ds l) d d' a
ends s p below more l d d' a goes none lev ds e =
    let g = goes lev ds e in
    let gone = none_left s p.node lev g.rest (sym g.ahead ∙ nil_from_length more none) in
    let is : step_duties (step s) ds l ≡ kept (g.done ++ []) = g.steps ∙ ap (λ x. add_front g.done (step_duties (step s) x l)) gone in
    record {
      answer = g.so_far ∙ sym (ap duties_outcome (is ∙ ap kept (append-nil g.done)));
      more = together (entries s p.node p.level) g.done;
      written = g.written;
      listed = λ ks x. ap (together (entries s p.node p.level)) (kept_same g.done ks (sym is ∙ x));
    }
