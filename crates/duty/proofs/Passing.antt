-- What a line passes by.
use Rattle.std.proofs.Common.{◌≡◌, ℕ, ◌+◌, ◌<◌, ◌≤◌, List, [], ◌∷◌, ◌++◌, length, get_or, take, None, sym, refl, ap, ◌∙◌, subst, ap₂, arith, length-append, take_all}
use Rattle.std.proofs.lemmas.List.{take_more}
use Rattle.feed.specs.declared.lines.Line.{Line}
use Rattle.book.specs.Rules.{Pattern, Rule, duty, trigger, bracket}
use Rattle.book.specs.declared.terms.TriggerKind.TheVariants.{Each, Once}
use Rattle.book.specs.declared.terms.BracketKind.TheVariants.{Else, And}
use Rattle.book.specs.declared.terms.DutyKind.{DutyKind}
use Rattle.book.specs.declared.terms.DutyKind.TheVariants.{Must, MustNot}
use Rattle.duty.specs.Matching.{Bindings, matches, acting, ending, effect}
use Rattle.duty.specs.Groups.{blank}
use Rattle.duty.specs.Facts.{Group}
use Rattle.duty.specs.Open.{Open, start, Left, still, over, waiting, running, first, second, two, left, right, Kept, kept, add_duty, duty_step, once_step, else_step, and_step, step_duties, step, together, entries}
use Rattle.duty.specs.Drafts.{Adds}
use Rattle.duty.specs.Stepping.{duties_outcome, CameAll, PassedBy, some_left, AtLevel}
use Rattle.duty.specs.declared.drafts.Draft.{Draft}
use Rattle.duty.specs.declared.entries.Entry.{Entry}
use Rattle.duty.specs.declared.matching.Effect.TheVariants.{Passes}
use Rattle.duty.specs.declared.outcomes.Outcome.{Outcome}
use Rattle.duty.specs.declared.outcomes.Outcome.TheVariants.{Satisfied}
use Rattle.duty.proofs.Listed.{group}
use Rattle.duty.proofs.ByKind.{some-entry}
use Rattle.duty.proofs.Written.{adds_then, adds_as}

pub no_effect : (p q : Pattern) (l : Line) → ((f : Bindings) → matches p l f ≡ None) → ((f : Bindings) → matches q l f ≡ None) → (f : Bindings) → effect p q f l ≡ Passes
unfolding effect
no_effect p q l hp hq f = λ i. ending (hq f i) (acting (hp f i))

-- what a line passes by stays open as it is
pub passed_still : (r : Rule) (l : Line) → PassedBy r l → (o : Open r) → step r o l ≡ still o
unfolding step
passed_still (duty k p q) l h f = ap (duty_step k f) (h f) ∙ go k
  where
    go : (k : DutyKind) → duty_step k f Passes ≡ still f
    go Must = refl
    go MustNot = refl
passed_still (trigger Once p q s) l h (waiting f) = ap (λ m. once_step f m (start s)) (h.0 f)
passed_still (trigger Once p q s) l h (running o) = ap (over running) (passed_still s l h.1 o)
passed_still (trigger Each p q s) l h o = absurd h
passed_still (bracket Else r s) l h (first f o) = ap (λ x. else_step f x (start s f)) (passed_still r l h.0 o)
passed_still (bracket Else r s) l h (second o) = ap (over second) (passed_still s l h.1 o)
passed_still (bracket And r s) l h (two f o o') = λ i. and_step f (passed_still r l h.0 o i) (passed_still s l h.1 o' i)
passed_still (bracket And r s) l h (left o) = ap (over left) (passed_still r l h.0 o)
passed_still (bracket And r s) l h (right o) = ap (over right) (passed_still s l h.1 o)

some-duty : (r : Rule) (n lev : ℕ) (o : Open r) (ds : List (Open r)) → 0 < length (together (entries r n lev) (o ∷ ds))
some-duty r n lev o ds = omega (arith, length-append (entries r n lev o) (together (entries r n lev) ds), some-entry r n lev o (entries r n lev o) refl)

none_told : (es : List Entry) (n : ℕ) → length es ≡ 0 → (r : Rule) (lev : ℕ) (ds : List (Open r)) → es ≡ together (entries r n lev) ds → Satisfied ≡ duties_outcome (kept ds)
none_told es n z r lev [] e = refl
none_told es n z r lev (o ∷ ds) e = let s = some-duty r n lev o ds in absurd (omega (arith, ap length e))

still-duties : {A : Type 0} (go : A → Line → Left A) (l : Line) → ((o : A) → go o l ≡ still o) → (ds : List A) → step_duties go ds l ≡ kept ds
still-duties go l h [] = refl
still-duties {A} go l h (o ∷ ds) = ap₂ {C = Kept A} add_duty (h o) (still-duties go l h ds)

told : (es : List Entry) (r : Rule) (n lev : ℕ) (ds : List (Open r)) → es ≡ together (entries r n lev) ds → some_left es ≡ duties_outcome (kept ds)
told [] r n lev [] e = refl
told [] r n lev (o ∷ ds) e = none_told [] n refl r lev (o ∷ ds) e
told (x ∷ es) r n lev [] e = absurd (omega (arith, ap length e))
told (x ∷ es) r n lev (o ∷ ds) e = refl

-- the level at which the duties stand is that of the first entry
level_is : (es : List Entry) (r : Rule) (n lev L : ℕ) (ds : List (Open r)) → AtLevel L es → es ≡ together (entries r n lev) ds → together (entries r n lev) ds ≡ together (entries r n L) ds
level_is es r n lev L [] a e = refl
level_is es r n lev L (o ∷ ds) a e = ap (λ k. together (entries r n k) (o ∷ ds)) (go (entries r n lev o) (group r n lev o) (subst (AtLevel L) e a))
  where
    go : (g : List Entry) → Group lev g → AtLevel L (g ++ together (entries r n lev) ds) → lev ≡ L
    go [] g x = absurd g
    go (y ∷ g) k x = sym k.0 ∙ x

pub all_kept : (r : Rule) (n L : ℕ) (l : Line) (es : List Entry) (d d' : Draft) (a : Outcome) → PassedBy r l → AtLevel L es → a ≡ some_left es → Adds d d' es → (lev : ℕ) (ds : List (Open r)) → es ≡ together (entries r n lev) ds → CameAll r n L (step_duties (step r) ds l) d d' a
all_kept r n L l es d d' a h at tells w lev ds e =
    let is = still-duties (step r) l (passed_still r l h) ds in
    record {
      answer = tells ∙ (told es r n lev ds e ∙ sym (ap duties_outcome is));
      more = es;
      written = w;
      listed = λ ks x. e ∙ (level_is es r n lev L ds at e ∙ ap (together (entries r n L)) (same ks (sym is ∙ x)));
    }
  where
    same : (ks : List (Open r)) → kept ds ≡ kept ks → ds ≡ ks
    same ks x = cc

pub pushed_more : (es : List Entry) (i : ℕ) (d d' d'' : Draft) → i < length es → Adds d d' (take i es) → Adds d' d'' (get_or es i blank ∷ []) → Adds d d'' (take (i + 1) es)
pushed_more es i d d' d'' lt a b = adds_as d d'' _ _ (sym (take_more es i blank lt)) (adds_then d d' d'' _ _ a b)

pub pushed_all : (es : List Entry) (i : ℕ) (d d' : Draft) → length es ≤ i → Adds d d' (take i es) → Adds d d' es
pushed_all es i d d' le a = adds_as d d' _ _ (take_all i es le) a
