-- The open sheet of a rule is the list of the entries of what its machine leaves open.
use Rattle.std.proofs.Common.{◌≡◌, ℕ, suc, ◌+◌, ◌-◌, Bool, true, false, List, [], ◌∷◌, ◌++◌, drop, sym, refl, ap, ◌∙◌, append_assoc, append-nil, arith}
use Rattle.feed.specs.declared.lines.Line.{Line}
use Rattle.book.specs.Rules.{Pattern, Rule, duty, trigger, bracket}
use Rattle.book.specs.declared.terms.DutyKind.{DutyKind}
use Rattle.book.specs.declared.terms.DutyKind.TheVariants.{Must, MustNot}
use Rattle.book.specs.declared.terms.TriggerKind.TheVariants.{Each, Once}
use Rattle.book.specs.declared.terms.BracketKind.TheVariants.{Else, And}
use Rattle.book.specs.Sizes.{nodes}
use Rattle.duty.specs.Matching.{Bindings, effect}
use Rattle.duty.specs.declared.matching.Effect.{Effect}
use Rattle.duty.specs.declared.matching.Effect.TheVariants.{Ends, Acts, Passes}
use Rattle.duty.specs.declared.verdicts.Verdict.{Verdict}
use Rattle.duty.specs.declared.verdicts.Verdict.TheVariants.{Pending, Satisfied, Breached}
use Rattle.duty.specs.Verdicts.{V, duty_v, duty_at}
use Rattle.duty.specs.Sheet.{entry, if_pending, once_sheet, once_at, ended, ended_at, duties, duties_at, else_sheet, and_sheet, sheet}
use Rattle.duty.specs.declared.entries.Entry.{Entry}
use Rattle.duty.specs.Open.{Open, start, Left, met, missed, still, waiting, running, EachOpen, watch, ElseOpen, first, second, AndOpen, two, left, right, Kept, broken, kept, add_duty, step_duties, unless_broken, over, then_left, duty_step, once_step, each_step, each_effect, else_step, and_step, step, decide, run, after, together, entries, shown}
use Rattle.duty.proofs.Joins.{Late}
use Rattle.duty.proofs.Runs.{V_run, late_run}

-- a machine inside another
pub after-over : {A B : Type 0} (h : A → B) (a : A → Line → Left A) (b : B → Line → Left B) → ((o : A) (l : Line) → b (h o) l ≡ over h (a o l)) → (o : A) (ls : List Line) → after b (h o) ls ≡ over h (after a o ls)
after-over h a b same o [] = refl
after-over h a b same o (l ∷ ls) =
    rw (same o l)
    (elim (a o l) as (λ x. then_left (over h x) (λ o'. after b o' ls) ≡ over h (then_left x (λ o'. after a o' ls)))
    [ met ↦ refl | missed ↦ refl | still o' ↦ after-over h a b same o' ls ])

shown-over : {A B : Type 0} (h : A → B) (k : B → List Entry) (x : Left A) → shown k (over h x) ≡ shown (λ o. k (h o)) x
shown-over h k met = refl
shown-over h k missed = refl
shown-over h k (still o) = refl

shown_inside : {A B : Type 0} (h : A → B) (k : B → List Entry) (a : A → Line → Left A) (b : B → Line → Left B) → ((o : A) (l : Line) → b (h o) l ≡ over h (a o l)) → (o : A) (ls : List Line) → shown k (after b (h o) ls) ≡ shown (λ o. k (h o)) (after a o ls)
shown_inside h k a b same o ls = ap (shown k) (after-over h a b same o ls) ∙ shown-over h k (after a o ls)

-- what is decided has no entry
pub decided-none : {A : Type 0} (k : A → List Entry) (step : A → Line → Left A) (o : A) (i : ℕ) (ls : List Line) → if_pending (run step o i ls) (shown k (after step o ls)) ≡ shown k (after step o ls)
decided-none k step o i [] = refl
decided-none k step o i (l ∷ ls) =
    elim (step o l) as (λ x. if_pending (decide i x (λ o'. run step o' (suc i) ls)) (shown k (then_left x (λ o'. after step o' ls))) ≡ shown k (then_left x (λ o'. after step o' ls)))
    [ met ↦ refl | missed ↦ refl | still o' ↦ decided-none k step o' (suc i) ls ]

duty-sheet : (k : DutyKind) (p q : Pattern) (n lev : ℕ) (f : Bindings) (i : ℕ) (ls : List Line) → if_pending (duty_v k p q f i ls) (entry n lev false f ∷ []) ≡ shown (entries (duty k p q) n lev) (after (step (duty k p q)) f ls)
unfolding step entries
duty-sheet k p q n lev f i [] = refl
duty-sheet k p q n lev f i (l ∷ ls) = go k (effect p q f l) (duty_v k p q f (suc i) ls) (duty-sheet k p q n lev f (suc i) ls)
  where
    E : List Entry
    E = entry n lev false f ∷ []

    S : Left Bindings → List Entry
    S x = shown (entries (duty k p q) n lev) (then_left x (λ o. after (step (duty k p q)) o ls))

    go : (k : DutyKind) (m : Effect) (v : Verdict) → if_pending v E ≡ S (still f) → if_pending (duty_at k i m v) E ≡ S (duty_step k f m)
    go Must Ends v e = refl
    go Must (Acts g) v e = refl
    go Must Passes v e = e
    go MustNot Ends v e = refl
    go MustNot (Acts g) v e = refl
    go MustNot Passes v e = e

-- what is to be shown of a rule inside
abbrev Lists : Rule → Type 0
Lists s = (n lev : ℕ) (f : Bindings) (i : ℕ) (ls : List Line) → sheet s n lev f i ls ≡ shown (entries s n lev) (after (step s) (start s f) ls)

once_sheet_lem : (p q : Pattern) (s : Rule) → Lists s → (n lev : ℕ) (f : Bindings) (i : ℕ) (ls : List Line) → once_sheet p q (entry n lev false f) (sheet s (suc n) lev) f i ls ≡ shown (entries (trigger Once p q s) n lev) (after (step (trigger Once p q s)) (waiting f) ls)
unfolding step entries
once_sheet_lem p q s inside n lev f i [] = refl
once_sheet_lem p q s inside n lev f i (l ∷ ls) =
    elim (effect p q f l) as (λ m. once_at m (λ g. sheet s (suc n) lev g (suc i) ls) (once_sheet p q (entry n lev false f) (sheet s (suc n) lev) f (suc i) ls) ≡ shown (entries (trigger Once p q s) n lev) (then_left (once_step f m (start s)) (λ o. after (step (trigger Once p q s)) o ls))) [
      | Ends ↦ refl
      | Acts g ↦ inside (suc n) lev g (suc i) ls ∙ sym (shown_inside running (entries (trigger Once p q s) n lev) (step s) (step (trigger Once p q s)) (λ o k. refl) (start s g) ls)
      | Passes ↦ once_sheet_lem p q s inside n lev f (suc i) ls
    ]

else_sheet_lem : (r s : Rule) (n lev : ℕ) (f : Bindings) (o : Open r) (i : ℕ) (ls : List Line) → else_sheet (run (step r) o i ls) (entry n lev false f) (shown (entries r (suc n) (suc lev)) (after (step r) o ls)) (λ j. shown (entries s (suc n + nodes r) lev) (after (step s) (start s f) (drop (suc j - i) ls))) ≡ shown (entries (bracket Else r s) n lev) (after (step (bracket Else r s)) (first f o) ls)
unfolding step entries
else_sheet_lem r s n lev f o i [] = refl
else_sheet_lem r s n lev f o i (l ∷ ls) = go (λ x. else_sheet_lem r s n lev f x (suc i) ls) (step r o l)
  where
    S : List Line → List Entry
    S ls = shown (entries s (suc n + nodes r) lev) (after (step s) (start s f) ls)

    R : Open r → List Entry
    R o = shown (entries r (suc n) (suc lev)) (after (step r) o ls)

    E : ElseOpen (Open r) (Open s) → List Entry
    E o = shown (entries (bracket Else r s) n lev) (after (step (bracket Else r s)) o ls)

    later : (v : Verdict) (es : List Entry) → Late (suc i) v → else_sheet v (entry n lev false f) es (λ j. S (drop (suc j - i) (l ∷ ls))) ≡ else_sheet v (entry n lev false f) es (λ j. S (drop (suc j - suc i) ls))
    later Pending es h = refl
    later (Satisfied j) es h = refl
    later (Breached j) es h = let e : suc j - i ≡ suc (suc j - suc i) = omega arith in rw e refl

    go : ((x : Open r) → else_sheet (run (step r) x (suc i) ls) (entry n lev false f) (R x) (λ j. S (drop (suc j - suc i) ls)) ≡ E (first f x)) → (x : Left (Open r)) → else_sheet (decide i x (λ o. run (step r) o (suc i) ls)) (entry n lev false f) (shown (entries r (suc n) (suc lev)) (then_left x (λ o. after (step r) o ls))) (λ j. S (drop (suc j - i) (l ∷ ls))) ≡ shown (entries (bracket Else r s) n lev) (then_left (else_step f x (start s f)) (λ o. after (step (bracket Else r s)) o ls))
    go again met = refl
    go again missed = let e : suc i - i ≡ 1 = omega arith in rw e (sym (shown_inside second (entries (bracket Else r s) n lev) (step s) (step (bracket Else r s)) (λ o k. refl) (start s f) ls))
    go again (still x) = later (run (step r) x (suc i) ls) (R x) (late_run (step r) x (suc i) ls) ∙ again x

and_broken : (j : ℕ) (v : Verdict) (e : Entry) (lev : ℕ) (a b : ℕ → List Entry) → and_sheet (Breached j) v e lev a b ≡ []
and_broken j Pending e lev a b = refl
and_broken j (Satisfied k) e lev a b = refl
and_broken j (Breached k) e lev a b = refl

broken_and : (j : ℕ) (v : Verdict) (e : Entry) (lev : ℕ) (a b : ℕ → List Entry) → and_sheet v (Breached j) e lev a b ≡ []
broken_and j Pending e lev a b = refl
broken_and j (Satisfied k) e lev a b = refl
broken_and j (Breached k) e lev a b = refl

and_right : (j : ℕ) (v : Verdict) (e : Entry) (lev : ℕ) (a b : ℕ → List Entry) → and_sheet (Satisfied j) v e lev a b ≡ if_pending v (b lev)
and_right j Pending e lev a b = refl
and_right j (Satisfied k) e lev a b = refl
and_right j (Breached k) e lev a b = refl

and_left : (j : ℕ) (v : Verdict) (e : Entry) (lev : ℕ) (a b : ℕ → List Entry) → and_sheet v (Satisfied j) e lev a b ≡ if_pending v (a lev)
and_left j Pending e lev a b = refl
and_left j (Satisfied k) e lev a b = refl
and_left j (Breached k) e lev a b = refl

and_sheet_lem : (r s : Rule) (n lev : ℕ) (f : Bindings) (o : Open r) (o' : Open s) (i : ℕ) (ls : List Line) → and_sheet (run (step r) o i ls) (run (step s) o' i ls) (entry n lev false f) lev (λ lev'. shown (entries r (suc n) lev') (after (step r) o ls)) (λ lev'. shown (entries s (suc n + nodes r) lev') (after (step s) o' ls)) ≡ shown (entries (bracket And r s) n lev) (after (step (bracket And r s)) (two f o o') ls)
unfolding step entries
and_sheet_lem r s n lev f o o' i [] = refl
and_sheet_lem r s n lev f o o' i (l ∷ ls) = go (λ x y. and_sheet_lem r s n lev f x y (suc i) ls) (step r o l) (step s o' l)
  where
    VR : Open r → Verdict
    VR o = run (step r) o (suc i) ls

    VS : Open s → Verdict
    VS o = run (step s) o (suc i) ls

    R : Left (Open r) → ℕ → List Entry
    R x lev = shown (entries r (suc n) lev) (then_left x (λ o. after (step r) o ls))

    S : Left (Open s) → ℕ → List Entry
    S x lev = shown (entries s (suc n + nodes r) lev) (then_left x (λ o. after (step s) o ls))

    E : AndOpen (Open r) (Open s) → List Entry
    E o = shown (entries (bracket And r s) n lev) (after (step (bracket And r s)) o ls)

    head : Entry
    head = entry n lev false f

    A : Left (Open r) → Left (Open s) → List Entry
    A x y = and_sheet (decide i x VR) (decide i y VS) head lev (R x) (S y)

    go : ((x : Open r) (y : Open s) → A (still x) (still y) ≡ E (two f x y)) → (x : Left (Open r)) (y : Left (Open s)) → A x y ≡ shown (entries (bracket And r s) n lev) (then_left (and_step f x y) (λ o. after (step (bracket And r s)) o ls))
    go again met met = refl
    go again met missed = refl
    go again met (still y) =
        and_right i (VS y) head lev (R met) (S (still y))
        ∙ (decided-none (entries s (suc n + nodes r) lev) (step s) y (suc i) ls ∙ sym (shown_inside right (entries (bracket And r s) n lev) (step s) (step (bracket And r s)) (λ o k. refl) y ls))
    go again missed met = refl
    go again missed missed = refl
    go again missed (still y) = and_broken i (VS y) head lev (R missed) (S (still y))
    go again (still x) met =
        and_left i (VR x) head lev (R (still x)) (S met)
        ∙ (decided-none (entries r (suc n) lev) (step r) x (suc i) ls ∙ sym (shown_inside left (entries (bracket And r s) n lev) (step r) (step (bracket And r s)) (λ o k. refl) x ls))
    go again (still x) missed = broken_and i (VR x) head lev (R (still x)) (S missed)
    go again (still x) (still y) = again x y

-- `each`
together-more : {A : Type 0} (h : A → List Entry) (ds : List A) (d : A) → together h (ds ++ (d ∷ [])) ≡ together h ds ++ h d
together-more h [] d = append-nil (h d)
together-more h (e ∷ ds) d = ap (λ es. h e ++ es) (together-more h ds d) ∙ sym (append_assoc (h e) (together h ds) (h d))

-- the entries of the duties before a line are those of the kept ones after it
abbrev KeptSame : {A : Type 0} → (A → List Entry) → Kept A → List Entry → Type 0
KeptSame h broken es = Unit {0}
KeptSame h (kept ds) es = es ≡ together h ds

kept_same : {A : Type 0} (k : A → List Entry) (step : A → Line → Left A) (l : Line) (ls : List Line) (ds : List A) → KeptSame (λ d. shown k (after step d ls)) (step_duties step ds l) (together (λ d. shown k (after step d (l ∷ ls))) ds)
kept_same k step l ls [] = refl
kept_same {A} k step l ls (d ∷ ds) = go (step d l) (step_duties step ds l) (together (λ d. shown k (after step d (l ∷ ls))) ds) (kept_same k step l ls ds)
  where
    h : A → List Entry
    h d = shown k (after step d ls)

    go : (x : Left A) (ks : Kept A) (es : List Entry) → KeptSame h ks es → KeptSame h (add_duty x ks) (shown k (then_left x (λ o. after step o ls)) ++ es)
    go met ks es e = e
    go missed ks es e = tt
    go (still x) broken es e = tt
    go (still x) (kept ds) es e = ap (λ es. h x ++ es) e

-- ended before, or later
abbrev mark_then : Bool → Bool → Bool
mark_then true m = true
mark_then false m = m

abbrev new_then : Bool → List Entry → List Entry
new_then true es = []
new_then false es = es

each-sheet : (p q : Pattern) (s : Rule) → Lists s → (n lev : ℕ) (f : Bindings) (m : Bool) (ds : List (Open s)) (i : ℕ) (ls : List Line) → if_pending (run (step (trigger Each p q s)) (watch f m ds) i ls) (entry n lev (mark_then m (ended p q f ls)) f ∷ (together (λ d. shown (entries s (suc n) (suc lev)) (after (step s) d ls)) ds ++ new_then m (duties p q (sheet s (suc n) (suc lev)) f i ls))) ≡ shown (entries (trigger Each p q s) n lev) (after (step (trigger Each p q s)) (watch f m ds) ls)
unfolding step entries
each-sheet p q s inside n lev f true ds i [] = ap (λ es. entry n lev true f ∷ es) (append-nil (together (entries s (suc n) (suc lev)) ds))
each-sheet p q s inside n lev f false ds i [] = ap (λ es. entry n lev false f ∷ es) (append-nil (together (entries s (suc n) (suc lev)) ds))
each-sheet p q s inside n lev f m ds i (l ∷ ls) =
    go (λ m ds. each-sheet p q s inside n lev f m ds (suc i) ls) m (effect p q f l) (step_duties (step s) ds l) (together (λ d. shown (entries s (suc n) (suc lev)) (after (step s) d (l ∷ ls))) ds)
    (kept_same (entries s (suc n) (suc lev)) (step s) l ls ds)
  where
    D : Open s → List Entry
    D d = shown (entries s (suc n) (suc lev)) (after (step s) d ls)

    VE : EachOpen (Open s) → Verdict
    VE o = run (step (trigger Each p q s)) o (suc i) ls

    E : EachOpen (Open s) → List Entry
    E o = shown (entries (trigger Each p q s) n lev) (after (step (trigger Each p q s)) o ls)

    new : List Entry
    new = duties p q (sheet s (suc n) (suc lev)) f (suc i) ls

    head : Bool → Entry
    head k = entry n lev k f

    Goal : Bool → Effect → Kept (Open s) → List Entry → Type 0
    Goal m x ks es = if_pending (decide i (unless_broken ks (each_step f (each_effect m x) (start s))) VE) (head (mark_then m (ended_at x (ended p q f ls))) ∷ (es ++ new_then m (duties_at x (λ g. sheet s (suc n) (suc lev) g (suc i) ls) new))) ≡ shown (entries (trigger Each p q s) n lev) (then_left (unless_broken ks (each_step f (each_effect m x) (start s))) (λ o. after (step (trigger Each p q s)) o ls))

    Again : Type 0
    Again = (m : Bool) (ds : List (Open s)) → if_pending (VE (watch f m ds)) (head (mark_then m (ended p q f ls)) ∷ (together D ds ++ new_then m new)) ≡ E (watch f m ds)

    opened : (g : Bindings) (ds : List (Open s)) → together D ds ++ (sheet s (suc n) (suc lev) g (suc i) ls ++ new) ≡ together D (ds ++ (start s g ∷ [])) ++ new
    opened g ds =
        ap (λ es. together D ds ++ (es ++ new)) (inside (suc n) (suc lev) g (suc i) ls)
        ∙ (sym (append_assoc (together D ds) (D (start s g)) new) ∙ ap (λ es. es ++ new) (sym (together-more D ds (start s g))))

    go : Again → (m : Bool) (x : Effect) (ks : Kept (Open s)) (es : List Entry) → KeptSame D ks es → Goal m x ks es
    go again m x broken es e = refl
    go again true x (kept []) es e = refl
    go again true x (kept (d ∷ ds)) es e = rw e (again true (d ∷ ds))
    go again false Ends (kept []) es e = refl
    go again false Ends (kept (d ∷ ds)) es e = rw e (again true (d ∷ ds))
    go again false (Acts g) (kept ds) es e = rw (e, opened g ds) (again false (ds ++ (start s g ∷ [])))
    go again false Passes (kept ds) es e = rw e (again false ds)

-- The open sheet of a rule is the list of the entries of what its machine leaves open.
pub sheet-after : (r : Rule) (n lev : ℕ) (f : Bindings) (i : ℕ) (ls : List Line) → sheet r n lev f i ls ≡ shown (entries r n lev) (after (step r) (start r f) ls)
unfolding sheet V
sheet-after (duty k p q) n lev f i ls = duty-sheet k p q n lev f i ls
sheet-after (trigger Once p q s) n lev f i ls = once_sheet_lem p q s (sheet-after s) n lev f i ls
sheet-after (trigger Each p q s) n lev f i ls = rw (V_run (trigger Each p q s) f i ls) (each-sheet p q s (sheet-after s) n lev f false [] i ls)
sheet-after (bracket Else r s) n lev f i ls =
    (λ t. else_sheet (V_run r f i ls t) (entry n lev false f) (sheet-after r (suc n) (suc lev) f i ls t) (λ j. sheet-after s (suc n + nodes r) lev f (suc j) (drop (suc j - i) ls) t))
    ∙ else_sheet_lem r s n lev f (start r f) i ls
sheet-after (bracket And r s) n lev f i ls =
    (λ t. and_sheet (V_run r f i ls t) (V_run s f i ls t) (entry n lev false f) lev (λ lev'. sheet-after r (suc n) lev' f i ls t) (λ lev'. sheet-after s (suc n + nodes r) lev' f i ls t))
    ∙ and_sheet_lem r s n lev f (start r f) (start s f) i ls
