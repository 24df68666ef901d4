-- The verdict of a rule is what its machine says.
use Rattle.std.proofs.Common.{◌≡◌, ℕ, suc, ◌-◌, true, false, List, [], ◌∷◌, ◌++◌, drop, sym, refl, ap, ◌∙◌, ap₂, le_refl, arith}
use mathlib.Core.Path.{fun_ext}
use Rattle.feed.specs.declared.lines.Line.{Line}
use Rattle.book.specs.Rules.{Pattern, Rule, duty, trigger, bracket}
use Rattle.book.specs.declared.terms.DutyKind.{DutyKind}
use Rattle.book.specs.declared.terms.DutyKind.TheVariants.{Must, MustNot}
use Rattle.book.specs.declared.terms.TriggerKind.TheVariants.{Each, Once}
use Rattle.book.specs.declared.terms.BracketKind.TheVariants.{Else, And}
use Rattle.duty.specs.Matching.{Bindings, effect}
use Rattle.duty.specs.declared.matching.Effect.{Effect}
use Rattle.duty.specs.declared.matching.Effect.TheVariants.{Ends, Acts, Passes}
use Rattle.duty.specs.declared.verdicts.Verdict.{Verdict}
use Rattle.duty.specs.declared.verdicts.Verdict.TheVariants.{Pending, Satisfied, Breached}
use Rattle.duty.specs.Verdicts.{join, V, duty_v, duty_at, trigger_v, trigger_at, else_at}
use Rattle.duty.specs.Open.{Open, start, Left, met, missed, still, waiting, running, EachOpen, watch, first, second, two, left, right, over, duty_step, once_step, Kept, broken, kept, add_kept, add_duty, step_duties, unless_broken, each_step, else_step, and_step, step, decide, run}
use Rattle.duty.proofs.Joins.{join_comm, Late, late_less, late_join, missed_first, met-first}

-- a run from line i on decides at line i or later
pub late_run : {A : Type 0} (step : A → Line → Left A) (o : A) (i : ℕ) (ls : List Line) → Late i (run step o i ls)
late_run step o i [] = tt
late_run step o i (l ∷ ls) =
    elim (step o l) as (λ x. Late i (decide i x (λ o'. run step o' (suc i) ls)))
    [ met ↦ le_refl i | missed ↦ le_refl i | still o' ↦ late_less i (run step o' (suc i) ls) (late_run step o' (suc i) ls) ]

-- a machine inside another
pub run-over : {A B : Type 0} (h : A → B) (a : A → Line → Left A) (b : B → Line → Left B) → ((o : A) (l : Line) → b (h o) l ≡ over h (a o l)) → (o : A) (i : ℕ) (ls : List Line) → run b (h o) i ls ≡ run a o i ls
run-over h a b same o i [] = refl
run-over h a b same o i (l ∷ ls) =
    rw (same o l)
    (elim (a o l) as (λ x. decide i (over h x) (λ o'. run b o' (suc i) ls) ≡ decide i x (λ o'. run a o' (suc i) ls))
    [ met ↦ refl | missed ↦ refl | still o' ↦ run-over h a b same o' (suc i) ls ])

duty-run : (k : DutyKind) (p q : Pattern) (f : Bindings) (i : ℕ) (ls : List Line) → duty_v k p q f i ls ≡ run (step (duty k p q)) f i ls
unfolding step
duty-run k p q f i [] = refl
duty-run k p q f i (l ∷ ls) = go k (effect p q f l) (duty_v k p q f (suc i) ls) (λ o. run (step (duty k p q)) o (suc i) ls) (duty-run k p q f (suc i) ls)
  where
    go : (k : DutyKind) (m : Effect) (v : Verdict) (h : Bindings → Verdict) → v ≡ h f → duty_at k i m v ≡ decide i (duty_step k f m) h
    go Must Ends v h e = refl
    go Must (Acts g) v h e = refl
    go Must Passes v h e = e
    go MustNot Ends v h e = refl
    go MustNot (Acts g) v h e = refl
    go MustNot Passes v h e = e

-- `once`
once_run : (p q : Pattern) (s : Rule) → ((f : Bindings) (i : ℕ) (ls : List Line) → V s f i ls ≡ run (step s) (start s f) i ls) → (f : Bindings) (i : ℕ) (ls : List Line) → trigger_v Once p q (V s) f i ls ≡ run (step (trigger Once p q s)) (waiting f) i ls
unfolding step
once_run p q s inside f i [] = refl
once_run p q s inside f i (l ∷ ls) =
    elim (effect p q f l) as (λ m. trigger_at Once i m (λ g. V s g (suc i) ls) (trigger_v Once p q (V s) f (suc i) ls) ≡ decide i (once_step f m (start s)) (λ o. run (step (trigger Once p q s)) o (suc i) ls)) [
      | Ends ↦ refl
      | Acts g ↦ inside g (suc i) ls ∙ sym (run-over running (step s) (step (trigger Once p q s)) (λ o k. refl) (start s g) (suc i) ls)
      | Passes ↦ once_run p q s inside f (suc i) ls
    ]

-- `and`
both_run : (r s : Rule) (f : Bindings) (o : Open r) (o' : Open s) (i : ℕ) (ls : List Line) → run (step (bracket And r s)) (two f o o') i ls ≡ join (run (step r) o i ls) (run (step s) o' i ls)
unfolding step
both_run r s f o o' i [] = refl
both_run r s f o o' i (l ∷ ls) = go (λ x y. both_run r s f x y (suc i) ls) (step r o l) (step s o' l)
  where
    R : Open r → Verdict
    R o = run (step r) o (suc i) ls

    S : Open s → Verdict
    S o = run (step s) o (suc i) ls

    late_r : (o : Open r) → Late i (R o)
    late_r o = late_less i (R o) (late_run (step r) o (suc i) ls)

    late_s : (o : Open s) → Late i (S o)
    late_s o = late_less i (S o) (late_run (step s) o (suc i) ls)

    go : ((x : Open r) (y : Open s) → run (step (bracket And r s)) (two f x y) (suc i) ls ≡ join (R x) (S y)) → (x : Left (Open r)) (y : Left (Open s)) → decide i (and_step f x y) (λ o. run (step (bracket And r s)) o (suc i) ls) ≡ join (decide i x R) (decide i y S)
    go again met met = ap Satisfied (omega arith)
    go again met missed = refl
    go again met (still y) = run-over right (step s) (step (bracket And r s)) (λ o k. refl) y (suc i) ls ∙ sym (met-first i (S y) (late_s y))
    go again missed met = refl
    go again missed missed = ap Breached (omega arith)
    go again missed (still y) = sym (missed_first i (S y) (late_s y))
    go again (still x) met = run-over left (step r) (step (bracket And r s)) (λ o k. refl) x (suc i) ls ∙ (sym (met-first i (R x) (late_r x)) ∙ join_comm (Satisfied i) (R x))
    go again (still x) missed = sym (missed_first i (R x) (late_r x)) ∙ join_comm (Breached i) (R x)
    go again (still x) (still y) = again x y

-- `else`
else_run : (r s : Rule) (f : Bindings) (o : Open r) (i : ℕ) (ls : List Line) → run (step (bracket Else r s)) (first f o) i ls ≡ else_at (run (step r) o i ls) (λ j. run (step s) (start s f) (suc j) (drop (suc j - i) ls))
unfolding step
else_run r s f o i [] = refl
else_run r s f o i (l ∷ ls) = go (λ x. else_run r s f x (suc i) ls) (step r o l)
  where
    S : ℕ → List Line → Verdict
    S j ls = run (step s) (start s f) (suc j) ls

    later : (v : Verdict) → Late (suc i) v → else_at v (λ j. S j (drop (suc j - suc i) ls)) ≡ else_at v (λ j. S j (drop (suc j - i) (l ∷ ls)))
    later Pending h = refl
    later (Satisfied j) h = refl
    later (Breached j) h = let e : suc j - i ≡ suc (suc j - suc i) = omega arith in rw e refl

    go : ((x : Open r) → run (step (bracket Else r s)) (first f x) (suc i) ls ≡ else_at (run (step r) x (suc i) ls) (λ j. S j (drop (suc j - suc i) ls))) → (x : Left (Open r)) → decide i (else_step f x (start s f)) (λ o. run (step (bracket Else r s)) o (suc i) ls) ≡ else_at (decide i x (λ o. run (step r) o (suc i) ls)) (λ j. S j (drop (suc j - i) (l ∷ ls)))
    go again met = refl
    go again missed = let e : suc i - i ≡ 1 = omega arith in rw e (run-over second (step s) (step (bracket Else r s)) (λ o k. refl) (start s f) (suc i) ls)
    go again (still x) = again x ∙ later (run (step r) x (suc i) ls) (late_run (step r) x (suc i) ls)

-- `each`: its duties, joined with what the rest says
abbrev joined_to : {A : Type 0} → (A → Verdict) → List A → Verdict → Verdict
joined_to h [] v = v
joined_to h (d ∷ ds) v = join (h d) (joined_to h ds v)

joined_to_more : {A : Type 0} (h : A → Verdict) (ds : List A) (d : A) (v : Verdict) → joined_to h (ds ++ (d ∷ [])) v ≡ joined_to h ds (join (h d) v)
joined_to_more h [] d v = refl
joined_to_more h (e ∷ ds) d v = ap (join (h e)) (joined_to_more h ds d v)

-- with no line left, all is Pending
joined_to_none : {A : Type 0} (ds : List A) → joined_to (λ d. Pending) ds Pending ≡ Pending
joined_to_none [] = refl
joined_to_none (d ∷ ds) = ap (join Pending) (joined_to_none ds)

joined_to_none-met : {A : Type 0} (i : ℕ) (d : A) (ds : List A) → joined_to (λ d. Pending) (d ∷ ds) (Satisfied i) ≡ Pending
joined_to_none-met i d [] = refl
joined_to_none-met i d (e ∷ ds) = ap (join Pending) (joined_to_none-met i e ds)

late_joined_to : {A : Type 0} (h : A → Verdict) (i : ℕ) → ((d : A) → Late i (h d)) → (ds : List A) (v : Verdict) → Late i v → Late i (joined_to h ds v)
late_joined_to h i late [] v k = k
late_joined_to h i late (d ∷ ds) v k = late_join i (h d) (joined_to h ds v) (late d) (late_joined_to h i late ds v k)

-- a line of satisfaction before all others does not count
joined_to_met : {A : Type 0} (h : A → Verdict) (i : ℕ) → ((d : A) → Late (suc i) (h d)) → (d : A) (ds : List A) → joined_to h (d ∷ ds) (Satisfied (suc i)) ≡ joined_to h (d ∷ ds) (Satisfied i)
joined_to_met h i late d [] =
    join_comm (h d) (Satisfied (suc i)) ∙ (met-first (suc i) (h d) (late d) ∙ (sym (met-first i (h d) (late_less i (h d) (late d))) ∙ join_comm (Satisfied i) (h d)))
joined_to_met h i late d (e ∷ ds) = ap (join (h d)) (joined_to_met h i late e ds)

abbrev kept_v : {A : Type 0} → ℕ → Kept A → (List A → Verdict) → Verdict
kept_v i broken h = Breached i
kept_v i (kept ds) h = h ds

-- one line, for all duties
joined_to_step : {A : Type 0} (step : A → Line → Left A) (i : ℕ) (l : Line) (ls : List Line) (v : Verdict) → Late i v → (ds : List A) → joined_to (λ d. run step d i (l ∷ ls)) ds v ≡ kept_v i (step_duties step ds l) (λ ds'. joined_to (λ d. run step d (suc i) ls) ds' v)
joined_to_step step i l ls v late [] = refl
joined_to_step {A} step i l ls v late (d ∷ ds) = go (joined_to_step step i l ls v late ds) (step d l)
  where
    R : A → Verdict
    R d = run step d (suc i) ls

    late_r : (d : A) → Late i (R d)
    late_r d = late_less i (R d) (late_run step d (suc i) ls)

    J : Verdict
    J = joined_to (λ d. run step d i (l ∷ ls)) ds v

    late_j : Late i J
    late_j = late_joined_to (λ d. run step d i (l ∷ ls)) i (λ d. late_run step d i (l ∷ ls)) ds v late

    more : (x : A) (k : Kept A) → join (R x) (kept_v i k (λ ds'. joined_to R ds' v)) ≡ kept_v i (add_kept x k) (λ ds'. joined_to R ds' v)
    more x broken = join_comm (R x) (Breached i) ∙ missed_first i (R x) (late_r x)
    more x (kept ds') = refl

    go : J ≡ kept_v i (step_duties step ds l) (λ ds'. joined_to R ds' v) → (x : Left A) → join (decide i x R) J ≡ kept_v i (add_duty x (step_duties step ds l)) (λ ds'. joined_to R ds' v)
    go again met = met-first i J late_j ∙ again
    go again missed = missed_first i J late_j
    go again (still x) = ap (join (R x)) again ∙ more x (step_duties step ds l)

-- after Q has matched, with a duty left
watched_run : (p q : Pattern) (s : Rule) (f : Bindings) (d : Open s) (ds : List (Open s)) (i : ℕ) (ls : List Line) → run (step (trigger Each p q s)) (watch f true (d ∷ ds)) i ls ≡ joined_to (λ d. run (step s) d i ls) (d ∷ ds) (Satisfied i)
unfolding step
watched_run p q s f d ds i [] = sym (joined_to_none-met i d ds)
watched_run p q s f d ds i (l ∷ ls) =
    go (λ d ds. watched_run p q s f d ds (suc i) ls) (step_duties (step s) (d ∷ ds) l) ∙ sym (joined_to_step (step s) i l ls (Satisfied i) (le_refl i) (d ∷ ds))
  where
    R : Open s → Verdict
    R d = run (step s) d (suc i) ls

    E : EachOpen (Open s) → Verdict
    E o = run (step (trigger Each p q s)) o (suc i) ls

    go : ((d : Open s) (ds : List (Open s)) → E (watch f true (d ∷ ds)) ≡ joined_to R (d ∷ ds) (Satisfied (suc i))) → (k : Kept (Open s)) → decide i (unless_broken k (each_step f Ends (start s))) E ≡ kept_v i k (λ ds. joined_to R ds (Satisfied i))
    go again broken = refl
    go again (kept []) = refl
    go again (kept (d ∷ ds)) = again d ds ∙ joined_to_met R i (λ d. late_run (step s) d (suc i) ls) d ds

abbrev Inside : Rule → Type 0
Inside s = (f : Bindings) (i : ℕ) (ls : List Line) → V s f i ls ≡ run (step s) (start s f) i ls

late_each : (p q : Pattern) (s : Rule) → Inside s → (f : Bindings) (i : ℕ) (ls : List Line) → Late i (trigger_v Each p q (V s) f i ls)
late_each p q s inside f i [] = tt
late_each p q s inside f i (l ∷ ls) = go (late_less i rest (late_each p q s inside f (suc i) ls)) (effect p q f l)
  where
    rest : Verdict
    rest = trigger_v Each p q (V s) f (suc i) ls

    go : Late i rest → (m : Effect) → Late i (trigger_at Each i m (λ g. V s g (suc i) ls) rest)
    go late_rest Ends = le_refl i
    go late_rest (Acts g) = late_join i (V s g (suc i) ls) rest (late_less i (V s g (suc i) ls) (rw (inside g (suc i) ls) (late_run (step s) (start s g) (suc i) ls))) late_rest
    go late_rest Passes = late_rest

watch-run : (p q : Pattern) (s : Rule) → Inside s → (f : Bindings) (ds : List (Open s)) (i : ℕ) (ls : List Line) → run (step (trigger Each p q s)) (watch f false ds) i ls ≡ joined_to (λ d. run (step s) d i ls) ds (trigger_v Each p q (V s) f i ls)
unfolding step
watch-run p q s inside f ds i [] = sym (joined_to_none ds)
watch-run p q s inside f ds i (l ∷ ls) =
    go (λ ds. watch-run p q s inside f ds (suc i) ls) (effect p q f l) (step_duties (step s) ds l)
    ∙ sym (joined_to_step (step s) i l ls (trigger_v Each p q (V s) f i (l ∷ ls)) (late_each p q s inside f i (l ∷ ls)) ds)
  where
    R : Open s → Verdict
    R d = run (step s) d (suc i) ls

    E : EachOpen (Open s) → Verdict
    E o = run (step (trigger Each p q s)) o (suc i) ls

    rest : Verdict
    rest = trigger_v Each p q (V s) f (suc i) ls

    go : ((ds : List (Open s)) → E (watch f false ds) ≡ joined_to R ds rest) → (m : Effect) (k : Kept (Open s)) → decide i (unless_broken k (each_step f m (start s))) E ≡ kept_v i k (λ ds. joined_to R ds (trigger_at Each i m (λ g. V s g (suc i) ls) rest))
    go again Ends broken = refl
    go again Ends (kept []) = refl
    go again Ends (kept (d ∷ ds)) = watched_run p q s f d ds (suc i) ls ∙ joined_to_met R i (λ d. late_run (step s) d (suc i) ls) d ds
    go again (Acts g) broken = refl
    go again (Acts g) (kept ds) = again (ds ++ (start s g ∷ [])) ∙ (joined_to_more R ds (start s g) rest ∙ ap (λ v. joined_to R ds (join v rest)) (sym (inside g (suc i) ls)))
    go again Passes broken = refl
    go again Passes (kept ds) = again ds

-- The verdict of a rule is what its machine says.
pub V_run : (r : Rule) (f : Bindings) (i : ℕ) (ls : List Line) → V r f i ls ≡ run (step r) (start r f) i ls
unfolding V
V_run (duty k p q) f i ls = duty-run k p q f i ls
V_run (trigger Once p q s) f i ls = once_run p q s (V_run s) f i ls
V_run (trigger Each p q s) f i ls = sym (watch-run p q s (V_run s) f [] i ls)
V_run (bracket Else r s) f i ls =
    ap₂ {C = Verdict} else_at (V_run r f i ls) (fun_ext (λ j. V_run s f (suc j) (drop (suc j - i) ls))) ∙ sym (else_run r s f (start r f) i ls)
V_run (bracket And r s) f i ls = ap₂ join (V_run r f i ls) (V_run s f i ls) ∙ sym (both_run r s f (start r f) (start s f) i ls)
