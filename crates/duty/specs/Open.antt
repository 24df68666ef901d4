-- What is left open of a rule after some lines, as a tree of the shape of the rule, and its step by one line. Assumes nothing.
use Rattle.std.specs.Prelude.{ℕ, suc, ◌+◌, Bool, true, false, List, [], ◌∷◌, ◌++◌}
use Rattle.feed.specs.declared.lines.Line.{Line}
use Rattle.book.specs.Rules.{Rule, duty, trigger, bracket}
use Rattle.book.specs.declared.terms.DutyKind.{DutyKind}
use Rattle.book.specs.declared.terms.DutyKind.TheVariants.{Must, MustNot}
use Rattle.book.specs.declared.terms.TriggerKind.TheVariants.{Each, Once}
use Rattle.book.specs.declared.terms.BracketKind.TheVariants.{Else, And}
use Rattle.book.specs.Sizes.{nodes}
use Rattle.duty.specs.Matching.{Bindings, effect}
use Rattle.duty.specs.Sheet.{entry}
use Rattle.duty.specs.declared.matching.Effect.{Effect}
use Rattle.duty.specs.declared.matching.Effect.TheVariants.{Ends, Acts, Passes}
use Rattle.duty.specs.declared.verdicts.Verdict.{Verdict}
use Rattle.duty.specs.declared.verdicts.Verdict.TheVariants.{Pending, Satisfied, Breached}
use Rattle.duty.specs.declared.entries.Entry.{Entry}

-- a `once`: not triggered, or its duty
pub data OnceOpen (A : Type 0) : Type 0 where
  waiting : Bindings → OnceOpen A
  running : A → OnceOpen A

-- an `each`: whether its end has come, and the undecided duties, oldest first
pub data EachOpen (A : Type 0) : Type 0 where
  watch : Bindings → Bool → List A → EachOpen A

-- an `else`: its first rule, or its second
pub data ElseOpen (A B : Type 0) : Type 0 where
  first : Bindings → A → ElseOpen A B
  second : B → ElseOpen A B

-- an `and`: both, or the one that is not satisfied
pub data AndOpen (A B : Type 0) : Type 0 where
  two : Bindings → A → B → AndOpen A B
  left : A → AndOpen A B
  right : B → AndOpen A B

abbrev pub Open : Rule → Type 0
Open (duty k p q) = Bindings
Open (trigger Once p q s) = OnceOpen (Open s)
Open (trigger Each p q s) = EachOpen (Open s)
Open (bracket Else r s) = ElseOpen (Open r) (Open s)
Open (bracket And r s) = AndOpen (Open r) (Open s)

-- a rule of which no line has been seen
abbrev pub start : (r : Rule) → Bindings → Open r
start (duty k p q) f = f
start (trigger Once p q s) f = waiting f
start (trigger Each p q s) f = watch f false []
start (bracket Else r s) f = first f (start r f)
start (bracket And r s) f = two f (start r f) (start s f)

-- a line decides, or leaves something open
pub data Left (A : Type 0) : Type 0 where
  met : Left A
  missed : Left A
  still : A → Left A

abbrev pub over : {A B : Type 0} → (A → B) → Left A → Left B
over h met = met
over h missed = missed
over h (still o) = still (h o)

abbrev pub then_left : {A B : Type 0} → Left A → (A → Left B) → Left B
then_left met h = met
then_left missed h = missed
then_left (still o) h = h o

abbrev pub duty_step : DutyKind → Bindings → Effect → Left Bindings
duty_step Must f Ends = missed
duty_step Must f (Acts g) = met
duty_step Must f Passes = still f
duty_step MustNot f Ends = met
duty_step MustNot f (Acts g) = missed
duty_step MustNot f Passes = still f

abbrev pub once_step : {A : Type 0} → Bindings → Effect → (Bindings → A) → Left (OnceOpen A)
once_step f Ends new = met
once_step f (Acts g) new = still (running (new g))
once_step f Passes new = still (waiting f)

-- every duty steps: one breach is a breach of all, and a satisfied one goes
pub data Kept (A : Type 0) : Type 0 where
  broken : Kept A
  kept : List A → Kept A

abbrev pub add_kept : {A : Type 0} → A → Kept A → Kept A
add_kept d broken = broken
add_kept d (kept ds) = kept (d ∷ ds)

abbrev pub add_duty : {A : Type 0} → Left A → Kept A → Kept A
add_duty met ds = ds
add_duty missed ds = broken
add_duty (still d) ds = add_kept d ds

abbrev pub step_duties : {A : Type 0} → (A → Line → Left A) → List A → Line → Kept A
step_duties step [] l = kept []
step_duties step (d ∷ ds) l = add_duty (step d l) (step_duties step ds l)

abbrev pub unless_broken : {A B : Type 0} → Kept A → (List A → Left B) → Left B
unless_broken broken h = missed
unless_broken (kept ds) h = h ds

-- after its end an `each` is satisfied once no duty is left
abbrev pub closing : {A : Type 0} → Bindings → List A → Left (EachOpen A)
closing f [] = met
closing f (d ∷ ds) = still (watch f true (d ∷ ds))

abbrev pub each_step : {A : Type 0} → Bindings → Effect → (Bindings → A) → List A → Left (EachOpen A)
each_step f Ends new ds = closing f ds
each_step f (Acts g) new ds = still (watch f false (ds ++ (new g ∷ [])))
each_step f Passes new ds = still (watch f false ds)

-- a marked `each` has ended, whatever the line
abbrev pub each_effect : Bool → Effect → Effect
each_effect true e = Ends
each_effect false e = e

abbrev pub else_step : {A B : Type 0} → Bindings → Left A → B → Left (ElseOpen A B)
else_step f met new = met
else_step f missed new = still (second new)
else_step f (still o) new = still (first f o)

abbrev pub and_step : {A B : Type 0} → Bindings → Left A → Left B → Left (AndOpen A B)
and_step f met met = met
and_step f met missed = missed
and_step f met (still o) = still (right o)
and_step f missed b = missed
and_step f (still o) met = still (left o)
and_step f (still o) missed = missed
and_step f (still o) (still o') = still (two f o o')

unfoldable pub step : (r : Rule) → Open r → Line → Left (Open r)
step (duty k p q) f l = duty_step k f (effect p q f l)
step (trigger Once p q s) (waiting f) l = once_step f (effect p q f l) (start s)
step (trigger Once p q s) (running o) l = over running (step s o l)
step (trigger Each p q s) (watch f m ds) l = unless_broken (step_duties (step s) ds l) (each_step f (each_effect m (effect p q f l)) (start s))
step (bracket Else r s) (first f o) l = else_step f (step r o l) (start s f)
step (bracket Else r s) (second o) l = over second (step s o l)
step (bracket And r s) (two f o o') l = and_step f (step r o l) (step s o' l)
step (bracket And r s) (left o) l = over left (step r o l)
step (bracket And r s) (right o) l = over right (step s o l)

-- the verdict at line i, where what is left open comes to `later`
abbrev pub decide : {A : Type 0} → ℕ → Left A → (A → Verdict) → Verdict
decide i met later = Satisfied i
decide i missed later = Breached i
decide i (still o) later = later o

-- the verdict of the lines from line i on
abbrev pub run : {A : Type 0} → (A → Line → Left A) → A → ℕ → List Line → Verdict
run step o i [] = Pending
run step o i (l ∷ ls) = decide i (step o l) (λ o'. run step o' (suc i) ls)

-- what the lines leave open
abbrev pub after : {A : Type 0} → (A → Line → Left A) → A → List Line → Left A
after step o [] = still o
after step o (l ∷ ls) = then_left (step o l) (λ o'. after step o' ls)

-- the entries of all, in order
abbrev pub together : {A : Type 0} → (A → List Entry) → List A → List Entry
together h [] = []
together h (d ∷ ds) = h d ++ together h ds

-- the entries of what is open of a rule whose own node has the number n, at level lev
unfoldable pub entries : (r : Rule) → ℕ → ℕ → Open r → List Entry
entries (duty k p q) n lev f = entry n lev false f ∷ []
entries (trigger Once p q s) n lev (waiting f) = entry n lev false f ∷ []
entries (trigger Once p q s) n lev (running o) = entries s (suc n) lev o
entries (trigger Each p q s) n lev (watch f m ds) = entry n lev m f ∷ together (entries s (suc n) (suc lev)) ds
entries (bracket Else r s) n lev (first f o) = entry n lev false f ∷ entries r (suc n) (suc lev) o
entries (bracket Else r s) n lev (second o) = entries s (suc n + nodes r) lev o
entries (bracket And r s) n lev (two f o o') = entry n lev false f ∷ (entries r (suc n) (suc lev) o ++ entries s (suc n + nodes r) (suc lev) o')
entries (bracket And r s) n lev (left o) = entries r (suc n) lev o
entries (bracket And r s) n lev (right o) = entries s (suc n + nodes r) lev o

-- nothing is listed of what is decided
abbrev pub shown : {A : Type 0} → (A → List Entry) → Left A → List Entry
shown h met = []
shown h missed = []
shown h (still o) = h o
