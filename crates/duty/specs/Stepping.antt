-- What the step of a rule answers and writes. Assumes nothing.
use Rattle.std.specs.Prelude.{◌≡◌, ℕ, min, Bool, true, false, List, [], ◌∷◌, ◌++◌, length}
use Rattle.feed.specs.declared.lines.Line.{Line}
use Rattle.book.specs.Rules.{Rule, duty, trigger, bracket}
use Rattle.book.specs.declared.terms.TriggerKind.TheVariants.{Each, Once}
use Rattle.book.specs.declared.terms.BracketKind.TheVariants.{And}
use Rattle.duty.specs.Matching.{Bindings, effect}
use Rattle.duty.specs.Sheet.{entry}
use Rattle.duty.specs.Open.{Open, start, Left, met, missed, still, EachOpen, watch, two, and_step, step, each_step, Kept, broken, kept, step_duties, together, entries, shown}
use Rattle.duty.specs.Drafts.{Drafted, Adds}
use Rattle.duty.specs.declared.drafts.Draft.{Draft}
use Rattle.duty.specs.declared.entries.Entry.{Entry}
use Rattle.duty.specs.declared.matching.Effect.{Effect}
use Rattle.duty.specs.declared.matching.Effect.TheVariants.{Ends, Acts, Passes}
use Rattle.duty.specs.declared.outcomes.Outcome.{Outcome}
use Rattle.duty.specs.declared.outcomes.Outcome.TheVariants.{Satisfied, Breached, Open as StillOpen}
use Rattle.duty.specs.declared.outcomes.Sides.{Sides}
use Rattle.duty.specs.declared.outcomes.Sides.TheVariants as sides-of
use Rattle.duty.specs.declared.places.Place.{Place}

abbrev pub outcome : {A : Type 0} → Left A → Outcome
outcome met = Satisfied
outcome missed = Breached
outcome (still o) = StillOpen

-- of all duties: broken by one, none left, or some
abbrev pub duties_outcome : {A : Type 0} → Kept A → Outcome
duties_outcome broken = Breached
duties_outcome (kept []) = Satisfied
duties_outcome (kept (d ∷ ds)) = StillOpen

abbrev pub sides : Outcome → Outcome → Sides
sides Breached b = sides-of.Breached
sides Satisfied Breached = sides-of.Breached
sides Satisfied Satisfied = sides-of.Satisfied
sides Satisfied StillOpen = sides-of.Right
sides StillOpen Breached = sides-of.Breached
sides StillOpen Satisfied = sides-of.Left
sides StillOpen StillOpen = sides-of.Both

-- the answer tells what is left, and its entries have been written
pub record Came (r : Rule) (n lev : ℕ) (x : Left (Open r)) (d d' : Draft) (a : Outcome) : Type 0 where
  pub answer : a ≡ outcome x
  pub written : Adds d d' (shown (entries r n lev) x)

-- whatever is open of the rule, if these are its entries
abbrev pub StepsAt : Rule → Place → List Entry → Line → Draft → Outcome → Draft → Type 0
StepsAt r p es l d a d' = (lev : ℕ) (o : Open r) → es ≡ entries r p.node lev o → Came r p.node p.level (step r o l) d d' a

-- the same of both sides of an `and`
abbrev pub BothStepAt : Rule → Rule → Place → List Entry → Line → Draft → Outcome → Draft → Type 0
BothStepAt r s p es l d a d' =
    (lev : ℕ) (f : Bindings) (o : Open r) (o' : Open s) → es ≡ entries (bracket And r s) p.node lev (two f o o')
    → Came (bracket And r s) p.node p.level (and_step f (step r o l) (step s o' l)) d d' a

-- the same of duties that stand one after the other; after a breach what has been written is of no use
pub record CameAll (s : Rule) (n lev : ℕ) (ks : Kept (Open s)) (d d' : Draft) (a : Outcome) : Type 0 where
  pub answer : a ≡ duties_outcome ks
  pub more : List Entry
  pub written : Adds d d' more
  pub listed : (ds : List (Open s)) → ks ≡ kept ds → more ≡ together (entries s n lev) ds

abbrev pub DutiesStepAt : Rule → Place → List Entry → Line → Draft → Outcome → Draft → Type 0
DutiesStepAt s p es l d a d' = (lev : ℕ) (ds : List (Open s)) → es ≡ together (entries s p.node lev) ds → CameAll s p.node p.level (step_duties (step s) ds l) d d' a

-- an `each` is marked by what ends it
abbrev pub marks : Effect → Bool
marks Ends = true
marks (Acts g) = false
marks Passes = false

-- the entries of an `each` at node n and level lev, whose duties stand at node n' and level lev'
abbrev pub each_entries : (s : Rule) → ℕ → ℕ → ℕ → ℕ → EachOpen (Open s) → List Entry
each_entries s n lev n' lev' (watch f m ds) = entry n lev m f ∷ together (entries s n' lev') ds

-- with its own entry and those of its duties written after some others
pub record Closed (s : Rule) (n lev : ℕ) (p : Place) (o : EachOpen (Open s)) (x : Left (EachOpen (Open s))) (count : ℕ) (d d' : Draft) (a : Outcome) : Type 0 where
  pub answer : a ≡ outcome x
  pub written : (es : List Entry) → Drafted d (es ++ each_entries s n lev p.node p.level o) → count ≡ min (length es) 257 → Drafted d' (es ++ shown (each_entries s n lev p.node p.level) x)

abbrev pub Closes : Rule → Place → Effect → Outcome → ℕ → Draft → Outcome → Draft → Type 0
Closes s p m left count d a d' =
    (n lev : ℕ) (f : Bindings) (ds : List (Open s)) → left ≡ duties_outcome (kept ds)
    → Closed s n lev p (watch f (marks m) ds) (each_step f m (start s) ds) count d d' a

-- a rule that the line passes by, whatever is open of it and whichever letters are bound; an `each` is not told of
abbrev pub PassedBy : Rule → Line → Type 0
PassedBy (duty k p q) l = (f : Bindings) → effect p q f l ≡ Passes
PassedBy (trigger Once p q s) l = ((f : Bindings) → effect p q f l ≡ Passes) × PassedBy s l
PassedBy (trigger Each p q s) l = ⊥
PassedBy (bracket k r s) l = PassedBy r l × PassedBy s l

-- of duties that stay as they are
abbrev pub some_left : List Entry → Outcome
some_left [] = Satisfied
some_left (e ∷ es) = StillOpen

-- no entries, or the first at this level
abbrev pub AtLevel : ℕ → List Entry → Type 0
AtLevel lev [] = Unit {0}
AtLevel lev (e ∷ es) = e.level ≡ lev
