-- The open sheet of a rule, and of a book, on a log. Assumes nothing.
use Rattle.std.specs.Prelude.{ℕ, suc, ◌+◌, ◌-◌, ◌≤◌, Bool, true, false, List, [], ◌∷◌, ◌++◌, length, drop}
use Rattle.feed.specs.declared.lines.Line.{Line}
use Rattle.book.specs.Rules.{Pattern, Rule, duty, trigger, bracket}
use Rattle.book.specs.Sizes.{nodes}
use Rattle.book.specs.declared.terms.TriggerKind.TheVariants.{Each, Once}
use Rattle.book.specs.declared.terms.BracketKind.TheVariants.{Else, And}
use Rattle.duty.specs.Matching.{Bindings, unbound, effect}
use Rattle.duty.specs.Verdicts.{V}
use Rattle.duty.specs.declared.matching.Effect.{Effect}
use Rattle.duty.specs.declared.matching.Effect.TheVariants.{Ends, Acts, Passes}
use Rattle.duty.specs.declared.verdicts.Verdict.{Verdict}
use Rattle.duty.specs.declared.verdicts.Verdict.TheVariants.{Pending, Satisfied, Breached}
use Rattle.duty.specs.declared.entries.Entry.{Entry}

abbrev pub entry : ℕ → ℕ → Bool → Bindings → Entry
entry n lev m f = record { node = n; level = lev; mark = m; letters = f }

-- the number of a mark
abbrev pub mark_number : Bool → ℕ
mark_number false = 0
mark_number true = 1

-- a decided rule has no entry
abbrev pub if_pending : Verdict → List Entry → List Entry
if_pending Pending es = es
if_pending (Satisfied j) es = []
if_pending (Breached j) es = []

-- The entries of a rule under bindings, on the log's lines from line i on.
abbrev pub Listing : Type 0
Listing = Bindings → ℕ → List Line → List Entry

-- a `once`: its one entry until p matches, and from then on those of its duty
abbrev pub once_at : Effect → (Bindings → List Entry) → List Entry → List Entry
once_at Ends opened later = []
once_at (Acts g) opened later = opened g
once_at Passes opened later = later

abbrev pub once_sheet : Pattern → Pattern → Entry → Listing → Listing
once_sheet p q e s f i [] = e ∷ []
once_sheet p q e s f i (l ∷ ls) = once_at (effect p q f l) (λ g. s g (suc i) ls) (once_sheet p q e s f (suc i) ls)

-- an `each` is marked once q has matched
abbrev pub ended_at : Effect → Bool → Bool
ended_at Ends later = true
ended_at (Acts g) later = later
ended_at Passes later = later

abbrev pub ended : Pattern → Pattern → Bindings → List Line → Bool
ended p q f [] = false
ended p q f (l ∷ ls) = ended_at (effect p q f l) (ended p q f ls)

-- the entries of its duties, oldest first; the line that ends it opens none, nor does a later one
abbrev pub duties_at : Effect → (Bindings → List Entry) → List Entry → List Entry
duties_at Ends opened later = []
duties_at (Acts g) opened later = opened g ++ later
duties_at Passes opened later = later

abbrev pub duties : Pattern → Pattern → Listing → Listing
duties p q s f i [] = []
duties p q s f i (l ∷ ls) = duties_at (effect p q f l) (λ g. s g (suc i) ls) (duties p q s f (suc i) ls)

-- an `else`, by the verdict of its first rule
abbrev pub else_sheet : Verdict → Entry → List Entry → (ℕ → List Entry) → List Entry
else_sheet Pending e first second = e ∷ first
else_sheet (Satisfied j) e first second = []
else_sheet (Breached j) e first second = second j

-- an `and`, by the verdicts of both; `left` and `right` give the entries of its sides at a level
abbrev pub and_sheet : Verdict → Verdict → Entry → ℕ → (ℕ → List Entry) → (ℕ → List Entry) → List Entry
and_sheet Pending Pending e lev left right = e ∷ (left (suc lev) ++ right (suc lev))
and_sheet (Satisfied i) Pending e lev left right = right lev
and_sheet Pending (Satisfied j) e lev left right = left lev
and_sheet (Satisfied i) (Satisfied j) e lev left right = []
and_sheet (Breached i) Pending e lev left right = []
and_sheet (Breached i) (Satisfied j) e lev left right = []
and_sheet (Breached i) (Breached j) e lev left right = []
and_sheet Pending (Breached j) e lev left right = []
and_sheet (Satisfied i) (Breached j) e lev left right = []

-- sheet r n lev: the entries of the rule r whose own node has the number n, at level lev
unfoldable pub sheet : Rule → ℕ → ℕ → Listing
sheet (duty k p q) n lev f i ls = if_pending (V (duty k p q) f i ls) (entry n lev false f ∷ [])
sheet (trigger Once p q s) n lev f i ls = once_sheet p q (entry n lev false f) (sheet s (suc n) lev) f i ls
sheet (trigger Each p q s) n lev f i ls =
    if_pending (V (trigger Each p q s) f i ls) (entry n lev (ended p q f ls) f ∷ duties p q (sheet s (suc n) (suc lev)) f i ls)
sheet (bracket Else r s) n lev f i ls =
    else_sheet (V r f i ls) (entry n lev false f) (sheet r (suc n) (suc lev) f i ls)
    (λ j. sheet s (suc n + nodes r) lev f (suc j) (drop (suc j - i) ls))
sheet (bracket And r s) n lev f i ls =
    and_sheet (V r f i ls) (V s f i ls) (entry n lev false f) lev (λ lev'. sheet r (suc n) lev' f i ls)
    (λ lev'. sheet s (suc n + nodes r) lev' f i ls)

-- the entries of a rule of a book: its nodes are numbered from 1, its entries start at level 0, no letter is bound
abbrev pub rule_sheet : Rule → List Line → List Entry
rule_sheet r log = sheet r 1 0 unbound 1 log

-- the sheet lists the entries of the rules in order
abbrev pub book_sheet : List Rule → List Line → List Entry
book_sheet [] log = []
book_sheet (r ∷ rs) log = rule_sheet r log ++ book_sheet rs log

-- the sheet has 256 places
abbrev pub Fits : List Entry → Type 0
Fits es = length es ≤ 256
