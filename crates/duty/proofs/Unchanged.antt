-- A line that no pattern of a rule matches leaves its verdict and its sheet as they were.
use Rattle.std.proofs.Common.{◌≡◌, ℕ, zero, suc, ◌+◌, ◌-◌, false, List, [], ◌∷◌, ◌++◌, drop, is_some, Some, None, Option, sym, refl, ap, ap₂}
use borrow.Author.Tests.{clash}
use Rattle.feed.specs.declared.lines.Line.{Line}
use Rattle.book.specs.Rules.{Pattern, Rule, duty, trigger, bracket}
use Rattle.book.specs.Sizes.{nodes}
use Rattle.book.specs.declared.terms.DutyKind.{DutyKind}
use Rattle.book.specs.declared.terms.DutyKind.TheVariants.{Must, MustNot}
use Rattle.book.specs.declared.terms.TriggerKind.{TriggerKind}
use Rattle.book.specs.declared.terms.TriggerKind.TheVariants.{Each, Once}
use Rattle.book.specs.declared.terms.BracketKind.TheVariants.{Else, And}
use Rattle.duty.specs.Matching.{Bindings, unbound, matches, effect}
use Rattle.duty.specs.Verdicts.{Judge, join, V, duty_v, duty_at, trigger_v, trigger_at, else_at, verdicts}
use Rattle.duty.specs.Sheet.{Listing, entry, if_pending, once_at, once_sheet, ended_at, ended, duties_at, duties, else_sheet, and_sheet, sheet, book_sheet}
use Rattle.duty.specs.Untouched.{Unmatched, Untouched, AllUntouched}
use Rattle.duty.specs.declared.entries.Entry.{Entry}
use Rattle.duty.specs.declared.matching.Effect.TheVariants.{Passes}
use Rattle.duty.specs.declared.verdicts.Verdict.TheVariants.{Pending}
use Rattle.duty.proofs.Passing.{no_effect}

none_is : {A : Type 0} (x : Option A) → is_some x ≡ false → x ≡ None
none_is None e = refl
none_is (Some x) e = absurd (clash (sym e))

passes : (p q : Pattern) (l : Line) → Unmatched p l → Unmatched q l → (f : Bindings) → effect p q f l ≡ Passes
passes p q l hp hq f = no_effect p q l (λ g. none_is (matches p l g) (hp g)) (λ g. none_is (matches q l g) (hq g)) f

-- what goes unchanged by a line at the end goes so of any end of the log
drop-same : {A : Type 0} (h : List Line → A) (l : Line) → ((ls : List Line) → h (ls ++ (l ∷ [])) ≡ h ls) → (n : ℕ) (ls : List Line) → h (drop n (ls ++ (l ∷ []))) ≡ h (drop n ls)
drop-same h l e zero ls = e ls
drop-same h l e (suc n) [] = over n
  where
    over : (n : ℕ) → h (drop n []) ≡ h []
    over zero = refl
    over (suc n) = refl
drop-same h l e (suc n) (x ∷ ls) = drop-same h l e n ls

duty-same : (k : DutyKind) (p q : Pattern) (l : Line) → ((f : Bindings) → effect p q f l ≡ Passes) → (f : Bindings) (i : ℕ) (ls : List Line) → duty_v k p q f i (ls ++ (l ∷ [])) ≡ duty_v k p q f i ls
duty-same Must p q l h f i [] = ap (λ m. duty_at Must i m Pending) (h f)
duty-same MustNot p q l h f i [] = ap (λ m. duty_at MustNot i m Pending) (h f)
duty-same k p q l h f i (x ∷ ls) = ap (duty_at k i (effect p q f x)) (duty-same k p q l h f (suc i) ls)

trigger-same : (k : TriggerKind) (p q : Pattern) (s : Judge) (l : Line) → ((f : Bindings) → effect p q f l ≡ Passes) → ((f : Bindings) (i : ℕ) (ls : List Line) → s f i (ls ++ (l ∷ [])) ≡ s f i ls) → (f : Bindings) (i : ℕ) (ls : List Line) → trigger_v k p q s f i (ls ++ (l ∷ [])) ≡ trigger_v k p q s f i ls
trigger-same Once p q s l h e f i [] = ap (λ m. trigger_at Once i m (λ g. s g (suc i) []) Pending) (h f)
trigger-same Each p q s l h e f i [] = ap (λ m. trigger_at Each i m (λ g. s g (suc i) []) Pending) (h f)
trigger-same k p q s l h e f i (x ∷ ls) = λ j. trigger_at k i (effect p q f x) (λ g. e g (suc i) ls j) (trigger-same k p q s l h e f (suc i) ls j)

pub verdict-same : (r : Rule) (l : Line) → Untouched r l → (f : Bindings) (i : ℕ) (ls : List Line) → V r f i (ls ++ (l ∷ [])) ≡ V r f i ls
unfolding V
verdict-same (duty k p q) l h f i ls = duty-same k p q l (passes p q l h.0 h.1) f i ls
verdict-same (trigger k p q s) l h f i ls = trigger-same k p q (V s) l (passes p q l h.0 h.1.0) (verdict-same s l h.1.1) f i ls
verdict-same (bracket Else r s) l h f i ls = λ t. else_at (verdict-same r l h.0 f i ls t) (λ j. drop-same (V s f (suc j)) l (verdict-same s l h.1 f (suc j)) (suc j - i) ls t)
verdict-same (bracket And r s) l h f i ls = ap₂ join (verdict-same r l h.0 f i ls) (verdict-same s l h.1 f i ls)

once_same : (p q : Pattern) (e : Entry) (s : Listing) (l : Line) → ((f : Bindings) → effect p q f l ≡ Passes) → ((f : Bindings) (i : ℕ) (ls : List Line) → s f i (ls ++ (l ∷ [])) ≡ s f i ls) → (f : Bindings) (i : ℕ) (ls : List Line) → once_sheet p q e s f i (ls ++ (l ∷ [])) ≡ once_sheet p q e s f i ls
once_same p q e s l h same f i [] = ap (λ m. once_at m (λ g. s g (suc i) []) (e ∷ [])) (h f)
once_same p q e s l h same f i (x ∷ ls) = λ j. once_at (effect p q f x) (λ g. same g (suc i) ls j) (once_same p q e s l h same f (suc i) ls j)

ended_same : (p q : Pattern) (l : Line) → ((f : Bindings) → effect p q f l ≡ Passes) → (f : Bindings) (ls : List Line) → ended p q f (ls ++ (l ∷ [])) ≡ ended p q f ls
ended_same p q l h f [] = ap (λ m. ended_at m false) (h f)
ended_same p q l h f (x ∷ ls) = ap (ended_at (effect p q f x)) (ended_same p q l h f ls)

duties-same : (p q : Pattern) (s : Listing) (l : Line) → ((f : Bindings) → effect p q f l ≡ Passes) → ((f : Bindings) (i : ℕ) (ls : List Line) → s f i (ls ++ (l ∷ [])) ≡ s f i ls) → (f : Bindings) (i : ℕ) (ls : List Line) → duties p q s f i (ls ++ (l ∷ [])) ≡ duties p q s f i ls
duties-same p q s l h same f i [] = ap (λ m. duties_at m (λ g. s g (suc i) []) []) (h f)
duties-same p q s l h same f i (x ∷ ls) = λ j. duties_at (effect p q f x) (λ g. same g (suc i) ls j) (duties-same p q s l h same f (suc i) ls j)

pub sheet-same : (r : Rule) (l : Line) → Untouched r l → (n lev : ℕ) (f : Bindings) (i : ℕ) (ls : List Line) → sheet r n lev f i (ls ++ (l ∷ [])) ≡ sheet r n lev f i ls
unfolding sheet
sheet-same (duty k p q) l h n lev f i ls = ap (λ v. if_pending v (entry n lev false f ∷ [])) (verdict-same (duty k p q) l h f i ls)
sheet-same (trigger Once p q s) l h n lev f i ls =
    once_same p q (entry n lev false f) (sheet s (suc n) lev) l (passes p q l h.0 h.1.0) (sheet-same s l h.1.1 (suc n) lev) f i ls
sheet-same (trigger Each p q s) l h n lev f i ls =
    let idle = passes p q l h.0 h.1.0 in
    λ j. if_pending (verdict-same (trigger Each p q s) l h f i ls j) (entry n lev (ended_same p q l idle f ls j) f ∷ duties-same p q (sheet s (suc n) (suc lev)) l idle (sheet-same s l h.1.1 (suc n) (suc lev)) f i ls j)
sheet-same (bracket Else r s) l h n lev f i ls = λ t.
    else_sheet (verdict-same r l h.0 f i ls t) (entry n lev false f) (sheet-same r l h.0 (suc n) (suc lev) f i ls t)
    (λ j. drop-same (sheet s (suc n + nodes r) lev f (suc j)) l (sheet-same s l h.1 (suc n + nodes r) lev f (suc j)) (suc j - i) ls t)
sheet-same (bracket And r s) l h n lev f i ls = λ t.
    and_sheet (verdict-same r l h.0 f i ls t) (verdict-same s l h.1 f i ls t) (entry n lev false f) lev (λ lev'. sheet-same r l h.0 (suc n) lev' f i ls t)
    (λ lev'. sheet-same s l h.1 (suc n + nodes r) lev' f i ls t)

-- and so of the rules of a book
pub verdicts-same : (rs : List Rule) (l : Line) → AllUntouched rs l → (log : List Line) → verdicts rs (log ++ (l ∷ [])) ≡ verdicts rs log
verdicts-same [] l h log = refl
verdicts-same (r ∷ rs) l h log = ap₂ (λ v vs. v ∷ vs) (verdict-same r l h.0 unbound 1 log) (verdicts-same rs l h.1 log)

pub book-same : (rs : List Rule) (l : Line) → AllUntouched rs l → (log : List Line) → book_sheet rs (log ++ (l ∷ [])) ≡ book_sheet rs log
book-same [] l h log = refl
book-same (r ∷ rs) l h log = ap₂ ◌++◌ (sheet-same r l h.0 1 0 unbound 1 log) (book-same rs l h.1 log)
