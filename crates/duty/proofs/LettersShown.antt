-- The letters that entries carry.
use Rattle.std.proofs.Common.{◌≡◌, ℕ, zero, suc, ◌+◌, ◌-◌, ◌<◌, ◌≤◌, false, List, [], ◌∷◌, drop, Some, None, Option, refl, inl, inr, arith}
use Rattle.feed.specs.declared.lines.Line.{Line}
use Rattle.book.specs.Rules.{Pattern, Rule, duty, trigger, bracket}
use Rattle.book.specs.declared.terms.TriggerKind.{TriggerKind}
use Rattle.book.specs.declared.terms.TriggerKind.TheVariants.{Each, Once}
use Rattle.book.specs.declared.terms.BracketKind.TheVariants.{Else, And}
use Rattle.book.specs.Sizes.{nodes}
use Rattle.duty.specs.Matching.{Bindings, matches, acting, ending, effect}
use Rattle.duty.specs.Verdicts.{V}
use Rattle.duty.specs.Sheet.{entry, if_pending, once_sheet, once_at, ended, duties, duties_at, else_sheet, and_sheet, sheet}
use Rattle.duty.specs.Facts.{All}
use Rattle.duty.specs.Letters.{SomeLine, Carries, Outside, LettersStay}
use Rattle.duty.specs.declared.entries.Entry.{Entry}
use Rattle.duty.specs.declared.matching.Effect.{Effect}
use Rattle.duty.specs.declared.matching.Effect.TheVariants.{Ends, Acts, Passes}
use Rattle.duty.specs.declared.verdicts.Verdict.{Verdict}
use Rattle.duty.specs.declared.verdicts.Verdict.TheVariants.{Pending, Satisfied, Breached}
use Rattle.duty.proofs.Listed.{all_map, all_++}

-- what acts is a match
acts_match : (p q : Pattern) (f : Bindings) (l : Line) (g : Bindings) → effect p q f l ≡ Acts g → matches p l f ≡ Some g
unfolding effect
acts_match p q f l g h = go (matches q l f) (matches p l f) h
  where
    go : (b a : Option Bindings) → ending b (acting a) ≡ Acts g → a ≡ Some g
    go None None e = cc
    go None (Some x) e = cc
    go (Some y) a e = cc

if_pending_lem : (P : Entry → Type 0) (v : Verdict) (es : List Entry) → All P es → All P (if_pending v es)
if_pending_lem P Pending es h = h
if_pending_lem P (Satisfied j) es h = tt
if_pending_lem P (Breached j) es h = tt

else_all : (P : Entry → Type 0) (v : Verdict) (e : Entry) (es : List Entry) (s : ℕ → List Entry) → P e → All P es → ((j : ℕ) → All P (s j)) → All P (else_sheet v e es s)
else_all P Pending e es s h a b = (h, a)
else_all P (Satisfied j) e es s h a b = tt
else_all P (Breached j) e es s h a b = b j

and_all : (P : Entry → Type 0) (u v : Verdict) (e : Entry) (lev : ℕ) (a b : ℕ → List Entry) → P e → ((k : ℕ) → All P (a k)) → ((k : ℕ) → All P (b k)) → All P (and_sheet u v e lev a b)
and_all P Pending Pending e lev a b h x y = (h, all_++ P (a (suc lev)) (b (suc lev)) (x (suc lev)) (y (suc lev)))
and_all P Pending (Satisfied j) e lev a b h x y = x lev
and_all P Pending (Breached j) e lev a b h x y = tt
and_all P (Satisfied i) Pending e lev a b h x y = y lev
and_all P (Satisfied i) (Satisfied j) e lev a b h x y = tt
and_all P (Satisfied i) (Breached j) e lev a b h x y = tt
and_all P (Breached i) Pending e lev a b h x y = tt
and_all P (Breached i) (Satisfied j) e lev a b h x y = tt
and_all P (Breached i) (Breached j) e lev a b h x y = tt

-- a later part of the log is part of it
some-drop : (P : Line → List Line → Type 0) (k : ℕ) (ls : List Line) → SomeLine P (drop k ls) → SomeLine P ls
some-drop P zero ls h = h
some-drop P (suc k) [] h = h
some-drop P (suc k) (l ∷ ls) h = inr (some-drop P k ls h)

carries_drop : (r : Rule) (n : ℕ) (f : Bindings) (e : Entry) (k : ℕ) (ls : List Line) → Carries r n f e (drop k ls) → Carries r n f e ls
carries_drop (duty d p q) n f e k ls h = h
carries_drop (trigger d p q s) n f e k ls (inl h) = inl h
carries_drop (trigger d p q s) n f e k ls (inr h) = inr (some-drop (λ l later. (g : Bindings) × (matches p l f ≡ Some g) × Carries s (suc n) g e later) k ls h)
carries_drop (bracket d r s) n f e k ls (inl h) = inl h
carries_drop (bracket d r s) n f e k ls (inr (inl h)) = inr (inl (carries_drop r (suc n) f e k ls h))
carries_drop (bracket d r s) n f e k ls (inr (inr h)) = inr (inr (carries_drop s (suc n + nodes r) f e k ls h))

abbrev Carried : Rule → Type 0
Carried s = (n lev : ℕ) (f : Bindings) (i : ℕ) (ls : List Line) → All (λ e. Carries s n f e ls) (sheet s n lev f i ls)

-- the entries of a duty that line l opens
opened : (k : TriggerKind) (p q : Pattern) (s : Rule) → Carried s → (n lev : ℕ) (f : Bindings) (i : ℕ) (l : Line) (ls : List Line) (g : Bindings) → effect p q f l ≡ Acts g → All (λ e. Carries (trigger k p q s) n f e (l ∷ ls)) (sheet s (suc n) lev g (suc i) ls)
opened k p q s inside n lev f i l ls g h =
    all_map (λ e. Carries s (suc n) g e ls) (λ e. Carries (trigger k p q s) n f e (l ∷ ls)) (λ e c. inr (inl (g, acts_match p q f l g h, c))) (sheet s (suc n) lev g (suc i) ls) (inside (suc n) lev g (suc i) ls)

later : (k : TriggerKind) (p q : Pattern) (s : Rule) (n : ℕ) (f : Bindings) (l : Line) (ls : List Line) (es : List Entry) → All (λ e. Carries (trigger k p q s) n f e ls) es → All (λ e. Carries (trigger k p q s) n f e (l ∷ ls)) es
later k p q s n f l ls es h = all_map (λ e. Carries (trigger k p q s) n f e ls) (λ e. Carries (trigger k p q s) n f e (l ∷ ls)) go es h
  where
    go : (e : Entry) → Carries (trigger k p q s) n f e ls → Carries (trigger k p q s) n f e (l ∷ ls)
    go e (inl h) = inl h
    go e (inr h) = inr (inr h)

once_carries : (p q : Pattern) (s : Rule) → Carried s → (n lev : ℕ) (f : Bindings) (i : ℕ) (ls : List Line) → All (λ e. Carries (trigger Once p q s) n f e ls) (once_sheet p q (entry n lev false f) (sheet s (suc n) lev) f i ls)
once_carries p q s inside n lev f i [] = (inl (refl, refl), tt)
once_carries p q s inside n lev f i (l ∷ ls) = go (later Once p q s n f l ls (once_sheet p q (entry n lev false f) (sheet s (suc n) lev) f (suc i) ls) (once_carries p q s inside n lev f (suc i) ls)) (effect p q f l) refl
  where
    C : Entry → Type 0
    C e = Carries (trigger Once p q s) n f e (l ∷ ls)

    go : All C (once_sheet p q (entry n lev false f) (sheet s (suc n) lev) f (suc i) ls) → (m : Effect) → effect p q f l ≡ m → All C (once_at m (λ g. sheet s (suc n) lev g (suc i) ls) (once_sheet p q (entry n lev false f) (sheet s (suc n) lev) f (suc i) ls))
    go rest Ends h = tt
    go rest (Acts g) h = opened Once p q s inside n lev f i l ls g h
    go rest Passes h = rest

duties_carry : (p q : Pattern) (s : Rule) → Carried s → (n lev : ℕ) (f : Bindings) (i : ℕ) (ls : List Line) → All (λ e. Carries (trigger Each p q s) n f e ls) (duties p q (sheet s (suc n) lev) f i ls)
duties_carry p q s inside n lev f i [] = tt
duties_carry p q s inside n lev f i (l ∷ ls) = go (later Each p q s n f l ls (duties p q (sheet s (suc n) lev) f (suc i) ls) (duties_carry p q s inside n lev f (suc i) ls)) (effect p q f l) refl
  where
    C : Entry → Type 0
    C e = Carries (trigger Each p q s) n f e (l ∷ ls)

    rest : List Entry
    rest = duties p q (sheet s (suc n) lev) f (suc i) ls

    go : All C rest → (m : Effect) → effect p q f l ≡ m → All C (duties_at m (λ g. sheet s (suc n) lev g (suc i) ls) rest)
    go h Ends e = tt
    go h (Acts g) e = all_++ C (sheet s (suc n) lev g (suc i) ls) rest (opened Each p q s inside n lev f i l ls g e) h
    go h Passes e = h

carried : (r : Rule) → Carried r
unfolding sheet
carried (duty k p q) n lev f i ls = if_pending_lem (λ e. Carries (duty k p q) n f e ls) (V (duty k p q) f i ls) (entry n lev false f ∷ []) ((refl, refl), tt)
carried (trigger Once p q s) n lev f i ls = once_carries p q s (carried s) n lev f i ls
carried (trigger Each p q s) n lev f i ls =
    if_pending_lem (λ e. Carries (trigger Each p q s) n f e ls) (V (trigger Each p q s) f i ls) (entry n lev (ended p q f ls) f ∷ duties p q (sheet s (suc n) (suc lev)) f i ls)
    (inl (refl, refl), duties_carry p q s (carried s) n (suc lev) f i ls)
carried (bracket Else r s) n lev f i ls =
    else_all (λ e. Carries (bracket Else r s) n f e ls) (V r f i ls) (entry n lev false f) (sheet r (suc n) (suc lev) f i ls)
    (λ j. sheet s (suc n + nodes r) lev f (suc j) (drop (suc j - i) ls)) (inl (refl, refl))
    (all_map (λ e. Carries r (suc n) f e ls) (λ e. Carries (bracket Else r s) n f e ls) (λ e c. inr (inl c)) (sheet r (suc n) (suc lev) f i ls) (carried r (suc n) (suc lev) f i ls))
    (λ j. all_map (λ e. Carries s (suc n + nodes r) f e (drop (suc j - i) ls)) (λ e. Carries (bracket Else r s) n f e ls)
    (λ e c. inr (inr (carries_drop s (suc n + nodes r) f e (suc j - i) ls c))) (sheet s (suc n + nodes r) lev f (suc j) (drop (suc j - i) ls)) (carried s (suc n + nodes r) lev f (suc j) (drop (suc j - i) ls)))
carried (bracket And r s) n lev f i ls =
    and_all (λ e. Carries (bracket And r s) n f e ls) (V r f i ls) (V s f i ls) (entry n lev false f) lev (λ k. sheet r (suc n) k f i ls) (λ k. sheet s (suc n + nodes r) k f i ls) (inl (refl, refl))
    (λ k. all_map (λ e. Carries r (suc n) f e ls) (λ e. Carries (bracket And r s) n f e ls) (λ e c. inr (inl c)) (sheet r (suc n) k f i ls) (carried r (suc n) k f i ls))
    (λ k. all_map (λ e. Carries s (suc n + nodes r) f e ls) (λ e. Carries (bracket And r s) n f e ls) (λ e c. inr (inr c)) (sheet s (suc n + nodes r) k f i ls) (carried s (suc n + nodes r) k f i ls))

-- what holds of the entries of a duty, whenever it was opened
from_opened : {X : Type 0} (p : Pattern) (s : Rule) (n : ℕ) (f : Bindings) (e : Entry) → ((g : Bindings) (later : List Line) → Carries s (suc n) g e later → X) → (ls : List Line) → SomeLine (λ l later. (g : Bindings) × (matches p l f ≡ Some g) × Carries s (suc n) g e later) ls → X
from_opened p s n f e h [] c = absurd c
from_opened p s n f e h (l ∷ ls) (inl c) = h c.0 ls c.2
from_opened p s n f e h (l ∷ ls) (inr c) = from_opened p s n f e h ls c

-- an entry of a rule has one of its nodes, and so has a node outside of triggers
some-node : (r : Rule) (n : ℕ) (f : Bindings) (e : Entry) (ls : List Line) → Carries r n f e ls → (n ≤ e.node) × (e.node < n + nodes r)
some-node (duty k p q) n f e ls c = (omega arith, omega arith)
some-node (trigger k p q s) n f e ls (inl c) = (omega arith, omega arith)
some-node (trigger k p q s) n f e ls (inr c) = let h = from_opened p s n f e (λ g later c. some-node s (suc n) g e later c) ls c in (omega arith, omega arith)
some-node (bracket k r s) n f e ls (inl c) = (omega arith, omega arith)
some-node (bracket k r s) n f e ls (inr (inl c)) = let h = some-node r (suc n) f e ls c in (omega arith, omega arith)
some-node (bracket k r s) n f e ls (inr (inr c)) = let h = some-node s (suc n + nodes r) f e ls c in (omega arith, omega arith)

outside-node : (r : Rule) (n m : ℕ) → Outside r n m → (n ≤ m) × (m < n + nodes r)
outside-node (duty k p q) n m h = (omega arith, omega arith)
outside-node (trigger k p q s) n m h = (omega arith, omega arith)
outside-node (bracket k r s) n m (inl h) = (omega arith, omega arith)
outside-node (bracket k r s) n m (inr (inl h)) = let b = outside-node r (suc n) m h in (omega arith, omega arith)
outside-node (bracket k r s) n m (inr (inr h)) = let b = outside-node s (suc n + nodes r) m h in (omega arith, omega arith)

from_before : (r : Rule) (n : ℕ) (f : Bindings) (e : Entry) (ls : List Line) → Carries r n f e ls → Outside r n e.node → e.letters ≡ f
from_before (duty k p q) n f e ls c h = c.1
from_before (trigger k p q s) n f e ls (inl c) h = c.1
from_before (trigger k p q s) n f e ls (inr c) h = let b = from_opened p s n f e (λ g later c. some-node s (suc n) g e later c) ls c in absurd (omega arith)
from_before (bracket k r s) n f e ls (inl c) h = c.1
from_before (bracket k r s) n f e ls (inr (inl c)) (inl h) = let b = some-node r (suc n) f e ls c in absurd (omega arith)
from_before (bracket k r s) n f e ls (inr (inl c)) (inr (inl h)) = from_before r (suc n) f e ls c h
from_before (bracket k r s) n f e ls (inr (inl c)) (inr (inr h)) = let b = some-node r (suc n) f e ls c in let b' = outside-node s (suc n + nodes r) e.node h in absurd (omega arith)
from_before (bracket k r s) n f e ls (inr (inr c)) (inl h) = let b = some-node s (suc n + nodes r) f e ls c in absurd (omega arith)
from_before (bracket k r s) n f e ls (inr (inr c)) (inr (inl h)) = let b = some-node s (suc n + nodes r) f e ls c in let b' = outside-node r (suc n) e.node h in absurd (omega arith)
from_before (bracket k r s) n f e ls (inr (inr c)) (inr (inr h)) = from_before s (suc n + nodes r) f e ls c h

pub letters_stay : LettersStay
letters_stay =
    record {
      opened = carried;
      outside = λ r n lev f i ls. all_map (λ e. Carries r n f e ls) (λ e. Outside r n e.node → e.letters ≡ f) (λ e c h. from_before r n f e ls c h) (sheet r n lev f i ls) (carried r n lev f i ls);
    }
