-- Binders and conditions one after the other.
use Rattle.std.proofs.Common.{◌≡◌, ℕ, zero, suc, ◌+◌, ◌<◌, ◌≤◌, Bool, true, false, cond, not, eqb, List, [], ◌∷◌, length, get_or, drop, set, Some, None, vec_items, Option, Vec, sym, refl, ap, ◌∙◌, subst, inl, inr, arith, get_or-set_other}
use Rattle.std.specs.Prelude.{option_and_then}
use borrow.Author.Tests.{clash}
use Rattle.std.proofs.lemmas.Bool.{not-true, or_cases, or_left, or_right}
use Rattle.std.proofs.lemmas.List.{at_drop_more}
use Rattle.feed.specs.Lines.{value}
use Rattle.feed.specs.declared.lines.Line.{Line}
use Rattle.book.specs.Sizes.{sum_number, conditions_number}
use Rattle.book.specs.Letters.{letter_index}
use Rattle.std.specs.declared.alloc.Global.{Global}
use Rattle.book.specs.Trees.{pure_pattern}
use Rattle.book.specs.declared.rules.Pattern.{Pattern as Held}
use Rattle.book.specs.declared.rules.Pattern.TheVariants.{Never, Lines}
use Rattle.book.specs.declared.terms.Letter.TheVariants as letter
use Rattle.book.specs.declared.terms.Operand.{Operand}
use Rattle.book.specs.declared.terms.Operand.TheVariants as operand
use Rattle.book.specs.declared.terms.Binder.{Binder}
use Rattle.book.specs.declared.terms.Condition.{Condition}
use Rattle.book.specs.Rules.{lines}
use Rattle.duty.specs.Clashes.{clashed, clashes, ruled_out}
use Rattle.duty.specs.Matching.{Bindings, unbound, bound, all_hold, agreed, agrees, bind, matches}

pub bind-none : (bs : List Binder) (i : ℕ) (d : Binder) (l : Line) (f : Bindings) → i < length bs → agrees (get_or bs i d).operand (value l (get_or bs i d).field) f ≡ None → bind (drop i bs) l f ≡ None
bind-none bs i d l f h e = at_drop_more (λ x. bind x l f) bs i d h ∙ ap (λ x. option_and_then (bind (drop (i + 1) bs) l) x) e

pub bind-some : (bs : List Binder) (i : ℕ) (d : Binder) (l : Line) (f g : Bindings) → i < length bs → agrees (get_or bs i d).operand (value l (get_or bs i d).field) f ≡ Some g → bind (drop i bs) l f ≡ bind (drop (i + 1) bs) l g
bind-some bs i d l f g h e = at_drop_more (λ x. bind x l f) bs i d h ∙ ap (λ x. option_and_then (bind (drop (i + 1) bs) l) x) e

number_of : (cs : List Condition) (i : ℕ) (d : Condition) → i < length cs → conditions_number cs ≤ 9999999 → (sum_number (get_or cs i d).left ≤ 9999999) × (sum_number (get_or cs i d).right ≤ 9999999)
number_of [] i d h k = absurd (omega arith)
number_of (c ∷ cs) zero d h k = (omega arith, omega arith)
number_of (c ∷ cs) (suc i) d h k = number_of cs i d (omega arith) (omega arith)

pub number_at : (cs : List Condition) (i : ℕ) (c : Condition) → i < length cs → c ≡ get_or cs i c → conditions_number cs ≤ 9999999 → (sum_number c.left ≤ 9999999) × (sum_number c.right ≤ 9999999)
number_at cs i c h is k = subst (λ x. (sum_number x.left ≤ 9999999) × (sum_number x.right ≤ 9999999)) (sym is) (number_of cs i c h k)

-- a whole pattern
pub lines_none : (bs : List Binder) (cs : List Condition) (l : Line) (f : Bindings) → bind bs l f ≡ None → matches (lines bs cs) l f ≡ None
unfolding matches
lines_none bs cs l f e = ap (λ x. option_and_then (λ g. cond (all_hold g cs) (Some g) None) x) e

-- a letter that is bound stays so, and a binder that clashes with it never agrees
bound-stays : (f : Bindings) (i j : ℕ) (v : Option ℕ) (y : ℕ) → clashed (get_or f i None) y ≡ true → get_or f j None ≡ None → clashed (get_or (set f j v) i None) y ≡ true
bound-stays f i j v y h k = ap (λ o. clashed o y) (get_or-set_other f j i v None apart) ∙ h
  where
    apart : i ≡ j → ⊥
    apart e = let z : ◌≡◌ {A = Bool} false true = ap (λ o. clashed o y) (sym k ∙ ap (λ m. get_or f m None) (sym e)) ∙ h in clash z

number_clash : (x y : ℕ) (f : Bindings) → not (eqb x y) ≡ true → cond (eqb x y) (Some f) None ≡ None
number_clash x y f h = ap (λ b. cond b (Some f) None) (not-true (eqb x y) h)

clash_none : (o : Operand) (y : ℕ) (f : Bindings) → clashes o y f ≡ true → agrees o y f ≡ None
clash_none (operand.Number x) y f h = number_clash x y f h
clash_none (operand.Bound a) y f h = go (bound f a) h
  where
    go : (v : Option ℕ) → clashed v y ≡ true → agreed v a y f ≡ None
    go None e = absurd (clash e)
    go (Some x) e = number_clash x y f e

clash_stays : (o o' : Operand) (y y' : ℕ) (f g : Bindings) → clashes o y f ≡ true → agrees o' y' f ≡ Some g → clashes o y g ≡ true
clash_stays (operand.Number x) o' y y' f g h e = h
clash_stays (operand.Bound a) (operand.Number x) y y' f g h e = go (eqb x y') e
  where
    go : (b : Bool) → cond b (Some f) None ≡ Some g → clashed (bound g a) y ≡ true
    go true k = let s : f ≡ g = cc in subst (λ z. clashed (bound z a) y ≡ true) s h
    go false k = cc
clash_stays (operand.Bound a) (operand.Bound b) y y' f g h e = go (bound f b) refl e
  where
    same : (t : Bool) → cond t (Some f) None ≡ Some g → clashed (bound g a) y ≡ true
    same true k = let s : f ≡ g = cc in subst (λ z. clashed (bound z a) y ≡ true) s h
    same false k = cc

    go : (v : Option ℕ) → bound f b ≡ v → agreed v b y' f ≡ Some g → clashed (bound g a) y ≡ true
    go None k q = let s : set f (letter_index b) (Some y') ≡ g = cc in subst (λ z. clashed (bound z a) y ≡ true) s (bound-stays f (letter_index a) (letter_index b) (Some y') y h k)
    go (Some x) k q = same (eqb x y') q

-- of all binders
ruled_out_stays : (bs : List Binder) (l : Line) (o : Operand) (y : ℕ) (f g : Bindings) → agrees o y f ≡ Some g → ruled_out bs l f ≡ true → ruled_out bs l g ≡ true
ruled_out_stays [] l o y f g e h = h
ruled_out_stays (b ∷ bs) l o y f g e h =
    elim (or_cases _ _ h) [
      | inl k ↦ or_left _ _ (clash_stays b.operand o (value l b.field) y f g k e)
      | inr k ↦ or_right _ _ (ruled_out_stays bs l o y f g e k)
    ]

pub ruled_out_none : (bs : List Binder) (l : Line) (f : Bindings) → ruled_out bs l f ≡ true → bind bs l f ≡ None
ruled_out_none [] l f h = absurd (clash h)
ruled_out_none (b ∷ bs) l f h =
    elim (or_cases _ _ h) [
      | inl k ↦ ap (λ x. option_and_then (bind bs l) x) (clash_none b.operand (value l b.field) f k)
      | inr k ↦ later (λ g e. ruled_out_none bs l g (ruled_out_stays bs l b.operand (value l b.field) f g e k)) (agrees b.operand (value l b.field) f) refl
    ]
  where
    later : ((g : Bindings) → agrees b.operand (value l b.field) f ≡ Some g → bind bs l g ≡ None) → (v : Option Bindings) → agrees b.operand (value l b.field) f ≡ v → option_and_then (bind bs l) v ≡ None
    later again None e = refl
    later again (Some g) e = again g e

-- with no letter bound only a number clashes, and so it does under any letters
clash_any : (o : Operand) (y : ℕ) (f : Bindings) → clashes o y unbound ≡ true → clashes o y f ≡ true
clash_any (operand.Number x) y f h = h
clash_any (operand.Bound letter.A) y f h = absurd (clash h)
clash_any (operand.Bound letter.B) y f h = absurd (clash h)
clash_any (operand.Bound letter.C) y f h = absurd (clash h)
clash_any (operand.Bound letter.D) y f h = absurd (clash h)
clash_any (operand.Bound letter.E) y f h = absurd (clash h)
clash_any (operand.Bound letter.F) y f h = absurd (clash h)
clash_any (operand.Bound letter.G) y f h = absurd (clash h)
clash_any (operand.Bound letter.H) y f h = absurd (clash h)

ruled_out_any : (bs : List Binder) (l : Line) (f : Bindings) → ruled_out bs l unbound ≡ true → ruled_out bs l f ≡ true
ruled_out_any [] l f h = h
ruled_out_any (b ∷ bs) l f h =
    elim (or_cases _ _ h) [
      | inl k ↦ or_left _ _ (clash_any b.operand (value l b.field) f k)
      | inr k ↦ or_right _ _ (ruled_out_any bs l f k)
    ]

pub ruled_out_always : (bs : List Binder) (l : Line) → ruled_out bs l unbound ≡ true → (f : Bindings) → bind bs l f ≡ None
ruled_out_always bs l h f = ruled_out_none bs l f (ruled_out_any bs l f h)

pub never-none : (p : Held) (l : Line) (f : Bindings) → p ≡ Never → matches (pure_pattern p) l f ≡ None
unfolding matches
never-none p l f e = ap (λ x. matches (pure_pattern x) l f) e

pub lines-never : (p : Held) (bs : Vec Binder Global) (cs : Vec Condition Global) (xs : List Binder) (l : Line) (f : Bindings) → p ≡ Lines bs cs → xs ≡ vec_items bs → bind xs l f ≡ None → matches (pure_pattern p) l f ≡ None
lines-never p bs cs xs l f e v h = ap (λ x. matches (pure_pattern x) l f) e ∙ lines_none (vec_items bs) (vec_items cs) l f (ap (λ y. bind y l f) (sym v) ∙ h)
