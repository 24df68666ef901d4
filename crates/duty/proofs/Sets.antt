-- Sets of kinds, one pattern and one rule after the other.
use mathlib.Core.HLevel.{Unit-prop, ⊥_prop, Π_prop, ×_prop}
use mathlib.Core.Logic.{∥∥₁_elim}
use Rattle.std.proofs.Common.{◌≡◌, ℕ, zero, suc, ◌+◌, ◌<◌, true, false, not, List, [], ◌∷◌, ◌++◌, length, get_or, take, is_some, None, sym, refl, ap, ◌∙◌, subst, arith, ne_eqb}
use mathlib.Core.Bool.{Bool-set}
use Rattle.std.proofs.lemmas.Bool.{or_left, or_right}
use Rattle.std.proofs.lemmas.List.{take_more}
use Rattle.feed.specs.Lines.{value}
use Rattle.feed.specs.declared.fields.Field.TheVariants.{Kind}
use Rattle.feed.specs.declared.lines.Line.{Line}
use Rattle.book.specs.Rules as pure
use Rattle.book.specs.Rules.{Pattern, duty, trigger, bracket}
use Rattle.book.specs.Trees.{pure_rule, pure_rules}
use Rattle.book.specs.declared.rules.Rule.{Rule}
use Rattle.book.specs.declared.terms.Binder.{Binder}
use Rattle.book.specs.declared.terms.Operand.TheVariants.{Number}
use Rattle.duty.specs.Matching.{Bindings, unbound, bind, matches}
use Rattle.duty.specs.Clashes.{clashes, ruled_out}
use Rattle.duty.specs.Untouched.{Unmatched, Untouched, AllUntouched}
use Rattle.duty.specs.Kinds.{Widened, Covers, CoversAll, CoversEach}
use Rattle.duty.specs.declared.kinds.Kinds.{Kinds}
use Rattle.duty.proofs.Matches.{ruled_out_always}

pub kind_below : (l : Line) → l.kind < 1000
kind_below l = omega (arith, l.kinded)

-- a line of another kind than a binder's number
kind_clashes : (bs : List Binder) (i : ℕ) (d : Binder) (n : ℕ) (l : Line) → i < length bs → (get_or bs i d).field ≡ Kind → (get_or bs i d).operand ≡ Number n → (l.kind ≡ n → ⊥) → ruled_out bs l unbound ≡ true
kind_clashes [] i d n l lt field operand ne = absurd (omega arith)
kind_clashes (b ∷ bs) zero d n l lt field operand ne =
    let away : n ≡ l.kind → ⊥ = λ e. ne (sym e) in
    or_left _ _ ((λ t. clashes (operand t) (value l (field t)) unbound) ∙ ap not (ne_eqb n l.kind away))
kind_clashes (b ∷ bs) (suc i) d n l lt field operand ne = or_right _ _ (kind_clashes bs i d n l (omega arith) field operand ne)

pub other_kind : (bs : List Binder) (i : ℕ) (d : Binder) (n : ℕ) (l : Line) → i < length bs → (get_or bs i d).field ≡ Kind → (get_or bs i d).operand ≡ Number n → (l.kind ≡ n → ⊥) → (f : Bindings) → bind bs l f ≡ None
other_kind bs i d n l lt field operand ne f = ruled_out_always bs l (kind_clashes bs i d n l lt field operand ne) f

-- one rule more
more_untouched : (rs : List Rule) (r : Rule) (l : Line) → AllUntouched (pure_rules rs) l → Untouched (pure_rule r) l → AllUntouched (pure_rules (rs ++ (r ∷ []))) l
more_untouched [] r l all one = (one, tt)
more_untouched (q ∷ rs) r l all one = (all.0, more_untouched rs r l all.1 one)

pub covers_more : (rs : List Rule) (i : ℕ) (r : Rule) (ks ks' : Kinds) → i < length rs → r ≡ get_or rs i r → CoversAll ks (pure_rules (take i rs)) → Widened ks ks' (Untouched (pure_rule r)) → CoversAll ks' (pure_rules (take (i + 1) rs))
covers_more rs i r ks ks' lt is covers wider l out =
    let w = wider l out in
    let more : take (i + 1) rs ≡ take i rs ++ (r ∷ []) = take_more rs i r lt ∙ ap (λ x. take i rs ++ (x ∷ [])) (sym is) in
    subst (λ x. AllUntouched (pure_rules x) l) (sym more) (more_untouched (take i rs) r l (covers l w.0) w.1)

-- a set for each rule, place by place
pub each_covered : (kss : List Kinds) (rs : List Rule) → length kss ≡ length rs → ((k : ℕ) (d : Kinds) (e : Rule) → k < length rs → Covers (get_or kss k d) (pure_rule (get_or rs k e))) → CoversEach kss (pure_rules rs)
each_covered [] [] same h = tt
each_covered [] (r ∷ rs) same h = absurd (omega arith)
each_covered (ks ∷ kss) [] same h = absurd (omega arith)
each_covered (ks ∷ kss) (r ∷ rs) same h = (h 0 ks r (omega arith), each_covered kss rs (omega arith) (λ k d e lt. h (suc k) d e (omega arith)))

pub each_long : (kss : List Kinds) (rs : List Rule) → CoversEach kss (pure_rules rs) → length kss ≡ length rs
each_long [] [] all = refl
each_long [] (r ∷ rs) all = absurd all
each_long (ks ∷ kss) [] all = absurd all
each_long (ks ∷ kss) (r ∷ rs) all = ap suc (each_long kss rs all.1)

-- all of these are propositions
unmatched_prop : (p : Pattern) (l : Line) → IsProp (Unmatched p l)
unmatched_prop p l = Π_prop (λ f. Bool-set (is_some (matches p l f)) false)

untouched_prop : (r : pure.Rule) (l : Line) → IsProp (Untouched r l)
untouched_prop (duty k p q) l = ×_prop (unmatched_prop p l) (unmatched_prop q l)
untouched_prop (trigger k p q s) l = ×_prop (unmatched_prop p l) (×_prop (unmatched_prop q l) (untouched_prop s l))
untouched_prop (bracket k r s) l = ×_prop (untouched_prop r l) (untouched_prop s l)

all_prop : (rs : List pure.Rule) (l : Line) → IsProp (AllUntouched rs l)
all_prop [] l = Unit-prop
all_prop (r ∷ rs) l = ×_prop (untouched_prop r l) (all_prop rs l)

each_prop : (kss : List Kinds) (rs : List pure.Rule) → IsProp (CoversEach kss rs)
each_prop [] [] = Unit-prop
each_prop [] (r ∷ rs) = ⊥_prop
each_prop (ks ∷ kss) [] = ⊥_prop
each_prop (ks ∷ kss) (r ∷ rs) = ×_prop (Π_prop (λ l. Π_prop (λ out. untouched_prop r l))) (each_prop kss rs)

pub covered_all : (ks : Kinds) (rs : List pure.Rule) → ∥ CoversAll ks rs ∥₁ → CoversAll ks rs
covered_all ks rs h = ∥∥₁_elim h (Π_prop (λ l. Π_prop (λ out. all_prop rs l))) (λ c. c)

pub covered_each : (kss : List Kinds) (rs : List pure.Rule) → ∥ CoversEach kss rs ∥₁ → CoversEach kss rs
covered_each kss rs h = ∥∥₁_elim h (each_prop kss rs) (λ c. c)
