-- The entries of a rule that begins, by its kind.
use Rattle.std.proofs.Common.{◌≡◌, ℕ, suc, ◌+◌, false, [], ◌∷◌, ◌++◌, Box, sym, refl, ap, ◌∙◌, arith}
use Rattle.book.specs.Rules as pure
use Rattle.book.specs.Sizes.{nodes}
use Rattle.book.specs.Trees.{pure_rule}
use Rattle.book.specs.declared.terms.BracketKind.{BracketKind}
use Rattle.book.specs.declared.terms.BracketKind.TheVariants.{Else, And}
use Rattle.book.specs.declared.terms.TriggerKind.TheVariants.{Each, Once}
use Rattle.book.specs.declared.rules.Rule.{Rule, Bracket}
use Rattle.book.specs.declared.rules.Rule.TheVariants.{Duty, Trigger', Bracket'}
use Rattle.std.specs.declared.alloc.Global.{Global}
use Rattle.duty.specs.Matching.{Bindings}
use Rattle.duty.specs.Sheet.{entry}
use Rattle.duty.specs.Open.{start, entries}

pub else_kind : (k : BracketKind) → (k ≡ And → ⊥) → k ≡ Else
else_kind Else not = refl
else_kind And not = absurd (not refl)

pub opened_else : (R r s : pure.Rule) (k : BracketKind) (n lev n' lev' : ℕ) (f : Bindings) → R ≡ pure.bracket k r s → k ≡ Else → n' ≡ n + 1 → lev' ≡ lev + 1 → entry n lev false f ∷ entries r n' lev' (start r f) ≡ entries R n lev (start R f)
unfolding entries
opened_else R r s k n lev n' lev' f is kind en el =
    let a : n' ≡ suc n = omega arith in
    let b : lev' ≡ suc lev = omega arith in
    (λ i. entry n lev false f ∷ entries r (a i) (b i) (start r f)) ∙ sym (ap (λ x. entries x n lev (start x f)) (is ∙ ap (λ x. pure.bracket x r s) kind))

pub opened_and : (R r s : pure.Rule) (k : BracketKind) (n lev n' lev' n'' lev'' : ℕ) (f : Bindings) → R ≡ pure.bracket k r s → k ≡ And → n' ≡ n + 1 → lev' ≡ lev + 1 → n'' ≡ n + (1 + nodes r) → lev'' ≡ lev + 1 → entry n lev false f ∷ (entries r n' lev' (start r f) ++ entries s n'' lev'' (start s f)) ≡ entries R n lev (start R f)
unfolding entries
opened_and R r s k n lev n' lev' n'' lev'' f is kind en el em ek =
    let a : n' ≡ suc n = omega arith in
    let b : lev' ≡ suc lev = omega arith in
    let c : n'' ≡ suc n + nodes r = omega arith in
    let d : lev'' ≡ suc lev = omega arith in
    (λ i. entry n lev false f ∷ (entries r (a i) (b i) (start r f) ++ entries s (c i) (d i) (start s f)))
    ∙ sym (ap (λ x. entries x n lev (start x f)) (is ∙ ap (λ x. pure.bracket x r s) kind))

pub opened-rest : (R : Rule) (n lev : ℕ) (f : Bindings) → ((k : BracketKind) (r s : Box Rule Global) → R ≡ Bracket k r s → ⊥) → entry n lev false f ∷ [] ≡ entries (pure_rule R) n lev (start (pure_rule R) f)
unfolding entries
opened-rest (Duty k p q) n lev f h = refl
opened-rest (Trigger' Once p q b s) n lev f h = refl
opened-rest (Trigger' Each p q b s) n lev f h = refl
opened-rest (Bracket' k b r c s) n lev f h = absurd (h k _ _ refl)
