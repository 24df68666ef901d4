-- What a step answers and writes, put together from its parts.
use Rattle.std.proofs.Common.{◌≡◌, ℕ, suc, ◌+◌, min, false, List, [], ◌∷◌, ◌++◌, length, sym, refl, ap, ◌∙◌, subst, append_assoc, append-nil, arith}
use Rattle.book.specs.Rules.{Pattern, Rule, trigger}
use Rattle.book.specs.declared.terms.TriggerKind.TheVariants.{Once}
use Rattle.duty.specs.Matching.{Bindings}
use Rattle.duty.specs.Sheet.{entry}
use Rattle.duty.specs.Open.{Open, start, Left, met, missed, still, over, running, watch, each_step, together, entries, shown}
use Rattle.duty.specs.Drafts.{Drafted, Adds}
use Rattle.duty.specs.Stepping.{outcome, Came, marks, Closed}
use Rattle.duty.specs.declared.drafts.Draft.{Draft}
use Rattle.duty.specs.declared.entries.Entry.{Entry}
use Rattle.duty.specs.declared.matching.Effect.{Effect}
use Rattle.duty.specs.declared.matching.Effect.TheVariants.{Acts}
use Rattle.duty.specs.declared.outcomes.Outcome.{Outcome}
use Rattle.duty.specs.declared.outcomes.Outcome.TheVariants.{Open as StillOpen}
use Rattle.duty.specs.declared.places.Place.{Place}
use Rattle.duty.proofs.Written.{adds_as}

pub came_still : (r : Rule) (n lev : ℕ) (x : Left (Open r)) (o : Open r) (d d' : Draft) (es : List Entry) → x ≡ still o → Adds d d' es → es ≡ entries r n lev o → Came r n lev x d d' StillOpen
came_still r n lev x o d d' es e a w = record { answer = sym (ap outcome e); written = adds_as d d' es _ (w ∙ sym (ap (shown (entries r n lev)) e)) a }

pub came_as : (r : Rule) (n lev : ℕ) (x y : Left (Open r)) (d d' : Draft) (a : Outcome) → x ≡ y → Came r n lev x d d' a → Came r n lev y d d' a
came_as r n lev x y d d' a e h = subst (λ z. Came r n lev z d d' a) e h

-- a rule inside that is all there is of it
pub came_over : (r s : Rule) (n lev n' lev' : ℕ) (h : Open s → Open r) → ((o : Open s) → entries s n' lev' o ≡ entries r n lev (h o)) → (x : Left (Open s)) (d d' : Draft) (a : Outcome) → Came s n' lev' x d d' a → Came r n lev (over h x) d d' a
came_over r s n lev n' lev' h same met d d' a c = record { answer = c.answer; written = c.written }
came_over r s n lev n' lev' h same missed d d' a c = record { answer = c.answer; written = c.written }
came_over r s n lev n' lev' h same (still o) d d' a c = record { answer = c.answer; written = adds_as d d' _ _ (same o) c.written }

-- the entries of a `once` by what is open of it
pub running-entries : (p q : Pattern) (s : Rule) (n lev n' lev' : ℕ) (o : Open s) → n' ≡ n + 1 → lev' ≡ lev → entries s n' lev' o ≡ entries (trigger Once p q s) n lev (running o)
unfolding entries
running-entries p q s n lev n' lev' o a b = let a' : n' ≡ suc n = omega arith in λ i. entries s (a' i) (b i) o

-- closing an `each`
pub together-more : {A : Type 0} (h : A → List Entry) (ds : List A) (d : A) → together h ds ++ h d ≡ together h (ds ++ (d ∷ []))
together-more h [] d = sym (append-nil (h d))
together-more h (e ∷ ds) d = append_assoc (h e) (together h ds) (h d) ∙ ap (λ es. h e ++ es) (together-more h ds d)

pub closed_acts : (s : Rule) (n lev : ℕ) (p : Place) (f g : Bindings) (ds : List (Open s)) (count : ℕ) (d d' : Draft) (m : Effect) → Acts g ≡ m → Adds d d' (entries s p.node p.level (start s g)) → Closed s n lev p (watch f (marks m) ds) (each_step f m (start s) ds) count d d' StillOpen
closed_acts s n lev p f g ds count d d' m e a = subst (λ m. Closed s n lev p (watch f (marks m) ds) (each_step f m (start s) ds) count d d' StillOpen) e (record { answer = refl; written = go })
  where
    E : Open s → List Entry
    E = entries s p.node p.level

    go : (es : List Entry) → Drafted d (es ++ (entry n lev false f ∷ together E ds)) → count ≡ min (length es) 257 → Drafted d' (es ++ (entry n lev false f ∷ together E (ds ++ (start s g ∷ []))))
    go es h k =
        subst (Drafted d') (append_assoc es (entry n lev false f ∷ together E ds) (E (start s g)) ∙ ap (λ x. es ++ (entry n lev false f ∷ x)) (together-more E ds (start s g))) (a (es ++ (entry n lev false f ∷ together E ds)) h)
