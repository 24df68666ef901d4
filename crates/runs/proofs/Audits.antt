-- The law from the turns of two auditors that were opened on one book.
use Rattle.std.proofs.Common.{◌≡◌, ℕ, zero, suc, List, [], ◌∷◌, map, Ok, length, take, refl, ap, ◌∙◌, subst}
use Rattle.feed.specs.declared.faults.Item.{Item}
use Rattle.book.specs.Rules.{Rule}
use Rattle.auditor.specs.Holds.{Holds}
use Rattle.auditor.specs.Opening.{OnText}
use Rattle.auditor.specs.declared.auditors.Auditor.{Auditor}
use Rattle.auditor.proofs.Plain.{take_law}
use Rattle.runs.specs.Calls.{Account, finally}
use Rattle.runs.specs.Law.{opening, after, AsAccount, Ends, run_at, at_first, Lawful, Law}
use Rattle.runs.specs.Making.{BothAgree, TurnsMade}
use Rattle.runs.specs.Turns.{turns_of, asked, Both, side, after_turns}
use Rattle.runs.specs.declared.calls.Side.{Side}
use Rattle.runs.specs.declared.calls.Side.TheVariants.{First, Second}
use Rattle.runs.specs.declared.calls.Turn.{Turn}
use Rattle.runs.specs.declared.pair.Pair.{Pair}
use Rattle.runs.proofs.Laws.{books_kept, alike, lawful}
use Rattle.runs.proofs.Sides.{side_after, side-told, first-turns}

opened-agree : (e : Ends) (rs : List Rule) (first second : Auditor) → Holds rs [] first → Holds rs [] second → BothAgree (at_first rs e) (record { auditor = first; lists = e.left }) (record { auditor = second; lists = e.right })
opened-agree e rs first second h k = record { first = record { holds = h; lists = refl }; second = record { holds = k; lists = refl } }

map-take : {A B : Type 0} (f : A → B) (n : ℕ) (xs : List A) → map f (take n xs) ≡ take n (map f xs)
map-take f zero xs = refl
map-take f (suc n) [] = refl
map-take f (suc n) (x ∷ xs) = ap (λ l. f x ∷ l) (map-take f n xs)

own-turns : (x : Side) (b : Both) (k : ℕ) (ts : List Turn) → side x (after_turns b (take k ts)) ≡ finally (side x b) (take (length (turns_of x (take k ts))) (map asked (turns_of x ts)))
own-turns x b k ts =
    let n = length (turns_of x (take k ts)) in
    side_after x b (take k ts) ∙ ap (λ l. finally (side x b) (map asked l)) (first-turns x k ts) ∙ ap (finally (side x b)) (map-take asked n (turns_of x ts))

held_as : (rs : List Rule) (s s' : Account) (a : Auditor) → s ≡ s' → s'.book ≡ rs → Holds s.book s.log a → Holds rs s'.log a
held_as rs s s' a e f h = subst (λ x. Holds x s'.log a) f (subst (λ (x : Account). Holds x.book x.log a) e h)

the_law : (e : Ends) (rs : List Rule) (p : Pair) → TurnsMade (at_first rs e) e.turns e.turns' (record { auditor = p.first; lists = e.left' }) (record { auditor = p.second; lists = e.right' }) e.saw e.saw' → Law e rs p
the_law e rs p m = record {
  lawful = each;
  alike = alike rs (run_at e p First) (run_at e p Second) first second;
  kept = m.kept;
  seen = m.seen;
  own = owns;
  takes = take_law;
}
  where
    first : AsAccount rs (run_at e p First)
    first = record {
      answers = side-told First (at_first rs e) e.turns e.turns' m.kept m.told;
      waiting = m.agree.first.lists ∙ ap (λ (s : Account). s.lists) (side_after First (at_first rs e) e.turns);
      holds = held_as rs _ _ p.first (side_after First (at_first rs e) e.turns) (books_kept (opening rs (run_at e p First)) (map asked (turns_of First e.turns))) m.agree.first.holds;
    }

    second : AsAccount rs (run_at e p Second)
    second = record {
      answers = side-told Second (at_first rs e) e.turns e.turns' m.kept m.told;
      waiting = m.agree.second.lists ∙ ap (λ (s : Account). s.lists) (side_after Second (at_first rs e) e.turns);
      holds = held_as rs _ _ p.second (side_after Second (at_first rs e) e.turns) (books_kept (opening rs (run_at e p Second)) (map asked (turns_of Second e.turns))) m.agree.second.holds;
    }

    each : (x : Side) → Lawful rs (run_at e p x)
    each First = lawful rs (run_at e p First) first
    each Second = lawful rs (run_at e p Second) second

    owns : (k : ℕ) (x : Side) → side x (after_turns (at_first rs e) (take k e.turns)) ≡ after rs (length (turns_of x (take k e.turns))) (run_at e p x)
    owns k First = own-turns First (at_first rs e) k e.turns
    owns k Second = own-turns Second (at_first rs e) k e.turns

-- the same where both were opened on the text, and ws and vs wait then in their feeds
pub audited : (e : Ends) (N : Type 0) (text : List ℕ) (first second : Auditor) (p : Pair) (ws vs : List (List Item)) → OnText (λ rs a. Holds rs [] a) (Unit {0}) text (Ok first) → OnText (λ rs a. Holds rs [] a) (Unit {0}) text (Ok second) → ws ≡ e.left' → vs ≡ e.right' → ((b : Both) → BothAgree b (record { auditor = first; lists = e.left }) (record { auditor = second; lists = e.right }) → TurnsMade b e.turns e.turns' (record { auditor = p.first; lists = ws }) (record { auditor = p.second; lists = vs }) e.saw e.saw') → OnText (Law e) N text (Ok p)
audited e N text first second p ws vs one two left right made =
    let all : (rs : List Rule) → Holds rs [] first → Holds rs [] second → Law e rs p = λ rs h k.
    the_law e rs p (subst (λ l. TurnsMade (at_first rs e) e.turns e.turns' (record { auditor = p.first; lists = l }) (record { auditor = p.second; lists = e.right' }) e.saw e.saw') left (subst (λ l. TurnsMade (at_first rs e) e.turns e.turns' (record { auditor = p.first; lists = ws }) (record { auditor = p.second; lists = l }) e.saw e.saw') right (made (at_first rs e) (opened-agree e rs first second h k)))) in
    record {
      told = (one.told.0, one.told.1, all one.told.0 one.told.2 (two.book one.told.0 one.told.1));
      book = λ rs accepted. all rs (one.book rs accepted) (two.book rs accepted);
      refusal = one.refusal;
    }
