-- What one more line does to what is kept of a log.
use Rattle.std.proofs.Common.{◌≡◌, ℕ, ◌+◌, ◌<◌, ◌≤◌, List, [], ◌∷◌, ◌++◌, length, None, sym, refl, ap, ◌∙◌, arith, length-append, le-ltb, le-leb}
use borrow.Author.Tests.{lt-leb}
use Rattle.feed.specs.declared.faults.Item.{Item}
use Rattle.feed.specs.declared.faults.Item.TheVariants.{Sound}
use Rattle.feed.specs.declared.lines.Line.{Line}
use Rattle.book.specs.Rules.{Rule}
use Rattle.duty.specs.Sheet.{book_sheet, Fits}
use Rattle.duty.specs.Standings.{rules_of, verdicts_of, sheet_of, Stands}
use Rattle.duty.specs.Verdicts.{verdicts}
use Rattle.duty.specs.declared.standings.Standing.{Standing}
use Rattle.auditor.specs.Account.{latest, item_refusal, refusal}
use Rattle.auditor.specs.Held.{Held}

latest-more : (log : List Line) (l : Line) → latest (log ++ (l ∷ [])) ≡ l.time
latest-more [] l = refl
latest-more (x ∷ []) l = refl
latest-more (x ∷ y ∷ ls) l = latest-more (y ∷ ls) l

pub held_more : (s s' : Standing) (n t : ℕ) (log : List Line) (l : Line) → Held s n t log → n < 1000000 → Stands s' (log ++ (l ∷ [])) → Held s' (n + 1) l.time (log ++ (l ∷ []))
held_more s s' n t log l h room stands =
    let long = length-append log (l ∷ []) in
    record {
      stands = stands;
      counted = omega (arith, h.counted, long);
      timed = sym (latest-more log l);
      few = omega (arith, h.counted, long);
    }

pub held-still : (s s' : Standing) (n t : ℕ) (log : List Line) → Held s n t log → rules_of s' ≡ rules_of s → (verdicts_of s' ≡ verdicts_of s) × (sheet_of s' ≡ sheet_of s) → Held s' n t log
held-still s s' n t log h same kept = record {
  stands = record {
    judged = kept.0 ∙ (h.stands.judged ∙ ap (λ rs. verdicts rs log) (sym same));
    listed = kept.1 ∙ (h.stands.listed ∙ ap (λ rs. book_sheet rs log) (sym same));
  };
  counted = h.counted;
  timed = h.timed;
  few = h.few;
}

module _ (rs : List Rule) (log : List Line) (l : Line) where
  pub not_full : latest log ≤ l.time → Fits (book_sheet rs (log ++ (l ∷ []))) → item_refusal rs log (Sound l) ≡ None
  not_full le fit = rw (le-ltb l.time (latest log) le, le-leb (length (book_sheet rs (log ++ (l ∷ [])))) 256 fit)

pub log_open : (rs : List Rule) (log : List Line) (x : Item) → length log < 1000000 → refusal rs log x ≡ item_refusal rs log x
log_open rs log x lt = rw (lt-leb 1000000 (length log) lt)
