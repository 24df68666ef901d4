-- What the open sheet is like on every log.
use Rattle.std.proofs.Common.{◌≡◌, ◌+◌, ◌<◌, ◌≤◌, List, [], ◌∷◌, length, sym, refl, ap, ◌∙◌, subst, arith, length-append}
use Rattle.feed.specs.declared.lines.Line.{Line}
use Rattle.book.specs.Rules.{Rule}
use Rattle.book.specs.Sizes.{all_nodes, depth, nodes}
use Rattle.duty.specs.Matching.{unbound}
use Rattle.duty.specs.Verdicts.{verdict}
use Rattle.duty.specs.Sheet.{if_pending, rule_sheet, book_sheet}
use Rattle.duty.specs.Facts.{All, Group, SheetFacts}
use Rattle.duty.specs.Open.{start, step, run, after, entries, shown}
use Rattle.duty.specs.declared.entries.Entry.{Entry}
use Rattle.duty.specs.declared.verdicts.Verdict.{Verdict}
use Rattle.duty.specs.declared.verdicts.Verdict.TheVariants.{Pending, Satisfied, Breached}
use Rattle.duty.proofs.Runs.{V_run}
use Rattle.duty.proofs.Sheets.{sheet-after, decided-none}
use Rattle.duty.proofs.StepsShown.{steps_right}
use Rattle.duty.proofs.Listed as of

none : (v : Verdict) (es : List Entry) → (v ≡ Pending → ⊥) → if_pending v es ≡ []
none Pending es h = absurd (h refl)
none (Satisfied j) es h = refl
none (Breached j) es h = refl

pub decided : (r : Rule) (log : List Line) → (verdict r log ≡ Pending → ⊥) → rule_sheet r log ≡ []
decided r log h =
    let es = shown (entries r 1 0) (after (step r) (start r unbound) log) in
    sheet-after r 1 0 unbound 1 log
    ∙ (sym (decided-none (entries r 1 0) (step r) (start r unbound) 1 log)
    ∙ none (run (step r) (start r unbound) 1 log) es (λ e. h (V_run r unbound 1 log ∙ e)))

pub pending : (r : Rule) (log : List Line) → verdict r log ≡ Pending → Group 0 (rule_sheet r log)
pending r log h = let s = steps_right r unbound log h in subst (Group 0) (sym (s.listed 1 0)) (of.group r 1 0 s.left_open)

within : (r : Rule) (log : List Line) → All (of.In 1 (1 + nodes r) (0 + depth r)) (rule_sheet r log)
within r log =
    subst (All (of.In 1 (1 + nodes r) (0 + depth r))) (sym (sheet-after r 1 0 unbound 1 log))
    (of.all_shown (of.In 1 (1 + nodes r) (0 + depth r)) (entries r 1 0) (of.within r 1 0) (after (step r) (start r unbound) log))

starts : (rs : List Rule) → length (book_sheet rs []) ≤ all_nodes rs
starts [] = omega arith
starts (r ∷ rs) =
    omega (arith, length-append (rule_sheet r []) (book_sheet rs []), ap length (sheet-after r 1 0 unbound 1 []), of.starts r 1 0 unbound, starts rs)

pub sheet_facts : SheetFacts
sheet_facts =
    record {
      pending = pending;
      decided = decided;
      within = λ r log. of.all_map (of.In 1 (1 + nodes r) (0 + depth r)) (λ e. (1 ≤ e.node) × (e.node ≤ nodes r) × (e.level < depth r)) (λ e h. (omega arith, omega arith, omega arith)) (rule_sheet r log) (within r log);
      levels = λ r log d. of.all_map (of.In 1 (1 + nodes r) (0 + depth r)) (λ e. e.level < 8) (λ e h. omega arith) (rule_sheet r log) (within r log);
      starts = starts;
      fits = λ rs h. omega (arith, starts rs);
    }
