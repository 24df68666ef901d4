-- The rows of a page one after the other.
use Rattle.std.proofs.Common.{◌≡◌, ℕ, Bool, true, false, Some, None, Option, zero, suc, ◌+◌, ◌*◌, ◌<◌, List, [], ◌∷◌, ◌++◌, length, get_or, take, drop, sym, refl, ap, ◌∙◌, append_assoc, add-zero, arith, length-append, eq-eqb, ne_eqb}
use Rattle.std.proofs.lemmas.List.{take_at, drop_at, drop-drop}
use Rattle.std.proofs.lemmas.Bool.{cond-true, cond-false}
use Rattle.std.specs.List.{position_from}
use Rattle.feed.specs.declared.lines.Line.{Line}
use Rattle.book.specs.Rules.{Rule}
use Rattle.duty.specs.Facts.{Deeper, Group}
use Rattle.duty.specs.Sheet.{rule_sheet, book_sheet}
use Rattle.duty.specs.Verdicts.{verdict, verdicts}
use Rattle.duty.specs.declared.entries.Entry.{Entry}
use Rattle.duty.specs.declared.verdicts.Verdict.{Verdict}
use Rattle.duty.specs.declared.verdicts.Verdict.TheVariants.{Pending, Satisfied, Breached}
use Rattle.duty.proofs.FactsShown as facts
use Rattle.pages.specs.Pages.{verdict_row, verdict_rows, entry_row, entry_rows, sheet_from, sheet_page, first_pending, next_pending, rule_of, rows_after, sheet_rows, ShowsSheet}
use Rattle.pages.specs.Rows.{rows_of}
use Rattle.pages.specs.Widths.{length-verdict_row, length-entry_row}

pub length-verdict_rows : (n : ℕ) (vs : List Verdict) → length (verdict_rows n vs) ≡ 15 * length vs
length-verdict_rows n [] = refl
length-verdict_rows n (v ∷ vs) =
    length-append (verdict_row n v) (verdict_rows (suc n) vs) ∙ omega (arith, length-verdict_row n v, length-verdict_rows (suc n) vs)

row_from : (n : ℕ) (vs : List Verdict) (i : ℕ) → i < length vs → take 15 (drop (15 * i) (verdict_rows n vs)) ≡ verdict_row (n + i) (get_or vs i Pending)
row_from n [] i h = absurd (omega arith)
row_from n (v ∷ vs) zero h =
    take_at (verdict_row n v) (verdict_rows (suc n) vs) 15 (length-verdict_row n v) ∙ ap (λ k. verdict_row k v) (sym (add-zero n))
row_from n (v ∷ vs) (suc i) h =
    let page = verdict_row n v ++ verdict_rows (suc n) vs in
    let at : 15 * suc i ≡ 15 + 15 * i = omega arith in
    let number : suc n + i ≡ n + suc i = omega arith in
    ap (λ k. take 15 (drop k page)) at
    ∙ (ap (take 15) (sym (drop-drop (15 * i) 15 page))
    ∙ (ap (λ x. take 15 (drop (15 * i) x)) (drop_at (verdict_row n v) (verdict_rows (suc n) vs) 15 (length-verdict_row n v))
    ∙ (row_from (suc n) vs i (omega arith) ∙ ap (λ k. verdict_row k (get_or vs i Pending)) number)))

-- row i of the verdict page
pub verdict-row : (vs : List Verdict) (i : ℕ) → i < length vs → take 15 (drop (15 * i) (verdict_rows 1 vs)) ≡ verdict_row (suc i) (get_or vs i Pending)
verdict-row vs i h =
    let number : 1 + i ≡ suc i = omega arith in
    row_from 1 vs i h ∙ ap (λ k. verdict_row k (get_or vs i Pending)) number

-- the rows of the two pages, as they are written
pub verdict_rows-made : (i n : ℕ) (vs : List Verdict) → rows_of verdict_row (λ k m v. suc k) i n vs ≡ verdict_rows (suc i) vs
unfolding rows_of
verdict_rows-made i n [] = refl
verdict_rows-made i n (v ∷ vs) = ap (λ x. verdict_row (suc i) v ++ x) (verdict_rows-made (suc i) (suc i) vs)

pub rows_after-made : (vs : List Verdict) (i n : ℕ) (es : List Entry) → rows_of entry_row (λ k m e. rule_of vs m e) i n es ≡ rows_after vs n es
unfolding rows_of
rows_after-made vs i n [] = refl
rows_after-made vs i n (e ∷ es) = ap (λ x. entry_row (rule_of vs n e) e ++ x) (rows_after-made vs (suc i) (rule_of vs n e) es)

-- deeper entries are of the same rule
deeper_rows : (vs : List Verdict) (n : ℕ) (es rest : List Entry) → Deeper 0 es → rows_after vs n (es ++ rest) ≡ entry_rows n es ++ rows_after vs n rest
deeper_rows vs n [] rest d = refl
deeper_rows vs n (e ∷ es) rest d =
    let same : rule_of vs n e ≡ n = cond-false _ _ _ (ne_eqb e.level 0 (λ z. absurd (omega (arith, d.0)))) in
    (λ i. entry_row (same i) e ++ rows_after vs (same i) (es ++ rest))
    ∙ (ap (λ x. entry_row n e ++ x) (deeper_rows vs n es rest d.1)
    ∙ sym (append_assoc (entry_row n e) (entry_rows n es) (rows_after vs n rest)))

-- the entries of a pending rule
group_rows : (vs : List Verdict) (n k : ℕ) (g rest : List Entry) → Group 0 g → next_pending vs n ≡ k → rows_after vs n (g ++ rest) ≡ entry_rows k g ++ rows_after vs k rest
group_rows vs n k [] rest h next = absurd h
group_rows vs n k (e ∷ es) rest h next =
    let is : rule_of vs n e ≡ k = cond-true _ _ _ (eq-eqb e.level 0 h.0) ∙ next in
    (λ i. entry_row (is i) e ++ rows_after vs (is i) (es ++ rest))
    ∙ (ap (λ x. entry_row k e ++ x) (deeper_rows vs k es rest h.1)
    ∙ sym (append_assoc (entry_row k e) (entry_rows k es) (rows_after vs k rest)))

drop_tail : {A : Type 0} (xs ys : List A) (m : ℕ) (y : A) → drop m xs ≡ y ∷ ys → drop (suc m) xs ≡ ys
drop_tail xs ys m y e =
    let more : suc m ≡ m + 1 = omega arith in
    ap (λ k. drop k xs) more ∙ (sym (drop-drop 1 m xs) ∙ ap (drop 1) e)

-- where m rules are passed, and those of them behind rule n are decided, the rows to come are those of the rules ahead
abbrev Walks : List Verdict → ℕ → List Rule → List Line → Type 0
Walks vs m rs log = (n : ℕ) → next_pending vs n ≡ first_pending n (suc m) (drop m vs) → rows_after vs n (book_sheet rs log) ≡ sheet_from (suc m) rs log

decided_walks : (vs : List Verdict) (n m : ℕ) (r : Rule) (rs : List Rule) (log : List Line) → (verdict r log ≡ Pending → ⊥) → next_pending vs n ≡ first_pending n (suc (suc m)) (drop (suc m) vs) → Walks vs (suc m) rs log → rows_after vs n (rule_sheet r log ++ book_sheet rs log) ≡ entry_rows (suc m) (rule_sheet r log) ++ sheet_from (suc (suc m)) rs log
decided_walks vs n m r rs log not e rest =
    let none = facts.decided r log not in
    ap (λ es. rows_after vs n (es ++ book_sheet rs log)) none
    ∙ (rest n e ∙ sym (ap (λ es. entry_rows (suc m) es ++ sheet_from (suc (suc m)) rs log) none))

sheet_from_lem : (vs : List Verdict) (m : ℕ) (rs : List Rule) (log : List Line) → drop m vs ≡ verdicts rs log → Walks vs m rs log
unfolding next_pending
sheet_from_lem vs m [] log left n next = refl
sheet_from_lem vs m (r ∷ rs) log left n next = go (verdict r log) refl (sheet_from_lem vs (suc m) rs log ahead)
  where
    ahead : drop (suc m) vs ≡ verdicts rs log
    ahead = drop_tail vs (verdicts rs log) m (verdict r log) left

    here : (v : Verdict) → verdict r log ≡ v → next_pending vs n ≡ first_pending n (suc m) (v ∷ drop (suc m) vs)
    here v e = next ∙ ap (first_pending n (suc m)) (left ∙ (λ i. e i ∷ sym ahead i))

    go : (v : Verdict) → verdict r log ≡ v → Walks vs (suc m) rs log → rows_after vs n (rule_sheet r log ++ book_sheet rs log) ≡ entry_rows (suc m) (rule_sheet r log) ++ sheet_from (suc (suc m)) rs log
    go Pending e rest =
        group_rows vs n (suc m) (rule_sheet r log) (book_sheet rs log) (facts.pending r log e) (here Pending e)
        ∙ ap (λ x. entry_rows (suc m) (rule_sheet r log) ++ x) (rest (suc m) refl)
    go (Satisfied j) e rest = decided_walks vs n m r rs log (λ p. let z : ◌≡◌ {A = ℕ} 0 1 = cc in absurd (omega arith)) (here (Satisfied j) e) rest
    go (Breached j) e rest = decided_walks vs n m r rs log (λ p. let z : ◌≡◌ {A = ℕ} 0 1 = cc in absurd (omega arith)) (here (Breached j) e) rest

pub shows_sheet : (vs : List Verdict) (es : List Entry) → ShowsSheet vs es
unfolding next_pending
shows_sheet vs es rs log judged listed = ap (sheet_rows vs) listed ∙ sheet_from_lem vs 0 rs log judged 0 refl

length-entry_rows : (n : ℕ) (es : List Entry) → length (entry_rows n es) ≡ 78 * length es
length-entry_rows n [] = refl
length-entry_rows n (e ∷ es) = length-append (entry_row n e) (entry_rows n es) ∙ omega (arith, length-entry_row n e, length-entry_rows n es)

length-sheet_from : (n : ℕ) (rs : List Rule) (log : List Line) → length (sheet_from n rs log) ≡ 78 * length (book_sheet rs log)
length-sheet_from n [] log = refl
length-sheet_from n (r ∷ rs) log =
    length-append (entry_rows n (rule_sheet r log)) (sheet_from (suc n) rs log)
    ∙ omega (arith, length-entry_rows n (rule_sheet r log), length-sheet_from (suc n) rs log, length-append (rule_sheet r log) (book_sheet rs log))

pub length-sheet_page : (rs : List Rule) (log : List Line) → length (sheet_page rs log) ≡ 78 * length (book_sheet rs log)
length-sheet_page rs log = length-sheet_from 1 rs log

abbrev pub is_pending : Verdict → Bool
is_pending Pending = true
is_pending (Satisfied j) = false
is_pending (Breached j) = false

-- the rule behind k others where i of those that follow are passed, n where none is pending
abbrev pub reached : ℕ → ℕ → Option ℕ → ℕ
reached n k None = n
reached n k (Some i) = k + i

passes : (n k i : ℕ) (vs : List Verdict) → first_pending n (k + i) vs ≡ reached n k (position_from is_pending i vs)
passes n k i [] = refl
passes n k i (Pending ∷ vs) = refl
passes n k i (Satisfied j ∷ vs) = let more : suc (k + i) ≡ k + (i + 1) = omega arith in ap (λ m. first_pending n m vs) more ∙ passes n k (i + 1) vs
passes n k i (Breached j ∷ vs) = let more : suc (k + i) ≡ k + (i + 1) = omega arith in ap (λ m. first_pending n m vs) more ∙ passes n k (i + 1) vs

pub next_is : (vs : List Verdict) (n : ℕ) (o : Option ℕ) → o ≡ position_from is_pending 0 (drop n vs) → reached n (suc n) o ≡ next_pending vs n
unfolding next_pending
next_is vs n o e =
    let start : suc n + 0 ≡ suc n = omega arith in
    ap (reached n (suc n)) e ∙ sym (passes n (suc n) 0 (drop n vs)) ∙ ap (λ k. first_pending n k (drop n vs)) start
