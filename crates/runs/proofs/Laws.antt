-- The law from the accounts.
use Rattle.std.proofs.Common.{◌≡◌, ℕ, zero, suc, ◌<◌, ◌≤◌, Bool, true, false, cond, ltb, ◌⊎◌, List, [], ◌∷◌, ◌++◌, map, length, get_or, take, drop, Some, None, Ok, Option, sym, refl, ap, ◌∙◌, subst, ⊎_elim, arith, length-append, length-take, take_all}
use lib.ListN.{length-map}
use lib.Seq.{take-append-le}
use Rattle.feed.specs.declared.lines.Line.{Line}
use Rattle.book.specs.Rules.{Rule}
use Rattle.duty.specs.Matching.{unbound}
use Rattle.duty.specs.Sheet.{book_sheet}
use Rattle.duty.specs.Verdicts.{verdict, verdicts}
use Rattle.duty.specs.declared.verdicts.Verdict.{Verdict}
use Rattle.duty.specs.declared.verdicts.Verdict.TheVariants.{Pending}
use Rattle.duty.proofs.Finals.{finality}
use Rattle.pages.specs.Pages.{verdict_row, verdict_page, sheet_page, written}
use Rattle.pages.proofs.PagesShown.{verdict-row}
use Rattle.auditor.specs.Showing.{verdicts_shown, sheet_shown, or_short, page_answer}
use Rattle.auditor.proofs.Shown.{judged, listed, shows_verdicts, shows_sheets}
use Rattle.runs.specs.Calls.{Account, Asked, Said, saying, next, reply, finally, replies}
use Rattle.runs.specs.Law.{Run, opening, after, closing, AsAccount, unasked, unsaid, Wrote, VerdictsShown, SheetShown, row, Begins, VerdictsFinal, Alike, all_drawn, Lawful}
use Rattle.runs.specs.Lists.{waiting_at}
use Rattle.runs.specs.declared.calls.Answer.TheVariants.{Paged}
use Rattle.runs.specs.declared.calls.Call.{Call}
use Rattle.runs.specs.declared.calls.Call.TheVariants.{Take, Skip, VerdictPage, SheetPage}
use Rattle.runs.proofs.Conserves.{conserved}

-- the account keeps its book
book-kept : (s : Account) (q : Call) → (next s q).book ≡ s.book
book-kept s (Take i c) = refl
book-kept s (Skip i) = refl
book-kept s VerdictPage = refl
book-kept s SheetPage = refl

pub books_kept : (s : Account) (qs : List Asked) → (finally s qs).book ≡ s.book
books_kept s [] = refl
books_kept s (q ∷ qs) = books_kept (next s q.call) qs ∙ book-kept s q.call

-- a page call that is granted writes its page
front : (b : Bool) (p buf : List ℕ) (n : ℕ) → ◌≡◌ {A = Option _} (Some (Paged (or_short (cond b None (Some (length p)))))) (Some (Paged (Ok n))) → take n (cond b buf (p ++ drop (length p) buf)) ≡ p
front true p buf n e = let z : ◌≡◌ {A = ℕ} 0 1 = cc in absurd (omega arith)
front false p buf n e =
    let long : length p ≡ n = cc in
    let h : n ≤ length p = omega arith in
    take-append-le n p (drop (length p) buf) h ∙ take_all n p (omega arith)

module _ (kind : Call) (page : List Rule → List Line → List ℕ) (is : (s : Account) (b : List ℕ) → reply s kind b ≡ saying (Paged (page_answer (page s.book s.log) b)) (written (page s.book s.log) b)) where
  wrote_here : (s : Account) (q : Call) (buf : List ℕ) (n : ℕ) → q ≡ kind → (reply s q buf).answer ≡ Some (Paged (Ok n)) → take n (reply s q buf).buffer ≡ page s.book s.log
  wrote_here s q buf n e =
      let p = page s.book s.log in
      subst (λ c. (reply s c buf).answer ≡ Some (Paged (Ok n)) → take n (reply s c buf).buffer ≡ p) (sym e)
      (subst (λ (x : Said). x.answer ≡ Some (Paged (Ok n)) → take n x.buffer ≡ p) (sym (is s buf)) (front (ltb (length buf) (length p)) p buf n))

  wrote : (s : Account) (qs : List Asked) (m n : ℕ) → m < length qs → (get_or qs m unasked).call ≡ kind → (get_or (replies s qs) m unsaid).answer ≡ Some (Paged (Ok n)) → take n (get_or (replies s qs) m unsaid).buffer ≡ page (finally s (take m qs)).book (finally s (take m qs)).log
  wrote s [] m n lt e a = absurd (omega arith)
  wrote s (q ∷ qs) zero n lt e a = wrote_here s q.call q.buffer n e a
  wrote s (q ∷ qs) (suc m) n lt e a = wrote (next s q.call) qs m n (omega arith) e a

  module _ (rs : List Rule) (r : Run) (a : AsAccount rs r) where
    page_of : (m : ℕ) (p : List ℕ) → Wrote kind r m p → p ≡ page rs (after rs m r).log
    page_of m p w =
        w.bytes ∙ ap (λ l. take w.long (get_or l m unsaid).buffer) a.answers
        ∙ wrote (opening rs r) r.calls m w.long w.within w.asks (subst (λ l. (get_or l m unsaid).answer ≡ Some (Paged (Ok w.long))) a.answers w.granted)
        ∙ ap (λ x. page x (after rs m r).log) (books_kept (opening rs r) (take m r.calls))

    shows_of : (shown : List ℕ) → shown ≡ page rs (closing rs r).log → (n : ℕ) (p : List ℕ) → Wrote kind r n p ⊎ (((n ≡ length r.calls) × (p ≡ shown)) ⊎ (p ≡ page rs (after rs n r).log)) → p ≡ page rs (after rs n r).log
    shows_of shown e n p =
        ⊎_elim (page_of n p)
        (⊎_elim (λ h. h.1 ∙ e ∙ ap (λ qs. page rs (finally (opening rs r) qs).log) (sym (take_all n r.calls (omega (arith, h.0))))) (λ h. h))

module _ (rs : List Rule) (r : Run) (a : AsAccount rs r) where
  verdicts_of_lem : (n : ℕ) (p : List ℕ) → VerdictsShown rs r n p → p ≡ verdict_page rs (after rs n r).log
  verdicts_of_lem = shows_of VerdictPage verdict_page (λ s b. refl) rs r a (verdicts_shown r.auditor) (shows_verdicts rs (closing rs r).log r.auditor a.holds)

  sheet_of_lem : (n : ℕ) (p : List ℕ) → SheetShown rs r n p → p ≡ sheet_page rs (after rs n r).log
  sheet_of_lem = shows_of SheetPage sheet_page (λ s b. refl) rs r a (sheet_shown r.auditor) (shows_sheets rs (closing rs r).log r.auditor a.holds)

at_map : (f : Rule → Verdict) (before : List Rule) (rule : Rule) (behind : List Rule) → get_or (map f (before ++ rule ∷ behind)) (length before) Pending ≡ f rule
at_map f [] rule behind = refl
at_map f (x ∷ before) rule behind = at_map f before rule behind

-- the row of a rule in the verdict page of a log
row_of : (rs before : List Rule) (rule : Rule) (behind : List Rule) (log : List Line) → rs ≡ before ++ rule ∷ behind → row (length before) (verdict_page rs log) ≡ verdict_row (suc (length before)) (verdict rule log)
row_of rs before rule behind log e =
    let f : Rule → Verdict = λ x. verdict x log in
    let long = length-map rs f in
    let more = ap length e in
    let both = length-append before (rule ∷ behind) in
    let lt : length before < length (verdicts rs log) = omega (arith, long, more, both) in
    verdict-row (verdicts rs log) (length before) lt
    ∙ ap (verdict_row (suc (length before))) (ap (λ x. get_or (map f x) (length before) Pending) e ∙ at_map f before rule behind)

begun : (j : ℕ) (log own : List Line) → j ≤ length log → Begins (take j log) own → take j own ≡ take j log
begun j log own le b =
    let long : length (take j log) ≡ j = simp length-take (omega arith) in
    let ge : j ≤ length (take j log) = omega arith in
    ap (take j) b.1 ∙ take-append-le j (take j log) b.0 ge ∙ take_all j (take j log) (omega arith)

final : (rs : List Rule) (r : Run) → AsAccount rs r → VerdictsFinal rs r
final rs r a before rule behind e log j decided n p shown =
    let own = (after rs n r).log in
    let f = finality rule unbound log j decided in
    let here : (v : Verdict) → verdict rule own ≡ v → row (length before) p ≡ verdict_row (suc (length before)) v = λ v is. ap (row (length before)) (verdicts_of_lem rs r a n p shown) ∙ row_of rs before rule behind own e ∙ ap (verdict_row (suc (length before))) is in
    record {
      stays = λ b. here (verdict rule log) (f.stays own (begun j log own f.within.1 b));
      pends = λ m lt same. here Pending (ap (verdict rule) same ∙ f.not_before m lt);
    }

pub alike : (rs : List Rule) (r r' : Run) → AsAccount rs r → AsAccount rs r' → Alike rs r r'
alike rs r r' a b = record {
  verdict_pages = λ m n p q same w v. verdicts_of_lem rs r a m p w ∙ ap (verdict_page rs) same ∙ sym (verdicts_of_lem rs r' b n q v);
  sheet_pages = λ m n p q same w v. sheet_of_lem rs r a m p w ∙ ap (sheet_page rs) same ∙ sym (sheet_of_lem rs r' b n q v);
  verdicts = λ same. judged rs _ r.auditor a.holds ∙ ap (verdicts rs) same ∙ sym (judged rs _ r'.auditor b.holds);
  sheets = λ same. listed rs _ r.auditor a.holds ∙ ap (book_sheet rs) same ∙ sym (listed rs _ r'.auditor b.holds);
}

pub lawful : (rs : List Rule) (r : Run) → AsAccount rs r → Lawful rs r
lawful rs r a = record {
  account = a;
  final = final rs r a;
  alike = alike rs r r a a;
  conserved = record {
    each = λ n i. conserved i (opening rs r) (take n r.calls);
    end = λ i. conserved i (opening rs r) r.calls ∙ ap (λ ws. all_drawn i (opening rs r) r.calls ++ waiting_at ws i) (sym a.waiting);
  };
}
