use Rattle.std.proofs.Common.{◌≡◌, ℕ, suc, ◌+◌, List, [], ◌∷◌, ◌++◌, length, sym, refl, ap, ◌∙◌, arith}
use Rattle.feed.specs.declared.lines.Line.{Line}
use Rattle.duty.specs.declared.verdicts.Verdict.TheVariants.{Pending}
use Rattle.duty.specs.Open.{start, Left, met, missed, still, then_left, step, decide, run, after, entries, shown}
use Rattle.duty.specs.Steps.{StepsRight}
use Rattle.duty.proofs.Runs.{V_run}
use Rattle.duty.proofs.Sheets.{sheet-after}

after_more : {A : Type 0} (step : A → Line → Left A) (o : A) (ls : List Line) (l : Line) → after step o (ls ++ (l ∷ [])) ≡ then_left (after step o ls) (λ o'. step o' l)
after_more step o [] l = elim (step o l) as (λ x. then_left x (λ o'. still o') ≡ x) [ met ↦ refl | missed ↦ refl | still o' ↦ refl ]
after_more step o (k ∷ ls) l =
    elim (step o k) as (λ x. then_left x (λ o'. after step o' (ls ++ (l ∷ []))) ≡ then_left (then_left x (λ o'. after step o' ls)) (λ o'. step o' l))
    [ met ↦ refl | missed ↦ refl | still o' ↦ after_more step o' ls l ]

-- a Pending run has something open, and decides by it at the next line
record Goes {A : Type 0} (step : A → Line → Left A) (o : A) (i : ℕ) (ls : List Line) : Type 0 where
  left : A
  is : after step o ls ≡ still left
  next : (l : Line) → run step o i (ls ++ (l ∷ [])) ≡ decide (i + length ls) (step left l) (λ o. Pending)

goes : {A : Type 0} (step : A → Line → Left A) (o : A) (i : ℕ) (ls : List Line) → run step o i ls ≡ Pending → Goes step o i ls
goes step o i [] h = record { left = o; is = refl; next = λ l. let e : i + 0 ≡ i = omega arith in rw e refl }
goes {A} step o i (k ∷ ls) h = go (λ o h. goes step o (suc i) ls h) (step o k) h refl
  where
    go : ((o : A) → run step o (suc i) ls ≡ Pending → Goes step o (suc i) ls) → (x : Left A) → decide i x (λ o. run step o (suc i) ls) ≡ Pending → step o k ≡ x → Goes step o i (k ∷ ls)
    go again met h e = cc
    go again missed h e = cc
    go again (still o') h e =
        let g = again o' h in
        let n : i + suc (length ls) ≡ suc i + length ls = omega arith in
        record { left = g.left; is = rw e g.is; next = λ l. rw (e, n) (g.next l) }

pub steps_right : StepsRight
steps_right r f log h =
    let g = goes (step r) (start r f) 1 log (sym (V_run r f 1 log) ∙ h) in
    let one : 1 + length log ≡ suc (length log) = omega arith in
    record {
      left_open = g.left;
      listed = λ n lev. sheet-after r n lev f 1 log ∙ ap (shown (entries r n lev)) g.is;
      verdict = λ l. V_run r f 1 (log ++ (l ∷ [])) ∙ (g.next l ∙ ap (λ i. decide i (step r g.left l) (λ o. Pending)) one);
      sheets = λ l n lev. sheet-after r n lev f 1 (log ++ (l ∷ [])) ∙ ap (shown (entries r n lev)) (after_more (step r) (start r f) log l ∙ ap (λ x. then_left x (λ o'. step r o' l)) g.is);
    }
