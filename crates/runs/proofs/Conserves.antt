-- What leaves a feed was taken or skipped.
use Rattle.std.proofs.Common.{◌≡◌, ℕ, zero, suc, ◌-◌, Bool, true, false, cond, eqb, List, [], ◌∷◌, ◌++◌, take, sym, refl, ap, ◌∙◌, subst, append_assoc, arith, ne_eqb, eqb-true}
use borrow.Author.Tests.{eqb-false}
use Rattle.feed.specs.Waiting.{later}
use Rattle.feed.specs.declared.faults.Item.{Item}
use Rattle.auditor.proofs.Plain.{take-front}
use Rattle.runs.specs.Calls.{Account, Asked, next, finally}
use Rattle.runs.specs.Law.{drawn, all_drawn}
use Rattle.runs.specs.Lists.{waiting_at, put_at}
use Rattle.runs.specs.declared.calls.Call.{Call}
use Rattle.runs.specs.declared.calls.Call.TheVariants.{Take, Skip, VerdictPage, SheetPage}

skipped : (w : List Item) → w ≡ take 1 w ++ later w
skipped [] = refl
skipped (x ∷ w) = refl

nil-append : (x v : List Item) → [] ≡ x ++ v → [] ≡ v
nil-append [] v h = h
nil-append (y ∷ x) v h = let z : ◌≡◌ {A = ℕ} 0 1 = cc in absurd (omega arith)

not_first : (j : ℕ) → eqb (suc j) 0 ≡ false
not_first j = ne_eqb (suc j) 0 (λ e. omega arith)

put_same : (ws : List (List Item)) (j : ℕ) (x v : List Item) → waiting_at ws j ≡ x ++ v → waiting_at (put_at ws j v) j ≡ v
put_same [] j x v h = nil-append x v h
put_same (w ∷ ws) zero x v h = refl
put_same (w ∷ ws) (suc j) x v h = let z = not_first j in rw (z, z) (put_same ws (suc j - 1) x v (rw z at h))

put_other : (ws : List (List Item)) (i j : ℕ) (v : List Item) → (j ≡ i → ⊥) → waiting_at (put_at ws j v) i ≡ waiting_at ws i
put_other [] i j v ne = refl
put_other (w ∷ ws) zero zero v ne = absurd (ne refl)
put_other (w ∷ ws) (suc i) zero v ne = let z = not_first i in rw z
put_other (w ∷ ws) zero (suc j) v ne = let z = not_first j in rw z
put_other (w ∷ ws) (suc i) (suc j) v ne =
    let y = not_first j in
    let z = not_first i in
    rw (y, z) (put_other ws (suc i - 1) (suc j - 1) v (λ e. ne (omega arith)))

kept : (i j : ℕ) (ws : List (List Item)) (x v : List Item) → waiting_at ws j ≡ x ++ v → (b : Bool) → eqb j i ≡ b → waiting_at ws i ≡ cond b x [] ++ waiting_at (put_at ws j v) i
kept i j ws x v h true e =
    subst (λ n. waiting_at ws n ≡ x ++ waiting_at (put_at ws j v) n) (eqb-true j i e) (h ∙ ap (λ l. x ++ l) (sym (put_same ws j x v h)))
kept i j ws x v h false e = sym (put_other ws i j v (eqb-false j i e))

one : (i : ℕ) (s : Account) (q : Call) → waiting_at s.lists i ≡ drawn i s q ++ waiting_at (next s q).lists i
one i s (Take j c) = kept i j s.lists _ _ (take-front s.book c s.log (waiting_at s.lists j)) (eqb j i) refl
one i s (Skip j) = kept i j s.lists _ _ (skipped (waiting_at s.lists j)) (eqb j i) refl
one i s VerdictPage = refl
one i s SheetPage = refl

pub conserved : (i : ℕ) (s : Account) (qs : List Asked) → waiting_at s.lists i ≡ all_drawn i s qs ++ waiting_at (finally s qs).lists i
conserved i s [] = refl
conserved i s (q ∷ qs) =
    one i s q.call ∙ ap (λ l. drawn i s q.call ++ l) (conserved i (next s q.call) qs)
    ∙ sym (append_assoc (drawn i s q.call) (all_drawn i (next s q.call) qs) _)
