-- A verdict that is given stays: shown of every machine, and so of every rule.
use Rattle.std.proofs.Common.{◌≡◌, ℕ, zero, suc, ◌+◌, ◌<◌, ◌≤◌, ◌⊎◌, List, [], ◌∷◌, length, take, sym, refl, ◌∙◌, inl, inr, arith}
use Rattle.feed.specs.declared.lines.Line.{Line}
use Rattle.duty.specs.declared.verdicts.Verdict.TheVariants.{Pending, Satisfied, Breached}
use Rattle.duty.specs.Open.{start, Left, met, missed, still, step, decide, run}
use Rattle.duty.specs.Final.{DecidedAt, Finality}
use Rattle.duty.proofs.Runs.{V_run}

Pending_not : {X : Type 0} (j : ℕ) → DecidedAt Pending j → X
Pending_not j (inl e) = cc
Pending_not j (inr e) = cc

at_line : (i j : ℕ) → DecidedAt (Satisfied i) j ⊎ DecidedAt (Breached i) j → i ≡ j
at_line i j (inl (inl e)) = cc
at_line i j (inl (inr e)) = cc
at_line i j (inr (inl e)) = cc
at_line i j (inr (inr e)) = cc

-- n lines are left as they are before the deciding one
record Stops {A : Type 0} (step : A → Line → Left A) (o : A) (i : ℕ) (ls : List Line) (j : ℕ) : Type 0 where
  n : ℕ
  is : j ≡ i + n
  within : n < length ls
  stays : (other : List Line) → take (suc n) other ≡ take (suc n) ls → run step o i other ≡ run step o i ls
  not_before : (m : ℕ) → m ≤ n → run step o i (take m ls) ≡ Pending

-- the same of what one step led to
record Goes {A : Type 0} (step : A → Line → Left A) (x : Left A) (i : ℕ) (ls : List Line) (j : ℕ) : Type 0 where
  n : ℕ
  is : j ≡ i + n
  within : n ≤ length ls
  stays : (other : List Line) → take n other ≡ take n ls → decide i x (λ o. run step o (suc i) other) ≡ decide i x (λ o. run step o (suc i) ls)
  not_before : (m : ℕ) → suc m ≤ n → decide i x (λ o. run step o (suc i) (take m ls)) ≡ Pending

goes : {A : Type 0} (step : A → Line → Left A) (i : ℕ) (ls : List Line) (j : ℕ) → ((o : A) → DecidedAt (run step o (suc i) ls) j → Stops step o (suc i) ls j) → (x : Left A) → DecidedAt (decide i x (λ o. run step o (suc i) ls)) j → Goes step x i ls j
goes step i ls j again met d = let e = at_line i j (inl d) in
    record { n = 0; is = omega arith; within = omega arith; stays = λ other h. refl; not_before = λ m h. absurd (omega arith) }
goes step i ls j again missed d = let e = at_line i j (inr d) in
    record { n = 0; is = omega arith; within = omega arith; stays = λ other h. refl; not_before = λ m h. absurd (omega arith) }
goes step i ls j again (still o) d = let s = again o d in
    record { n = suc s.n; is = omega (arith, s.is); within = s.within; stays = s.stays; not_before = λ m h. s.not_before m (omega arith) }

stops : {A : Type 0} (step : A → Line → Left A) (o : A) (i : ℕ) (ls : List Line) (j : ℕ) → DecidedAt (run step o i ls) j → Stops step o i ls j
stops step o i [] j d = Pending_not j d
stops {A} step o i (l ∷ ls) j d = close (goes step i ls j (λ o. stops step o (suc i) ls j) (step o l) d)
  where
    close : Goes step (step o l) i ls j → Stops step o i (l ∷ ls) j
    close g = record { n = g.n; is = g.is; within = omega (arith, g.within); stays = same; not_before = before }
      where
        same : (other : List Line) → take (suc g.n) other ≡ take (suc g.n) (l ∷ ls) → run step o i other ≡ run step o i (l ∷ ls)
        same [] h = cc
        same (k ∷ other) h =
            let e : k ≡ l = cc in
            let t : take g.n other ≡ take g.n ls = cc in
            rw e (g.stays other t)

        before : (m : ℕ) → m ≤ g.n → run step o i (take m (l ∷ ls)) ≡ Pending
        before zero h = refl
        before (suc m) h = g.not_before m h

pub finality : Finality
finality r f log j d =
    let d' : DecidedAt (run (step r) (start r f) 1 log) j = rw (V_run r f 1 log) at d in
    let s = stops (step r) (start r f) 1 log j d' in
    let e : j ≡ suc s.n = omega (arith, s.is) in
    record {
      within = omega (arith, s.is, s.within);
      stays = λ other h. V_run r f 1 other ∙ (s.stays other (rw e at h) ∙ sym (V_run r f 1 log));
      not_before = λ m h. V_run r f 1 (take m log) ∙ s.not_before m (omega arith);
    }
