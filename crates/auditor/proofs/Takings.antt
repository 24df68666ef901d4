-- What a turn of a take keeps.
use Rattle.std.proofs.Common.{◌≡◌, ℕ, ◌+◌, ◌<◌, ◌≤◌, List, [], ◌∷◌, ◌++◌, map, length, take, Some, None, Ok, Err, Result, sym, refl, ap, ◌∙◌, subst, append_assoc, append-nil, arith, length-append, take_all}
use lib.Seq.{take-append-le}
use Rattle.feed.specs.Waiting.{first, later}
use Rattle.feed.specs.declared.faults.Item.{Item}
use Rattle.feed.specs.declared.faults.Item.TheVariants.{Sound, Faulty}
use Rattle.feed.specs.declared.lines.Line.{Line}
use Rattle.book.specs.Rules.{Rule}
use Rattle.auditor.specs.Account.{refusal, stop_at, acceptable, Drawn, drawing, takes}
use Rattle.auditor.specs.Holds.{Holds, Took}
use Rattle.auditor.specs.Steps.{AdmitsLine, Grown, Admits, Moved}
use Rattle.auditor.specs.declared.answers.Refusal.{Refusal}
use Rattle.auditor.specs.declared.answers.Stop.{Stop}
use Rattle.auditor.specs.declared.answers.Stop.TheVariants.{Done}
use Rattle.auditor.specs.declared.auditors.Auditor.{Auditor}
use Rattle.auditor.proofs.Grows.{log_open}
use Rattle.auditor.proofs.Accounts.{none_more, one_more, left_is, drawn-done, drawn-stopped, granted}

-- n lines have gone from w to the log, and the auditor came to a and the waiting list to w'
pub record Sofar (rs : List Rule) (log : List Line) (w : List Item) (n : ℕ) (a : Auditor) (w' : List Item) : Type 0 where
  pub lines : List Line
  pub long : length lines ≡ n
  pub front : w ≡ map Sound lines ++ w'
  pub holds : Holds rs (log ++ lines) a
  pub same : acceptable rs log w ≡ lines ++ acceptable rs (log ++ lines) w'

map-append : {A B : Type 0} (f : A → B) (xs ys : List A) → map f (xs ++ ys) ≡ map f xs ++ map f ys
map-append f [] ys = refl
map-append f (x ∷ xs) ys = ap (λ l. f x ∷ l) (map-append f xs ys)

module _ (rs : List Rule) (c : ℕ) (log : List Line) (w : List Item) (n : ℕ) (a : Auditor) (w' : List Item) (h : Sofar rs log w n a w') where
  -- these lines are what the take takes
  ended : (s : Stop) (a' : Auditor) (w'' : List Item) → 1 ≤ c → c ≤ 4096 → take c (acceptable rs log w) ≡ h.lines → (drawing rs c log w h.lines).stop ≡ s → Holds rs (log ++ h.lines) a' → w'' ≡ w' → Took rs log (takes rs c log w) (record { lines = n; stop = s }) a' w''
  ended s a' w'' lo hi all e holds same =
      let d = granted rs c log w lo hi ∙ ap (drawing rs c log w) all in
      record {
        lines = sym h.long ∙ ap (λ (x : Drawn). length x.lines) (sym d);
        stop = sym e ∙ ap (λ (x : Drawn). x.stop) (sym d);
        holds = subst (λ (x : Drawn). Holds rs (log ++ x.lines) a') (sym d) holds;
        left = same ∙ sym (left_is rs c log w h.lines w' h.front) ∙ ap (λ (x : Drawn). x.left) (sym d);
      }

  pub all_taken : 1 ≤ c → c ≤ 4096 → n ≡ c → Took rs log (takes rs c log w) (record { lines = c; stop = Done }) a w'
  all_taken lo hi e =
      let more = acceptable rs (log ++ h.lines) w' in
      let le : c ≤ length h.lines = omega (arith, h.long) in
      let ge : length h.lines ≤ c = omega (arith, h.long) in
      subst (λ k. Took rs log (takes rs c log w) (record { lines = k; stop = Done }) a w') e
      (ended Done a w' lo hi (ap (take c) h.same ∙ take-append-le c h.lines more le ∙ take_all c h.lines ge) (drawn-done rs c log w h.lines w' h.front (h.long ∙ e)) h.holds refl)

  pub stopped : (s : Stop) (a' : Auditor) (w'' : List Item) → 1 ≤ c → c ≤ 4096 → n < c → stop_at rs (log ++ h.lines) w' ≡ Some s → Holds rs (log ++ h.lines) a' → w'' ≡ w' → Took rs log (takes rs c log w) (record { lines = n; stop = s }) a' w''
  stopped s a' w'' lo hi lt e holds same =
      let le : length h.lines ≤ c = omega (arith, h.long) in
      let sharp : length h.lines < c = omega (arith, h.long) in
      let none = none_more rs (log ++ h.lines) w' s e in
      let all = ap (take c) (h.same ∙ ap (λ l. h.lines ++ l) none ∙ append-nil h.lines) ∙ take_all c h.lines le in
      ended s a' w'' lo hi all (drawn-stopped rs c log w h.lines w' h.front s sharp e) holds same

  pub grown : (a' : Auditor) (w'' : List Item) → Moved rs (log ++ h.lines) w' a' w'' → Sofar rs log w (n + 1) a' w''
  grown a' w'' m =
      let ls = h.lines in
      let one = m.line ∷ [] in
      record {
        lines = ls ++ one;
        long = omega (arith, length-append ls one, h.long);
        front = h.front ∙ ap (λ v. map Sound ls ++ v) m.front ∙ sym (append_assoc (map Sound ls) (Sound m.line ∷ []) w'') ∙ ap (λ v. v ++ w'') (sym (map-append Sound ls one));
        holds = subst (λ l. Holds rs l a') (append_assoc log ls one) m.holds;
        same =
            h.same ∙ ap (λ v. ls ++ acceptable rs (log ++ ls) v) m.front ∙ ap (λ l. ls ++ l) (one_more rs (log ++ ls) m.line w'' m.free)
            ∙ sym (append_assoc ls one (acceptable rs ((log ++ ls) ++ one) w'')) ∙ ap (λ l. (ls ++ one) ++ acceptable rs l w'') (append_assoc log ls one);
      }

-- one item, from the front of what waits
module _ (rs : List Rule) (log : List Line) where
  pub admits_sound : (l : Line) (r : Result (Unit {0}) Refusal) (a : Auditor) → length log < 1000000 → AdmitsLine rs log l r a → Admits rs log (Sound l) r a
  admits_sound l (Ok u) a lt h = (log_open rs log (Sound l) lt ∙ h.0, h.1)
  admits_sound l (Err x) a lt h = (log_open rs log (Sound l) lt ∙ h.0, h.1)

  pub moves : (w w' : List Item) (x : Item) (a : Auditor) → Some x ≡ first w → w' ≡ later w → refusal rs log x ≡ None → Grown rs log x a → Moved rs log w a w'
  moves [] w' x a e f free h = let z : ◌≡◌ {A = ℕ} 0 1 = cc in absurd (omega arith)
  moves (v ∷ w) w' (Faulty x) a e f free h = absurd h
  moves (v ∷ w) w' (Sound l) a e f free h = let same : v ≡ Sound l = cc in record {
    line = l;
    front = ap (λ i. i ∷ w) same ∙ ap (λ u. Sound l ∷ u) (sym f);
    free = free;
    holds = h;
  }
