-- The longest acceptable beginning, and the account of a take.
use Rattle.std.proofs.Common.{◌≡◌, ℕ, ◌<◌, ◌≤◌, List, [], ◌∷◌, ◌++◌, map, length, take, drop, Some, None, Option, unwrap_or, refl, ap, ◌∙◌, arith, eq-eqb, ne_eqb, le-leb}
use Rattle.std.specs.Option.{option_map}
use Rattle.feed.specs.declared.faults.Item.{Item}
use Rattle.feed.specs.declared.faults.Item.TheVariants as item
use Rattle.feed.specs.declared.lines.Line.{Line}
use Rattle.book.specs.Rules.{Rule}
use Rattle.auditor.specs.Account.{refusal, stop_at, unless, acceptable, drawing, takes}
use Rattle.auditor.specs.declared.answers.Refusal.{Refusal}
use Rattle.auditor.specs.declared.answers.Stop.{Stop}
use Rattle.auditor.specs.declared.answers.Stop.TheVariants.{Done, Refused}

stops : (o : Option Refusal) (s : Stop) (ls : List Line) → option_map Refused o ≡ Some s → unless o ls ≡ []
stops None s ls e = let z : ◌≡◌ {A = ℕ} 0 1 = cc in absurd (omega arith)
stops (Some x) s ls e = refl

-- nothing is acceptable where a take stops
pub none_more : (rs : List Rule) (log : List Line) (w : List Item) (s : Stop) → stop_at rs log w ≡ Some s → acceptable rs log w ≡ []
unfolding acceptable
none_more rs log [] s e = refl
none_more rs log (item.Faulty x ∷ w) s e = refl
none_more rs log (item.Sound l ∷ w) s e = stops (refusal rs log (item.Sound l)) s (l ∷ acceptable rs (log ++ (l ∷ [])) w) e

pub one_more : (rs : List Rule) (log : List Line) (l : Line) (w : List Item) → refusal rs log (item.Sound l) ≡ None → acceptable rs log (item.Sound l ∷ w) ≡ l ∷ acceptable rs (log ++ (l ∷ [])) w
unfolding acceptable
one_more rs log l w e = ap (λ o. unless o (l ∷ acceptable rs (log ++ (l ∷ [])) w)) e

drop-lines : (ls : List Line) (w : List Item) → drop (length ls) (map item.Sound ls ++ w) ≡ w
drop-lines [] w = refl
drop-lines (l ∷ ls) w = drop-lines ls w

-- how a take goes that took these lines and came to w': it is done, or it stops there
module _ (rs : List Rule) (c : ℕ) (log : List Line) (w : List Item) (ls : List Line) (w' : List Item) (front : w ≡ map item.Sound ls ++ w') where
  pub left_is : drop (length ls) w ≡ w'
  left_is = ap (drop (length ls)) front ∙ drop-lines ls w'

  pub drawn-done : length ls ≡ c → (drawing rs c log w ls).stop ≡ Done
  drawn-done e = rw (eq-eqb (length ls) c e)

  pub drawn-stopped : (s : Stop) → length ls < c → stop_at rs (log ++ ls) w' ≡ Some s → (drawing rs c log w ls).stop ≡ s
  drawn-stopped s lt e =
      let z = ne_eqb (length ls) c (λ q. omega arith) in
      rw z (ap (λ v. unwrap_or (stop_at rs (log ++ ls) v) Done) left_is ∙ ap (λ o. unwrap_or o Done) e)

pub granted : (rs : List Rule) (c : ℕ) (log : List Line) (w : List Item) → 1 ≤ c → c ≤ 4096 → takes rs c log w ≡ drawing rs c log w (take c (acceptable rs log w))
granted rs c log w lo hi = rw (le-leb 1 c lo, le-leb c 4096 hi)
