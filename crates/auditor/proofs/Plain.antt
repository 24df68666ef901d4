-- The account of a take in words.
use Rattle.std.proofs.Common.{◌≡◌, ℕ, zero, suc, ◌<◌, ◌≤◌, Bool, true, false, cond, eqb, leb, List, [], ◌∷◌, ◌++◌, map, length, take, drop, Some, None, Option, sym, refl, ap, ◌∙◌, subst, append_assoc, append-nil, arith, length-take, take_all, eqb-true}
use borrow.Author.Tests.{eqb-false}
use lib.Seq.{take-append-le}
use Rattle.std.specs.Option.{option_map}
use Rattle.feed.specs.declared.faults.Item.{Item}
use Rattle.feed.specs.declared.faults.Item.TheVariants.{Sound, Faulty}
use Rattle.feed.specs.declared.lines.Line.{Line}
use Rattle.book.specs.Rules.{Rule}
use Rattle.auditor.specs.Account.{count_in, refusal, stop_at, unless, acceptable, Drawn, drawing, takes, Takes, TakeLaw}
use Rattle.auditor.specs.declared.answers.Refusal.{Refusal}
use Rattle.auditor.specs.declared.answers.Refusal.TheVariants as IsRefused-as
use Rattle.auditor.specs.declared.answers.Refusal.TheVariants.{LogFull, Count}
use Rattle.auditor.specs.declared.answers.Stop.{Stop}
use Rattle.auditor.specs.declared.answers.Stop.TheVariants.{Dry, Refused}
use Rattle.auditor.proofs.Accounts.{none_more, one_more, left_is, drawn-done, drawn-stopped, granted}

not_refused : (o : Option Refusal) → option_map Refused o ≡ None → o ≡ None
not_refused None e = refl
not_refused (Some x) e = let z : ◌≡◌ {A = ℕ} 0 1 = cc in absurd (omega arith)

either_way : (b : Bool) (x y : Refusal) → (s : Stop) × (option_map Refused (cond b (Some x) (Some y)) ≡ Some s)
either_way true x y = (Refused x, refl)
either_way false x y = (Refused y, refl)

module _ (rs : List Rule) where
  -- the lines ls go one after the other from the front of w to the log, and left waits then
  data Walk : List Line → List Item → List Line → List Item → Type 0 where
    still : {log : List Line} {w : List Item} → Walk log w [] w
    onward : {log : List Line} {w : List Item} {l : Line} {ls : List Line} {left : List Item} → refusal rs log (Sound l) ≡ None → Walk (log ++ (l ∷ [])) w ls left → Walk log (Sound l ∷ w) (l ∷ ls) left

  walk_front : {log : List Line} {w : List Item} {ls : List Line} {left : List Item} → Walk log w ls left → w ≡ map Sound ls ++ left
  walk_front still = refl
  walk_front (onward {l = l} e k) = ap (λ v. Sound l ∷ v) (walk_front k)

  walk_each : {log : List Line} {w : List Item} {ls : List Line} {left : List Item} → Walk log w ls left → (n : ℕ) → n < length ls → stop_at rs (log ++ take n ls) (drop n w) ≡ None
  walk_each still n lt = absurd (omega arith)
  walk_each (onward {log} {w} {l} {ls} e k) zero lt = ap (λ x. option_map Refused (refusal rs x (Sound l))) (append-nil log) ∙ ap (option_map Refused) e
  walk_each (onward {log} {w} {l} {ls} e k) (suc n) lt = ap (λ x. stop_at rs x (drop n w)) (sym (append_assoc log (l ∷ []) (take n ls))) ∙ walk_each k n (omega arith)

  -- what is acceptable then is the rest of what was
  walk_same : {log : List Line} {w : List Item} {ls : List Line} {left : List Item} → Walk log w ls left → acceptable rs log w ≡ ls ++ acceptable rs (log ++ ls) left
  walk_same (still {log} {w}) = ap (λ x. acceptable rs x w) (sym (append-nil log))
  walk_same (onward {log} {w} {l} {ls} {left} e k) =
      one_more rs log l w e ∙ ap (λ x. l ∷ x) (walk_same k ∙ ap (λ x. ls ++ acceptable rs x left) (append_assoc log (l ∷ []) ls))

  -- a take of c walks along the acceptable beginning
  module _ (c : ℕ) (log : List Line) (w : List Item) where
    abbrev Walks : List Line → Type 0
    Walks ls = Walk log w ls (drop (length ls) w)

    abbrev Ends : List Line → Type 0
    Ends ls = length ls < c → (s : Stop) × (stop_at rs (log ++ ls) (drop (length ls) w) ≡ Some s)

  walks_none : (c : ℕ) (log : List Line) (w : List Item) → Walks c log w (take c [])
  walks_none zero log w = still
  walks_none (suc c) log w = still

  walks_on : (c : ℕ) (log : List Line) (l : Line) (w : List Item) (ls : List Line) (o : Option Refusal) → refusal rs log (Sound l) ≡ o → ((b : ℕ) → Walks b (log ++ (l ∷ [])) w (take b ls)) → Walks c log (Sound l ∷ w) (take c (unless o (l ∷ ls)))
  walks_on c log l w ls (Some x) e k = walks_none c log (Sound l ∷ w)
  walks_on zero log l w ls None e k = still
  walks_on (suc c) log l w ls None e k = onward e (k c)

  walks : (w : List Item) (c : ℕ) (log : List Line) → Walks c log w (take c (acceptable rs log w))
  unfolding acceptable
  walks [] c log = walks_none c log []
  walks (Faulty x ∷ w) c log = walks_none c log (Faulty x ∷ w)
  walks (Sound l ∷ w) c log =
      walks_on c log l w (acceptable rs (log ++ (l ∷ [])) w) (refusal rs log (Sound l)) refl (λ b. walks w b (log ++ (l ∷ [])))

  ends_none : (c : ℕ) (log : List Line) (w : List Item) (s : Stop) → stop_at rs log w ≡ Some s → Ends c log w (take c [])
  ends_none zero log w s e lt = absurd (omega arith)
  ends_none (suc c) log w s e lt = (s, ap (λ x. stop_at rs x w) (append-nil log) ∙ e)

  refused : (log : List Line) (x : Item) (w : List Item) (y : Refusal) → refusal rs log x ≡ Some y → stop_at rs log (x ∷ w) ≡ Some (Refused y)
  refused log x w y e = ap (option_map Refused) e

  ends_on : (c : ℕ) (log : List Line) (l : Line) (w : List Item) (ls : List Line) (o : Option Refusal) → refusal rs log (Sound l) ≡ o → ((b : ℕ) → Ends b (log ++ (l ∷ [])) w (take b ls)) → Ends c log (Sound l ∷ w) (take c (unless o (l ∷ ls)))
  ends_on c log l w ls (Some x) e k = ends_none c log (Sound l ∷ w) (Refused x) (refused log (Sound l) w x e)
  ends_on zero log l w ls None e k = λ lt. absurd (omega arith)
  ends_on (suc c) log l w ls None e k = λ lt.
      let f = k c (omega arith) in
      (f.0, ap (λ x. stop_at rs x (drop (length (take c ls)) w)) (sym (append_assoc log (l ∷ []) (take c ls))) ∙ f.1)

  ends : (w : List Item) (c : ℕ) (log : List Line) → Ends c log w (take c (acceptable rs log w))
  unfolding acceptable
  ends [] c log = ends_none c log [] Dry refl
  ends (Faulty x ∷ w) c log =
      let f = either_way (leb 1000000 (length log)) LogFull (IsRefused-as.Faulty x) in ends_none c log (Faulty x ∷ w) f.0 f.1
  ends (Sound l ∷ w) c log =
      ends_on c log l w (acceptable rs (log ++ (l ∷ [])) w) (refusal rs log (Sound l)) refl (λ b. ends w b (log ++ (l ∷ [])))

  goes : (c : ℕ) (log : List Line) (w : List Item) → Takes rs c log w (drawing rs c log w (take c (acceptable rs log w)))
  goes c log w =
      let ls = take c (acceptable rs log w) in
      let k = walks w c log in
      let front = walk_front k in
      record {
        front = front;
        few = simp length-take (omega arith);
        each = walk_each k;
        done = drawn-done rs c log w ls (drop (length ls) w) front;
        stopped = λ lt. let e = ends w c log lt in e.1 ∙ ap Some (sym (drawn-stopped rs c log w ls (drop (length ls) w) front e.0 lt e.1));
      }

  -- what is told in words is such a walk
  told : (ls : List Line) (log : List Line) (w left : List Item) → w ≡ map Sound ls ++ left → ((n : ℕ) → n < length ls → stop_at rs (log ++ take n ls) (drop n w) ≡ None) → Walk log w ls left
  told [] log w left front each = subst (λ v. Walk log v [] left) (sym front) still
  told (l ∷ ls) log w left front each =
      let w' = map Sound ls ++ left in
      let each' : (n : ℕ) → n < length (l ∷ ls) → stop_at rs (log ++ take n (l ∷ ls)) (drop n (Sound l ∷ w')) ≡ None = subst (λ v. (n : ℕ) → n < length (l ∷ ls) → stop_at rs (log ++ take n (l ∷ ls)) (drop n v) ≡ None) front each in
      let free = not_refused (refusal rs log (Sound l)) (ap (λ x. option_map Refused (refusal rs x (Sound l))) (sym (append-nil log)) ∙ each' 0 (omega arith)) in
      subst (λ v. Walk log v (l ∷ ls) left) (sym front)
      (onward free (told ls (log ++ (l ∷ [])) w' left refl (λ n lt. ap (λ x. stop_at rs x (drop n w')) (append_assoc log (l ∷ []) (take n ls)) ∙ each' (suc n) (omega arith))))

  module _ (c : ℕ) (log : List Line) (w : List Item) (d : Drawn) (t : Takes rs c log w d) where
    same : acceptable rs log w ≡ d.lines ++ acceptable rs (log ++ d.lines) d.left
    same = walk_same (told d.lines log w d.left t.front t.each)

    joined : take c (acceptable rs log w) ≡ d.lines → d.stop ≡ (drawing rs c log w d.lines).stop → d ≡ drawing rs c log w (take c (acceptable rs log w))
    joined all e =
        let here : d ≡ drawing rs c log w d.lines = λ i. record { lines = d.lines; stop = e i; left = sym (left_is rs c log w d.lines d.left t.front) i } in
        here ∙ ap (drawing rs c log w) (sym all)

    one_way_by : (b : Bool) → eqb (length d.lines) c ≡ b → d ≡ drawing rs c log w (take c (acceptable rs log w))
    one_way_by true e =
        let long = eqb-true (length d.lines) c e in
        let le : c ≤ length d.lines = omega arith in
        joined (ap (take c) same ∙ take-append-le c d.lines (acceptable rs (log ++ d.lines) d.left) le ∙ take_all c d.lines t.few)
        (t.done long ∙ sym (drawn-done rs c log w d.lines d.left t.front long))
    one_way_by false e =
        let apart = eqb-false (length d.lines) c e in
        let few = t.few in
        let lt : length d.lines < c = omega arith in
        let stop = t.stopped lt in
        let none = none_more rs (log ++ d.lines) d.left d.stop stop in
        joined (ap (take c) (same ∙ ap (λ l. d.lines ++ l) none ∙ append-nil d.lines) ∙ take_all c d.lines few)
        (sym (drawn-stopped rs c log w d.lines d.left t.front d.stop lt stop))

pub take_law : TakeLaw
take_law = record {
  goes = λ rs c log w lo hi. subst (Takes rs c log w) (sym (granted rs c log w lo hi)) (goes rs c log w);
  one_way = λ rs c log w d lo hi t. one_way_by rs c log w d t (eqb (length d.lines) c) refl ∙ sym (granted rs c log w lo hi);
}

-- what a take leaves is what it found, behind the lines that it took
pub take-front : (rs : List Rule) (c : ℕ) (log : List Line) (w : List Item) → w ≡ map Sound (takes rs c log w).lines ++ (takes rs c log w).left
take-front rs c log w = fronted (count_in c)
  where
    fronted : (b : Bool) → let d = cond b (drawing rs c log w (take c (acceptable rs log w))) (record { lines = []; stop = Refused Count; left = w }) in w ≡ map Sound d.lines ++ d.left
    fronted true = (goes rs c log w).front
    fronted false = refl
