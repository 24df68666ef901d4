-- What a turn keeps of the accounts of all turns.
use Rattle.std.proofs.Common.{◌≡◌, ℕ, zero, suc, ◌+◌, ◌<◌, List, [], ◌∷◌, ◌++◌, map, length, get_or, take, drop, set, sym, refl, ap, ◌∙◌, subst, append_assoc, add-one, arith, drop-cons, take-suc-set, drop-set-lt}
use Rattle.feed.specs.declared.faults.Item.{Item}
use Rattle.auditor.proofs.Shown.{shows_verdicts, shows_sheets}
use Rattle.runs.specs.Calls.{Account}
use Rattle.runs.specs.Making.{Seat, Agrees, BothAgree, SideMade, NotedTurn, told_turns}
use Rattle.runs.specs.Turns.{Called, called, said, Both, after_turn, after_turns, accounted, shown_by, Moment, moment, moments}
use Rattle.runs.specs.declared.calls.Turn.{Turn}

-- what is seen of an auditor that agrees with the account
seen_as_lem : (s : Account) (p : Seat) → Agrees s p → shown_by p.auditor p.lists ≡ accounted s
seen_as_lem s p h =
    λ j. record { verdicts = shows_verdicts s.book s.log p.auditor h.holds j; sheet = shows_sheets s.book s.log p.auditor h.holds j; lists = h.lists j }

pub noted : (b : Both) (t t' : Turn) (p q : Seat) (ws vs : List (List Item)) (saw saw' : List Moment → Type 0) → SideMade b t t' p q → ((ms : List Moment) → saw ms → saw' (ms ++ (moment t'.side (shown_by p.auditor p.lists) (shown_by q.auditor q.lists) ∷ []))) → ws ≡ p.lists → vs ≡ q.lists → NotedTurn b t t' (record { auditor = p.auditor; lists = ws }) (record { auditor = q.auditor; lists = vs }) saw saw'
noted b t t' p q ws vs saw saw' made seen e f =
    let b' = after_turn b t in
    let whose = ap (λ (c : Called). c.side) made.kept in
    let is : moment t'.side (shown_by p.auditor p.lists) (shown_by q.auditor q.lists) ≡ moment t.side (accounted b'.first) (accounted b'.second) = λ j. moment (whose j) (seen_as_lem b'.first p made.agree.first j) (seen_as_lem b'.second q made.agree.second j) in
    record {
      made = record {
        kept = made.kept;
        told = made.told;
        agree = record {
          first = record { holds = made.agree.first.holds; lists = e ∙ made.agree.first.lists };
          second = record { holds = made.agree.second.holds; lists = f ∙ made.agree.second.lists };
        };
      };
      seen = λ ms g. subst (λ m. saw' (ms ++ (m ∷ []))) is (seen ms g);
    }

-- an observer that may have been shown ms when the accounts stood at b with the turns ts to come
pub record Showing (b : Both) (ts : List Turn) (ms : List Moment) (b' : Both) (ts' : List Turn) (saw : List Moment → Type 0) : Type 0 where
  pub so_far : List Moment
  pub seen : saw so_far
  pub whole : ms ++ moments b ts ≡ so_far ++ moments b' ts'

-- after n of the turns ts, which are ts' now, the accounts stand at b'
pub record Turning (b : Both) (ts : List Turn) (n : ℕ) (ts' : List Turn) (p q : Seat) (saw saw' : List Moment → Type 0) : Type 0 where
  pub b' : Both
  pub agree : BothAgree b' p q
  pub kept : map called ts' ≡ map called ts
  pub end : after_turns b ts ≡ after_turns b' (drop n ts')
  pub told : told_turns b ts ≡ map said (take n ts') ++ told_turns b' (drop n ts')
  pub shown : (ms : List Moment) → saw ms → Showing b ts ms b' (drop n ts') saw'

map-append : {A B : Type 0} (f : A → B) (xs ys : List A) → map f (xs ++ ys) ≡ map f xs ++ map f ys
map-append f [] ys = refl
map-append f (x ∷ xs) ys = ap (λ l. f x ∷ l) (map-append f xs ys)

map-set : {A B : Type 0} (f : A → B) (xs : List A) (n : ℕ) (d y : A) → n < length xs → f y ≡ f (get_or xs n d) → map f (set xs n y) ≡ map f xs
map-set f [] n d y lt e = absurd (omega arith)
map-set f (x ∷ xs) zero d y lt e = ap (λ z. z ∷ map f xs) e
map-set f (x ∷ xs) (suc n) d y lt e = ap (λ l. f x ∷ l) (map-set f xs n d y (omega arith) e)

module _ (b : Both) (ts : List Turn) (saw : List Moment → Type 0) where
  module _ (n : ℕ) (ts' : List Turn) (p q : Seat) (saw' : List Moment → Type 0) (h : Turning b ts n ts' p q saw saw') where
    -- one more turn, which is t' now
    pub one_made : (d t' : Turn) (p' q' : Seat) (saw'' : List Moment → Type 0) → n < length ts' → NotedTurn h.b' (get_or ts' n d) t' p' q' saw' saw'' → Turning b ts (n + 1) (set ts' n t') p' q' saw saw''
    one_made d t' p' q' saw'' lt m =
        let t = get_or ts' n d in
        let front : take (n + 1) (set ts' n t') ≡ take n ts' ++ (t' ∷ []) = rw add-one (take-suc-set ts' n t' lt) in
        let here : drop n ts' ≡ t ∷ drop (n + 1) (set ts' n t') = rw add-one (drop-cons ts' n d lt ∙ ap (λ l. t ∷ l) (sym (drop-set-lt (suc n) ts' n t' (omega arith)))) in
        let b'' = after_turn h.b' t in
        let rest = drop (n + 1) (set ts' n t') in
        let now-seen = moment t.side (accounted b''.first) (accounted b''.second) in
        record {
          b' = b'';
          agree = m.made.agree;
          kept = map-set called ts' n d t' lt m.made.kept ∙ h.kept;
          end = h.end ∙ ap (after_turns h.b') here;
          told =
              h.told ∙ ap (λ l. map said (take n ts') ++ told_turns h.b' l) here
              ∙ ap (λ r. map said (take n ts') ++ (r ∷ told_turns b'' rest)) (sym m.made.told)
              ∙ sym (append_assoc (map said (take n ts')) (said t' ∷ []) _)
              ∙ ap (λ l. l ++ told_turns b'' rest) (sym (map-append said (take n ts') (t' ∷ [])) ∙ ap (map said) (sym front));
          shown = λ ms e.
              let sight = h.shown ms e in
              record {
                so_far = sight.so_far ++ (now-seen ∷ []);
                seen = m.seen sight.so_far sight.seen;
                whole =
                    sight.whole ∙ ap (λ l. sight.so_far ++ moments h.b' l) here
                    ∙ sym (append_assoc sight.so_far (now-seen ∷ []) _);
              };
        }
