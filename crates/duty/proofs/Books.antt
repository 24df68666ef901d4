-- The rules of a book one after the other.
use Rattle.std.proofs.Common.{◌≡◌, ℕ, zero, suc, ◌+◌, ◌<◌, ◌≤◌, List, [], ◌∷◌, ◌++◌, length, get_or, take, drop, sym, refl, ap, ◌∙◌, subst, inl, inr, append_assoc, append-nil, arith, take_all, vec_items, Bor}
use lib.Seq.{take-append-le}
use Rattle.std.proofs.lemmas.List.{take_more}
use Rattle.feed.specs.declared.lines.Line.{Line}
use Rattle.book.specs.Rules as pure
use Rattle.book.specs.Sizes.{all_nodes, deepest, largest, WithinLimits}
use Rattle.book.specs.Trees.{pure_rule, pure_rules}
use Rattle.book.specs.declared.rules.Rule.{Rule}
use Rattle.duty.specs.Matching.{unbound}
use Rattle.duty.specs.Verdicts.{verdict, verdicts}
use Rattle.duty.specs.Sheet.{rule_sheet, book_sheet, Fits}
use Rattle.duty.specs.Final.{DecidedAt}
use Rattle.duty.specs.Groups.{group_size}
use Rattle.duty.specs.Open.{Left, met, missed, still, start, step, decide, entries}
use Rattle.duty.specs.Drafts.{Drafted, Adds}
use Rattle.duty.specs.Stepping.{outcome, StepsAt}
use Rattle.duty.specs.Places.{Placed}
use Rattle.duty.specs.Untouched.{Untouched}
use Rattle.duty.specs.Kinds.{CoversEach}
use Rattle.duty.specs.declared.kinds.Kinds.{Kinds}
use Rattle.duty.specs.Judging.{verdict_at, Judges, JudgedRules, JudgesAll}
use Rattle.duty.specs.declared.drafts.Draft.{Draft}
use Rattle.duty.specs.declared.entries.Entry.{Entry}
use Rattle.duty.specs.declared.judging.Judged.{Judged}
use Rattle.duty.specs.declared.outcomes.Outcome.{Outcome}
use Rattle.duty.specs.declared.places.Place.{Place}
use Rattle.duty.specs.declared.verdicts.Verdict.{Verdict}
use Rattle.duty.specs.declared.verdicts.Verdict.TheVariants.{Pending, Satisfied, Breached}
use Rattle.duty.proofs.FactsShown as facts
use Rattle.duty.proofs.Finals.{finality}
use Rattle.duty.proofs.Listed as listed
use Rattle.duty.proofs.Splits.{Shallow, group_splits, shallow_group}
use Rattle.duty.proofs.Runs.{V_run}
use Rattle.duty.proofs.Sheets.{sheet-after}
use Rattle.duty.proofs.StepsShown.{steps_right}
use Rattle.duty.proofs.Unchanged.{verdict-same, sheet-same}
use Rattle.duty.proofs.Written.{adds_none, adds_then, adds_as}

-- what comes next on the sheet begins at level 0
shallow_book : (rs : List pure.Rule) (log : List Line) → Shallow 0 (book_sheet rs log)
shallow_book [] log = tt
shallow_book (r ∷ rs) log = go (verdict r log) refl (shallow_book rs log)
  where
    none : (verdict r log ≡ Pending → ⊥) → Shallow 0 (book_sheet rs log) → Shallow 0 (rule_sheet r log ++ book_sheet rs log)
    none h s = subst (λ es. Shallow 0 (es ++ book_sheet rs log)) (sym (facts.decided r log h)) s

    go : (v : Verdict) → verdict r log ≡ v → Shallow 0 (book_sheet rs log) → Shallow 0 (rule_sheet r log ++ book_sheet rs log)
    go Pending e s = shallow_group 0 (rule_sheet r log) (book_sheet rs log) (facts.pending r log e)
    go (Satisfied j) e s = none (λ p. cc) s
    go (Breached j) e s = none (λ p. cc) s

decide_at : {A : Type 0} (i : ℕ) (x : Left A) → verdict_at (outcome x) i ≡ decide i x (λ o. Pending)
decide_at i met = refl
decide_at i missed = refl
decide_at i (still o) = refl

abbrev pub whole : Place
whole = record { node = 1; level = 0; budget = 8 }

pub pending-judged : (r : pure.Rule) (l : Line) (i : ℕ) (es group : List Entry) (rest : Bor (List Entry)) (v w : Verdict) (a : Outcome) (d d' : Draft) → group ≡ take (group_size es) es → rest.now ≡ drop (group_size es) es → StepsAt r whole group l d a d' → w ≡ verdict_at a i → v ≡ Pending → Judges r v es l i d (record { verdict = w; rest = rest }) d'
pending-judged r l i es group rest v w a d d' front back h told is log rs num now-is have =
    let s = steps_right r unbound log (sym now-is ∙ is) in
    let o = s.left_open in
    let t = group_splits 0 es (entries r 1 0 o) (book_sheet rs log) (have ∙ ap (λ x. x ++ book_sheet rs log) (s.listed 1 0)) (listed.group r 1 0 o) (shallow_book rs log) in
    let came = h 0 o (front ∙ t.front) in
    record {
      verdict_is = told ∙ (ap (λ x. verdict_at x i) came.answer ∙ (decide_at i (step r o l) ∙ (ap (λ k. decide k (step r o l) (λ o. Pending)) (sym num) ∙ sym (s.verdict l))));
      written = adds_as d d' _ _ (sym (s.sheets l 1 0)) came.written;
      ahead = back ∙ t.back;
    }

-- a pending rule that the line leaves untouched
pub untouched_judged : (r : pure.Rule) (l : Line) (i : ℕ) (es group : List Entry) (rest : Bor (List Entry)) (v : Verdict) (d d' : Draft) → group ≡ take (group_size es) es → rest.now ≡ drop (group_size es) es → Adds d d' group → Untouched r l → v ≡ Pending → Judges r v es l i d (record { verdict = v; rest = rest }) d'
untouched_judged r l i es group rest v d d' front back w h is log rs num now-is have =
    let s = steps_right r unbound log (sym now-is ∙ is) in
    let o = s.left_open in
    let t = group_splits 0 es (entries r 1 0 o) (book_sheet rs log) (have ∙ ap (λ x. x ++ book_sheet rs log) (s.listed 1 0)) (listed.group r 1 0 o) (shallow_book rs log) in
    record {
      verdict_is = now-is ∙ sym (verdict-same r l h unbound 1 log);
      written = adds_as d d' _ _ (front ∙ (t.front ∙ (sym (s.listed 1 0) ∙ sym (sheet-same r l h 1 0 unbound 1 log)))) w;
      ahead = back ∙ t.back;
    }

stays : (r : pure.Rule) (log : List Line) (l : Line) (j : ℕ) → DecidedAt (verdict r log) j → verdict r (log ++ (l ∷ [])) ≡ verdict r log
stays r log l j h = let f = finality r unbound log j h in f.stays (log ++ (l ∷ [])) (take-append-le j log (l ∷ []) f.within.1)

decided-stays : (r : pure.Rule) (log : List Line) (l : Line) → (verdict r log ≡ Pending → ⊥) → verdict r (log ++ (l ∷ [])) ≡ verdict r log
decided-stays r log l not = go (verdict r log) refl
  where
    go : (v : Verdict) → verdict r log ≡ v → verdict r (log ++ (l ∷ [])) ≡ verdict r log
    go Pending e = absurd (not e)
    go (Satisfied j) e = stays r log l j (inl e)
    go (Breached j) e = stays r log l j (inr e)

pub decided-judged : (r : pure.Rule) (l : Line) (i : ℕ) (es : Bor (List Entry)) (v : Verdict) (d : Draft) → (v ≡ Pending → ⊥) → Judges r v es.now l i d (record { verdict = v; rest = es }) d
decided-judged r l i es v d not log rs num now-is have =
    let was : verdict r log ≡ Pending → ⊥ = λ e. not (now-is ∙ e) in
    let same = decided-stays r log l was in
    let none : rule_sheet r (log ++ (l ∷ [])) ≡ [] = facts.decided r (log ++ (l ∷ [])) (λ e. was (sym same ∙ e)) in
    record {
      verdict_is = now-is ∙ sym same;
      written = adds_as d d _ _ (sym none) (adds_none d);
      ahead = have ∙ ap (λ x. x ++ book_sheet rs log) (facts.decided r log was);
    }

-- one rule more
sheet-more : (rs : List Rule) (r : Rule) (log : List Line) → book_sheet (pure_rules rs) log ++ rule_sheet (pure_rule r) log ≡ book_sheet (pure_rules (rs ++ (r ∷ []))) log
sheet-more [] r log = sym (append-nil (rule_sheet (pure_rule r) log))
sheet-more (q ∷ rs) r log = append_assoc (rule_sheet (pure_rule q) log) (book_sheet (pure_rules rs) log) (rule_sheet (pure_rule r) log) ∙ ap (λ x. rule_sheet (pure_rule q) log ++ x) (sheet-more rs r log)

verdicts-more : (rs : List Rule) (r : Rule) (log : List Line) → verdicts (pure_rules rs) log ++ (verdict (pure_rule r) log ∷ []) ≡ verdicts (pure_rules (rs ++ (r ∷ []))) log
verdicts-more [] r log = refl
verdicts-more (q ∷ rs) r log = ap (λ x. verdict (pure_rule q) log ∷ x) (verdicts-more rs r log)

-- a rule, and then those after it
judges_rest : (r : Rule) (rs : List Rule) (v : Verdict) (olds : List Verdict) (es rest : List Entry) (l : Line) (num : ℕ) (vs vs' vs'' : List Verdict) (d d' d'' : Draft) (j : Judged) → Judges (pure_rule r) v es l num d j d' → rest ≡ j.rest.now → vs' ≡ vs ++ (j.verdict ∷ []) → JudgesAll (pure_rules rs) olds rest l num vs' d' vs'' d'' → JudgesAll (pure_rules (r ∷ rs)) (v ∷ olds) es l num vs d vs'' d''
judges_rest r rs v olds es rest l num vs vs' vs'' d d' d'' j judges left push all log n o e =
    let longer = log ++ (l ∷ []) in
    let old : v ≡ verdict (pure_rule r) log = cc in
    let others : olds ≡ verdicts (pure_rules rs) log = cc in
    let t = judges log (pure_rules rs) n old e in
    let g = all log n others (left ∙ t.ahead) in
    record {
      judged = g.judged ∙ (ap (λ x. x ++ verdicts (pure_rules rs) longer) push ∙ (append_assoc vs (j.verdict ∷ []) (verdicts (pure_rules rs) longer) ∙ ap (λ x. vs ++ (x ∷ verdicts (pure_rules rs) longer)) t.verdict_is));
      written = adds_then d d' d'' _ _ t.written g.written;
    }

pub judges_more : (all rs : List Rule) (r : Rule) (olds others : List Verdict) (v : Verdict) (es rest : List Entry) (l : Line) (num : ℕ) (vs vs' vs'' : List Verdict) (d d' d'' : Draft) (j : Judged) → all ≡ r ∷ rs → olds ≡ v ∷ others → Judges (pure_rule r) v es l num d j d' → rest ≡ j.rest.now → vs' ≡ vs ++ (j.verdict ∷ []) → JudgesAll (pure_rules rs) others rest l num vs' d' vs'' d'' → JudgesAll (pure_rules all) olds es l num vs d vs'' d''
judges_more all rs r olds others v es rest l num vs vs' vs'' d d' d'' j held old judges left push h =
    subst (λ x. JudgesAll (pure_rules x) olds es l num vs d vs'' d'') (sym held)
    (subst (λ x. JudgesAll (pure_rules (r ∷ rs)) x es l num vs d vs'' d'') (sym old) (judges_rest r rs v others es rest l num vs vs' vs'' d d' d'' j judges left push h))

-- the rules after the first keep the limits too
pub within_rest : (all rs : List Rule) (r : Rule) → all ≡ r ∷ rs → WithinLimits (pure_rules all) → WithinLimits (pure_rules rs)
within_rest all rs r held w =
    let h = subst (λ x. WithinLimits (pure_rules x)) held w in
    record { count = omega (arith, h.count); size = omega (arith, h.size); nesting = omega (arith, h.nesting); numbers = omega (arith, h.numbers) }

pub covers_rest : (all rs : List Rule) (r : Rule) (kss others : List Kinds) (ks : Kinds) → all ≡ r ∷ rs → kss ≡ ks ∷ others → CoversEach kss (pure_rules all) → CoversEach others (pure_rules rs)
covers_rest all rs r kss others ks held is c =
    let h = subst (λ x. CoversEach x (pure_rules (r ∷ rs))) is (subst (λ x. CoversEach kss (pure_rules x)) held c) in
    h.1

pub judges_none : (olds : List Verdict) (es : List Entry) (l : Line) (num : ℕ) (vs : List Verdict) (d : Draft) → JudgesAll [] olds es l num vs d vs d
judges_none olds es l num vs d log n o e = record { judged = sym (append-nil vs); written = adds_none d }

-- before any line
start-verdict : (r : pure.Rule) → verdict r [] ≡ Pending
start-verdict r = V_run r unbound 1 []

pub opens_on : (rs : List Rule) (i : ℕ) (vs vs' vs'' : List Verdict) (d d' d'' : Draft) (r : Rule) → i < length rs → r ≡ get_or rs i r → JudgedRules (pure_rules (take i rs)) [] vs vs' d d' → Adds d' d'' (entries (pure_rule r) 1 0 (start (pure_rule r) unbound)) → vs'' ≡ vs' ++ (Pending ∷ []) → JudgedRules (pure_rules (take (i + 1) rs)) [] vs vs'' d d''
opens_on rs i vs vs' vs'' d d' d'' r lt is g a push =
    let more : take (i + 1) rs ≡ take i rs ++ (r ∷ []) = take_more rs i r lt ∙ ap (λ x. take i rs ++ (x ∷ [])) (sym is) in
    record {
      judged =
          push ∙ ((λ k. g.judged k ++ (sym (start-verdict (pure_rule r)) k ∷ [])) ∙ (append_assoc vs (verdicts (pure_rules (take i rs)) []) (verdict (pure_rule r) [] ∷ [])
          ∙ ap (λ x. vs ++ x) (verdicts-more (take i rs) r [] ∙ ap (λ x. verdicts (pure_rules x) []) (sym more))));
      written =
          adds_as d d'' _ _ (ap (λ x. book_sheet (pure_rules (take i rs)) [] ++ x) (sym (sheet-after (pure_rule r) 1 0 unbound 1 [])) ∙ (sheet-more (take i rs) r [] ∙ ap (λ x. book_sheet (pure_rules x) []) (sym more)))
          (adds_then d d' d'' _ _ g.written a);
    }

pub opens_end : (rs : List Rule) (i : ℕ) (vs vs' : List Verdict) (d d' : Draft) → length rs ≤ i → JudgedRules (pure_rules (take i rs)) [] vs vs' d d' → JudgedRules (pure_rules rs) [] vs vs' d d'
opens_end rs i vs vs' d d' le g = subst (λ x. JudgedRules (pure_rules x) [] vs vs' d d') (take_all i rs le) g

pub opens_start : (vs : List Verdict) (d : Draft) → JudgedRules [] [] vs vs d d
opens_start vs d = record { judged = sym (append-nil vs); written = adds_none d }

pub placed_at : (rs : List Rule) (i : ℕ) (r : Rule) → i < length rs → r ≡ get_or rs i r → WithinLimits (pure_rules rs) → Placed whole (pure_rule r)
placed_at rs i r lt is w = subst (λ x. Placed whole (pure_rule x)) (sym is) (go rs i lt w.size w.nesting w.numbers)
  where
    go : (rs : List Rule) (i : ℕ) → i < length rs → all_nodes (pure_rules rs) ≤ 64 → deepest (pure_rules rs) ≤ 8 → largest (pure_rules rs) ≤ 9999999 → Placed whole (pure_rule (get_or rs i r))
    go [] i lt a b c = absurd (omega arith)
    go (q ∷ rs) zero lt a b c = record { deep = omega arith; levels = omega arith; numbered = omega arith; limited = omega arith }
    go (q ∷ rs) (suc i) lt a b c = go rs i (omega arith) (omega arith) (omega arith) (omega arith)

-- the sheet before any line, none of whose entries is left out
pub record Whole (d : Draft) (rs : List pure.Rule) : Type 0 where
  pub listed : vec_items d.entries ≡ book_sheet rs []
  pub fits : Fits (vec_items d.entries)

pub opens_whole : (rs : List pure.Rule) (vs vs' : List Verdict) (d d' : Draft) → all_nodes rs ≤ 64 → JudgedRules rs [] vs vs' d d' → Drafted d [] → Whole d' rs
opens_whole rs vs vs' d d' size all none =
    let few : length (book_sheet rs []) ≤ 64 = facts.sheet_facts.fits rs size in
    let listed : vec_items d'.entries ≡ book_sheet rs [] = all.written [] none ∙ take_all 257 (book_sheet rs []) (omega arith) in
    record { listed = listed; fits = omega (arith, ap length listed) }
