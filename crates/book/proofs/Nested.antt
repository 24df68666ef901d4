-- How rules are made up of their parts.
use Rattle.std.proofs.Common.{◌≡◌, ℕ, false, List, [], ◌∷◌, ◌++◌, Err, sym, refl, ap, ◌∙◌, subst, append_assoc, append-nil}
use Rattle.book.specs.declared.openings.Opening.{Opening}
use Rattle.book.specs.declared.openings.Opening.TheVariants as opening
use Rattle.book.specs.declared.refusals.Reason.{Reason}
use Rattle.book.specs.declared.terms.BracketKind.{BracketKind}
use Rattle.book.specs.declared.terms.DutyKind.{DutyKind}
use Rattle.book.specs.declared.terms.DutyKind.TheVariants.{Must}
use Rattle.book.specs.declared.terms.TriggerKind.{TriggerKind}
use Rattle.book.specs.declared.terms.BracketKind.TheVariants as kinds
use Rattle.book.specs.declared.terminals.Terminal.{Terminal}
use Rattle.book.specs.declared.terminals.Terminal.TheVariants.{Duty, Before, Trigger, Until, Then, Joint, Open, Close}
use Rattle.book.specs.Rules.{Pattern, never, Rule, duty, trigger, bracket}
use Rattle.book.specs.Sets.{with_pattern}
use Rattle.book.specs.Grammar.{Item, mark, pattern_items, Spot, deeper, later, rule_items, tokens_of}
use Rattle.book.specs.Sizes.{nodes as size}
use Rattle.book.specs.Text.{Lexeme}
use Rattle.book.specs.Nodes.{opening_terminal, opening_items}
use Rattle.book.specs.declared.refusals.Refusal.{Refusal}
use Rattle.book.specs.declared.rules.Rule as held
use Rattle.book.specs.Trees.{pure_rule}
use Rattle.book.specs.Readers.{is_end, ToldBy}
use Rattle.book.specs.Reading.{any, Reads, Fails}
use Rattle.book.proofs.Compose.{closed, flat, within}
use Rattle.book.proofs.Codes.{pattern_code, rule_code}

pub opening-goes : (o : Opening) → is_end (opening_terminal o) ≡ false
opening-goes (opening.Duty k) = refl
opening-goes (opening.Trigger k) = refl
opening-goes opening.Bracket = refl

-- a part of trees that all show their own end
pub inside : (X Y : Type 0) (P : X → List Item) (Q : Y → List Item) (a : List Item) (whole : X → Y) (z : X → List Item)
    → ((x : X) → Q (whole x) ≡ a ++ (P x ++ z x))
    → ((y : Y) (u v : List Terminal) → tokens_of (Q y) ++ u ≡ tokens_of a ++ v → (x : X) × (w : List Terminal) × (v ≡ tokens_of (P x) ++ w))
    → (from mid : List Lexeme) (r : Reason) (p : ℕ) → Reads from a mid → Fails X P (any X) mid r p → Fails Y Q (any Y) from r p
inside X Y P Q a whole z eq inv from mid r p d f =
    within X Y P (any X) Q (any Y) a whole z eq (λ y u v _ q. let i = inv y u v q in (i.0, i.1, closed i.0 i.1, i.2)) from mid r p d f

abbrev pub some : Rule
some = duty Must never never

-- grouped otherwise
pub eq_mid : (P : List Item) (x : Item) (Q Z : List Item) → P ++ (x ∷ (Q ++ Z)) ≡ (P ++ (x ∷ [])) ++ (Q ++ Z)
eq_mid P x Q Z = sym (append_assoc P (x ∷ []) (Q ++ Z))

pub eq_last : (P : List Item) (x : Item) (Q : List Item) → P ++ (x ∷ Q) ≡ (P ++ (x ∷ [])) ++ (Q ++ [])
eq_last P x Q = ap (λ l. P ++ (x ∷ l)) (sym (append-nil Q)) ∙ eq_mid P x Q []

-- the first token
pub inv_opening : (s : Spot) (y : Rule) (u v : List Terminal) → tokens_of (rule_items s y) ++ u ≡ v → (x : Opening) × (w : List Terminal) × (v ≡ opening_terminal x ∷ w)
inv_opening s (duty k p q) u v e = (opening.Duty k, _, sym e)
inv_opening s (trigger k p q r) u v e = (opening.Trigger k, _, sym e)
inv_opening s (bracket k r t) u v e = (opening.Bracket, _, sym e)

-- some rule that begins so, and how it goes on
abbrev pub begun : Opening → Rule
begun (opening.Duty k) = duty k never never
begun (opening.Trigger k) = trigger k never never some
begun opening.Bracket = bracket kinds.Else some some

abbrev pub begun_rest : Spot → Opening → List Item
begun_rest s (opening.Duty k) = pattern_items s.bound never ++ (mark Before ∷ pattern_items s.bound never)
begun_rest s (opening.Trigger k) = pattern_items s.bound never ++ (mark Until ∷ (pattern_items s.bound never ++ (mark Then ∷ rule_items (deeper s s.bound) some)))
begun_rest s opening.Bracket = rule_items (deeper s s.bound) some ++ (mark (Joint kinds.Else) ∷ (rule_items (later (deeper s s.bound) 1) some ++ (mark Close ∷ [])))

pub begins : (s : Spot) (o : Opening) → rule_items s (begun o) ≡ opening_items s.rule s.nodes s.around o ++ begun_rest s o
begins s (opening.Duty k) = refl
begins s (opening.Trigger k) = refl
begins s opening.Bracket = refl

-- `must` and `mustnot`
duty_view : (s : Spot) (k : DutyKind) (y : Rule) (u v : List Terminal) → tokens_of (rule_items s y) ++ u ≡ Duty k ∷ v → (p : Pattern) × (q : Pattern) × (v ≡ tokens_of (pattern_items s.bound p) ++ Before ∷ (tokens_of (pattern_items s.bound q) ++ u))
duty_view s k (duty k' p q) u v e =
    let P = pattern_items s.bound p in
    let Q = pattern_items s.bound q in
    let h : tokens_of (P ++ (mark Before ∷ Q)) ++ u ≡ v = cc in
    (p, q, sym h ∙ flat P (mark Before) Q u)
duty_view s k (trigger k' p q r) u v e = absurd (cc)
duty_view s k (bracket k' r t) u v e = absurd (cc)

pub inv_act : (s : Spot) (k : DutyKind) (y : Rule) (u v : List Terminal) → tokens_of (rule_items s y) ++ u ≡ Duty k ∷ v → (x : Pattern) × (w : List Terminal) × (v ≡ tokens_of (pattern_items s.bound x) ++ w)
inv_act s k y u v e = let d = duty_view s k y u v e in (d.0, _, d.2)

pub inv_before : (s : Spot) (k : DutyKind) (a : Pattern) (y : Rule) (u v : List Terminal) → tokens_of (rule_items s y) ++ u ≡ Duty k ∷ (tokens_of (pattern_items s.bound a) ++ v) → (x : Unit {0}) × (w : List Terminal) × (v ≡ Before ∷ w)
inv_before s k a y u v e =
    let d = duty_view s k y u _ e in
    (tt, _, (pattern_code s.bound a d.0 v (Before ∷ (tokens_of (pattern_items s.bound d.1) ++ u)) d.2).1)

pub inv_deadline : (s : Spot) (k : DutyKind) (a : Pattern) (y : Rule) (u v : List Terminal) → tokens_of (rule_items s y) ++ u ≡ Duty k ∷ (tokens_of (pattern_items s.bound a ++ (mark Before ∷ [])) ++ v) → (x : Pattern) × (w : List Terminal) × (v ≡ tokens_of (pattern_items s.bound x) ++ w)
inv_deadline s k a y u v e =
    let d = duty_view s k y u _ e in
    let c = (pattern_code s.bound a d.0 (Before ∷ v) (Before ∷ (tokens_of (pattern_items s.bound d.1) ++ u)) (sym (flat (pattern_items s.bound a) (mark Before) [] v) ∙ d.2)).1 in
    let h : v ≡ tokens_of (pattern_items s.bound d.1) ++ u = cc in
    (d.1, u, h)

-- `each` and `once`
abbrev pub inner : Spot → Pattern → Spot
inner s p = deeper s (with_pattern s.bound p)

trigger_view : (s : Spot) (k : TriggerKind) (y : Rule) (u v : List Terminal) → tokens_of (rule_items s y) ++ u ≡ Trigger k ∷ v
    → (p : Pattern) × (q : Pattern) × (r : Rule) × (v ≡ tokens_of (pattern_items s.bound p) ++ Until ∷ (tokens_of (pattern_items s.bound q) ++ Then ∷ (tokens_of (rule_items (inner s p) r) ++ u)))
trigger_view s k (duty k' p q) u v e = absurd (cc)
trigger_view s k (trigger k' p q r) u v e =
    let P = pattern_items s.bound p in
    let Q = pattern_items s.bound q in
    let R = rule_items (inner s p) r in
    let h : tokens_of (P ++ (mark Until ∷ (Q ++ (mark Then ∷ R)))) ++ u ≡ v = cc in
    (p, q, r, sym h ∙ flat P (mark Until) (Q ++ (mark Then ∷ R)) u ∙ ap (λ l. tokens_of P ++ Until ∷ l) (flat Q (mark Then) R u))
trigger_view s k (bracket k' r t) u v e = absurd (cc)

pub inv_start : (s : Spot) (k : TriggerKind) (y : Rule) (u v : List Terminal) → tokens_of (rule_items s y) ++ u ≡ Trigger k ∷ v → (x : Pattern) × (w : List Terminal) × (v ≡ tokens_of (pattern_items s.bound x) ++ w)
inv_start s k y u v e = let d = trigger_view s k y u v e in (d.0, _, d.3)

pub inv_until : (s : Spot) (k : TriggerKind) (a : Pattern) (y : Rule) (u v : List Terminal) → tokens_of (rule_items s y) ++ u ≡ Trigger k ∷ (tokens_of (pattern_items s.bound a) ++ v) → (x : Unit {0}) × (w : List Terminal) × (v ≡ Until ∷ w)
inv_until s k a y u v e =
    let d = trigger_view s k y u _ e in
    (tt, _, (pattern_code s.bound a d.0 v _ d.3).1)

-- what follows a start and an `until`
after-start : (s : Spot) (k : TriggerKind) (a : Pattern) (y : Rule) (u v : List Terminal) → tokens_of (rule_items s y) ++ u ≡ Trigger k ∷ (tokens_of (pattern_items s.bound a) ++ Until ∷ v)
    → (q : Pattern) × (r : Rule) × (v ≡ tokens_of (pattern_items s.bound q) ++ Then ∷ (tokens_of (rule_items (inner s a) r) ++ u))
after-start s k a y u v e =
    let d = trigger_view s k y u _ e in
    let T = Then ∷ (tokens_of (rule_items (inner s d.0) d.2) ++ u) in
    let c = pattern_code s.bound a d.0 (Until ∷ v) (Until ∷ (tokens_of (pattern_items s.bound d.1) ++ T)) d.3 in
    let g = c.1 in
    let h : v ≡ tokens_of (pattern_items s.bound d.1) ++ T = cc in
    (d.1, d.2, h ∙ ap (λ p. tokens_of (pattern_items s.bound d.1) ++ Then ∷ (tokens_of (rule_items (inner s p) d.2) ++ u)) (sym c.0))

pub inv_end : (s : Spot) (k : TriggerKind) (a : Pattern) (y : Rule) (u v : List Terminal) → tokens_of (rule_items s y) ++ u ≡ Trigger k ∷ (tokens_of (pattern_items s.bound a ++ (mark Until ∷ [])) ++ v) → (x : Pattern) × (w : List Terminal) × (v ≡ tokens_of (pattern_items s.bound x) ++ w)
inv_end s k a y u v e =
    let d = after-start s k a y u v (e ∙ ap (λ l. Trigger k ∷ l) (flat (pattern_items s.bound a) (mark Until) [] v)) in
    (d.0, _, d.2)

pub inv_then : (s : Spot) (k : TriggerKind) (a b : Pattern) (y : Rule) (u v : List Terminal) → tokens_of (rule_items s y) ++ u ≡ Trigger k ∷ (tokens_of (pattern_items s.bound a ++ (mark Until ∷ pattern_items s.bound b)) ++ v) → (x : Unit {0}) × (w : List Terminal) × (v ≡ Then ∷ w)
inv_then s k a b y u v e =
    let d = after-start s k a y u _ (e ∙ ap (λ l. Trigger k ∷ l) (flat (pattern_items s.bound a) (mark Until) (pattern_items s.bound b) v)) in
    (tt, _, (pattern_code s.bound b d.0 v _ d.2).1)

pub inv_duty : (s : Spot) (k : TriggerKind) (a b : Pattern) (y : Rule) (u v : List Terminal) → tokens_of (rule_items s y) ++ u ≡ Trigger k ∷ (tokens_of (pattern_items s.bound a ++ (mark Until ∷ (pattern_items s.bound b ++ (mark Then ∷ [])))) ++ v)
    → (x : Rule) × (w : List Terminal) × (v ≡ tokens_of (rule_items (inner s a) x) ++ w)
inv_duty s k a b y u v e =
    let A = pattern_items s.bound a in
    let B = pattern_items s.bound b in
    let d = after-start s k a y u _ (e ∙ ap (λ l. Trigger k ∷ l) (flat A (mark Until) (B ++ (mark Then ∷ [])) v)) in
    let c = (pattern_code s.bound b d.0 (Then ∷ v) (Then ∷ (tokens_of (rule_items (inner s a) d.1) ++ u)) (sym (flat B (mark Then) [] v) ∙ d.2)).1 in
    let h : v ≡ tokens_of (rule_items (inner s a) d.1) ++ u = cc in
    (d.1, u, h)

-- Brackets.
abbrev pub first : Spot → Spot
first s = deeper s s.bound

abbrev pub second : Spot → Rule → Spot
second s r = later (deeper s s.bound) (size r)

bracket_view : (s : Spot) (y : Rule) (u v : List Terminal) → tokens_of (rule_items s y) ++ u ≡ Open ∷ v
    → (k : BracketKind) × (r : Rule) × (t : Rule) × (v ≡ tokens_of (rule_items (first s) r) ++ Joint k ∷ (tokens_of (rule_items (second s r) t) ++ Close ∷ u))
bracket_view s (duty k p q) u v e = absurd (cc)
bracket_view s (trigger k p q r) u v e = absurd (cc)
bracket_view s (bracket k r t) u v e =
    let R = rule_items (first s) r in
    let T = rule_items (second s r) t in
    let h : tokens_of (R ++ (mark (Joint k) ∷ (T ++ (mark Close ∷ [])))) ++ u ≡ v = cc in
    (k, r, t, sym h ∙ flat R (mark (Joint k)) (T ++ (mark Close ∷ [])) u ∙ ap (λ l. tokens_of R ++ Joint k ∷ l) (flat T (mark Close) [] u))

pub inv_left : (s : Spot) (y : Rule) (u v : List Terminal) → tokens_of (rule_items s y) ++ u ≡ Open ∷ v → (x : Rule) × (w : List Terminal) × (v ≡ tokens_of (rule_items (first s) x) ++ w)
inv_left s y u v e = let d = bracket_view s y u v e in (d.1, _, d.3)

pub inv_joint : (s : Spot) (a : Rule) (y : Rule) (u v : List Terminal) → tokens_of (rule_items s y) ++ u ≡ Open ∷ (tokens_of (rule_items (first s) a) ++ v) → (x : BracketKind) × (w : List Terminal) × (v ≡ Joint x ∷ w)
inv_joint s a y u v e =
    let d = bracket_view s y u _ e in
    (d.0, _, (rule_code (first s) a d.1 v _ d.3).1)

-- what follows a first rule and its `else` or `and`
after-left : (s : Spot) (a : Rule) (k : BracketKind) (y : Rule) (u v : List Terminal) → tokens_of (rule_items s y) ++ u ≡ Open ∷ (tokens_of (rule_items (first s) a) ++ Joint k ∷ v)
    → (t : Rule) × (v ≡ tokens_of (rule_items (second s a) t) ++ Close ∷ u)
after-left s a k y u v e =
    let d = bracket_view s y u _ e in
    let c = rule_code (first s) a d.1 (Joint k ∷ v) (Joint d.0 ∷ (tokens_of (rule_items (second s d.1) d.2) ++ Close ∷ u)) d.3 in
    let g = c.1 in
    let h : v ≡ tokens_of (rule_items (second s d.1) d.2) ++ Close ∷ u = cc in
    (d.2, h ∙ ap (λ r. tokens_of (rule_items (second s r) d.2) ++ Close ∷ u) (sym c.0))

pub inv_right : (s : Spot) (a : Rule) (k : BracketKind) (y : Rule) (u v : List Terminal) → tokens_of (rule_items s y) ++ u ≡ Open ∷ (tokens_of (rule_items (first s) a ++ (mark (Joint k) ∷ [])) ++ v) → (x : Rule) × (w : List Terminal) × (v ≡ tokens_of (rule_items (second s a) x) ++ w)
inv_right s a k y u v e =
    let d = after-left s a k y u v (e ∙ ap (λ l. Open ∷ l) (flat (rule_items (first s) a) (mark (Joint k)) [] v)) in
    (d.0, _, d.1)

pub inv_close : (s : Spot) (a : Rule) (k : BracketKind) (b : Rule) (y : Rule) (u v : List Terminal) → tokens_of (rule_items s y) ++ u ≡ Open ∷ (tokens_of (rule_items (first s) a ++ (mark (Joint k) ∷ rule_items (second s a) b)) ++ v) → (x : Unit {0}) × (w : List Terminal) × (v ≡ Close ∷ w)
inv_close s a k b y u v e =
    let d = after-left s a k y u _ (e ∙ ap (λ l. Open ∷ l) (flat (rule_items (first s) a) (mark (Joint k)) (rule_items (second s a) b) v)) in
    (tt, u, (rule_code (second s a) b d.0 v (Close ∷ u) d.1).1)

-- the same place, said otherwise
pub move_reads : (from to : List Lexeme) (q : Rule) (s s' : Spot) → s ≡ s' → Reads from (rule_items s q) to → Reads from (rule_items s' q) to
move_reads from to q s s' e h = subst (λ x. Reads from (rule_items x q) to) e h

pub move_told : (from to : List Lexeme) (k : Refusal) (s s' : Spot) → s ≡ s' → ToldBy held.Rule Rule pure_rule (rule_items s) from (Err k) to → ToldBy held.Rule Rule pure_rule (rule_items s') from (Err k) to
move_told from to k s s' e h = subst (λ x. ToldBy held.Rule Rule pure_rule (rule_items x) from (Err k) to) e h

-- the same rules, as the boxes hold them
pub move_bracket : (from to : List Lexeme) (s : Spot) (k : BracketKind) (a a' b b' : Rule) → a ≡ a' → b ≡ b' → Reads from (rule_items s (bracket k a b)) to → Reads from (rule_items s (bracket k a' b')) to
move_bracket from to s k a a' b b' p q h = subst (λ x. Reads from (rule_items s (bracket k a' x)) to) q (subst (λ x. Reads from (rule_items s (bracket k x b)) to) p h)

pub move_trigger : (from to : List Lexeme) (s : Spot) (k : TriggerKind) (p q : Pattern) (a a' : Rule) → a ≡ a' → Reads from (rule_items s (trigger k p q a)) to → Reads from (rule_items s (trigger k p q a')) to
move_trigger from to s k p q a a' e h = subst (λ x. Reads from (rule_items s (trigger k p q x)) to) e h
