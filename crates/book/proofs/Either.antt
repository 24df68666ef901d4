-- No text is neither a book nor refused: while its tokens begin a book and are sound, either the next is at fault or a longer beginning is sound.
use Rattle.std.proofs.Common.{◌≡◌, ℕ, zero, suc, ◌+◌, ◌-◌, ◌≤◌, Bool, true, false, if◌then◌else◌, List, [], ◌∷◌, ◌++◌, length, take, Some, None, Option, sym, refl, ap, ◌∙◌, subst, inl, inr, append_assoc, Ok, Err}
use Rattle.std.proofs.lemmas.Bool.{cases_lt}
use Rattle.tokens.specs.declared.token.Symbol.{Symbol}
use Rattle.tokens.specs.Text.{symbol, Stretch, word, number, placed, is_blank, is_letter, is_digit, extent, symbol_of, stretch_on, stretches_from}
use Rattle.std.proofs.lemmas.List.{map-append}
use Rattle.book.specs.declared.refusals.Reason.{Reason}
use Rattle.book.specs.declared.refusals.Reason.TheVariants.{TooLong, NotAllowed}
use Rattle.book.specs.declared.terms.Binder.{Binder}
use Rattle.book.specs.declared.terms.Operand.{Operand}
use Rattle.book.specs.declared.terms.Operand.TheVariants as operand
use Rattle.book.specs.declared.terms.Part.{Part}
use Rattle.book.specs.declared.terms.Part.TheVariants as part
use Rattle.book.specs.declared.terms.Sum.{Sum}
use Rattle.book.specs.declared.terms.Sum.TheVariants.{One, Two, Three}
use Rattle.book.specs.declared.terms.Condition.{Condition}
use Rattle.book.specs.declared.terminals.Terminal.{Terminal}
use Rattle.book.specs.declared.terminals.Terminal.TheVariants.{End}
use Rattle.book.specs.Rules.{Pattern, never, lines, Rule, duty, trigger, bracket}
use Rattle.book.specs.Sets.{Fields, Letters, no_letters, no_fields, with_field, with_operand, with_binders, with_pattern}
use Rattle.book.specs.Grammar.{Item, mark, operand_item, more_binders, binder_items, part_items, sum_items, condition_items, conditions_items, if_items, pattern_items, Spot, deeper, later, rule_items, top, book_items, items, tokens_of}
use Rattle.book.specs.Sizes.{nodes as size}
use Rattle.book.specs.Text.{Got, Lexeme, meaning, meanings, lexemes}
use Rattle.book.specs.Faults.{fault, AllSound, gots, meant, Accepted, FaultAt, unread, strange, past, Refused, long, first}
use Rattle.book.specs.Exact.{Whole}
use Rattle.book.specs.Readers.{is_end}
use Rattle.book.proofs.Compose.{sound-++}
use Rattle.book.proofs.Det.{Det, next, det_book}
use Rattle.book.proofs.Texts.{Goes, no, word-goes, number-goes, symbol-goes, out}

-- The end of a text is its last lexeme.
pub data EndsWell : List Lexeme → Type 0 where
  last : {l : Lexeme} → l.got ≡ Ok End → EndsWell (l ∷ [])
  more : {l : Lexeme} {ls : List Lexeme} → (l.got ≡ Ok End → ⊥) → EndsWell ls → EndsWell (l ∷ ls)

pick : (b : Bool) (x y : Stretch) → Goes (meaning x) → Goes (meaning y) → Goes (meaning (if b then x else y))
pick true x y p q = p
pick false x y p q = q

signed : (s : Symbol) → Goes (meaning (symbol s))
signed s = symbol-goes s

signs_go : (w : List ℕ) → Goes (meaning (symbol_of w))
unfolding symbol_of
signs_go w = search (pick, signed, no) depth 24

stretch-goes : (b : ℕ) (w : List ℕ) → meaning (stretch_on b w) ≡ Ok End → ⊥
stretch-goes b w = out (meaning (stretch_on b w)) (pick (is_letter b) (word w) (if is_digit b then number w else symbol_of w) (word-goes w) (pick (is_digit b) (number w) (symbol_of w) (number-goes w) (signs_go w)))

blank_or : (t : Bool) (p b : ℕ) (bs : List ℕ) → EndsWell (meanings (stretches_from (p + 1) 0 bs)) → EndsWell (meanings (stretches_from (p + 1) (extent b bs - 1) bs))
    → EndsWell (meanings (if t then stretches_from (p + 1) 0 bs else placed p (stretch_on b (take (extent b bs) (b ∷ bs))) ∷ stretches_from (p + 1) (extent b bs - 1) bs))
blank_or true p b bs h g = h
blank_or false p b bs h g = more (stretch-goes b (take (extent b bs) (b ∷ bs))) g

ends_well : (bs : List ℕ) (p k : ℕ) → EndsWell (meanings (stretches_from p k bs))
ends_well [] p k = last refl
ends_well (b ∷ bs) p (suc k) = ends_well bs (p + 1) k
ends_well (b ∷ bs) p zero = blank_or (is_blank b) p b bs (ends_well bs (p + 1) 0) (ends_well bs (p + 1) (extent b bs - 1))

-- Only the last token of a book is the end.
abbrev AllGo : List Item → Type 0
AllGo [] = Unit {0}
AllGo (i ∷ is) = (is_end i.token ≡ false) × AllGo is

go_++ : (a b : List Item) → AllGo a → AllGo b → AllGo (a ++ b)
go_++ [] b s t = t
go_++ (x ∷ a) b s t = (s.0, go_++ a b s.1 t)

operand_go : (ls : Letters) (v : Operand) → is_end (operand_item ls v).token ≡ false
operand_go ls (operand.Number n) = refl
operand_go ls (operand.Bound l) = refl

more_go : (fs : Fields) (ls : Letters) (bs : List Binder) → AllGo (more_binders fs ls bs)
more_go fs ls [] = tt
more_go fs ls (b ∷ bs) = (refl, (refl, (operand_go ls b.operand, more_go (with_field fs b.field) (with_operand ls b.operand) bs)))

binders_go : (bs : List Binder) → AllGo (binder_items bs)
binders_go [] = tt
binders_go (b ∷ bs) = (refl, (operand_go no_letters b.operand, more_go (with_field no_fields b.field) (with_operand no_letters b.operand) bs))

part_go : (k : ℕ) (s : Letters) (p : Part) → AllGo (part_items k s p)
part_go k s (part.Number n) = (refl, tt)
part_go k s (part.Bound l) = (refl, tt)
part_go k s (part.Product n l) = (refl, (refl, (refl, tt)))

sum_go : (k : ℕ) (s : Letters) (x : Sum) → AllGo (sum_items k s x)
sum_go k s (One p) = part_go k s p
sum_go k s (Two p q) = go_++ (part_items k s p) _ (part_go k s p) (refl, part_go k s q)
sum_go k s (Three p q r) = go_++ (part_items k s p) _ (part_go k s p) (refl, go_++ (part_items k s q) _ (part_go k s q) (refl, part_go k s r))

condition_go : (k : ℕ) (s : Letters) (c : Condition) → AllGo (condition_items k s c)
condition_go k s c = go_++ (sum_items k s c.left) _ (sum_go k s c.left) (refl, sum_go k s c.right)

conditions_go : (k : ℕ) (s : Letters) (c : Condition) (cs : List Condition) → AllGo (conditions_items k s c cs)
conditions_go k s c [] = go_++ (condition_items k s c) _ (condition_go k s c) (refl, tt)
conditions_go k s c (d ∷ ds) = go_++ (condition_items k s c) _ (condition_go k s c) (refl, conditions_go (k + 1) s d ds)

if_go : (s : Letters) (cs : List Condition) → AllGo (if_items s cs)
if_go s [] = (refl, tt)
if_go s (c ∷ cs) = (refl, conditions_go 1 s c cs)

pattern_go : (s : Letters) (p : Pattern) → AllGo (pattern_items s p)
pattern_go s never = (refl, tt)
pattern_go s (lines bs cs) = (refl, go_++ (binder_items bs) _ (binders_go bs) (if_go (with_binders s bs) cs))

rule_go : (s : Spot) (r : Rule) → AllGo (rule_items s r)
rule_go s (duty k p q) = (refl, go_++ (pattern_items s.bound p) _ (pattern_go s.bound p) (refl, pattern_go s.bound q))
rule_go s (trigger k p q r) = (refl, go_++ (pattern_items s.bound p) _ (pattern_go s.bound p) (refl, go_++ (pattern_items s.bound q) _ (pattern_go s.bound q) (refl, rule_go (deeper s (with_pattern s.bound p)) r)))
rule_go s (bracket k r t) = (refl, go_++ (rule_items (deeper s s.bound) r) _ (rule_go (deeper s s.bound) r) (refl, go_++ (rule_items (later (deeper s s.bound) (size r)) t) _ (rule_go (later (deeper s s.bound) (size r)) t) (refl, tt)))

-- a stretch without the end, and then a list in which the end is last
skip : (a rest pre : List Item) (i : Item) (m : List Item) → AllGo a → i.token ≡ End
    → ((pre' : List Item) → rest ≡ pre' ++ i ∷ m → m ≡ []) → a ++ rest ≡ pre ++ i ∷ m → m ≡ []
skip [] rest pre i m g t ih e = ih pre e
skip (x ∷ a) rest [] i m g t ih e = let h : x ≡ i = cc in let q : is_end x.token ≡ is_end End = ap (λ y. is_end y.token) h ∙ ap is_end t in let f = g.0 in absurd (cc)
skip (x ∷ a) rest (y ∷ pre) i m g t ih e = skip a rest pre i m g.1 t ih (cc)

end_last : (b : List Rule) (k n : ℕ) (pre : List Item) (i : Item) (m : List Item) → i.token ≡ End → book_items k n b ≡ pre ++ i ∷ m → m ≡ []
end_last [] k n [] i m t e = cc
end_last [] k n (x ∷ []) i m t e = absurd (cc)
end_last [] k n (x ∷ y ∷ pre) i m t e = absurd (cc)
end_last (r ∷ rs) k n pre i m t e =
    skip (rule_items (top (k + 1) n) r) _ pre i m (rule_go (top (k + 1) n) r) t
    (λ pre' q. skip (mark _ ∷ []) _ pre' i m (refl, tt) t (λ pre'' h. end_last rs (k + 1) (n + size r) pre'' i m t h) q) e

-- The items of a book whose tokens go on after those of pre.
split-items : (is pre : List Item) (t : Terminal) (ts : List Terminal) → tokens_of is ≡ tokens_of pre ++ t ∷ ts → (a : List Item) × (i : Item) × (m : List Item) × (is ≡ a ++ i ∷ m) × (tokens_of a ≡ tokens_of pre) × (i.token ≡ t)
split-items [] [] t ts e = absurd (cc)
split-items [] (p ∷ pre) t ts e = absurd (cc)
split-items (x ∷ is) [] t ts e = ([], x, is, refl, refl, cc)
split-items (x ∷ is) (p ∷ pre) t ts e =
    let r = split-items is pre t ts (cc) in
    (x ∷ r.0, r.1, r.2, ap (λ l. x ∷ l) r.3, (let h : x.token ≡ p.token = cc in let q = r.4 in cc), r.5)

same_prefix : {Q : Type 0} (a b m n : List Item) → tokens_of a ≡ tokens_of b → Det Q (a ++ m) (b ++ n) → a ≡ b
same_prefix [] [] m n e d = refl
same_prefix [] (y ∷ b) m n e d = absurd (cc)
same_prefix (x ∷ a) [] m n e d = absurd (cc)
same_prefix (x ∷ a) (y ∷ b) m n e d =
    let s = next d (cc) in
    let h = s.0 in
    let q = same_prefix a b m n (cc) s.1 in cc

goes_same : (pre : List Item) (b c : List Rule) (rest : List Item) (t : Terminal) (ts : List Terminal) → items b ≡ pre ++ rest → tokens_of (items c) ≡ tokens_of pre ++ t ∷ ts → (i : Item) × (m : List Item) × (items c ≡ pre ++ i ∷ m) × (i.token ≡ t)
goes_same pre b c rest t ts eb et =
    let s = split-items (items c) pre t ts et in
    let d : Det (Unit {0}) (items c) (items b) = det_book c b 0 0 0 0 refl refl (λ _. tt) in
    let same = same_prefix s.0 pre (s.1 ∷ s.2) rest s.4 (subst (λ l. Det (Unit {0}) l (pre ++ rest)) s.3 (subst (λ l. Det (Unit {0}) (items c) l) eb d)) in
    (s.1, s.2, s.3 ∙ ap (λ l. l ++ s.1 ∷ s.2) same, s.5)

module _ (t : List ℕ) (fits : length t ≤ 8192) (no-book : (b : List Rule) → Accepted t b → ⊥) (no-fault : (r : Reason) (p : ℕ) → Refused t r p → ⊥) where
  -- the tokens before are sound and begin the book b
  step : (before : List Lexeme) (l : Lexeme) (after : List Lexeme) → lexemes t ≡ before ++ l ∷ after → (pre : List Item) → gots before ≡ meant pre → AllSound pre → (b : List Rule) (rest : List Item) → items b ≡ pre ++ rest
      → ((c : List Rule) (i : Item) (m : List Item) → items c ≡ pre ++ i ∷ m → l.got ≡ Ok i.token → fault i ≡ None → ⊥) → ⊥
  step before l after split pre read sound b rest begins on = at l.got refl
    where
      refuse : (r : Reason) → FaultAt pre l.got r → ⊥
      refuse r f = no-fault r l.place (first fits (record {
        before = before;
        here = l;
        after = after;
        split = split;
        place = refl;
        pre = pre;
        read = read;
        sound = sound;
        book = b;
        rest = rest;
        begins = begins;
        fault = f;
      }))

      judge : (c : List Rule) (i : Item) (m : List Item) → items c ≡ pre ++ i ∷ m → l.got ≡ Ok i.token → (o : Option Reason) → fault i ≡ o → ⊥
      judge c i m e g (Some r) q = refuse r (subst (λ x. FaultAt pre x r) (sym g) (past c i m e q))
      judge c i m e g None q = on c i m e g q

      at : (g : Got) → l.got ≡ g → ⊥
      at (Err r) e = refuse r (subst (λ x. FaultAt pre x r) (sym e) unread)
      at (Ok u) e = refuse NotAllowed (subst (λ x. FaultAt pre x NotAllowed) (sym e) (strange (λ c ts q. let s = goes_same pre b c rest u ts begins q in judge c s.0 s.1 s.2 (e ∙ ap Ok (sym s.3)) (fault s.0) refl)))

  walk : {left : List Lexeme} → EndsWell left → (before : List Lexeme) → lexemes t ≡ before ++ left → (pre : List Item) → gots before ≡ meant pre → AllSound pre → (b : List Rule) (rest : List Item) → items b ≡ pre ++ rest → ⊥
  walk (last {l} e) before split pre read sound b rest begins =
      step before l [] split pre read sound b rest begins (λ c i m q g f.
      let none = end_last c 0 0 pre i m (let h : i.token ≡ End = cc in h) q in
      let whole : items c ≡ pre ++ i ∷ [] = q ∙ ap (λ x. pre ++ i ∷ x) none in
      no-book c (record {
        short = fits;
        written = ap gots split ∙ map-append (λ l. l.got) before (l ∷ []) ∙ (λ j. read j ++ g j ∷ []) ∙ sym (map-append (λ i. Ok i.token) pre (i ∷ [])) ∙ ap meant (sym whole);
        sound = subst AllSound (sym whole) (sound-++ pre (i ∷ []) sound (f, tt));
      }))
  walk (more {l} {ls} ne ends) before split pre read sound b rest begins =
      step before l ls split pre read sound b rest begins (λ c i m q g f.
      walk ends (before ++ l ∷ []) (split ∙ sym (append_assoc before (l ∷ []) ls)) (pre ++ i ∷ [])
      (map-append (λ l. l.got) before (l ∷ []) ∙ (λ j. read j ++ g j ∷ []) ∙ sym (map-append (λ i. Ok i.token) pre (i ∷ []))) (sound-++ pre (i ∷ []) sound (f, tt)) c m (q ∙ sym (append_assoc pre (i ∷ []) m)))

pub whole : Whole
whole t no-book no-fault =
    elim (cases_lt 8192 (length t)) [
      | inl h ↦ no-fault TooLong 0 (long h)
      | inr h ↦ walk t h no-book no-fault (ends_well t 0 0) [] refl [] refl tt [] (items []) refl
    ]
