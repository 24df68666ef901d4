-- How a book is made up of its rules, and what the reader of a whole text found.
use Rattle.std.proofs.Common.{◌≡◌, ℕ, ◌+◌, ◌≤◌, Bool, true, false, if◌then◌else◌, ◌&&◌, nat_le, List, [], ◌∷◌, ◌++◌, length, Some, None, Ok, Err, not, Option, Result, sym, refl, ap, ◌∙◌, subst, append_assoc, append-nil}
use Rattle.std.proofs.lemmas.Bool.{not-true}
use Rattle.std.proofs.lemmas.List.Sums.{AllPass-from_list_all}
use Rattle.std.proofs.lemmas.Map.Entries.{All-lookup}
use Rattle.std.specs.Prelude.{IsTrue, is_none}
use Rattle.std.specs.List.{list_all}
use Rattle.std.specs.Option.{IfSome, ok_or}
use Rattle.std.specs.Str.{bytes_eq}
use Rattle.tokens.specs.declared.token.Symbol.{Symbol}
use Rattle.tokens.specs.declared.token.Symbol.TheVariants as symbols
use Rattle.tokens.specs.Text.{Stretch, word, number, symbol, stray, end, Placed}
use Rattle.tokens.specs.Text as text
use Rattle.book.specs.declared.book.Book.{Book}
use Rattle.book.specs.declared.refusals.Reason.{Reason}
use Rattle.book.specs.declared.refusals.Reason.TheVariants.{NoToken}
use Rattle.book.specs.declared.refusals.Refusal.{Refusal}
use Rattle.book.specs.declared.refusals.Refusal.TheVariants.{Faulty, NoMemory}
use Rattle.book.specs.declared.rules.Rule as held
use Rattle.book.specs.declared.terminals.Terminal.{Terminal}
use Rattle.book.specs.declared.terminals.Terminal.TheVariants.{Semicolon, End}
use Rattle.book.specs.Rules.{Rule, duty, trigger, bracket}
use Rattle.book.specs.Grammar.{Item, mark, Spot, top, rule_items, book_items, items, tokens_of}
use Rattle.book.specs.Sizes.{nodes as size}
use Rattle.book.specs.Text.{Got, Lexeme, lexeme, words, word_of, number_of, leading_zero, value_from, meaning, meanings, lexemes}
use Rattle.book.specs.Faults as faults
use Rattle.book.specs.Faults.{fault, AllSound, gots, meant, Accepted, FaultAt, Refused, first, long}
use Rattle.book.specs.Reading.{Fits, any, Reads, FaultIn, unread, strange, past, Fails}
use Rattle.book.specs.Readers.{is_end, only_items, ToldBy}
use Rattle.book.specs.Trees.{pure_rule, pure_rules}
use Rattle.book.specs.Whole.{ToldRules, Told, Answered, pure_book}
use Rattle.book.proofs.Compose.{closed, flat, read_on, alike}
use Rattle.book.proofs.Codes.{rule_code}
use Rattle.book.proofs.Nested.{inside}
use Rattle.book.proofs.Once.{one_book, apart, one_fault}

-- No stretch but the end means the end.
pub data Goes : Got → Type 0 where
  yes : {t : Terminal} → is_end t ≡ false → Goes (Ok t)
  no : {r : Reason} → Goes (Err r)

pick : (b : Bool) {x y : Got} → Goes x → Goes y → Goes (if b then x else y)
pick true p q = p
pick false p q = q

known_goes : (o : Option Terminal) → IfSome o (λ t. not (is_end t) ≡ true) → Goes (ok_or o NoToken)
known_goes None h = no
known_goes (Some t) h = yes (not-true (is_end t) h)

-- no word means the end
pub word-goes : (w : List ℕ) → Goes (word_of w)
unfolding word_of
word-goes w = known_goes _ (All-lookup (λ t. not (is_end t) ≡ true) (λ k. bytes_eq k w) words (AllPass-from_list_all (λ e. not (is_end e.1)) words refl))

pub number-goes : (w : List ℕ) → Goes (number_of w)
unfolding number_of
number-goes w = pick (leading_zero w) no (pick (nat_le (value_from 0 w) 9999999) (yes refl) no)

pub symbol-goes : (s : Symbol) → Goes (meaning (symbol s))
symbol-goes symbols.AtMost = yes refl
symbol-goes _ = yes refl

goes : (s : Stretch) → text.is_end s ≡ false → Goes (meaning s)
goes (word w) h = word-goes w
goes (number w) h = number-goes w
goes (symbol s) h = symbol-goes s
goes stray h = no
goes end h = absurd (cc)

pub out : (g : Got) → Goes g → g ≡ Ok End → ⊥
out g (yes {t} h) e = let q : t ≡ End = cc in cc
out g no e = cc

-- The text goes on.
pub record GoesOn (from : List Lexeme) : Type 0 where
  pub head : Lexeme
  pub rest : List Lexeme
  pub split : from ≡ head ∷ rest
  pub more : head.got ≡ Ok End → ⊥

pub goes_on : (xs : List Placed) (x : Placed) (rest : List Placed) → xs ≡ x ∷ rest → text.is_end x.stretch ≡ false → GoesOn (meanings xs)
goes_on xs x rest e h = record { head = lexeme x.place (meaning x.stretch); rest = meanings rest; split = ap meanings e; more = out (meaning x.stretch) (goes x.stretch h) }

pub at_end : (xs : List Placed) (x : Placed) (rest : List Placed) (k n : ℕ) → xs ≡ x ∷ rest → x.stretch ≡ end → rest ≡ [] → Reads (meanings xs) (book_items k n []) []
at_end xs x rest k n e h f = record {
  before = meanings xs;
  split = sym (append-nil (meanings xs));
  read = ap gots (ap meanings (e ∙ ap (λ r. x ∷ r) f)) ∙ ap (λ s. meaning s ∷ []) h;
  sound = (refl, tt);
}

-- After k rules with n nodes, the rules up to the end were read behind xs, which are ys now.
abbrev pub ToldRest : ℕ → ℕ → List Lexeme → Result (Unit {0}) Refusal → List held.Rule → List held.Rule → Type 0
ToldRest k n from (Ok u) xs ys = (rs : List Rule) × (pure_rules ys ≡ pure_rules xs ++ rs) × Reads from (book_items k n rs) []
ToldRest k n from (Err (Faulty e)) xs ys = Fails (List Rule) (book_items k n) (any (List Rule)) from e.reason e.place
ToldRest k n from (Err NoMemory) xs ys = Unit {0}

-- all rules were read
pub read-all : (from : List Lexeme) (xs : List held.Rule) → ToldRest 0 0 from (Ok tt) [] xs → Reads from (items (pure_rules xs)) []
read-all from xs h = subst (λ rs. Reads from (items rs) []) (sym h.1) h.2

-- the first fault
pub rules_failed : (from : List Lexeme) (e : Refusal) (xs ys : List held.Rule) → ToldRest 0 0 from (Err e) xs ys → ToldRules from (Err e)
rules_failed from (Faulty e) xs ys h = h
rules_failed from NoMemory xs ys h = tt

-- A rule that failed in a book that goes on.
first_not_end : (before : List Lexeme) (here : Lexeme) (after from : List Lexeme) (pre : List Item) (t : Terminal) → GoesOn from → from ≡ before ++ here ∷ after → gots before ≡ meant pre → here.got ≡ Ok t → (u more : List Terminal) → End ∷ u ≡ tokens_of pre ++ t ∷ more → ⊥
first_not_end [] here after from [] t g s r h u more e = let q = g.split in let i : g.head ≡ here = cc in g.more (cc)
first_not_end [] here after from (i ∷ pre) t g s r h u more e = cc
first_not_end (b ∷ before) here after from [] t g s r h u more e = cc
first_not_end (b ∷ before) here after from (i ∷ pre) t g s r h u more e = let q = g.split in let j : g.head ≡ b = cc in g.more (cc)

rule_fails : (k n : ℕ) (from : List Lexeme) (r : Reason) (p : ℕ) → GoesOn from → Fails Rule (rule_items (top (k + 1) n)) (any Rule) from r p → Fails (List Rule) (book_items k n) (any (List Rule)) from r p
rule_fails k n from r p g f = record {
  before = f.before;
  here = f.here;
  after = f.after;
  split = f.split;
  place = f.place;
  pre = f.pre;
  read = f.read;
  sound = f.sound;
  tree = f.tree ∷ [];
  rest = f.rest ++ ends f.tree;
  begins = ap (λ l. l ++ ends f.tree) f.begins ∙ append_assoc f.pre f.rest (ends f.tree);
  fault = lift f.here.got r refl f.fault;
}
  where
    ends : Rule → List Item
    ends x = mark Semicolon ∷ book_items (k + 1) (n + size x) []

    lift : (h : Got) (m : Reason) → f.here.got ≡ h → FaultIn Rule (rule_items (top (k + 1) n)) (any Rule) f.pre h m → FaultIn (List Rule) (book_items k n) (any (List Rule)) f.pre h m
    lift h m q unread = unread
    lift h m q (strange {t} no-rule) = strange (book t q no-rule)
      where
        book : (t : Terminal) → f.here.got ≡ Ok t → ((x : Rule) (u more : List Terminal) → Fits (any Rule) x u → tokens_of (rule_items (top (k + 1) n) x) ++ u ≡ tokens_of f.pre ++ t ∷ more → ⊥)
            → (y : List Rule) (u more : List Terminal) → Fits (any (List Rule)) y u → tokens_of (book_items k n y) ++ u ≡ tokens_of f.pre ++ t ∷ more → ⊥
        book t q no-rule [] u more fits e = first_not_end f.before f.here f.after from f.pre t g f.split f.read q u more e
        book t q no-rule (x ∷ ys) u more fits e =
            let R = book_items (k + 1) (n + size x) ys in
            no-rule x (Semicolon ∷ (tokens_of R ++ u)) more (closed x (Semicolon ∷ (tokens_of R ++ u))) (sym (flat (rule_items (top (k + 1) n) x) (mark Semicolon) R u) ∙ e)
    lift h m q (past x i more e is) = past (x ∷ []) i (more ++ ends x) (ap (λ l. l ++ ends x) e ∙ append_assoc f.pre (i ∷ more) (ends x)) is

pub rule_failed : (k n : ℕ) (from to : List Lexeme) (xs ys : List held.Rule) → GoesOn from → (e : Refusal) → ToldBy held.Rule Rule pure_rule (rule_items (top (k + 1) n)) from (Err e) to → ToldRest k n from (Err e) xs ys
rule_failed k n from to xs ys g (Faulty e) h = rule_fails k n from e.reason e.place g h
rule_failed k n from to xs ys g NoMemory h = tt

-- After a rule comes a `;`, and then the other rules.
no_rule_ends : (s : Spot) (a : Rule) (u v : List Terminal) → End ∷ u ≡ tokens_of (rule_items s a) ++ v → ⊥
no_rule_ends s (duty k p q) u v e = cc
no_rule_ends s (trigger k p q r) u v e = cc
no_rule_ends s (bracket k r t) u v e = cc

inv_semicolon : (k n : ℕ) (a : Rule) (y : List Rule) (u v : List Terminal) → tokens_of (book_items k n y) ++ u ≡ tokens_of (rule_items (top (k + 1) n) a) ++ v → (x : Unit {0}) × (w : List Terminal) × (v ≡ Semicolon ∷ w)
inv_semicolon k n a [] u v e = absurd (no_rule_ends (top (k + 1) n) a u v e)
inv_semicolon k n a (x ∷ ys) u v e =
    let R = book_items (k + 1) (n + size x) ys in
    (tt, tokens_of R ++ u, (rule_code (top (k + 1) n) a x v (Semicolon ∷ (tokens_of R ++ u)) (sym e ∙ flat (rule_items (top (k + 1) n) x) (mark Semicolon) R u)).1)

pub semicolon_fails : (k n : ℕ) (a : Rule) (from mid : List Lexeme) (r : Reason) (p : ℕ) → Reads from (rule_items (top (k + 1) n) a) mid → Fails (Unit {0}) (only_items Semicolon) (any (Unit {0})) mid r p → Fails (List Rule) (book_items k n) (any (List Rule)) from r p
semicolon_fails k n a from mid r p d f =
    inside (Unit {0}) (List Rule) (only_items Semicolon) (book_items k n) (rule_items (top (k + 1) n) a) (λ _. a ∷ []) (λ _. mark End ∷ []) (λ _. refl) (inv_semicolon k n a) from mid r p d f

inv_rules : (k n : ℕ) (a : Rule) (y : List Rule) (u v : List Terminal) → tokens_of (book_items k n y) ++ u ≡ tokens_of (rule_items (top (k + 1) n) a ++ (mark Semicolon ∷ [])) ++ v → (x : List Rule) × (w : List Terminal) × (v ≡ tokens_of (book_items (k + 1) (n + size a) x) ++ w)
inv_rules k n a [] u v e = absurd (no_rule_ends (top (k + 1) n) a u (Semicolon ∷ v) (e ∙ flat (rule_items (top (k + 1) n) a) (mark Semicolon) [] v))
inv_rules k n a (x ∷ ys) u v e =
    let R = book_items (k + 1) (n + size x) ys in
    let A = rule_items (top (k + 1) n) a in
    let c = rule_code (top (k + 1) n) a x (Semicolon ∷ v) (Semicolon ∷ (tokens_of R ++ u)) (sym (flat A (mark Semicolon) [] v) ∙ sym e ∙ flat (rule_items (top (k + 1) n) x) (mark Semicolon) R u) in
    let g = c.1 in
    let h : v ≡ tokens_of R ++ u = cc in
    (ys, u, h ∙ ap (λ z. tokens_of (book_items (k + 1) (n + size z) ys) ++ u) (sym c.0))

pure_++ : (xs ys : List held.Rule) → pure_rules (xs ++ ys) ≡ pure_rules xs ++ pure_rules ys
pure_++ [] ys = refl
pure_++ (x ∷ xs) ys = ap (λ l. pure_rule x ∷ l) (pure_++ xs ys)

-- one rule more, and then what the rest gave
pub more-rules : (k n m : ℕ) (a : held.Rule) (from mid : List Lexeme) (xs ys zs : List held.Rule) → m ≡ n + size (pure_rule a) → Reads from (rule_items (top (k + 1) n) (pure_rule a) ++ (mark Semicolon ∷ [])) mid → ys ≡ xs ++ (a ∷ [])
    → (r : Result (Unit {0}) Refusal) → ToldRest (k + 1) m mid r ys zs → ToldRest k n from r xs zs
more-rules k n m a from mid xs ys zs q d e (Ok u) h =
    let A = rule_items (top (k + 1) n) (pure_rule a) in
    let R = book_items (k + 1) (n + size (pure_rule a)) h.0 in (
      pure_rule a ∷ h.0,
      h.1 ∙ ap (λ l. pure_rules l ++ h.0) e ∙ ap (λ l. l ++ h.0) (pure_++ xs (a ∷ [])) ∙ append_assoc (pure_rules xs) (pure_rule a ∷ []) h.0,
      alike from [] ((A ++ (mark Semicolon ∷ [])) ++ R) (A ++ (mark Semicolon ∷ R)) (append_assoc A (mark Semicolon ∷ []) R) (read_on from mid [] (A ++ (mark Semicolon ∷ [])) R d (subst (λ z. Reads mid (book_items (k + 1) z h.0) []) q h.2)),
    )
more-rules k n m a from mid xs ys zs q d e (Err (Faulty x)) h =
    let A = rule_items (top (k + 1) n) (pure_rule a) in
    inside (List Rule) (List Rule) (book_items (k + 1) (n + size (pure_rule a))) (book_items k n) (A ++ (mark Semicolon ∷ [])) (λ y. pure_rule a ∷ y) (λ _. [])
    (λ y. ap (λ l. A ++ (mark Semicolon ∷ l)) (sym (append-nil (book_items (k + 1) (n + size (pure_rule a)) y))) ∙ sym (append_assoc A (mark Semicolon ∷ []) (book_items (k + 1) (n + size (pure_rule a)) y ++ [])))
    (inv_rules k n (pure_rule a)) from mid x.reason x.place d (subst (λ z. Fails (List Rule) (book_items (k + 1) z) (any (List Rule)) mid x.reason x.place) q h)
more-rules k n m a from mid xs ys zs q d e (Err NoMemory) h = tt

-- The whole text.
pub accepted : (t : List ℕ) (b : List Rule) → length t ≤ 8192 → Reads (lexemes t) (items b) [] → Accepted t b
accepted t b s r = record { short = s; written = ap gots (r.split ∙ append-nil r.before) ∙ r.read; sound = r.sound }

fault_of : (pre : List Item) (g : Got) (r : Reason) → FaultIn (List Rule) items (any (List Rule)) pre g r → FaultAt pre g r
fault_of pre g r unread = faults.unread
fault_of pre g r (strange h) = faults.strange (λ b more e. h b [] more (closed b []) (append-nil (tokens_of (items b)) ∙ e))
fault_of pre g r (past b i more e is) = faults.past b i more e is

refused : (t : List ℕ) (r : Reason) (p : ℕ) → length t ≤ 8192 → Fails (List Rule) items (any (List Rule)) (lexemes t) r p → Refused t r p
refused t r p s f = first s (record {
  before = f.before;
  here = f.here;
  after = f.after;
  split = f.split;
  place = f.place;
  pre = f.pre;
  read = f.read;
  sound = f.sound;
  book = f.tree;
  rest = f.rest;
  begins = f.begins;
  fault = fault_of f.pre f.here.got r f.fault;
})

pub failed : (t : List ℕ) → length t ≤ 8192 → (e : Refusal) → ToldRules (lexemes t) (Err e) → Told t (Err e)
failed t s (Faulty e) h = refused t e.reason e.place s h
failed t s NoMemory h = tt

-- what was told is the one answer
pub answered : (t : List ℕ) (r : Result Book Refusal) → Told t r → Answered t r
answered t (Ok b) h = record { told = h; book = λ b' a. one_book t (pure_book b) b' h a; refusal = λ n p f. apart t (pure_book b) n p h f }
answered t (Err (Faulty e)) h = record { told = h; book = λ b a. apart t b e.reason e.place a h; refusal = λ n p f. one_fault t e.reason e.place n p h f }
answered t (Err NoMemory) h = record { told = tt; book = λ _ _. tt; refusal = λ _ _ _. tt }

-- soundness as a test
pub sound-kept : (is : List Item) → AllSound is → IsTrue (list_all (λ i. is_none (fault i)) is)
sound-kept [] h = refl
sound-kept (i ∷ is) h = ap (λ o. is_none o && list_all (λ i. is_none (fault i)) is) h.0 ∙ sound-kept is h.1

-- the same ahead, said otherwise
pub move_rest : (k n : ℕ) (from from' : List Lexeme) (r : Result (Unit {0}) Refusal) (xs ys : List held.Rule) → from ≡ from' → ToldRest k n from r xs ys → ToldRest k n from' r xs ys
move_rest k n from from' r xs ys e h = subst (λ l. ToldRest k n l r xs ys) e h

pub move_goes : (from from' : List Lexeme) → from ≡ from' → GoesOn from → GoesOn from'
move_goes from from' e h = subst GoesOn e h

-- the rules that were read are the book of the text
pub whole_book : (t : List ℕ) (from : List Lexeme) (xs : List held.Rule) → from ≡ lexemes t → length t ≤ 8192 → Reads from (items (pure_rules xs)) [] → Accepted t (pure_rules xs)
whole_book t from xs e s h = accepted t (pure_rules xs) s (subst (λ l. Reads l (items (pure_rules xs)) []) e h)

pub whole_failed : (t : List ℕ) (from : List Lexeme) → from ≡ lexemes t → length t ≤ 8192 → (e : Refusal) → ToldRules from (Err e) → Answered t (Err e)
whole_failed t from q s e h = answered t (Err e) (failed t s e (subst (λ l. ToldRules l (Err e)) q h))
