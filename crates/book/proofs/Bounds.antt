-- What a book's tokens say of its size: its rules, its nodes, its nesting and its numbers. Assumes nothing.
use Rattle.std.proofs.Common.{◌≡◌, ℕ, ◌+◌, ◌≤◌, max, Bool, true, ◌||◌, nat_lt, List, [], ◌∷◌, ◌++◌, length, Some, None, nat_le, Option, refl, subst, arith, ltb-false, leb-true, Ok, Err}
use mathlib.Core.Logic.{∥∥₁_elim}
use native.Mathlib.Bridge.{le_prop}
use Rattle.std.proofs.lemmas.Bool.{or_parts, cond_both}
use Rattle.std.proofs.lemmas.List.Sums.{AllPass-from_list_all}
use Rattle.std.proofs.lemmas.Map.Entries.{All-lookup}
use Rattle.std.specs.Option.{IfSome, ok_or}
use Rattle.std.specs.Str.{bytes_eq}
use Rattle.book.specs.declared.refusals.Reason.TheVariants.{NoToken}
use Rattle.book.specs.declared.terms.Condition.{Condition}
use Rattle.book.specs.declared.terms.Part.{Part}
use Rattle.book.specs.declared.terms.Part.TheVariants as part
use Rattle.book.specs.declared.terms.Sum.{Sum}
use Rattle.book.specs.declared.terms.Sum.TheVariants.{One, Two, Three}
use Rattle.book.specs.declared.terminals.Terminal.{Terminal}
use Rattle.book.specs.declared.terminals.Terminal.TheVariants as terminal
use Rattle.tokens.specs.declared.token.Symbol.{Symbol}
use Rattle.tokens.specs.declared.token.Symbol.TheVariants as symbols
use Rattle.tokens.specs.Text.{Stretch, word, number, symbol, stray, end, Placed, stretches}
use Rattle.book.specs.Rules.{Pattern, never, lines, Rule, duty, trigger, bracket}
use Rattle.book.specs.Sizes.{nodes, all_nodes, depth, deepest, part_number, sum_number, conditions_number, pattern_number, rule_number, largest, WithinLimits}
use Rattle.book.specs.Grammar.{starts, Item, Spot, rule_items, book_items, deeper, later, top, pattern_items, part_items, sum_items, condition_items, conditions_items, if_items, binder_items, items}
use Rattle.book.specs.Sets.{Letters, with_binders}
use Rattle.book.specs.Text.{Got, words, word_of, value_from, leading_zero, number_of, symbol_terminal, meaning, meanings}
use Rattle.book.proofs.Compose.{within_limit}
use Rattle.book.specs.Faults.{role_fault, AllSound, gots, meant, Accepted}

sound-left : (is js : List Item) → AllSound (is ++ js) → AllSound is
sound-left [] js h = tt
sound-left (i ∷ is) js h = (h.0, sound-left is js h.1)

sound-right : (is js : List Item) → AllSound (is ++ js) → AllSound js
sound-right [] js h = h
sound-right (i ∷ is) js h = sound-right is js h.1

-- a node that is not past a limit
pub record Started (k n d : ℕ) : Type 0 where
  pub rules : k ≤ 16
  pub nodes : n ≤ 64
  pub inside : d ≤ 8

begun : (k n d : ℕ) → role_fault (starts k n d) ≡ None → Started k n d
begun k n d e =
    let none = within_limit (nat_lt 16 k || nat_lt 64 n || nat_lt 8 d) None e in
    let most = or_parts (nat_lt 16 k || nat_lt 64 n) (nat_lt 8 d) none in
    let two = or_parts (nat_lt 16 k) (nat_lt 64 n) most.0 in
    record { rules = ltb-false 16 k two.0; nodes = ltb-false 64 n two.1; inside = ltb-false 8 d most.1 }

pub record RuleWithin (s : Spot) (r : Rule) : Type 0 where
  pub rules : s.rule ≤ 16
  pub nodes : s.nodes + nodes r ≤ 64
  pub inside : s.around + depth r ≤ 8

pub rule-within : (r : Rule) (s : Spot) → AllSound (rule_items s r) → RuleWithin s r
rule-within (duty k p q) s h = let b = begun _ _ _ h.0 in record { rules = b.rules; nodes = b.nodes; inside = b.inside }
rule-within (trigger k p q r) s h =
    let b = begun _ _ _ h.0 in
    let rest = (sound-right (pattern_items s.bound p) _ h.1).1 in
    let inner = rule-within r _ (sound-right (pattern_items s.bound q) _ rest).1 in
    record { rules = b.rules; nodes = omega (arith, inner.nodes); inside = omega (arith, inner.inside) }
rule-within (bracket k r t) s h =
    let b = begun _ _ _ h.0 in
    let one = rule-within r _ (sound-left (rule_items (deeper s s.bound) r) _ h.1) in
    let rest = (sound-right (rule_items (deeper s s.bound) r) _ h.1).1 in
    let two = rule-within t _ (sound-left (rule_items (later (deeper s s.bound) (nodes r)) t) _ rest) in
    record { rules = b.rules; nodes = omega (arith, two.nodes); inside = omega (arith, one.inside, two.inside) }

pub record BookWithin (k n : ℕ) (rs : List Rule) : Type 0 where
  pub rules : k + length rs ≤ 16
  pub nodes : n + all_nodes rs ≤ 64
  pub inside : deepest rs ≤ 8

pub book-within : (k n : ℕ) (rs : List Rule) → k ≤ 16 → n ≤ 64 → AllSound (book_items k n rs) → BookWithin k n rs
book-within k n [] hk hn h = record { rules = omega arith; nodes = omega arith; inside = omega arith }
book-within k n (r ∷ rs) hk hn h =
    let one = rule-within r (top (k + 1) n) (sound-left (rule_items (top (k + 1) n) r) _ h) in
    let rest = (sound-right (rule_items (top (k + 1) n) r) _ h).1 in
    let more = book-within (k + 1) (n + nodes r) rs one.rules (omega (arith, one.nodes)) rest in
    record { rules = omega (arith, more.rules); nodes = omega (arith, more.nodes); inside = omega (arith, one.inside, more.inside) }

-- a number of a book's text is at most 9,999,999
abbrev is_small : Terminal → Bool
is_small (terminal.Numeral n) = nat_le n 9999999
is_small _ = true

abbrev is_small_got : Got → Bool
is_small_got (Ok t) = is_small t
is_small_got (Err r) = true

small_known : (o : Option Terminal) → IfSome o (λ t. is_small t ≡ true) → is_small_got (ok_or o NoToken) ≡ true
small_known None h = refl
small_known (Some t) h = h

-- no word is a number
small_word : (w : List ℕ) → is_small_got (word_of w) ≡ true
unfolding word_of
small_word w = small_known _ (All-lookup (λ t. is_small t ≡ true) (λ k. bytes_eq k w) words (AllPass-from_list_all (λ e. is_small e.1) words refl))

small_number : (w : List ℕ) → is_small_got (number_of w) ≡ true
unfolding number_of
small_number w =
    let Small : Got → Type 0 = λ g. is_small_got g ≡ true in
    cond_both (leading_zero w) _ _ Small (λ _. refl) (λ _. cond_both (nat_le (value_from 0 w) 9999999) _ _ Small (λ e. e) (λ _. refl))

small_symbol : (s : Symbol) → is_small (symbol_terminal s) ≡ true
small_symbol symbols.AtMost = refl
small_symbol _ = refl

small_meaning : (s : Stretch) → is_small_got (meaning s) ≡ true
small_meaning (word w) = small_word w
small_meaning (number w) = small_number w
small_meaning (symbol s) = small_symbol s
small_meaning stray = refl
small_meaning end = refl

abbrev SmallGots : List Got → Type 0
SmallGots [] = Unit {0}
SmallGots (g ∷ gs) = (is_small_got g ≡ true) × SmallGots gs

small_text : (xs : List Placed) → SmallGots (gots (meanings xs))
small_text [] = tt
small_text (x ∷ xs) = (small_meaning x.stretch, small_text xs)

abbrev SmallItems : List Item → Type 0
SmallItems [] = Unit {0}
SmallItems (i ∷ is) = (is_small i.token ≡ true) × SmallItems is

small_items : (is : List Item) → SmallGots (meant is) → SmallItems is
small_items [] h = tt
small_items (i ∷ is) h = (h.0, small_items is h.1)

small_left : (is js : List Item) → SmallItems (is ++ js) → SmallItems is
small_left [] js h = tt
small_left (i ∷ is) js h = (h.0, small_left is js h.1)

small_right : (is js : List Item) → SmallItems (is ++ js) → SmallItems js
small_right [] js h = h
small_right (i ∷ is) js h = small_right is js h.1

-- the numbers of the conditions are among a book's tokens
part_small : (k : ℕ) (s : Letters) (p : Part) → SmallItems (part_items k s p) → part_number p ≤ 9999999
part_small k s (part.Number n) h = leb-true n 9999999 h.0
part_small k s (part.Bound l) h = omega arith
part_small k s (part.Product n l) h = leb-true n 9999999 h.0

sum_small : (k : ℕ) (s : Letters) (x : Sum) → SmallItems (sum_items k s x) → sum_number x ≤ 9999999
sum_small k s (One p) h = part_small k s p h
sum_small k s (Two p q) h =
    let one = part_small k s p (small_left (part_items k s p) _ h) in
    let two = part_small k s q (small_right (part_items k s p) _ h).1 in
    omega arith
sum_small k s (Three p q r) h =
    let rest = (small_right (part_items k s p) _ h).1 in
    let one = part_small k s p (small_left (part_items k s p) _ h) in
    let two = part_small k s q (small_left (part_items k s q) _ rest) in
    let three = part_small k s r (small_right (part_items k s q) _ rest).1 in
    omega arith

condition_small : (k : ℕ) (s : Letters) (c : Condition) → SmallItems (condition_items k s c) → max (sum_number c.left) (sum_number c.right) ≤ 9999999
condition_small k s c h =
    let one = sum_small k s c.left (small_left (sum_items k s c.left) _ h) in
    let two = sum_small k s c.right (small_right (sum_items k s c.left) _ h).1 in
    omega arith

conditions_small : (cs : List Condition) (k : ℕ) (s : Letters) (c : Condition) → SmallItems (conditions_items k s c cs) → conditions_number (c ∷ cs) ≤ 9999999
conditions_small [] k s c h = let one = condition_small k s c (small_left (condition_items k s c) _ h) in omega arith
conditions_small (d ∷ ds) k s c h =
    let one = condition_small k s c (small_left (condition_items k s c) _ h) in
    let more = conditions_small ds (k + 1) s d (small_right (condition_items k s c) _ h).1 in
    omega arith

if_small : (s : Letters) (cs : List Condition) → SmallItems (if_items s cs) → conditions_number cs ≤ 9999999
if_small s [] h = omega arith
if_small s (c ∷ cs) h = conditions_small cs 1 s c h.1

pattern_small : (s : Letters) (p : Pattern) → SmallItems (pattern_items s p) → pattern_number p ≤ 9999999
pattern_small s never h = omega arith
pattern_small s (lines bs cs) h = if_small (with_binders s bs) cs (small_right (binder_items bs) _ h.1)

rule_small : (r : Rule) (s : Spot) → SmallItems (rule_items s r) → rule_number r ≤ 9999999
rule_small (duty k p q) s h =
    let one = pattern_small s.bound p (small_left (pattern_items s.bound p) _ h.1) in
    let two = pattern_small s.bound q (small_right (pattern_items s.bound p) _ h.1).1 in
    omega arith
rule_small (trigger k p q r) s h =
    let rest = (small_right (pattern_items s.bound p) _ h.1).1 in
    let one = pattern_small s.bound p (small_left (pattern_items s.bound p) _ h.1) in
    let two = pattern_small s.bound q (small_left (pattern_items s.bound q) _ rest) in
    let inner = rule_small r _ (small_right (pattern_items s.bound q) _ rest).1 in
    omega arith
rule_small (bracket k r t) s h =
    let rest = (small_right (rule_items (deeper s s.bound) r) _ h.1).1 in
    let one = rule_small r _ (small_left (rule_items (deeper s s.bound) r) _ h.1) in
    let two = rule_small t _ (small_left (rule_items (later (deeper s s.bound) (nodes r)) t) _ rest) in
    omega arith

book_small : (rs : List Rule) (k n : ℕ) → SmallItems (book_items k n rs) → largest rs ≤ 9999999
book_small [] k n h = omega arith
book_small (r ∷ rs) k n h =
    let one = rule_small r (top (k + 1) n) (small_left (rule_items (top (k + 1) n) r) _ h) in
    let more = book_small rs (k + 1) (n + nodes r) (small_right (rule_items (top (k + 1) n) r) _ h).1 in
    omega arith

pub numbers_small : (text : List ℕ) (rs : List Rule) → Accepted text rs → largest rs ≤ 9999999
numbers_small text rs a = book_small rs 0 0 (small_items (items rs) (subst SmallGots a.written (small_text (stretches text))))

-- so a book that some text is keeps the limits
pub keeps_limits : (rs : List Rule) → ∥ ((text : List ℕ) × Accepted text rs) ∥₁ → WithinLimits rs
keeps_limits rs w =
    let all : (text : List ℕ) → Accepted text rs → BookWithin 0 0 rs = λ text a. book-within 0 0 rs (omega arith) (omega arith) a.sound in
    record {
      count = ∥∥₁_elim w le_prop (λ a. omega (arith, (all a.0 a.1).rules));
      size = ∥∥₁_elim w le_prop (λ a. omega (arith, (all a.0 a.1).nodes));
      nesting = ∥∥₁_elim w le_prop (λ a. (all a.0 a.1).inside);
      numbers = ∥∥₁_elim w le_prop (λ a. numbers_small a.0 rs a.1);
    }
