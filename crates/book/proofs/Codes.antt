-- What is written as one list of binders, pattern or rule is written as no other, and begins no other.
use Rattle.std.proofs.Common.{◌≡◌, List, [], ◌∷◌, ◌++◌, sym, refl, ap, ◌∙◌, append-nil}
use Rattle.std.proofs.lemmas.List.{map-append}
use Rattle.book.specs.Sets.{Letters}
use Rattle.book.specs.declared.patterns.Ending.{Ending}
use Rattle.book.specs.declared.patterns.Ending.TheVariants as ending
use Rattle.feed.specs.declared.fields.Field.{Field}
use Rattle.book.specs.declared.terms.Binder.{Binder}
use Rattle.book.specs.declared.terminals.Terminal.{Terminal}
use Rattle.book.specs.declared.terminals.Terminal.TheVariants.{Named, Comma}
use Rattle.book.specs.Rules.{Pattern, Rule}
use Rattle.book.specs.Grammar.{Item, mark, binder_items, pattern_items, Spot, rule_items, tokens_of}
use Rattle.book.specs.Patterns.{closer, binders_closed}
use Rattle.book.specs.Exact.{SameTokens}
use Rattle.book.proofs.Det.{Det, done, short, short', both, step, HeadNot, both-sides, det_binders, det_pattern, det_rule}

abbrev plainly : List Terminal → List Item
plainly [] = []
plainly (t ∷ ts) = mark t ∷ plainly ts

plain_tokens : (ts : List Terminal) → tokens_of (plainly ts) ≡ ts
plain_tokens [] = refl
plain_tokens (t ∷ ts) = ap (λ l. t ∷ l) (plain_tokens ts)

freely : (Q : Type 0) → Q → (v w : List Terminal) → Det Q (plainly v) (plainly w)
freely Q q [] [] = done q
freely Q q [] (y ∷ w) = short (mark y) (plainly w)
freely Q q (x ∷ v) [] = short' (mark x) (plainly v)
freely Q q (x ∷ v) (y ∷ w) = both (λ e. ap (λ t. mark t) e) (λ _. freely Q q v w)

finish : {Q : Type 0} {is js : List Item} → Det Q is js → tokens_of is ≡ tokens_of js → Q
finish (done q) e = q
finish (short j js) e = absurd (cc)
finish (short' i is) e = absurd (cc)
finish (both h k) e = finish (k (cc)) (cc)

cancel : (a v w : List Terminal) → a ++ v ≡ a ++ w → v ≡ w
cancel [] v w e = e
cancel (x ∷ a) v w e = cancel a v w (cc)

code : (X : Type 0) (P : X → List Item) (x y : X) (v w : List Terminal) → ((M N : List Item) → (x ≡ y → Det (x ≡ y) M N) → Det (x ≡ y) (P x ++ M) (P y ++ N))
    → tokens_of (P x) ++ v ≡ tokens_of (P y) ++ w → (x ≡ y) × (v ≡ w)
code X P x y v w det e =
    let long : (z : X) (t : List Terminal) → tokens_of (P z ++ plainly t) ≡ tokens_of (P z) ++ t = λ z t. map-append (λ i. i.token) (P z) (plainly t) ∙ ap (λ l. tokens_of (P z) ++ l) (plain_tokens t) in
    let same : x ≡ y = finish (det (plainly v) (plainly w) (λ q. freely (x ≡ y) q v w)) (long x v ∙ e ∙ sym (long y w)) in
    (same, cancel (tokens_of (P x)) v w (e ∙ ap (λ z. tokens_of (P z) ++ w) (sym same)))

-- Binders up to what ends them.
not_comma : (c : Ending) (M : List Item) → HeadNot Comma (mark (closer c) ∷ M)
not_comma ending.Conditions M = (λ e. cc)
not_comma ending.Pattern M = (λ e. cc)

not_named : (c : Ending) (f : Field) (M : List Item) → HeadNot (Named f) (mark (closer c) ∷ M)
not_named ending.Conditions f M = (λ e. cc)
not_named ending.Pattern f M = (λ e. cc)

det_closer : {Q : Type 0} (c d : Ending) (M N : List Item) → (c ≡ d → Det Q M N) → Det Q (mark (closer c) ∷ M) (mark (closer d) ∷ N)
det_closer ending.Conditions ending.Conditions M N k = step (λ _. (refl, k refl))
det_closer ending.Conditions ending.Pattern M N k = step (λ t. absurd (cc))
det_closer ending.Pattern ending.Conditions M N k = step (λ t. absurd (cc))
det_closer ending.Pattern ending.Pattern M N k = step (λ _. (refl, k refl))

pub binders_code : (bs bs' : List Binder) (c c' : Ending) (v w : List Terminal) → tokens_of (binders_closed (bs, c)) ++ v ≡ tokens_of (binders_closed (bs', c')) ++ w → (bs ≡ bs') × (c ≡ c') × (v ≡ w)
binders_code bs bs' c c' v w e =
    let r = code (List Binder × Ending) binders_closed (bs, c) (bs', c') v w
    (λ M N k. both-sides (binder_items bs) (mark (closer c) ∷ []) M (binder_items bs') (mark (closer c') ∷ []) N
    (det_binders bs bs' (mark (closer c) ∷ M) (mark (closer c') ∷ N) (not_comma c M) (not_comma c' N) (λ f. not_named c f M) (λ f. not_named c' f N)
    (λ eb. det_closer c c' M N (λ ec. k (λ i. (eb i, ec i)))))) e in
    (ap (λ x. x.0) r.0, ap (λ x. x.1) r.0, r.1)

pub pattern_code : (s : Letters) (p q : Pattern) (v w : List Terminal) → tokens_of (pattern_items s p) ++ v ≡ tokens_of (pattern_items s q) ++ w → (p ≡ q) × (v ≡ w)
pattern_code s p q v w e = code Pattern (pattern_items s) p q v w (λ M N k. det_pattern p q s s M N refl k) e

pub rule_code : (s : Spot) (r t : Rule) (v w : List Terminal) → tokens_of (rule_items s r) ++ v ≡ tokens_of (rule_items s t) ++ w → (r ≡ t) × (v ≡ w)
rule_code s r t v w e = code Rule (rule_items s) r t v w (λ M N k. det_rule r t s s M N refl k) e

pub same_tokens : SameTokens
same_tokens s r t e = (rule_code s r t [] [] (append-nil (tokens_of (rule_items s r)) ∙ e ∙ sym (append-nil (tokens_of (rule_items s t))))).0
