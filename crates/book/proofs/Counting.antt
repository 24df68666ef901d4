-- A rule's nodes are numbered without a gap.
use Rattle.std.proofs.Common.{◌≡◌, ℕ, zero, suc, ◌+◌, ◌∷◌, ◌++◌, sym, refl, ap, ◌∙◌, arith}
use Rattle.std.proofs.lemmas.List.{map-append}
use Rattle.book.specs.Rules.{Rule, duty, trigger, bracket}
use Rattle.book.specs.Sizes.{nodes as size}
use Rattle.book.specs.Numbers.{nodes_from, numbers, counting, InOrder}

counting-++ : (a b n : ℕ) → counting n (a + b) ≡ counting n a ++ counting (n + a) b
counting-++ zero b n = (let e : zero + b ≡ b = omega arith in let f : n ≡ n + zero = omega arith in ap (counting n) e ∙ ap (λ m. counting m b) f)
counting-++ (suc a) b n =
    let e : suc a + b ≡ suc (a + b) = omega arith in
    let f : n + 1 + a ≡ n + suc a = omega arith in
    ap (counting n) e ∙ ap (λ l. n ∷ l) (counting-++ a b (n + 1) ∙ ap (λ m. counting (n + 1) a ++ counting m b) f)

in_order_from : (r : Rule) (n : ℕ) → numbers (nodes_from n r) ≡ counting n (size r)
in_order_from (duty k p q) n = refl
in_order_from (trigger k p q r) n = ap (λ l. n ∷ l) (in_order_from r (n + 1))
in_order_from (bracket k r t) n =
    ap (λ l. n ∷ l) (map-append (λ x. x.number) (nodes_from (n + 1) r) (nodes_from (n + 1 + size r) t) ∙ ap (λ l. l ++ numbers (nodes_from (n + 1 + size r) t)) (in_order_from r (n + 1)) ∙ ap (λ l. counting (n + 1) (size r) ++ l) (in_order_from t (n + 1 + size r)) ∙ sym (counting-++ (size r) (size t) (n + 1)))

pub in_order : InOrder
in_order r = in_order_from r 1
