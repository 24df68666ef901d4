-- Parts and sums: what is written as one, up to a token that does not go on with it, is written as no other.
use Rattle.std.proofs.Common.{◌≡◌, ℕ, List, ◌∷◌, ◌++◌, sym, refl, ◌∙◌}
use Rattle.book.specs.Sets.{Letters}
use Rattle.book.specs.declared.terms.Letter.{Letter}
use Rattle.book.specs.declared.terms.Part.{Part}
use Rattle.book.specs.declared.terms.Part.TheVariants.{Number, Bound, Product}
use Rattle.book.specs.declared.terms.Sign.{Sign}
use Rattle.book.specs.declared.terms.Sum.{Sum}
use Rattle.book.specs.declared.terms.Sum.TheVariants.{One, Two, Three}
use Rattle.book.specs.declared.terms.Condition.{Condition}
use Rattle.book.specs.declared.terminals.Terminal.{Terminal}
use Rattle.book.specs.declared.terminals.Terminal.TheVariants.{Lettered, Numeral, Compare, Plus, Times}
use Rattle.book.specs.Grammar.{mark, part_items, sum_items, condition_items, tokens_of}
use Rattle.book.specs.Parts.{PartStops, SumStops, ConditionStops}
use Rattle.book.specs.Reading.{Fits, any}
use Rattle.book.proofs.Compose.{closed, stops, flat}

part_code : (k : ℕ) (s : Letters) (p q : Part) (u w : List Terminal) → Fits PartStops p u → Fits PartStops q w → tokens_of (part_items k s p) ++ u ≡ tokens_of (part_items k s q) ++ w → (p ≡ q) × (u ≡ w)
part_code k s (Number n) (Number m) u w f g e = (cc, cc)
part_code k s (Number n) (Bound l) u w f g e = absurd (cc)
part_code k s (Number n) (Product m l) u w f g e = absurd (f Times (Lettered l ∷ w) (cc) refl)
part_code k s (Bound l) (Number m) u w f g e = absurd (cc)
part_code k s (Bound l) (Bound m) u w f g e = (cc, cc)
part_code k s (Bound l) (Product m j) u w f g e = absurd (cc)
part_code k s (Product n l) (Number m) u w f g e = absurd (g Times (Lettered l ∷ u) (cc) refl)
part_code k s (Product n l) (Bound m) u w f g e = absurd (cc)
part_code k s (Product n l) (Product m j) u w f g e = (cc, cc)

-- a token that is no `*` ends each part, and one that is no `+` either each sum
pub part_ends : (p : Part) (t : Terminal) → (t ≡ Times → ⊥) → PartStops p t
part_ends (Number n) t h = h
part_ends (Bound l) t h = tt
part_ends (Product n l) t h = tt

pub sum_ends : (x : Sum) (t : Terminal) → (t ≡ Times → ⊥) → (t ≡ Plus → ⊥) → SumStops x t
sum_ends (One p) t h g = (g, part_ends p t h)
sum_ends (Two p q) t h g = (g, part_ends q t h)
sum_ends (Three p q r) t h g = part_ends r t h

plus_ends : (p : Part) (u : List Terminal) → Fits PartStops p (Plus ∷ u)
plus_ends p u = stops PartStops p Plus u (part_ends p Plus (λ e. cc))

pub compare_ends : (x : Sum) (g : Sign) (u : List Terminal) → Fits SumStops x (Compare g ∷ u)
compare_ends x g u = stops SumStops x (Compare g) u (sum_ends x (Compare g) (λ e. cc) (λ e. cc))

pub sum_code : (k : ℕ) (s : Letters) (x y : Sum) (u w : List Terminal) → Fits SumStops x u → Fits SumStops y w → tokens_of (sum_items k s x) ++ u ≡ tokens_of (sum_items k s y) ++ w → (x ≡ y) × (u ≡ w)
sum_code k s (One p) (One p') u w f g e =
    let c1 = part_code k s p p' u w (λ t v q. (f t v q).1) (λ t v q. (g t v q).1) (e) in let d1 = c1.0 in (cc, c1.1)
sum_code k s (One p) (Two p' q') u w f g e =
    absurd ((f Plus _ (part_code k s p p' u _ (λ t v q. (f t v q).1) (plus_ends p' (tokens_of (part_items k s q') ++ w)) (e ∙ flat (part_items k s p') (mark Plus) (part_items k s q') w)).1).0 refl)
sum_code k s (One p) (Three p' q' r') u w f g e =
    absurd ((f Plus _ (part_code k s p p' u _ (λ t v q. (f t v q).1) (plus_ends p' (tokens_of ((part_items k s q' ++ (mark Plus ∷ part_items k s r'))) ++ w)) (e ∙ flat (part_items k s p') (mark Plus) ((part_items k s q' ++ (mark Plus ∷ part_items k s r'))) w)).1).0 refl)
sum_code k s (Two p q) (One p') u w f g e =
    absurd ((g Plus _ (sym (part_code k s p p' _ w (plus_ends p (tokens_of (part_items k s q) ++ u)) (λ t v q. (g t v q).1) (sym (flat (part_items k s p) (mark Plus) (part_items k s q) u) ∙ e)).1)).0 refl)
sum_code k s (Two p q) (Two p' q') u w f g e =
    let c1 = part_code k s p p' (Plus ∷ (tokens_of (part_items k s q) ++ u)) (Plus ∷ (tokens_of (part_items k s q') ++ w)) (plus_ends p (tokens_of (part_items k s q) ++ u)) (plus_ends p' (tokens_of (part_items k s q') ++ w)) (sym (flat (part_items k s p) (mark Plus) (part_items k s q) u) ∙ e ∙ flat (part_items k s p') (mark Plus) (part_items k s q') w) in
    let h1 = c1.1 in let d1 = c1.0 in let e1 : tokens_of (part_items k s q) ++ u ≡ tokens_of (part_items k s q') ++ w = cc in
    let c2 = part_code k s q q' u w (λ t v q. (f t v q).1) (λ t v q. (g t v q).1) (e1) in let d2 = c2.0 in (cc, c2.1)
sum_code k s (Two p q) (Three p' q' r') u w f g e =
    let c1 = part_code k s p p' (Plus ∷ (tokens_of (part_items k s q) ++ u)) (Plus ∷ (tokens_of ((part_items k s q' ++ (mark Plus ∷ part_items k s r'))) ++ w)) (plus_ends p (tokens_of (part_items k s q) ++ u)) (plus_ends p' (tokens_of ((part_items k s q' ++ (mark Plus ∷ part_items k s r'))) ++ w)) (sym (flat (part_items k s p) (mark Plus) (part_items k s q) u) ∙ e ∙ flat (part_items k s p') (mark Plus) ((part_items k s q' ++ (mark Plus ∷ part_items k s r'))) w) in
    let h1 = c1.1 in let d1 = c1.0 in let e1 : tokens_of (part_items k s q) ++ u ≡ tokens_of ((part_items k s q' ++ (mark Plus ∷ part_items k s r'))) ++ w = cc in
    absurd ((f Plus _ (part_code k s q q' u _ (λ t v q. (f t v q).1) (plus_ends q' (tokens_of (part_items k s r') ++ w)) (e1 ∙ flat (part_items k s q') (mark Plus) (part_items k s r') w)).1).0 refl)
sum_code k s (Three p q r) (One p') u w f g e =
    absurd ((g Plus _ (sym (part_code k s p p' _ w (plus_ends p (tokens_of ((part_items k s q ++ (mark Plus ∷ part_items k s r))) ++ u)) (λ t v q. (g t v q).1) (sym (flat (part_items k s p) (mark Plus) ((part_items k s q ++ (mark Plus ∷ part_items k s r))) u) ∙ e)).1)).0 refl)
sum_code k s (Three p q r) (Two p' q') u w f g e =
    let c1 = part_code k s p p' (Plus ∷ (tokens_of ((part_items k s q ++ (mark Plus ∷ part_items k s r))) ++ u)) (Plus ∷ (tokens_of (part_items k s q') ++ w)) (plus_ends p (tokens_of ((part_items k s q ++ (mark Plus ∷ part_items k s r))) ++ u)) (plus_ends p' (tokens_of (part_items k s q') ++ w)) (sym (flat (part_items k s p) (mark Plus) ((part_items k s q ++ (mark Plus ∷ part_items k s r))) u) ∙ e ∙ flat (part_items k s p') (mark Plus) (part_items k s q') w) in
    let h1 = c1.1 in let d1 = c1.0 in let e1 : tokens_of ((part_items k s q ++ (mark Plus ∷ part_items k s r))) ++ u ≡ tokens_of (part_items k s q') ++ w = cc in
    absurd ((g Plus _ (sym (part_code k s q q' _ w (plus_ends q (tokens_of (part_items k s r) ++ u)) (λ t v q. (g t v q).1) (sym (flat (part_items k s q) (mark Plus) (part_items k s r) u) ∙ e1)).1)).0 refl)
sum_code k s (Three p q r) (Three p' q' r') u w f g e =
    let c1 = part_code k s p p' (Plus ∷ (tokens_of ((part_items k s q ++ (mark Plus ∷ part_items k s r))) ++ u)) (Plus ∷ (tokens_of ((part_items k s q' ++ (mark Plus ∷ part_items k s r'))) ++ w)) (plus_ends p (tokens_of ((part_items k s q ++ (mark Plus ∷ part_items k s r))) ++ u)) (plus_ends p' (tokens_of ((part_items k s q' ++ (mark Plus ∷ part_items k s r'))) ++ w)) (sym (flat (part_items k s p) (mark Plus) ((part_items k s q ++ (mark Plus ∷ part_items k s r))) u) ∙ e ∙ flat (part_items k s p') (mark Plus) ((part_items k s q' ++ (mark Plus ∷ part_items k s r'))) w) in
    let h1 = c1.1 in let d1 = c1.0 in let e1 : tokens_of ((part_items k s q ++ (mark Plus ∷ part_items k s r))) ++ u ≡ tokens_of ((part_items k s q' ++ (mark Plus ∷ part_items k s r'))) ++ w = cc in
    let c2 = part_code k s q q' (Plus ∷ (tokens_of (part_items k s r) ++ u)) (Plus ∷ (tokens_of (part_items k s r') ++ w)) (plus_ends q (tokens_of (part_items k s r) ++ u)) (plus_ends q' (tokens_of (part_items k s r') ++ w)) (sym (flat (part_items k s q) (mark Plus) (part_items k s r) u) ∙ e1 ∙ flat (part_items k s q') (mark Plus) (part_items k s r') w) in
    let h2 = c2.1 in let d2 = c2.0 in let e2 : tokens_of (part_items k s r) ++ u ≡ tokens_of (part_items k s r') ++ w = cc in
    let c3 = part_code k s r r' u w f g (e2) in let d3 = c3.0 in (cc, c3.1)

-- How sums go on.
pub part_first : (k : ℕ) (s : Letters) (x : Part) (t : Terminal) (u more : List Terminal) → tokens_of (part_items k s x) ++ u ≡ t ∷ more → ((n : ℕ) → t ≡ Numeral n → ⊥) → ((l : Letter) → t ≡ Lettered l → ⊥) → ⊥
part_first k s (Number n) t u more e a b = a n (cc)
part_first k s (Bound l) t u more e a b = b l (cc)
part_first k s (Product n l) t u more e a b = a n (cc)

-- after `n *` comes a letter
pub inv_product : (k : ℕ) (s : Letters) (n : ℕ) (y : Part) (u v : List Terminal) → Fits PartStops y u → tokens_of (part_items k s y) ++ u ≡ Numeral n ∷ Times ∷ v → (x : Letter) × (w : List Terminal) × (Fits (any Letter) x w) × (v ≡ Lettered x ∷ w)
inv_product k s n (Number m) u v f e = absurd (f Times v (cc) refl)
inv_product k s n (Bound l) u v f e = absurd (cc)
inv_product k s n (Product m l) u v f e = (l, u, closed l u, cc)

-- a sum begins with a part
pub inv_one : (k : ℕ) (s : Letters) (y : Sum) (u v : List Terminal) → Fits SumStops y u → tokens_of (sum_items k s y) ++ u ≡ v → (x : Part) × (w : List Terminal) × (Fits PartStops x w) × (v ≡ tokens_of (part_items k s x) ++ w)
inv_one k s (One p) u v f e = (p, u, (λ t w q. (f t w q).1), sym e)
inv_one k s (Two p q) u v f e = (p, _, plus_ends p (tokens_of (part_items k s q) ++ u), sym e ∙ flat (part_items k s p) (mark Plus) (part_items k s q) u)
inv_one k s (Three p q r) u v f e = (p, _, plus_ends p (tokens_of (part_items k s q ++ (mark Plus ∷ part_items k s r)) ++ u), sym e ∙ flat (part_items k s p) (mark Plus) (part_items k s q ++ (mark Plus ∷ part_items k s r)) u)

-- after one part and a `+` comes a part
pub inv_two : (k : ℕ) (s : Letters) (a : Part) (y : Sum) (u v : List Terminal) → Fits SumStops y u → tokens_of (sum_items k s y) ++ u ≡ tokens_of (part_items k s a) ++ Plus ∷ v → (x : Part) × (w : List Terminal) × (Fits PartStops x w) × (v ≡ tokens_of (part_items k s x) ++ w)
inv_two k s a (One p) u v f e = absurd ((f Plus v (part_code k s p a u (Plus ∷ v) (λ t w q. (f t w q).1) (plus_ends a v) e).1).0 refl)
inv_two k s a (Two p q) u v f e =
    let c = (part_code k s p a (Plus ∷ (tokens_of (part_items k s q) ++ u)) (Plus ∷ v) (plus_ends p _) (plus_ends a v) (sym (flat (part_items k s p) (mark Plus) (part_items k s q) u) ∙ e)).1 in
    (q, u, (λ t w r. (f t w r).1), (let h : tokens_of (part_items k s q) ++ u ≡ v = cc in sym h))
inv_two k s a (Three p q r) u v f e =
    let R = part_items k s q ++ (mark Plus ∷ part_items k s r) in
    let c = (part_code k s p a (Plus ∷ (tokens_of R ++ u)) (Plus ∷ v) (plus_ends p _) (plus_ends a v) (sym (flat (part_items k s p) (mark Plus) R u) ∙ e)).1 in
    let h : tokens_of R ++ u ≡ v = cc in
    (q, _, plus_ends q (tokens_of (part_items k s r) ++ u), sym h ∙ flat (part_items k s q) (mark Plus) (part_items k s r) u)

-- after two parts and a `+` comes a part
pub inv_three : (k : ℕ) (s : Letters) (a b : Part) (y : Sum) (u v : List Terminal) → Fits SumStops y u → tokens_of (sum_items k s y) ++ u ≡ tokens_of (part_items k s a) ++ Plus ∷ (tokens_of (part_items k s b) ++ Plus ∷ v) → (x : Part) × (w : List Terminal) × (Fits PartStops x w) × (v ≡ tokens_of (part_items k s x) ++ w)
inv_three k s a b (One p) u v f e = absurd ((f Plus _ (part_code k s p a u (Plus ∷ (tokens_of (part_items k s b) ++ Plus ∷ v)) (λ t w q. (f t w q).1) (plus_ends a _) e).1).0 refl)
inv_three k s a b (Two p q) u v f e =
    let c = (part_code k s p a (Plus ∷ (tokens_of (part_items k s q) ++ u)) (Plus ∷ (tokens_of (part_items k s b) ++ Plus ∷ v)) (plus_ends p _) (plus_ends a _) (sym (flat (part_items k s p) (mark Plus) (part_items k s q) u) ∙ e)).1 in
    let h : tokens_of (part_items k s q) ++ u ≡ tokens_of (part_items k s b) ++ Plus ∷ v = cc in
    absurd ((f Plus _ (part_code k s q b u (Plus ∷ v) (λ t w r. (f t w r).1) (plus_ends b v) h).1).0 refl)
inv_three k s a b (Three p q r) u v f e =
    let R = part_items k s q ++ (mark Plus ∷ part_items k s r) in
    let c = (part_code k s p a (Plus ∷ (tokens_of R ++ u)) (Plus ∷ (tokens_of (part_items k s b) ++ Plus ∷ v)) (plus_ends p _) (plus_ends a _) (sym (flat (part_items k s p) (mark Plus) R u) ∙ e)).1 in
    let h : tokens_of R ++ u ≡ tokens_of (part_items k s b) ++ Plus ∷ v = cc in
    let d = (part_code k s q b (Plus ∷ (tokens_of (part_items k s r) ++ u)) (Plus ∷ v) (plus_ends q _) (plus_ends b v) (sym (flat (part_items k s q) (mark Plus) (part_items k s r) u) ∙ h)).1 in
    let g : tokens_of (part_items k s r) ++ u ≡ v = cc in
    (r, u, f, sym g)

-- How conditions go on.
abbrev pub some_sum : Sum
some_sum = One (Number 0)

abbrev pub condition : Sum → Sign → Sum → Condition
condition x g y = record { left = x; sign = g; right = y }

pub inv_left : (k : ℕ) (s : Letters) (y : Condition) (u v : List Terminal) → Fits ConditionStops y u → tokens_of (condition_items k s y) ++ u ≡ v → (x : Sum) × (w : List Terminal) × (Fits SumStops x w) × (v ≡ tokens_of (sum_items k s x) ++ w)
inv_left k s y u v f e = (y.left, _, compare_ends y.left y.sign (tokens_of (sum_items k s y.right) ++ u), sym e ∙ flat (sum_items k s y.left) (mark (Compare y.sign)) (sum_items k s y.right) u)

-- after a left sum comes a sign
pub inv_sign : (k : ℕ) (s : Letters) (a : Sum) (t : Terminal) → SumStops a t → ((g : Sign) → t ≡ Compare g → ⊥) → (y : Condition) (u more : List Terminal) → tokens_of (condition_items k s y) ++ u ≡ tokens_of (sum_items k s a) ++ t ∷ more → ⊥
inv_sign k s a t h no_sign y u more e =
    let c = (sum_code k s y.left a (Compare y.sign ∷ (tokens_of (sum_items k s y.right) ++ u)) (t ∷ more) (compare_ends y.left y.sign _) (stops SumStops a t more h)
    (sym (flat (sum_items k s y.left) (mark (Compare y.sign)) (sum_items k s y.right) u) ∙ e)).1 in
    no_sign y.sign (cc)

pub inv_right : (k : ℕ) (s : Letters) (a : Sum) (g : Sign) (y : Condition) (u v : List Terminal) → Fits ConditionStops y u → tokens_of (condition_items k s y) ++ u ≡ tokens_of (sum_items k s a) ++ Compare g ∷ v → (x : Sum) × (w : List Terminal) × (Fits SumStops x w) × (v ≡ tokens_of (sum_items k s x) ++ w)
inv_right k s a g y u v f e =
    let c = (sum_code k s y.left a (Compare y.sign ∷ (tokens_of (sum_items k s y.right) ++ u)) (Compare g ∷ v) (compare_ends y.left y.sign _) (compare_ends a g v)
    (sym (flat (sum_items k s y.left) (mark (Compare y.sign)) (sum_items k s y.right) u) ∙ e)).1 in
    let h : tokens_of (sum_items k s y.right) ++ u ≡ v = cc in
    (y.right, u, f, sym h)

pub condition_code : (k : ℕ) (s : Letters) (x y : Condition) (u w : List Terminal) → Fits ConditionStops x u → Fits ConditionStops y w → tokens_of (condition_items k s x) ++ u ≡ tokens_of (condition_items k s y) ++ w → (x ≡ y) × (u ≡ w)
condition_code k s x y u w f g e =
    let X = sum_items k s x.right in
    let Y = sum_items k s y.right in
    let c = sum_code k s x.left y.left (Compare x.sign ∷ (tokens_of X ++ u)) (Compare y.sign ∷ (tokens_of Y ++ w)) (compare_ends x.left x.sign _) (compare_ends y.left y.sign _)
    (sym (flat (sum_items k s x.left) (mark (Compare x.sign)) X u) ∙ e ∙ flat (sum_items k s y.left) (mark (Compare y.sign)) Y w) in
    let h = c.1 in
    let sg : x.sign ≡ y.sign = cc in
    let t : tokens_of X ++ u ≡ tokens_of Y ++ w = cc in
    let d = sum_code k s x.right y.right u w f g t in
    ((λ i. record { left = c.0 i; sign = sg i; right = d.0 i }), d.1)
