-- How a pattern is made up of its binders and its conditions.
use Rattle.std.proofs.Common.{◌≡◌, List, [], ◌∷◌, ◌++◌, Err, sym, ap, ◌∙◌, subst, append_assoc, append-nil}
use Rattle.book.specs.declared.patterns.Ending.{Ending}
use Rattle.book.specs.declared.patterns.Ending.TheVariants as ending
use Rattle.book.specs.declared.refusals.Refusal.{Refusal}
use Rattle.book.specs.declared.refusals.Refusal.TheVariants.{Faulty, NoMemory}
use Rattle.book.specs.declared.rules.Pattern as held
use Rattle.book.specs.declared.terms.Binder.{Binder}
use Rattle.book.specs.declared.terms.Condition.{Condition}
use Rattle.book.specs.declared.terms.Sign.TheVariants.{AtMost}
use Rattle.book.specs.declared.terminals.Terminal.{Terminal}
use Rattle.book.specs.declared.terminals.Terminal.TheVariants.{Never, If, OpenSquare, CloseSquare}
use Rattle.book.specs.Rules.{Pattern, never, lines}
use Rattle.book.specs.Sets.{Letters, with_binders}
use Rattle.book.specs.Grammar.{Item, mark, binder_items, conditions_items, if_items, pattern_items, tokens_of}
use Rattle.book.specs.Text.{Lexeme}
use Rattle.book.specs.Patterns.{binders_closed, ToldBinders, conditions_closed, ToldConditions}
use Rattle.book.specs.Reading.{any, Reads, Fails}
use Rattle.book.specs.Readers.{ToldBy}
use Rattle.book.specs.Trees.{pure_pattern}
use Rattle.book.proofs.Compose.{closed, flat, read_on, alike, within}
use Rattle.book.proofs.Sums.{some_sum, condition}
use Rattle.book.proofs.Codes.{binders_code}

pub pattern_first : (s : Letters) (x : Pattern) (t : Terminal) (u more : List Terminal) → tokens_of (pattern_items s x) ++ u ≡ t ∷ more → (t ≡ Never → ⊥) → (t ≡ OpenSquare → ⊥) → ⊥
pattern_first s never t u more e a b = a (cc)
pattern_first s (lines bs cs) t u more e a b = b (cc)

abbrev some_condition : Condition
some_condition = condition some_sum AtMost some_sum

-- a pattern with these binders, and with conditions or none
abbrev follow : Ending → List Condition
follow ending.Conditions = some_condition ∷ []
follow ending.Pattern = []

abbrev with-closer : List Binder × Ending → Pattern
with-closer x = lines x.0 (follow x.1)

abbrev rest_of : Letters → Ending → List Item
rest_of s ending.Conditions = conditions_items 1 s some_condition []
rest_of s ending.Pattern = []

ends : (s : Letters) (bs : List Binder) (c : Ending) → pattern_items s (with-closer (bs, c)) ≡ (mark OpenSquare ∷ []) ++ (binders_closed (bs, c) ++ rest_of (with_binders s bs) c)
ends s bs ending.Conditions = ap (λ l. mark OpenSquare ∷ l) (sym (append_assoc (binder_items bs) (mark If ∷ []) (conditions_items 1 (with_binders s bs) some_condition [])))
ends s bs ending.Pattern = ap (λ l. mark OpenSquare ∷ l) (sym (append-nil (binder_items bs ++ (mark CloseSquare ∷ []))))

inv_binders : (s : Letters) (y : Pattern) (u v : List Terminal) → tokens_of (pattern_items s y) ++ u ≡ OpenSquare ∷ v → (x : List Binder × Ending) × (w : List Terminal) × (v ≡ tokens_of (binders_closed x) ++ w)
inv_binders s never u v e = absurd (cc)
inv_binders s (lines bs []) u v e = ((bs, ending.Pattern), u, (let h : tokens_of (binder_items bs ++ (mark CloseSquare ∷ [])) ++ u ≡ v = cc in sym h))
inv_binders s (lines bs (c ∷ cs)) u v e =
    let C = conditions_items 1 (with_binders s bs) c cs in
    let h : tokens_of (binder_items bs ++ (mark If ∷ C)) ++ u ≡ v = cc in
    ((bs, ending.Conditions), tokens_of C ++ u, sym h ∙ flat (binder_items bs) (mark If) C u ∙ sym (flat (binder_items bs) (mark If) [] (tokens_of C ++ u)))

pub binders_failed : (s : Letters) (from mid to to' : List Lexeme) (xs ys : List Binder) → Reads from (mark OpenSquare ∷ []) mid → (e : Refusal) → ToldBinders binders_closed mid (Err e) to xs ys → ToldBy held.Pattern Pattern pure_pattern (pattern_items s) from (Err e) to'
binders_failed s from mid to to' xs ys r (Faulty e) h =
    within (List Binder × Ending) Pattern binders_closed (any (List Binder × Ending)) (pattern_items s) (any Pattern) (mark OpenSquare ∷ []) with-closer (λ x. rest_of (with_binders s x.0) x.1) (λ x. ends s x.0 x.1)
    (λ y u v _ q. let i = inv_binders s y u v q in (i.0, i.1, closed i.0 i.1, i.2)) from mid e.reason e.place r h
binders_failed s from mid to to' xs ys r NoMemory h = tt

inv_conditions : (s : Letters) (bs : List Binder) (y : Pattern) (u v : List Terminal) → tokens_of (pattern_items s y) ++ u ≡ tokens_of (mark OpenSquare ∷ (binder_items bs ++ (mark If ∷ []))) ++ v
    → (x : Condition × List Condition) × (w : List Terminal) × (v ≡ tokens_of (conditions_closed 1 (with_binders s bs) x) ++ w)
inv_conditions s bs never u v e = absurd (cc)
inv_conditions s bs (lines bs' []) u v e =
    let h : tokens_of (binders_closed (bs', ending.Pattern)) ++ u ≡ tokens_of (binders_closed (bs, ending.Conditions)) ++ v = cc in
    let c = (binders_code bs' bs ending.Pattern ending.Conditions u v h).1 in
    absurd (cc)
inv_conditions s bs (lines bs' (c ∷ cs)) u v e =
    let C = conditions_items 1 (with_binders s bs') c cs in
    let h : tokens_of (binder_items bs' ++ (mark If ∷ C)) ++ u ≡ tokens_of (binders_closed (bs, ending.Conditions)) ++ v = cc in
    let q = binders_code bs' bs ending.Conditions ending.Conditions (tokens_of C ++ u) v (flat (binder_items bs') (mark If) [] (tokens_of C ++ u) ∙ sym (flat (binder_items bs') (mark If) C u) ∙ h) in
    ((c, cs), u, sym q.2 ∙ ap (λ b. tokens_of (conditions_items 1 (with_binders s b) c cs) ++ u) q.0)

pub conditions_failed : (s : Letters) (bs : List Binder) (inner : Letters) → inner ≡ with_binders s bs → (from mid to to' : List Lexeme) → Reads from (mark OpenSquare ∷ binders_closed (bs, ending.Conditions)) mid → (e : Refusal) → ToldConditions inner mid (Err e) to → ToldBy held.Pattern Pattern pure_pattern (pattern_items s) from (Err e) to'
conditions_failed s bs inner q from mid to to' r (Faulty e) h =
    within (Condition × List Condition) Pattern (conditions_closed 1 (with_binders s bs)) (any (Condition × List Condition)) (pattern_items s) (any Pattern) (mark OpenSquare ∷ binders_closed (bs, ending.Conditions)) (λ x. lines bs (x.0 ∷ x.1)) (λ _. [])
    (λ x. ap (λ l. mark OpenSquare ∷ (binder_items bs ++ (mark If ∷ l))) (sym (append-nil (conditions_closed 1 (with_binders s bs) x))) ∙ ap (λ l. mark OpenSquare ∷ l) (sym (append_assoc (binder_items bs) (mark If ∷ []) (conditions_closed 1 (with_binders s bs) x ++ []))))
    (λ y u v _ p. let i = inv_conditions s bs y u v p in (i.0, i.1, closed i.0 i.1, i.2)) from mid e.reason e.place r
    (subst (λ l. Fails (Condition × List Condition) (conditions_closed 1 l) (any (Condition × List Condition)) mid e.reason e.place) q h)
conditions_failed s bs inner q from mid to to' r NoMemory h = tt

-- binders alone
pub lines-read : (s : Letters) (bs zs : List Binder) (cs : List Condition) (from to : List Lexeme) → zs ≡ bs → cs ≡ [] → Reads from (mark OpenSquare ∷ binders_closed (bs, ending.Pattern)) to
    → Reads from (mark OpenSquare ∷ (binder_items zs ++ if_items (with_binders s zs) cs)) to
lines-read s bs zs cs from to e f r = alike from to _ _ (λ i. mark OpenSquare ∷ (binder_items (sym e i) ++ if_items (with_binders s (sym e i)) (sym f i))) r

-- binders and conditions
pub lines_if_read : (s : Letters) (bs zs : List Binder) (inner : Letters) (c : Condition) (cs ds : List Condition) (from mid to : List Lexeme) → zs ≡ bs → inner ≡ with_binders s bs → ds ≡ c ∷ cs
    → Reads from (mark OpenSquare ∷ binders_closed (bs, ending.Conditions)) mid → Reads mid (conditions_items 1 inner c cs) to → Reads from (mark OpenSquare ∷ (binder_items zs ++ if_items (with_binders s zs) ds)) to
lines_if_read s bs zs inner c cs ds from mid to e q f r h =
    alike from to (mark OpenSquare ∷ (binder_items bs ++ if_items (with_binders s bs) (c ∷ cs))) _ (λ i. mark OpenSquare ∷ (binder_items (sym e i) ++ if_items (with_binders s (sym e i)) (sym f i)))
    (alike from to ((mark OpenSquare ∷ binders_closed (bs, ending.Conditions)) ++ conditions_items 1 (with_binders s bs) c cs) _ (ap (λ l. mark OpenSquare ∷ l) (append_assoc (binder_items bs) (mark If ∷ []) (conditions_items 1 (with_binders s bs) c cs)))
    (read_on from mid to (mark OpenSquare ∷ binders_closed (bs, ending.Conditions)) (conditions_items 1 (with_binders s bs) c cs) r (subst (λ l. Reads mid (conditions_items 1 l c cs) to) q h)))
