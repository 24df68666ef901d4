-- How the lists of a pattern go on.
use Rattle.std.proofs.Common.{◌≡◌, ◌≢◌, false, MatchOption, Option, ℕ, ◌+◌, ◌≤◌, nat_lt, if◌then◌else◌, List, [], ◌∷◌, ◌++◌, Some, None, Ok, Err, Result, sym, refl, ap, ◌∙◌, subst, append_assoc, append-nil, ltb-false}
use Rattle.book.specs.declared.patterns.Ending.{Ending}
use Rattle.book.specs.declared.patterns.Ending.TheVariants as ending
use Rattle.feed.specs.declared.fields.Field.{Field}
use Rattle.feed.specs.declared.fields.Field.TheVariants as fields
use Rattle.book.specs.declared.refusals.Reason.{Reason}
use Rattle.book.specs.declared.refusals.Reason.TheVariants.{NotAllowed, Unbound}
use Rattle.book.specs.declared.refusals.Refusal.{Refusal}
use Rattle.book.specs.declared.refusals.Refusal.TheVariants.{Faulty, NoMemory}
use Rattle.std.specs.Option.{ok_or}
use Rattle.book.specs.declared.terminals.Seen.{Seen}
use Rattle.book.specs.declared.terms.Letter.{Letter}
use Rattle.book.specs.declared.terms.Binder.{Binder}
use Rattle.book.specs.declared.terms.Operand.{Operand}
use Rattle.book.specs.declared.terms.Operand.TheVariants as operand
use Rattle.book.specs.declared.terms.Part.{Part}
use Rattle.book.specs.declared.terms.Part.TheVariants as part
use Rattle.book.specs.declared.terms.Sum.{Sum}
use Rattle.book.specs.declared.terms.Sum.TheVariants.{One, Two, Three}
use Rattle.book.specs.declared.terms.Condition.{Condition}
use Rattle.book.specs.declared.terminals.Terminal.{Terminal}
use Rattle.book.specs.declared.terminals.Terminal.TheVariants.{Named, Lettered, Numeral, Comma, CloseSquare}
use Rattle.book.specs.Sets.{Fields, Letters, has, no_letters, no_fields, with_field, with_operand}
use Rattle.book.specs.Grammar.{Item, item, mark, names, operand_item, part_items, sum_items, condition_items, conditions_items, tokens_of}
use Rattle.book.specs.Text.{Lexeme}
use Rattle.book.specs.Faults.{AllSound, fault}
use Rattle.book.specs.Parts.{ConditionStops}
use Rattle.book.specs.Patterns.{closer, operand_items, more_closed, binders_closed, ToldBinders, conditions_closed}
use Rattle.book.specs.Reading.{Fits, any, Reads, Fails}
use Rattle.book.specs.Readers.{is_end, seen_as}
use Rattle.book.proofs.Compose.{one, wrong_first, within_limit, closed, stops, flat, read_on, alike, within}
use Rattle.book.proofs.Sums.{sum_ends, condition_code}

-- Operands.
pub operand_first : (ls : Letters) (v : Operand) (t : Terminal) (u more : List Terminal) → tokens_of (operand_items ls v) ++ u ≡ t ∷ more → ((n : ℕ) → t ≡ Numeral n → ⊥) → ((l : Letter) → t ≡ Lettered l → ⊥) → ⊥
operand_first ls (operand.Number n) t u more e a b = a n (cc)
operand_first ls (operand.Bound l) t u more e a b = b l (cc)

operand_code : (ls ls' : Letters) (v v' : Operand) (u w : List Terminal) → tokens_of (operand_items ls v) ++ u ≡ tokens_of (operand_items ls' v') ++ w → (v ≡ v') × (u ≡ w)
operand_code ls ls' (operand.Number n) (operand.Number m) u w e = (cc, cc)
operand_code ls ls' (operand.Number n) (operand.Bound l) u w e = absurd (cc)
operand_code ls ls' (operand.Bound l) (operand.Number m) u w e = absurd (cc)
operand_code ls ls' (operand.Bound l) (operand.Bound m) u w e = (cc, cc)

-- Binders after the first.
abbrev pub binder : Field → Operand → Binder
binder f v = record { field = f; operand = v }

closer_goes : (b : Ending) → is_end (closer b) ≡ false
closer_goes ending.Conditions = refl
closer_goes ending.Pattern = refl

-- what stands where binders may end is an ending, or not allowed
pub ended : (P : List Binder × Ending → List Item) (from rest to : List Lexeme) (s : Seen) (xs : List Binder) (o : Option Ending)
    → ((b : Ending) → P ([], b) ≡ mark (closer b) ∷ [])
    → ((x : List Binder × Ending) (u more : List Terminal) → tokens_of (P x) ++ u ≡ s.terminal ∷ more → ((b : Ending) → s.terminal ≢ closer b) → ⊥)
    → from ≡ seen_as s ∷ rest → (is_end s.terminal ≡ false → rest ≡ to) → MatchOption o ((b : Ending) → s.terminal ≢ closer b) (λ b. s.terminal ≡ closer b)
    → ToldBinders P from (ok_or o (Faulty (record { reason = NotAllowed; place = s.place }))) to xs xs
ended P from rest to s xs None eq none e goes m = wrong_first (List Binder × Ending) P (any (List Binder × Ending)) ([], ending.Pattern) from rest s e (λ x u more f q. none x u more q m)
ended P from rest to s xs (Some b) eq none e goes m = ([], sym (append-nil _), alike _ _ _ _ (sym (eq b)) (one from rest to s (mark (closer b)) e goes m (closer_goes b) refl))

pub more-first : (fs : Fields) (ls : Letters) (bs : List Binder) (b : Ending) (t : Terminal) (u more : List Terminal) → tokens_of (more_closed fs ls (bs, b)) ++ u ≡ t ∷ more → ((b : Ending) → t ≢ closer b) → t ≢ Comma → ⊥
more-first fs ls [] b t u more e n c = n b (cc)
more-first fs ls (x ∷ bs) b t u more e n c = c (cc)

pub inv_field : (fs : Fields) (ls : Letters) (bs : List Binder) (b : Ending) (u v : List Terminal) → tokens_of (more_closed fs ls (bs, b)) ++ u ≡ Comma ∷ v → (x : Field) × (w : List Terminal) × (v ≡ Named x ∷ w)
inv_field fs ls [] ending.Conditions u v e = absurd (cc)
inv_field fs ls [] ending.Pattern u v e = absurd (cc)
inv_field fs ls (x ∷ bs) b u v e = (x.field, (operand_item ls x.operand).token ∷ (tokens_of (more_closed (with_field fs x.field) (with_operand ls x.operand) (bs, b)) ++ u), (let h : Named x.field ∷ (operand_item ls x.operand).token ∷ (tokens_of (more_closed (with_field fs x.field) (with_operand ls x.operand) (bs, b)) ++ u) ≡ v = cc in sym h))

pub inv_operand : (fs : Fields) (ls : Letters) (f : Field) (bs : List Binder) (b : Ending) (u v : List Terminal) → tokens_of (more_closed fs ls (bs, b)) ++ u ≡ Comma ∷ Named f ∷ v → (x : Operand) × (w : List Terminal) × (v ≡ tokens_of (operand_items ls x) ++ w)
inv_operand fs ls f [] ending.Conditions u v e = absurd (cc)
inv_operand fs ls f [] ending.Pattern u v e = absurd (cc)
inv_operand fs ls f (x ∷ bs) b u v e = (x.operand, (tokens_of (more_closed (with_field fs x.field) (with_operand ls x.operand) (bs, b)) ++ u), (let h : (operand_item ls x.operand).token ∷ (tokens_of (more_closed (with_field fs x.field) (with_operand ls x.operand) (bs, b)) ++ u) ≡ v = cc in sym h))

pub inv_more : (fs : Fields) (ls : Letters) (f : Field) (o : Operand) (bs : List Binder) (b : Ending) (u v : List Terminal) → tokens_of (more_closed fs ls (bs, b)) ++ u ≡ Comma ∷ Named f ∷ (operand_item ls o).token ∷ v
    → (x : List Binder × Ending) × (w : List Terminal) × (v ≡ tokens_of (more_closed (with_field fs f) (with_operand ls o) x) ++ w)
inv_more fs ls f o [] ending.Conditions u v e = absurd (cc)
inv_more fs ls f o [] ending.Pattern u v e = absurd (cc)
inv_more fs ls f o (x ∷ bs) b u v e =
    let rest = tokens_of (more_closed (with_field fs x.field) (with_operand ls x.operand) (bs, b)) ++ u in
    let q : x.field ≡ f = cc in
    let h : tokens_of (operand_items ls x.operand) ++ rest ≡ tokens_of (operand_items ls o) ++ v = cc in
    let c = operand_code ls ls x.operand o rest v h in
    ((bs, b), u, sym c.1 ∙ (λ i. tokens_of (more_closed (with_field fs (q i)) (with_operand ls (c.0 i)) (bs, b)) ++ u))

-- one binder more, and then what the rest gave
pub more_binders_lem : (fs : Fields) (ls : Letters) (f : Field) (o : Operand) (from mid to : List Lexeme) (xs ys zs : List Binder)
    → Reads from (mark Comma ∷ item (Named f) (names fs f) ∷ operand_item ls o ∷ []) mid → ys ≡ xs ++ (binder f o ∷ [])
    → (r : Result Ending Refusal) → ToldBinders (more_closed (with_field fs f) (with_operand ls o)) mid r to ys zs → ToldBinders (more_closed fs ls) from r to xs zs
more_binders_lem fs ls f o from mid to xs ys zs a e (Ok b) h =
    (binder f o ∷ h.0, h.1 ∙ ap (λ l. l ++ h.0) e ∙ append_assoc xs (binder f o ∷ []) h.0, read_on from mid to (mark Comma ∷ item (Named f) (names fs f) ∷ operand_item ls o ∷ []) (more_closed (with_field fs f) (with_operand ls o) (h.0, b)) a h.2)
more_binders_lem fs ls f o from mid to xs ys zs a e (Err (Faulty x)) h =
    within (List Binder × Ending) (List Binder × Ending) (more_closed (with_field fs f) (with_operand ls o)) (any (List Binder × Ending)) (more_closed fs ls) (any (List Binder × Ending)) (mark Comma ∷ item (Named f) (names fs f) ∷ operand_item ls o ∷ [])
    (λ y. (binder f o ∷ y.0, y.1)) (λ _. []) (λ y. ap (λ l. mark Comma ∷ item (Named f) (names fs f) ∷ operand_item ls o ∷ l) (sym (append-nil (more_closed (with_field fs f) (with_operand ls o) y))))
    (λ y u v _ q. let i = inv_more fs ls f o y.0 y.1 u v q in (i.0, i.1, closed i.0 i.1, i.2)) from mid x.reason x.place a h
more_binders_lem fs ls f o from mid to xs ys zs a e (Err NoMemory) h = tt

-- Binders from the first on.
pub binders_first : (bs : List Binder) (b : Ending) (t : Terminal) (u more : List Terminal) → tokens_of (binders_closed (bs, b)) ++ u ≡ t ∷ more → ((b : Ending) → t ≢ closer b) → ((f : Field) → t ≢ Named f) → ⊥
binders_first [] b t u more e n c = n b (cc)
binders_first (x ∷ bs) b t u more e n c = c x.field (cc)

pub inv_first_operand : (f : Field) (bs : List Binder) (b : Ending) (u v : List Terminal) → tokens_of (binders_closed (bs, b)) ++ u ≡ Named f ∷ v → (x : Operand) × (w : List Terminal) × (v ≡ tokens_of (operand_items no_letters x) ++ w)
inv_first_operand f [] ending.Conditions u v e = absurd (cc)
inv_first_operand f [] ending.Pattern u v e = absurd (cc)
inv_first_operand f (x ∷ bs) b u v e = (x.operand, (tokens_of (more_closed (with_field no_fields x.field) (with_operand no_letters x.operand) (bs, b)) ++ u), (let h : (operand_item no_letters x.operand).token ∷ (tokens_of (more_closed (with_field no_fields x.field) (with_operand no_letters x.operand) (bs, b)) ++ u) ≡ v = cc in sym h))

pub inv_first : (f : Field) (o : Operand) (bs : List Binder) (b : Ending) (u v : List Terminal) → tokens_of (binders_closed (bs, b)) ++ u ≡ Named f ∷ (operand_item no_letters o).token ∷ v
    → (x : List Binder × Ending) × (w : List Terminal) × (v ≡ tokens_of (more_closed (with_field no_fields f) (with_operand no_letters o) x) ++ w)
inv_first f o [] ending.Conditions u v e = absurd (cc)
inv_first f o [] ending.Pattern u v e = absurd (cc)
inv_first f o (x ∷ bs) b u v e =
    let rest = tokens_of (more_closed (with_field no_fields x.field) (with_operand no_letters x.operand) (bs, b)) ++ u in
    let q : x.field ≡ f = cc in
    let h : tokens_of (operand_items no_letters x.operand) ++ rest ≡ tokens_of (operand_items no_letters o) ++ v = cc in
    let c = operand_code no_letters no_letters x.operand o rest v h in
    ((bs, b), u, sym c.1 ∙ (λ i. tokens_of (more_closed (with_field no_fields (q i)) (with_operand no_letters (c.0 i)) (bs, b)) ++ u))

pub first_binders : (f : Field) (o : Operand) (from mid to : List Lexeme) (xs ys zs : List Binder)
    → Reads from (item (Named f) (names no_fields f) ∷ operand_item no_letters o ∷ []) mid → ys ≡ xs ++ (binder f o ∷ [])
    → (r : Result Ending Refusal) → ToldBinders (more_closed (with_field no_fields f) (with_operand no_letters o)) mid r to ys zs → ToldBinders binders_closed from r to xs zs
first_binders f o from mid to xs ys zs a e (Ok b) h =
    (binder f o ∷ h.0, h.1 ∙ ap (λ l. l ++ h.0) e ∙ append_assoc xs (binder f o ∷ []) h.0, read_on from mid to (item (Named f) (names no_fields f) ∷ operand_item no_letters o ∷ []) (more_closed (with_field no_fields f) (with_operand no_letters o) (h.0, b)) a h.2)
first_binders f o from mid to xs ys zs a e (Err (Faulty x)) h =
    within (List Binder × Ending) (List Binder × Ending) (more_closed (with_field no_fields f) (with_operand no_letters o)) (any (List Binder × Ending)) binders_closed (any (List Binder × Ending)) (item (Named f) (names no_fields f) ∷ operand_item no_letters o ∷ [])
    (λ y. (binder f o ∷ y.0, y.1)) (λ _. []) (λ y. ap (λ l. item (Named f) (names no_fields f) ∷ operand_item no_letters o ∷ l) (sym (append-nil (more_closed (with_field no_fields f) (with_operand no_letters o) y))))
    (λ y u v _ q. let i = inv_first f o y.0 y.1 u v q in (i.0, i.1, closed i.0 i.1, i.2)) from mid x.reason x.place a h
first_binders f o from mid to xs ys zs a e (Err NoMemory) h = tt

-- Conditions.
closes : (c : Condition) (t : Terminal) (u : List Terminal) → (t ≡ CloseSquare) → Fits ConditionStops c (t ∷ u)
closes c t u e = stops ConditionStops c t u (sum_ends c.right t (λ q. cc) (λ q. cc))

parts : (c : Condition) (t : Terminal) (u : List Terminal) → (t ≡ Comma) → Fits ConditionStops c (t ∷ u)
parts c t u e = stops ConditionStops c t u (sum_ends c.right t (λ q. cc) (λ q. cc))

pub inv_condition : (k : ℕ) (s : Letters) (c : Condition) (cs : List Condition) (u v : List Terminal) → tokens_of (conditions_items k s c cs) ++ u ≡ v → (x : Condition) × (w : List Terminal) × (Fits ConditionStops x w) × (v ≡ tokens_of (condition_items k s x) ++ w)
inv_condition k s c [] u v e = (c, CloseSquare ∷ u, closes c CloseSquare u refl, sym e ∙ flat (condition_items k s c) (mark CloseSquare) [] u)
inv_condition k s c (d ∷ ds) u v e = (c, _, parts c Comma (tokens_of (conditions_items (k + 1) s d ds) ++ u) refl, sym e ∙ flat (condition_items k s c) (mark Comma) (conditions_items (k + 1) s d ds) u)

pub inv_after : (k : ℕ) (s : Letters) (a : Condition) (t : Terminal) → ConditionStops a t → (t ≡ CloseSquare → ⊥) → (t ≡ Comma → ⊥) → (c : Condition) (cs : List Condition) (u more : List Terminal) → tokens_of (conditions_items k s c cs) ++ u ≡ tokens_of (condition_items k s a) ++ t ∷ more → ⊥
inv_after k s a t h no-close no-comma c [] u more e =
    let q = (condition_code k s c a (CloseSquare ∷ u) (t ∷ more) (closes c CloseSquare u refl) (stops ConditionStops a t more h) (sym (flat (condition_items k s c) (mark CloseSquare) [] u) ∙ e)).1 in
    no-close (cc)
inv_after k s a t h no-close no-comma c (d ∷ ds) u more e =
    let w = tokens_of (conditions_items (k + 1) s d ds) ++ u in
    let q = (condition_code k s c a (Comma ∷ w) (t ∷ more) (parts c Comma w refl) (stops ConditionStops a t more h) (sym (flat (condition_items k s c) (mark Comma) (conditions_items (k + 1) s d ds) u) ∙ e)).1 in
    no-comma (cc)

inv_rest : (k : ℕ) (s : Letters) (a : Condition) (c : Condition) (cs : List Condition) (u v : List Terminal) → tokens_of (conditions_items k s c cs) ++ u ≡ tokens_of (condition_items k s a) ++ Comma ∷ v
    → (x : Condition × List Condition) × (w : List Terminal) × (v ≡ tokens_of (conditions_closed (k + 1) s x) ++ w)
inv_rest k s a c [] u v e =
    let q = (condition_code k s c a (CloseSquare ∷ u) (Comma ∷ v) (closes c CloseSquare u refl) (parts a Comma v refl) (sym (flat (condition_items k s c) (mark CloseSquare) [] u) ∙ e)).1 in
    absurd (cc)
inv_rest k s a c (d ∷ ds) u v e =
    let w = tokens_of (conditions_items (k + 1) s d ds) ++ u in
    let q = (condition_code k s c a (Comma ∷ w) (Comma ∷ v) (parts c Comma w refl) (parts a Comma v refl) (sym (flat (condition_items k s c) (mark Comma) (conditions_items (k + 1) s d ds) u) ∙ e)).1 in
    let h : w ≡ v = cc in
    ((d, ds), u, sym h)

-- The conditions from the k-th on were read behind xs, which are ys now.
abbrev pub ToldMore : ℕ → Letters → List Lexeme → Result (Unit {0}) Refusal → List Lexeme → List Condition → List Condition → Type 0
ToldMore k s from (Ok u) to xs ys = (c : Condition) × (cs : List Condition) × (ys ≡ xs ++ (c ∷ cs)) × Reads from (conditions_items k s c cs) to
ToldMore k s from (Err (Faulty e)) to xs ys = Fails (Condition × List Condition) (conditions_closed k s) (any (Condition × List Condition)) from e.reason e.place
ToldMore k s from (Err NoMemory) to xs ys = Unit {0}

pub move_number : (k k' : ℕ) (s : Letters) (from : List Lexeme) (r : Result (Unit {0}) Refusal) (to : List Lexeme) (xs ys : List Condition) → k ≡ k' → ToldMore k s from r to xs ys → ToldMore k' s from r to xs ys
move_number k k' s from r to xs ys e h = subst (λ j. ToldMore j s from r to xs ys) e h

-- one condition more, and then what the rest gave
pub more_conditions : (k : ℕ) (s : Letters) (a : Condition) (from mid to : List Lexeme) (xs ys zs : List Condition) → Reads from (condition_items k s a ++ (mark Comma ∷ [])) mid → ys ≡ xs ++ (a ∷ [])
    → (r : Result (Unit {0}) Refusal) → ToldMore (k + 1) s mid r to ys zs → ToldMore k s from r to xs zs
more_conditions k s a from mid to xs ys zs d e (Ok u) h = (
  a,
  h.0 ∷ h.1,
  h.2 ∙ ap (λ l. l ++ (h.0 ∷ h.1)) e ∙ append_assoc xs (a ∷ []) (h.0 ∷ h.1),
  alike from to ((condition_items k s a ++ (mark Comma ∷ [])) ++ conditions_items (k + 1) s h.0 h.1) (condition_items k s a ++ (mark Comma ∷ conditions_items (k + 1) s h.0 h.1))
      (append_assoc (condition_items k s a) (mark Comma ∷ []) (conditions_items (k + 1) s h.0 h.1)) (read_on from mid to (condition_items k s a ++ (mark Comma ∷ [])) (conditions_items (k + 1) s h.0 h.1) d h.3),
)
more_conditions k s a from mid to xs ys zs d e (Err (Faulty x)) h =
    within (Condition × List Condition) (Condition × List Condition) (conditions_closed (k + 1) s) (any (Condition × List Condition)) (conditions_closed k s) (any (Condition × List Condition)) (condition_items k s a ++ (mark Comma ∷ []))
    (λ y. (a, y.0 ∷ y.1)) (λ _. [])
    (λ y. ap (λ l. condition_items k s a ++ (mark Comma ∷ l)) (sym (append-nil (conditions_closed (k + 1) s y))) ∙ sym (append_assoc (condition_items k s a) (mark Comma ∷ []) (conditions_closed (k + 1) s y ++ [])))
    (λ y u v _ q. let i = inv_rest k s a y.0 y.1 u v (q ∙ flat (condition_items k s a) (mark Comma) [] v) in (i.0, i.1, closed i.0 i.1, i.2)) from mid x.reason x.place d h
more_conditions k s a from mid to xs ys zs d e (Err NoMemory) h = tt

-- a sound condition is one of the first four
sound_part : (k : ℕ) (s : Letters) (p : Part) (M : List Item) → AllSound (part_items k s p ++ M) → k ≤ 4
sound_part k s (part.Number n) M h = ltb-false 4 k (within_limit (nat_lt 4 k) None h.0)
sound_part k s (part.Bound l) M h = ltb-false 4 k (within_limit (nat_lt 4 k) (if has s l then None else Some Unbound) h.0)
sound_part k s (part.Product n l) M h = ltb-false 4 k (within_limit (nat_lt 4 k) None h.0)

sound_sum : (k : ℕ) (s : Letters) (x : Sum) (M : List Item) → AllSound (sum_items k s x ++ M) → k ≤ 4
sound_sum k s (One p) M h = sound_part k s p M h
sound_sum k s (Two p q) M h = sound_part k s p _ (subst AllSound (append_assoc (part_items k s p) _ M) h)
sound_sum k s (Three p q r) M h = sound_part k s p _ (subst AllSound (append_assoc (part_items k s p) _ M) h)

pub few_conditions : (k : ℕ) (s : Letters) (c : Condition) → AllSound (condition_items k s c) → k ≤ 4
few_conditions k s c h = sound_sum k s c.left _ h

-- the sets as the code made them
pub move_sets : (fs fs' : Fields) (ls ls' : Letters) (from to : List Lexeme) (xs ys : List Binder) (r : Result Ending Refusal) → fs ≡ fs' → ls ≡ ls' → ToldBinders (more_closed fs ls) from r to xs ys → ToldBinders (more_closed fs' ls') from r to xs ys
move_sets fs fs' ls ls' from to xs ys r e f h = subst (λ b. ToldBinders (more_closed fs' b) from r to xs ys) f (subst (λ a. ToldBinders (more_closed a ls) from r to xs ys) e h)

pub move_operand : (ls ls' : Letters) (from : List Lexeme) (r : Reason) (p : ℕ) → ls ≡ ls' → Fails Operand (operand_items ls) (any Operand) from r p → Fails Operand (operand_items ls') (any Operand) from r p
move_operand ls ls' from r p e h = subst (λ s. Fails Operand (operand_items s) (any Operand) from r p) e h

pub none_named : (f : Field) → fault (item (Named f) (names no_fields f)) ≡ None
none_named fields.Time = refl
none_named fields.Kind = refl
none_named fields.Machine = refl
none_named fields.Crew = refl
none_named fields.Run = refl
none_named fields.Reading = refl
