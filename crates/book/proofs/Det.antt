-- Two trees that are written alike up to a token have the same items up to there.
use Rattle.std.proofs.Common.{◌≡◌, ℕ, ◌+◌, List, [], ◌∷◌, ◌++◌, sym, refl, ap, subst, append_assoc}
use Rattle.feed.specs.declared.fields.Field.{Field}
use Rattle.book.specs.declared.terms.Binder.{Binder}
use Rattle.book.specs.declared.terms.Operand.{Operand}
use Rattle.book.specs.declared.terms.Operand.TheVariants as operand
use Rattle.book.specs.declared.terms.Part.{Part}
use Rattle.book.specs.declared.terms.Part.TheVariants as part
use Rattle.book.specs.declared.terms.Sum.{Sum}
use Rattle.book.specs.declared.terms.Sum.TheVariants.{One, Two, Three}
use Rattle.book.specs.declared.terms.Condition.{Condition}
use Rattle.book.specs.declared.terminals.Terminal.{Terminal}
use Rattle.book.specs.declared.terminals.Terminal.TheVariants.{Before, Until, Then, Joint, If, Named, Compare, Plus, Times, Comma, Close, CloseSquare, End}
use Rattle.book.specs.Rules.{Pattern, never, lines, Rule, duty, trigger, bracket}
use Rattle.book.specs.Sets.{Fields, Letters, no_letters, no_fields, with_field, with_operand, with_binders, with_pattern}
use Rattle.book.specs.Grammar.{Item, mark, operand_item, more_binders, binder_items, part_items, sum_items, condition_items, conditions_items, if_items, pattern_items, Spot, deeper, later, rule_items, top, book_items}
use Rattle.book.specs.Sizes.{nodes as size}

-- The two lists agree up to the first token that differs; and Q holds where they end together.
pub data Det (Q : Type 0) : List Item → List Item → Type 0 where
  done : Q → Det Q [] []
  short : (j : Item) (js : List Item) → Det Q [] (j ∷ js)
  short' : (i : Item) (is : List Item) → Det Q (i ∷ is) []
  both : {i j : Item} {is js : List Item} → (i.token ≡ j.token → i ≡ j) → (i.token ≡ j.token → Det Q is js) → Det Q (i ∷ is) (j ∷ js)

pub step : {Q : Type 0} {i j : Item} {is js : List Item} → (i.token ≡ j.token → (i ≡ j) × Det Q is js) → Det Q (i ∷ is) (j ∷ js)
step h = both (λ e. (h e).0) (λ e. (h e).1)

pub next : {Q : Type 0} {i j : Item} {is js : List Item} → Det Q (i ∷ is) (j ∷ js) → i.token ≡ j.token → (i ≡ j) × Det Q is js
next (both h k) = λ e. (h e, k e)

abbrev pub HeadNot : Terminal → List Item → Type 0
HeadNot t [] = Unit {0}
HeadNot t (i ∷ is) = i.token ≡ t → ⊥

-- where the heads differ
det_apart : {Q : Type 0} (i : Item) (is js : List Item) → HeadNot i.token js → Det Q (i ∷ is) js
det_apart i is [] h = short' i is
det_apart i is (j ∷ js) h = step (λ e. absurd (h (sym e)))

det_apart' : {Q : Type 0} (j : Item) (is js : List Item) → HeadNot j.token is → Det Q is (j ∷ js)
det_apart' j [] js h = short j js
det_apart' j (i ∷ is) js h = step (λ e. absurd (h e))

-- grouped otherwise
left : {Q : Type 0} (a b M N : List Item) → Det Q (a ++ (b ++ M)) N → Det Q ((a ++ b) ++ M) N
left {Q} a b M N d = subst (λ l. Det Q l N) (sym (append_assoc a b M)) d

right : {Q : Type 0} (a b M N : List Item) → Det Q N (a ++ (b ++ M)) → Det Q N ((a ++ b) ++ M)
right {Q} a b M N d = subst (λ l. Det Q N l) (sym (append_assoc a b M)) d

pub both-sides : {Q : Type 0} (a b M a' b' N : List Item) → Det Q (a ++ (b ++ M)) (a' ++ (b' ++ N)) → Det Q ((a ++ b) ++ M) ((a' ++ b') ++ N)
both-sides a b M a' b' N d = left a b M _ (right a' b' N _ d)

-- Binders.
det_operand : {Q : Type 0} (v v' : Operand) (ls ls' : Letters) (M N : List Item) → ls ≡ ls' → (v ≡ v' → Det Q M N) → Det Q (operand_item ls v ∷ M) (operand_item ls' v' ∷ N)
det_operand (operand.Number n) (operand.Number m) ls ls' M N e k = step (λ t. (cc, k (cc)))
det_operand (operand.Number n) (operand.Bound l) ls ls' M N e k = step (λ t. absurd (cc))
det_operand (operand.Bound l) (operand.Number n) ls ls' M N e k = step (λ t. absurd (cc))
det_operand (operand.Bound l) (operand.Bound m) ls ls' M N e k = step (λ t. (cc, k (cc)))

det_more : {Q : Type 0} (bs bs' : List Binder) (fs fs' : Fields) (ls ls' : Letters) (M N : List Item) → fs ≡ fs' → ls ≡ ls' → HeadNot Comma M → HeadNot Comma N → (bs ≡ bs' → Det Q M N) → Det Q (more_binders fs ls bs ++ M) (more_binders fs' ls' bs' ++ N)
det_more [] [] fs fs' ls ls' M N ef el hM hN k = k refl
det_more [] (b ∷ bs) fs fs' ls ls' M N ef el hM hN k = det_apart' (mark Comma) M _ hM
det_more (b ∷ bs) [] fs fs' ls ls' M N ef el hM hN k = det_apart (mark Comma) _ N hN
det_more (b ∷ bs) (b' ∷ bs') fs fs' ls ls' M N ef el hM hN k =
    step (λ _. (
      refl,
      step (λ t. let f : b.field ≡ b'.field = cc in (
        cc,
        det_operand b.operand b'.operand ls ls' _ _ el (λ v. det_more bs bs' (with_field fs b.field) (with_field fs' b'.field) (with_operand ls b.operand) (with_operand ls' b'.operand) M N
            (λ i. with_field (ef i) (f i)) (λ i. with_operand (el i) (v i)) hM hN (λ e. let eb : b ≡ b' = (λ i. record { field = f i; operand = v i }) in k (cc))),
      )),
    ))

pub det_binders : {Q : Type 0} (bs bs' : List Binder) (M N : List Item) → HeadNot Comma M → HeadNot Comma N → ((f : Field) → HeadNot (Named f) M) → ((f : Field) → HeadNot (Named f) N) → (bs ≡ bs' → Det Q M N) → Det Q (binder_items bs ++ M) (binder_items bs' ++ N)
det_binders [] [] M N hM hN fM fN k = k refl
det_binders [] (b ∷ bs) M N hM hN fM fN k = det_apart' _ M _ (fM b.field)
det_binders (b ∷ bs) [] M N hM hN fM fN k = det_apart _ _ N (fN b.field)
det_binders (b ∷ bs) (b' ∷ bs') M N hM hN fM fN k =
    step (λ t. let f : b.field ≡ b'.field = cc in (
      cc,
      det_operand b.operand b'.operand no_letters no_letters _ _ refl (λ v. det_more bs bs' (with_field no_fields b.field) (with_field no_fields b'.field) (with_operand no_letters b.operand) (with_operand no_letters b'.operand) M N
          (ap (with_field no_fields) f) (ap (with_operand no_letters) v) hM hN (λ e. let eb : b ≡ b' = (λ i. record { field = f i; operand = v i }) in k (cc))),
    ))

-- Conditions.
det_part : {Q : Type 0} (p p' : Part) (k k' : ℕ) (s s' : Letters) (M N : List Item) → k ≡ k' → s ≡ s' → HeadNot Times M → HeadNot Times N → (p ≡ p' → Det Q M N) → Det Q (part_items k s p ++ M) (part_items k' s' p' ++ N)
det_part (part.Number n) (part.Number n') k k' s s' M N ek es hM hN h = step (λ t. (cc, h (cc)))
det_part (part.Number n) (part.Bound l') k k' s s' M N ek es hM hN h = step (λ t. absurd (cc))
det_part (part.Number n) (part.Product n' l') k k' s s' M N ek es hM hN h = step (λ t. (cc, det_apart' (mark Times) M _ hM))
det_part (part.Bound l) (part.Number n') k k' s s' M N ek es hM hN h = step (λ t. absurd (cc))
det_part (part.Bound l) (part.Bound l') k k' s s' M N ek es hM hN h = step (λ t. (cc, h (cc)))
det_part (part.Bound l) (part.Product n' l') k k' s s' M N ek es hM hN h = step (λ t. absurd (cc))
det_part (part.Product n l) (part.Number n') k k' s s' M N ek es hM hN h = step (λ t. (cc, det_apart (mark Times) _ N hN))
det_part (part.Product n l) (part.Bound l') k k' s s' M N ek es hM hN h = step (λ t. absurd (cc))
det_part (part.Product n l) (part.Product n' l') k k' s s' M N ek es hM hN h = step (λ t. (cc, step (λ _. (refl, step (λ v. (cc, h (cc)))))))

-- what may not follow a sum's last part
pub record Free (M : List Item) : Type 0 where
  pub times : HeadNot Times M
  pub plus : HeadNot Plus M

no_times : Plus ≡ Times → ⊥
no_times e = cc

det_sum : {Q : Type 0} (x x' : Sum) (k k' : ℕ) (s s' : Letters) (M N : List Item) → k ≡ k' → s ≡ s' → Free M → Free N → (x ≡ x' → Det Q M N) → Det Q (sum_items k s x ++ M) (sum_items k' s' x' ++ N)
det_sum (One p) (One p') k k' s s' M N ek es fM fN h =
    det_part p p' k k' s s' M N ek es fM.times fN.times (λ e0. h (cc))
det_sum (One p) (Two p' q') k k' s s' M N ek es fM fN h =
    right (part_items k' s' p') (mark Plus ∷ (part_items k' s' q')) N _ (det_part p p' k k' s s' M _ ek es fM.times no_times (λ e0. det_apart' (mark Plus) M _ fM.plus))
det_sum (One p) (Three p' q' r') k k' s s' M N ek es fM fN h =
    right (part_items k' s' p') (mark Plus ∷ (part_items k' s' q' ++ (mark Plus ∷ (part_items k' s' r')))) N _ (det_part p p' k k' s s' M _ ek es fM.times no_times (λ e0. det_apart' (mark Plus) M _ fM.plus))
det_sum (Two p q) (One p') k k' s s' M N ek es fM fN h =
    left (part_items k s p) (mark Plus ∷ (part_items k s q)) M _ (det_part p p' k k' s s' _ N ek es no_times fN.times (λ e0. det_apart (mark Plus) _ N fN.plus))
det_sum (Two p q) (Two p' q') k k' s s' M N ek es fM fN h =
    both-sides (part_items k s p) (mark Plus ∷ (part_items k s q)) M (part_items k' s' p') (mark Plus ∷ (part_items k' s' q')) N (det_part p p' k k' s s' _ _ ek es no_times no_times (λ e0. step (λ _. (refl, det_part q q' k k' s s' M N ek es fM.times fN.times (λ e1. h (cc))))))
det_sum (Two p q) (Three p' q' r') k k' s s' M N ek es fM fN h =
    both-sides (part_items k s p) (mark Plus ∷ (part_items k s q)) M (part_items k' s' p') (mark Plus ∷ (part_items k' s' q' ++ (mark Plus ∷ (part_items k' s' r')))) N (det_part p p' k k' s s' _ _ ek es no_times no_times (λ e0. step (λ _. (refl, right (part_items k' s' q') (mark Plus ∷ (part_items k' s' r')) N _ (det_part q q' k k' s s' M _ ek es fM.times no_times (λ e1. det_apart' (mark Plus) M _ fM.plus))))))
det_sum (Three p q r) (One p') k k' s s' M N ek es fM fN h =
    left (part_items k s p) (mark Plus ∷ (part_items k s q ++ (mark Plus ∷ (part_items k s r)))) M _ (det_part p p' k k' s s' _ N ek es no_times fN.times (λ e0. det_apart (mark Plus) _ N fN.plus))
det_sum (Three p q r) (Two p' q') k k' s s' M N ek es fM fN h =
    both-sides (part_items k s p) (mark Plus ∷ (part_items k s q ++ (mark Plus ∷ (part_items k s r)))) M (part_items k' s' p') (mark Plus ∷ (part_items k' s' q')) N (det_part p p' k k' s s' _ _ ek es no_times no_times (λ e0. step (λ _. (refl, left (part_items k s q) (mark Plus ∷ (part_items k s r)) M _ (det_part q q' k k' s s' _ N ek es no_times fN.times (λ e1. det_apart (mark Plus) _ N fN.plus))))))
det_sum (Three p q r) (Three p' q' r') k k' s s' M N ek es fM fN h =
    both-sides (part_items k s p) (mark Plus ∷ (part_items k s q ++ (mark Plus ∷ (part_items k s r)))) M (part_items k' s' p') (mark Plus ∷ (part_items k' s' q' ++ (mark Plus ∷ (part_items k' s' r')))) N (det_part p p' k k' s s' _ _ ek es no_times no_times (λ e0. step (λ _. (refl, both-sides (part_items k s q) (mark Plus ∷ (part_items k s r)) M (part_items k' s' q') (mark Plus ∷ (part_items k' s' r')) N (det_part q q' k k' s s' _ _ ek es no_times no_times (λ e1. step (λ _. (refl, det_part r r' k k' s s' M N ek es fM.times fN.times (λ e2. h (cc))))))))))

free : (t : Terminal) (M : List Item) → (t ≡ Times → ⊥) → (t ≡ Plus → ⊥) → Free (mark t ∷ M)
free t M a b = record { times = a; plus = b }

det_condition : {Q : Type 0} (c c' : Condition) (k k' : ℕ) (s s' : Letters) (M N : List Item) → k ≡ k' → s ≡ s' → Free M → Free N → (c ≡ c' → Det Q M N) → Det Q (condition_items k s c ++ M) (condition_items k' s' c' ++ N)
det_condition c c' k k' s s' M N ek es fM fN h =
    both-sides (sum_items k s c.left) (mark (Compare c.sign) ∷ sum_items k s c.right) M (sum_items k' s' c'.left) (mark (Compare c'.sign) ∷ sum_items k' s' c'.right) N
    (det_sum c.left c'.left k k' s s' _ _ ek es
    (free (Compare c.sign) _ (λ e. cc) (λ e. cc))
    (free (Compare c'.sign) _ (λ e. cc) (λ e. cc))
    (λ l. step (λ t. let g : c.sign ≡ c'.sign = cc in (cc, det_sum c.right c'.right k k' s s' M N ek es fM fN (λ r. h (λ i. record { left = l i; sign = g i; right = r i }))))))

det_conditions : {Q : Type 0} (c c' : Condition) (cs cs' : List Condition) (k k' : ℕ) (s s' : Letters) (M N : List Item) → k ≡ k' → s ≡ s' → (c ≡ c' → cs ≡ cs' → Det Q M N) → Det Q (conditions_items k s c cs ++ M) (conditions_items k' s' c' cs' ++ N)
det_conditions c c' [] [] k k' s s' M N ek es h =
    both-sides (condition_items k s c) (mark CloseSquare ∷ []) M (condition_items k' s' c') (mark CloseSquare ∷ []) N
    (det_condition c c' k k' s s' _ _ ek es (free CloseSquare _ (λ e. cc) (λ e. cc)) (free CloseSquare _ (λ e. cc) (λ e. cc)) (λ e. step (λ _. (refl, h e refl))))
det_conditions c c' [] (d' ∷ ds') k k' s s' M N ek es h =
    both-sides (condition_items k s c) (mark CloseSquare ∷ []) M (condition_items k' s' c') (mark Comma ∷ conditions_items (k' + 1) s' d' ds') N
    (det_condition c c' k k' s s' _ _ ek es (free CloseSquare _ (λ e. cc) (λ e. cc)) (free Comma _ (λ e. cc) (λ e. cc)) (λ e. step (λ t. absurd (cc))))
det_conditions c c' (d ∷ ds) [] k k' s s' M N ek es h =
    both-sides (condition_items k s c) (mark Comma ∷ conditions_items (k + 1) s d ds) M (condition_items k' s' c') (mark CloseSquare ∷ []) N
    (det_condition c c' k k' s s' _ _ ek es (free Comma _ (λ e. cc) (λ e. cc)) (free CloseSquare _ (λ e. cc) (λ e. cc)) (λ e. step (λ t. absurd (cc))))
det_conditions c c' (d ∷ ds) (d' ∷ ds') k k' s s' M N ek es h =
    both-sides (condition_items k s c) (mark Comma ∷ conditions_items (k + 1) s d ds) M (condition_items k' s' c') (mark Comma ∷ conditions_items (k' + 1) s' d' ds') N
    (det_condition c c' k k' s s' _ _ ek es (free Comma _ (λ e. cc) (λ e. cc)) (free Comma _ (λ e. cc) (λ e. cc))
    (λ e. step (λ _. (refl, det_conditions d d' ds ds' (k + 1) (k' + 1) s s' M N (ap (λ n. n + 1) ek) es (λ f g. h e (cc))))))

det_if : {Q : Type 0} (cs cs' : List Condition) (s s' : Letters) (M N : List Item) → s ≡ s' → (cs ≡ cs' → Det Q M N) → Det Q (if_items s cs ++ M) (if_items s' cs' ++ N)
det_if [] [] s s' M N es h = step (λ _. (refl, h refl))
det_if [] (c' ∷ cs') s s' M N es h = step (λ t. absurd (cc))
det_if (c ∷ cs) [] s s' M N es h = step (λ t. absurd (cc))
det_if (c ∷ cs) (c' ∷ cs') s s' M N es h = step (λ _. (refl, det_conditions c c' cs cs' 1 1 s s' M N refl es (λ e f. h (cc))))

-- what follows the binders is an `if` or a `]`
after_binders : (cs : List Condition) (s : Letters) (M : List Item) (t : Terminal) → (If ≡ t → ⊥) → (CloseSquare ≡ t → ⊥) → HeadNot t (if_items s cs ++ M)
after_binders [] s M t a b = b
after_binders (c ∷ cs) s M t a b = a

pub det_pattern : {Q : Type 0} (p p' : Pattern) (s s' : Letters) (M N : List Item) → s ≡ s' → (p ≡ p' → Det Q M N) → Det Q (pattern_items s p ++ M) (pattern_items s' p' ++ N)
det_pattern never never s s' M N es k = step (λ _. (refl, k refl))
det_pattern never (lines bs cs) s s' M N es k = step (λ t. absurd (cc))
det_pattern (lines bs cs) never s s' M N es k = step (λ t. absurd (cc))
det_pattern (lines bs cs) (lines bs' cs') s s' M N es k =
    step (λ _. (
      refl,
      both-sides (binder_items bs) (if_items (with_binders s bs) cs) M (binder_items bs') (if_items (with_binders s' bs') cs') N
          (det_binders bs bs' _ _
          (after_binders cs _ M Comma (λ e. cc) (λ e. cc)) (after_binders cs' _ N Comma (λ e. cc) (λ e. cc))
          (λ f. after_binders cs _ M (Named f) (λ e. cc) (λ e. cc)) (λ f. after_binders cs' _ N (Named f) (λ e. cc) (λ e. cc))
          (λ eb. det_if cs cs' (with_binders s bs) (with_binders s' bs') M N (λ i. with_binders (es i) (eb i)) (λ ec. k (cc)))),
    ))

-- Rules.
joined : {Q : Type 0} (a : List Item) (x : Item) (b M a' : List Item) (x' : Item) (b' N : List Item) → Det Q (a ++ (x ∷ (b ++ M))) (a' ++ (x' ∷ (b' ++ N))) → Det Q ((a ++ (x ∷ b)) ++ M) ((a' ++ (x' ∷ b')) ++ N)
joined a x b M a' x' b' N d = both-sides a (x ∷ b) M a' (x' ∷ b') N d

twice : {Q : Type 0} (a : List Item) (x : Item) (b : List Item) (y : Item) (c M a' : List Item) (x' : Item) (b' : List Item) (y' : Item) (c' N : List Item) → Det Q (a ++ (x ∷ (b ++ (y ∷ (c ++ M))))) (a' ++ (x' ∷ (b' ++ (y' ∷ (c' ++ N))))) → Det Q ((a ++ (x ∷ (b ++ (y ∷ c)))) ++ M) ((a' ++ (x' ∷ (b' ++ (y' ∷ c')))) ++ N)
twice a x b y c M a' x' b' y' c' N d = simp append_assoc d

pub det_rule : {Q : Type 0} (r r' : Rule) (s s' : Spot) (M N : List Item) → s ≡ s' → (r ≡ r' → Det Q M N) → Det Q (rule_items s r ++ M) (rule_items s' r' ++ N)
det_rule (duty k p q) (duty k' p' q') s s' M N es h =
    step (λ t. let ek : k ≡ k' = cc in (
      cc,
      joined (pattern_items s.bound p) (mark Before) (pattern_items s.bound q) M (pattern_items s'.bound p') (mark Before) (pattern_items s'.bound q') N
          (det_pattern p p' s.bound s'.bound _ _ (cc) (λ ep. step (λ _. (refl, det_pattern q q' s.bound s'.bound M N (cc) (λ eq. h (cc)))))),
    ))
det_rule (duty k p q) (trigger k' p' q' r') s s' M N es h = step (λ t. absurd (cc))
det_rule (duty k p q) (bracket k' r' t') s s' M N es h = step (λ t. absurd (cc))
det_rule (trigger k p q r) (duty k' p' q') s s' M N es h = step (λ t. absurd (cc))
det_rule (trigger k p q r) (bracket k' r' t') s s' M N es h = step (λ t. absurd (cc))
det_rule (bracket k r t) (duty k' p' q') s s' M N es h = step (λ t. absurd (cc))
det_rule (bracket k r t) (trigger k' p' q' r') s s' M N es h = step (λ t. absurd (cc))
det_rule (trigger k p q r) (trigger k' p' q' r') s s' M N es h =
    step (λ t. let ek : k ≡ k' = cc in (
      cc,
      twice (pattern_items s.bound p) (mark Until) (pattern_items s.bound q) (mark Then) (rule_items (deeper s (with_pattern s.bound p)) r) M
          (pattern_items s'.bound p') (mark Until) (pattern_items s'.bound q') (mark Then) (rule_items (deeper s' (with_pattern s'.bound p')) r') N
          (det_pattern p p' s.bound s'.bound _ _ (cc) (λ ep. step (λ _. (
            refl,
            det_pattern q q' s.bound s'.bound _ _ (cc) (λ eq.
                step (λ _. (refl, det_rule r r' (deeper s (with_pattern s.bound p)) (deeper s' (with_pattern s'.bound p')) M N (λ i. deeper (es i) (with_pattern (es i).bound (ep i))) (λ er. h (cc))))),
          )))),
    ))
det_rule (bracket k r t) (bracket k' r' t') s s' M N es h =
    step (λ _. (
      cc,
      twice (rule_items (deeper s s.bound) r) (mark (Joint k)) (rule_items (later (deeper s s.bound) (size r)) t) (mark Close) [] M
          (rule_items (deeper s' s'.bound) r') (mark (Joint k')) (rule_items (later (deeper s' s'.bound) (size r')) t') (mark Close) [] N
          (det_rule r r' (deeper s s.bound) (deeper s' s'.bound) _ _ (λ i. deeper (es i) (es i).bound) (λ er. step (λ u. let ek : k ≡ k' = cc in (
            cc,
            det_rule t t' (later (deeper s s.bound) (size r)) (later (deeper s' s'.bound) (size r')) _ _ (λ i. later (deeper (es i) (es i).bound) (size (er i))) (λ et. step (λ _. (refl, h (cc)))),
          )))),
    ))

-- a rule does not begin with the end
no_end : (r : Rule) (s : Spot) (M : List Item) → HeadNot End (rule_items s r ++ M)
no_end (duty k p q) s M = (λ e. cc)
no_end (trigger k p q r) s M = (λ e. cc)
no_end (bracket k r t) s M = (λ e. cc)

pub det_book : {Q : Type 0} (b b' : List Rule) (k k' n n' : ℕ) → k ≡ k' → n ≡ n' → (b ≡ b' → Q) → Det Q (book_items k n b) (book_items k' n' b')
det_book [] [] k k' n n' ek en q = step (λ _. (refl, done (q refl)))
det_book [] (r ∷ b) k k' n n' ek en q = det_apart (mark End) [] _ (no_end r (top (k' + 1) n') _)
det_book (r ∷ b) [] k k' n n' ek en q = det_apart' (mark End) _ [] (no_end r (top (k + 1) n) _)
det_book (r ∷ b) (r' ∷ b') k k' n n' ek en q =
    det_rule r r' (top (k + 1) n) (top (k' + 1) n') _ _ (λ i. top (ek i + 1) (en i)) (λ er. step (λ _. (
      refl,
      det_book b b' (k + 1) (k' + 1) (n + size r) (n' + size r') (λ i. ek i + 1) (λ i. en i + size (er i)) (λ eb. q (cc)),
    )))
