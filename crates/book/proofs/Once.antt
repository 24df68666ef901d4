-- A text is at most one book, or has one first fault; it is one of the two, and never both.
use Rattle.std.proofs.Common.{◌≡◌, ℕ, ◌⊎◌, List, [], ◌∷◌, ◌++◌, None, sym, refl, ap, ◌∙◌, subst, inl, inr, append-nil, arith, Ok}
use Rattle.std.proofs.lemmas.List.{map-append}
use Rattle.book.specs.declared.refusals.Reason.{Reason}
use Rattle.book.specs.declared.terminals.Terminal.{Terminal}
use Rattle.book.specs.Rules.{Rule}
use Rattle.book.specs.Grammar.{Item, items, tokens_of}
use Rattle.book.specs.Text.{Got, Lexeme}
use Rattle.book.specs.Faults.{fault, AllSound, gots, meant, FaultAt, unread, strange, past, FirstFault, long, first}
use Rattle.book.specs.Exact.{OneBook, Apart, OneFault}
use Rattle.book.proofs.Det.{Det, done, short, short', both, next, det_book}

alike : (Q : Type 0) (b b' : List Rule) → (b ≡ b' → Q) → Det Q (items b) (items b')
alike Q b b' q = det_book b b' 0 0 0 0 refl refl q

ends : {Q : Type 0} {is js : List Item} → Det Q is js → meant is ≡ meant js → Q
ends (done q) e = q
ends (short j js) e = absurd (cc)
ends (short' i is) e = absurd (cc)
ends (both h k) e = ends (k (cc)) (cc)

pub one_book : OneBook
one_book text b b' a a' = ends (alike (b ≡ b') b b' (λ e. e)) (sym a.written ∙ a'.written)

tokens_eq : (is js : List Item) → meant is ≡ meant js → tokens_of is ≡ tokens_of js
tokens_eq [] [] e = refl
tokens_eq [] (j ∷ js) e = absurd (cc)
tokens_eq (i ∷ is) [] e = absurd (cc)
tokens_eq (i ∷ is) (j ∷ js) e = let t : i.token ≡ j.token = cc in let r = tokens_eq is js (cc) in cc

-- A reads as pre, and then g: so g is a token, and A goes on with it
reads : (pre A rest : List Item) (g : Got) (gs : List Got) → meant A ≡ meant pre ++ g ∷ gs → (t : Terminal) × (more : List Terminal) × (g ≡ Ok t) × (tokens_of (A ++ rest) ≡ tokens_of pre ++ t ∷ more)
reads [] [] rest g gs e = absurd (cc)
reads [] (i ∷ A) rest g gs e = (i.token, tokens_of (A ++ rest), cc, refl)
reads (x ∷ pre) [] rest g gs e = absurd (cc)
reads (x ∷ pre) (i ∷ A) rest g gs e =
    let r = reads pre A rest g gs (cc) in
    let h : i.token ≡ x.token = cc in
    (r.0, r.1, r.2, (let s = r.3 in cc))

-- a sound A that reads as pre, and then the token of i
walk : {Q : Type 0} (pre A rest more : List Item) (i : Item) (gs : List Got) → Det Q (pre ++ i ∷ more) (A ++ rest) → AllSound A → meant A ≡ meant pre ++ Ok i.token ∷ gs → fault i ≡ None
walk [] [] rest more i gs d s e = absurd (cc)
walk [] (j ∷ A) rest more i gs d s e = ap fault (next d (cc)).0 ∙ s.0
walk (x ∷ pre) [] rest more i gs d s e = absurd (cc)
walk (x ∷ pre) (j ∷ A) rest more i gs d s e = walk pre A rest more i gs (next d (cc)).1 s.1 (cc)

-- what is at fault after pre is not read, and sound, in the beginning A of a book
clash : (pre : List Item) (g : Got) (n : Reason) → FaultAt pre g n → (b : List Rule) (A rest : List Item) (gs : List Got) → items b ≡ A ++ rest → AllSound A → meant A ≡ meant pre ++ g ∷ gs → ⊥
clash pre g n unread b A rest gs split sound e =
    let r = reads pre A rest g gs e in
    let q = r.2 in cc
clash pre g n (strange {t} none) b A rest gs split sound e =
    let r = reads pre A rest g gs e in
    let q : t ≡ r.0 = (let h = r.2 in cc) in
    none b r.1 (ap tokens_of split ∙ r.3 ∙ ap (λ u. tokens_of pre ++ u ∷ r.1) (sym q))
clash pre g n (past c i more at is) b A rest gs split sound e =
    let d = subst (λ l. Det (Unit {0}) l (A ++ rest)) at (subst (λ l. Det (Unit {0}) (items c) l) split (alike (Unit {0}) c b (λ _. tt))) in
    let s = walk pre A rest more i gs d sound e in cc

-- the lexemes of a text, split at two places
place_order : (a b c d : List Lexeme) (x y : Lexeme) → a ++ x ∷ b ≡ c ++ y ∷ d →
    ((a ≡ c) × (x ≡ y)) ⊎ (((e : List Lexeme) × (c ≡ a ++ x ∷ e)) ⊎ ((e : List Lexeme) × (a ≡ c ++ y ∷ e)))
place_order [] b [] d x y e = inl (refl, cc)
place_order [] b (z ∷ c) d x y e = inr (inl (c, (let h : x ≡ z = cc in cc)))
place_order (z ∷ a) b [] d x y e = inr (inr (a, (let h : z ≡ y = cc in cc)))
place_order (z ∷ a) b (w ∷ c) d x y e =
    let h : z ≡ w = cc in
    elim (place_order a b c d x y (cc)) [
      | inl q ↦ inl ((let r = q.0 in cc), q.1)
      | inr (inl q) ↦ inr (inl (q.0, (let r = q.1 in cc)))
      | inr (inr q) ↦ inr (inr (q.0, (let r = q.1 in cc)))
    ]

pub apart : Apart
apart text b n p a (long l) = omega (arith, a.short, l)
apart text b n p a (first s f) =
    clash f.pre f.here.got n f.fault b (items b) [] (gots f.after) (sym (append-nil (items b))) a.sound
    (sym a.written ∙ ap gots f.split ∙ map-append (λ l. l.got) f.before (f.here ∷ f.after) ∙ ap (λ l. l ++ f.here.got ∷ gots f.after) f.read)

-- f lies before g: impossible
earlier : (text : List ℕ) (n : Reason) (p : ℕ) (m : Reason) (q : ℕ) (f : FirstFault text n p) (g : FirstFault text m q) (e : List Lexeme) → g.before ≡ f.before ++ f.here ∷ e → ⊥
earlier text n p m q f g e split =
    clash f.pre f.here.got n f.fault g.book g.pre g.rest (gots e) g.begins g.sound
    (sym g.read ∙ ap gots split ∙ map-append (λ l. l.got) f.before (f.here ∷ e) ∙ ap (λ l. l ++ f.here.got ∷ gots e) f.read)

-- one item after one prefix
step_on : {Q : Type 0} (pre pre' : List Item) (i j : Item) (m m' : List Item) → meant pre ≡ meant pre' → i.token ≡ j.token → Det Q (pre ++ i ∷ m) (pre' ++ j ∷ m') → i ≡ j
step_on [] [] i j m m' e t d = (next d t).0
step_on [] (y ∷ pre') i j m m' e t d = absurd (cc)
step_on (x ∷ pre) [] i j m m' e t d = absurd (cc)
step_on (x ∷ pre) (y ∷ pre') i j m m' e t d = step_on pre pre' i j m m' (cc) t (next d (cc)).1

tokens_split : (pre : List Item) (i : Item) (m : List Item) → tokens_of (pre ++ i ∷ m) ≡ tokens_of pre ++ i.token ∷ tokens_of m
tokens_split [] i m = refl
tokens_split (x ∷ pre) i m = ap (λ l. x.token ∷ l) (tokens_split pre i m)

same_number : (pre pre' : List Item) (g g' : Got) (n m : Reason) → meant pre ≡ meant pre' → g ≡ g' → FaultAt pre g n → FaultAt pre' g' m → n ≡ m
same_number pre pre' g g' n m e eg unread unread = cc
same_number pre pre' g g' n m e eg unread (strange h) = absurd (cc)
same_number pre pre' g g' n m e eg unread (past b i mo at is) = absurd (cc)
same_number pre pre' g g' n m e eg (strange h) unread = absurd (cc)
same_number pre pre' g g' n m e eg (strange h) (strange h') = refl
same_number pre pre' g g' n m e eg (strange {t} h) (past b i mo at is) =
    let q : t ≡ i.token = cc in
    let p = tokens_eq pre pre' e in
    absurd (h b (tokens_of mo) (ap tokens_of at ∙ tokens_split pre' i mo ∙ cc))
same_number pre pre' g g' n m e eg (past b i mo at is) unread = absurd (cc)
same_number pre pre' g g' n m e eg (past b i mo at is) (strange {t} h) =
    let q : t ≡ i.token = cc in
    let p = tokens_eq pre pre' e in
    absurd (h b (tokens_of mo) (ap tokens_of at ∙ tokens_split pre i mo ∙ cc))
same_number pre pre' g g' n m e eg (past b i mo at is) (past b' i' mo' at' is') =
    let d = subst (λ l. Det (Unit {0}) l (pre' ++ i' ∷ mo')) at (subst (λ l. Det (Unit {0}) (items b) l) at' (alike (Unit {0}) b b' (λ _. tt))) in
    let s = step_on pre pre' i i' mo mo' e (cc) d in
    let f = sym is ∙ ap fault s ∙ is' in cc

pub one_fault : OneFault
one_fault text n p m q (long a) (long b) = (refl, refl)
one_fault text n p m q (long a) (first s f) = absurd (omega arith)
one_fault text n p m q (first s f) (long a) = absurd (omega arith)
one_fault text n p m q (first s f) (first s' g) =
    elim (place_order f.before f.after g.before g.after f.here g.here (sym f.split ∙ g.split)) [
      | inl e ↦ (
        same_number f.pre g.pre f.here.got g.here.got n m (sym f.read ∙ ap gots e.0 ∙ g.read) (ap (λ l. l.got) e.1) f.fault g.fault,
        sym f.place ∙ ap (λ l. l.place) e.1 ∙ g.place,
      )
      | inr (inl e) ↦ absurd (earlier text n p m q f g e.0 e.1)
      | inr (inr e) ↦ absurd (earlier text m q n p g f e.0 e.1)
    ]
