-- How what the readers of the parts did makes up what the reader of the whole did.
use Rattle.std.proofs.Common.{◌≡◌, ℕ, Bool, true, if◌then◌else◌, Option, false, List, [], ◌∷◌, ◌++◌, Some, None, Err, sym, refl, ap, ◌∙◌, subst, append_assoc, Ok}
use Rattle.std.proofs.lemmas.List.{map-append}
use Rattle.book.specs.declared.refusals.Fault.{Fault}
use Rattle.book.specs.declared.refusals.Reason.{Reason}
use Rattle.book.specs.declared.refusals.Reason.TheVariants.{NotAllowed, PastLimit}
use Rattle.book.specs.declared.refusals.Refusal.{Refusal}
use Rattle.book.specs.declared.refusals.Refusal.TheVariants.{Faulty, NoMemory}
use Rattle.book.specs.declared.terminals.Seen.{Seen}
use Rattle.book.specs.declared.terminals.Terminal.{Terminal}
use Rattle.book.specs.Grammar.{Item, tokens_of}
use Rattle.book.specs.Text.{Got, Lexeme, lexeme}
use Rattle.book.specs.Faults.{fault, AllSound}
use Rattle.book.specs.Reading.{Fits, any, Reads, FaultIn, unread, strange, past, Fails}
use Rattle.book.specs.Readers.{is_end, seen_as, Passed, ToldBy}

pub sound-++ : (a b : List Item) → AllSound a → AllSound b → AllSound (a ++ b)
sound-++ [] b s t = t
sound-++ (x ∷ a) b s t = (s.0, sound-++ a b s.1 t)

-- what is not at fault is within a limit
pub within_limit : (past : Bool) (x : Option Reason) → (if past then Some PastLimit else x) ≡ None → past ≡ false
within_limit true x e = absurd (cc)
within_limit false x e = refl

-- nothing was read
pub start : (from to : List Lexeme) → from ≡ to → Reads from [] to
start from to e = record { before = []; split = e; read = refl; sound = tt }

pub read_on : (from mid to : List Lexeme) (is js : List Item) → Reads from is mid → Reads mid js to → Reads from (is ++ js) to
read_on from mid to is js r s = record {
  before = r.before ++ s.before;
  split = r.split ∙ ap (λ l. r.before ++ l) s.split ∙ sym (append_assoc r.before s.before to);
  read = map-append (λ l. l.got) r.before s.before ∙ (λ i. r.read i ++ s.read i) ∙ sym (map-append (λ i. Ok i.token) is js);
  sound = sound-++ is js r.sound s.sound;
}

-- the same items, written otherwise
pub alike : (from to : List Lexeme) (is js : List Item) → is ≡ js → Reads from is to → Reads from js to
alike from to is js e r = subst (λ l. Reads from l to) e r

-- to what is the same ahead
pub onto : (from to to' : List Lexeme) (is : List Item) → to ≡ to' → Reads from is to → Reads from is to'
onto from to to' is e r = subst (λ l. Reads from is l) e r

-- one token
pub one : (from rest to : List Lexeme) (s : Seen) (i : Item) → from ≡ seen_as s ∷ rest → (is_end s.terminal ≡ false → rest ≡ to) → s.terminal ≡ i.token → is_end i.token ≡ false → fault i ≡ None → Reads from (i ∷ []) to
one from rest to s i e goes t more sound =
    record { before = seen_as s ∷ []; split = e ∙ ap (λ l. seen_as s ∷ l) (goes (ap is_end t ∙ more)); read = ap (λ x. Ok x ∷ []) t; sound = (sound, tt) }

-- what was read, and the token that stands there
pub at : (from mid rest : List Lexeme) (is : List Item) (l : Lexeme) → Reads from is mid → mid ≡ l ∷ rest → Reads from is (l ∷ rest)
at from mid rest is l r e = subst (λ x. Reads from is x) e r

-- a tree that shows its own end fits anything
pub closed : {X : Type 0} (x : X) (u : List Terminal) → Fits (any X) x u
closed x u = λ t v e. tt

-- a tree stops before the token t
pub stops : {X : Type 0} (S : X → Terminal → Type 0) (x : X) (t : Terminal) (u : List Terminal) → S x t → Fits S x (t ∷ u)
stops S x t u h = λ t' v e. let q : t ≡ t' = cc in subst (S x) q h

-- After the items a, the part that P says failed; each whole that begins with a goes on with such a part.
pub within : (X Y : Type 0) (P : X → List Item) (S : X → Terminal → Type 0) (Q : Y → List Item) (U : Y → Terminal → Type 0) (a : List Item) (whole : X → Y) (z : X → List Item)
    → ((x : X) → Q (whole x) ≡ a ++ (P x ++ z x))
    → ((y : Y) (u v : List Terminal) → Fits U y u → tokens_of (Q y) ++ u ≡ tokens_of a ++ v → (x : X) × (w : List Terminal) × (Fits S x w) × (v ≡ tokens_of (P x) ++ w))
    → (from mid : List Lexeme) (r : Reason) (p : ℕ) → Reads from a mid → Fails X P S mid r p → Fails Y Q U from r p
within X Y P S Q U a whole z eq inv from mid r p d f = record {
  before = d.before ++ f.before;
  here = f.here;
  after = f.after;
  split = d.split ∙ ap (λ l. d.before ++ l) f.split ∙ sym (append_assoc d.before f.before (f.here ∷ f.after));
  place = f.place;
  pre = a ++ f.pre;
  read = map-append (λ l. l.got) d.before f.before ∙ (λ i. d.read i ++ f.read i) ∙ sym (map-append (λ i. Ok i.token) a f.pre);
  sound = sound-++ a f.pre d.sound f.sound;
  tree = whole f.tree;
  rest = f.rest ++ z f.tree;
  begins = eq f.tree ∙ ap (λ l. a ++ (l ++ z f.tree)) f.begins ∙ ap (λ l. a ++ l) (append_assoc f.pre f.rest (z f.tree)) ∙ sym (append_assoc a f.pre (f.rest ++ z f.tree));
  fault = lift f.here.got r f.fault;
}
  where
    lift : (g : Got) (m : Reason) → FaultIn X P S f.pre g m → FaultIn Y Q U (a ++ f.pre) g m
    lift g m unread = unread
    lift g m (strange {t} h) = strange (λ y u more fits e.
        let split = e ∙ ap (λ l. l ++ t ∷ more) (map-append (λ i. i.token) a f.pre) ∙ append_assoc (tokens_of a) (tokens_of f.pre) (t ∷ more) in
        let part = inv y u (tokens_of f.pre ++ t ∷ more) fits split in
        h part.0 part.1 more part.2 (sym part.3))
    lift g m (past x i more e is) = past (whole x) i (more ++ z x)
        (eq x ∙ ap (λ l. a ++ (l ++ z x)) e ∙ ap (λ l. a ++ l) (append_assoc f.pre (i ∷ more) (z x)) ∙ sym (append_assoc a f.pre (i ∷ more ++ z x))) is

-- The same of trees that show their own end, where the code held the part and there may have been no memory.
pub part_of : (T X U Y : Type 0) (f : T → X) (h : U → Y) (P : X → List Item) (Q : Y → List Item) (a : List Item) (whole : X → Y) (z : X → List Item)
    → ((x : X) → Q (whole x) ≡ a ++ (P x ++ z x))
    → ((y : Y) (u v : List Terminal) → tokens_of (Q y) ++ u ≡ tokens_of a ++ v → (x : X) × (w : List Terminal) × (v ≡ tokens_of (P x) ++ w))
    → (from mid to to' : List Lexeme) → Reads from a mid → (e : Refusal) → ToldBy T X f P mid (Err e) to → ToldBy U Y h Q from (Err e) to'
part_of T X U Y f h P Q a whole z eq inv from mid to to' r (Faulty e) told =
    within X Y P (any X) Q (any Y) a whole z eq (λ y u v _ q. let i = inv y u v q in (i.0, i.1, closed i.0 i.1, i.2)) from mid e.reason e.place r told
part_of T X U Y f h P Q a whole z eq inv from mid to to' r NoMemory told = tt

-- After the items a, what stands there is no token.
pub no_token : (Y : Type 0) (Q : Y → List Item) (U : Y → Terminal → Type 0) (a : List Item) (y : Y) (rest : List Item) → Q y ≡ a ++ rest
    → (from mid after : List Lexeme) (e : Fault) → Reads from a mid → mid ≡ lexeme e.place (Err e.reason) ∷ after → Fails Y Q U from e.reason e.place
no_token Y Q U a y rest eq from mid after e r m = record {
  before = r.before;
  here = lexeme e.place (Err e.reason);
  after = after;
  split = r.split ∙ ap (λ l. r.before ++ l) m;
  place = refl;
  pre = a;
  read = r.read;
  sound = r.sound;
  tree = y;
  rest = rest;
  begins = eq;
  fault = unread;
}

-- After the items a, the token is not allowed.
pub wrong : (Y : Type 0) (Q : Y → List Item) (U : Y → Terminal → Type 0) (a : List Item) (y : Y) (rest : List Item) → Q y ≡ a ++ rest
    → (from mid after : List Lexeme) (s : Seen) → Reads from a mid → mid ≡ seen_as s ∷ after
    → ((x : Y) (u more : List Terminal) → Fits U x u → tokens_of (Q x) ++ u ≡ tokens_of a ++ s.terminal ∷ more → ⊥) → Fails Y Q U from NotAllowed s.place
wrong Y Q U a y rest eq from mid after s r m none = record {
  before = r.before;
  here = seen_as s;
  after = after;
  split = r.split ∙ ap (λ l. r.before ++ l) m;
  place = refl;
  pre = a;
  read = r.read;
  sound = r.sound;
  tree = y;
  rest = rest;
  begins = eq;
  fault = strange none;
}

-- After the items a, the token of i is allowed, and is at fault.
pub faulty : (Y : Type 0) (Q : Y → List Item) (U : Y → Terminal → Type 0) (a : List Item) (y : Y) (i : Item) (rest : List Item) → Q y ≡ a ++ i ∷ rest
    → (from mid after : List Lexeme) (s : Seen) (n : Reason) → Reads from a mid → mid ≡ seen_as s ∷ after → s.terminal ≡ i.token → fault i ≡ Some n → Fails Y Q U from n s.place
faulty Y Q U a y i rest eq from mid after s n r m t is = record {
  before = r.before;
  here = seen_as s;
  after = after;
  split = r.split ∙ ap (λ l. r.before ++ l) m;
  place = refl;
  pre = a;
  read = r.read;
  sound = r.sound;
  tree = y;
  rest = i ∷ rest;
  begins = eq;
  fault = subst (λ x. FaultIn Y Q U a (Ok x) n) (sym t) (past y i rest eq is);
}

-- the tokens of two stretches with one token between
pub flat : (a : List Item) (x : Item) (b : List Item) (u : List Terminal) → tokens_of (a ++ (x ∷ b)) ++ u ≡ tokens_of a ++ x.token ∷ (tokens_of b ++ u)
flat a x b u = ap (λ l. l ++ u) (map-append (λ i. i.token) a (x ∷ b)) ∙ append_assoc (tokens_of a) (x.token ∷ tokens_of b) u

-- The same three where nothing was read before.
pub bad-first : (Y : Type 0) (Q : Y → List Item) (U : Y → Terminal → Type 0) (y : Y) (from after : List Lexeme) (e : Fault) → from ≡ lexeme e.place (Err e.reason) ∷ after → Fails Y Q U from e.reason e.place
bad-first Y Q U y from after e m = no_token Y Q U [] y (Q y) refl from from after e (start from from refl) m

pub wrong_first : (Y : Type 0) (Q : Y → List Item) (U : Y → Terminal → Type 0) (y : Y) (from after : List Lexeme) (s : Seen) → from ≡ seen_as s ∷ after
    → ((x : Y) (u more : List Terminal) → Fits U x u → tokens_of (Q x) ++ u ≡ s.terminal ∷ more → ⊥) → Fails Y Q U from NotAllowed s.place
wrong_first Y Q U y from after s m none = wrong Y Q U [] y (Q y) refl from from after s (start from from refl) m none

pub faulty_first : (Y : Type 0) (Q : Y → List Item) (U : Y → Terminal → Type 0) (y : Y) (i : Item) (rest : List Item) → Q y ≡ i ∷ rest
    → (from after : List Lexeme) (s : Seen) (n : Reason) → from ≡ seen_as s ∷ after → s.terminal ≡ i.token → fault i ≡ Some n → Fails Y Q U from n s.place
faulty_first Y Q U y i rest eq from after s n m t is = faulty Y Q U [] y i rest eq from from after s n (start from from refl) m t is

-- a fault where the tree might have been followed by anything
pub weaken : (X : Type 0) (P : X → List Item) (S : X → Terminal → Type 0) (from : List Lexeme) (r : Reason) (p : ℕ) → Fails X P (any X) from r p → Fails X P S from r p
weaken X P S from r p f = record {
  before = f.before;
  here = f.here;
  after = f.after;
  split = f.split;
  place = f.place;
  pre = f.pre;
  read = f.read;
  sound = f.sound;
  tree = f.tree;
  rest = f.rest;
  begins = f.begins;
  fault = lift f.here.got r f.fault;
}
  where
    lift : (g : Got) (m : Reason) → FaultIn X P (any X) f.pre g m → FaultIn X P S f.pre g m
    lift g m unread = unread
    lift g m (strange h) = strange (λ x u more fits e. h x u more (closed x u) e)
    lift g m (past x i more e is) = past x i more e is

-- a tree, and the token after it
pub passed : (from mid rest to : List Lexeme) (is : List Item) (s : Seen) → Reads from is mid → mid ≡ seen_as s ∷ rest → (is_end s.terminal ≡ false → rest ≡ to) → Passed from is s to
passed from mid rest to is s r e goes = record { rest = rest; reads = at from mid rest is (seen_as s) r e; goes = goes }

-- a tree and the token after it, which is that of i
pub with-token : (from to : List Lexeme) (is : List Item) (s : Seen) (i : Item) → Passed from is s to → s.terminal ≡ i.token → is_end i.token ≡ false → fault i ≡ None → Reads from (is ++ (i ∷ [])) to
with-token from to is s i p t more sound = read_on from (seen_as s ∷ p.rest) to is (i ∷ []) p.reads (one (seen_as s ∷ p.rest) p.rest to s i refl p.goes t more sound)

-- what was read before, then a tree and the token after it
pub passed_then : (from mid to : List Lexeme) (is js all : List Item) (s : Seen) → is ++ js ≡ all → Reads from is mid → Passed mid js s to → Passed from all s to
passed_then from mid to is js all s e r p =
    record { rest = p.rest; reads = alike from (seen_as s ∷ p.rest) (is ++ js) all e (read_on from mid (seen_as s ∷ p.rest) is js r p.reads); goes = p.goes }
