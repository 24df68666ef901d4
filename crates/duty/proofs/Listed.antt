-- The entries of what is open: a head and deeper ones below it, within the rule's nodes and its depth.
use Rattle.std.proofs.Common.{ℕ, suc, ◌+◌, ◌<◌, ◌≤◌, max, List, [], ◌∷◌, ◌++◌, length, refl, le_refl, arith, length-append}
use Rattle.book.specs.Rules.{Rule, duty, trigger, bracket}
use Rattle.book.specs.declared.terms.TriggerKind.TheVariants.{Each, Once}
use Rattle.book.specs.declared.terms.BracketKind.TheVariants.{Else, And}
use Rattle.book.specs.Sizes.{depth, nodes}
use Rattle.duty.specs.Matching.{Bindings}
use Rattle.duty.specs.Facts.{All, Deeper, Group}
use Rattle.duty.specs.Open.{Open, start, waiting, running, watch, first, second, two, left, right, together, entries, Left, met, missed, still, shown}
use Rattle.duty.specs.declared.entries.Entry.{Entry}

pub all_map : (P Q : Entry → Type 0) → ((e : Entry) → P e → Q e) → (es : List Entry) → All P es → All Q es
all_map P Q h [] k = tt
all_map P Q h (e ∷ es) k = (h e k.0, all_map P Q h es k.1)

pub all_++ : (P : Entry → Type 0) (es fs : List Entry) → All P es → All P fs → All P (es ++ fs)
all_++ P [] fs h k = k
all_++ P (e ∷ es) fs h k = (h.0, all_++ P es fs h.1 k)

pub all_together : {A : Type 0} (P : Entry → Type 0) (h : A → List Entry) → ((d : A) → All P (h d)) → (ds : List A) → All P (together h ds)
all_together P h k [] = tt
all_together P h k (d ∷ ds) = all_++ P (h d) (together h ds) (k d) (all_together P h k ds)

pub all_shown : {A : Type 0} (P : Entry → Type 0) (h : A → List Entry) → ((o : A) → All P (h o)) → (x : Left A) → All P (shown h x)
all_shown P h k met = tt
all_shown P h k missed = tt
all_shown P h k (still o) = k o

pub deeper : (r : Rule) (n k lev : ℕ) → k < lev → (o : Open r) → Deeper k (entries r n lev o)
unfolding entries
deeper (duty d p q) n k lev h f = (h, tt)
deeper (trigger Once p q s) n k lev h (waiting f) = (h, tt)
deeper (trigger Once p q s) n k lev h (running o) = deeper s (suc n) k lev h o
deeper (trigger Each p q s) n k lev h (watch f m ds) = (h, all_together (λ e. k < e.level) (entries s (suc n) (suc lev)) (deeper s (suc n) k (suc lev) (omega arith)) ds)
deeper (bracket Else r s) n k lev h (first f o) = (h, deeper r (suc n) k (suc lev) (omega arith) o)
deeper (bracket Else r s) n k lev h (second o) = deeper s (suc n + nodes r) k lev h o
deeper (bracket And r s) n k lev h (two f o o') =
    (h, all_++ (λ e. k < e.level) (entries r (suc n) (suc lev) o) (entries s (suc n + nodes r) (suc lev) o') (deeper r (suc n) k (suc lev) (omega arith) o) (deeper s (suc n + nodes r) k (suc lev) (omega arith) o'))
deeper (bracket And r s) n k lev h (left o) = deeper r (suc n) k lev h o
deeper (bracket And r s) n k lev h (right o) = deeper s (suc n + nodes r) k lev h o

pub group : (r : Rule) (n lev : ℕ) (o : Open r) → Group lev (entries r n lev o)
unfolding entries
group (duty k p q) n lev f = (refl, tt)
group (trigger Once p q s) n lev (waiting f) = (refl, tt)
group (trigger Once p q s) n lev (running o) = group s (suc n) lev o
group (trigger Each p q s) n lev (watch f m ds) = (refl, all_together (λ e. lev < e.level) (entries s (suc n) (suc lev)) (deeper s (suc n) lev (suc lev) (le_refl (suc lev))) ds)
group (bracket Else r s) n lev (first f o) = (refl, deeper r (suc n) lev (suc lev) (le_refl (suc lev)) o)
group (bracket Else r s) n lev (second o) = group s (suc n + nodes r) lev o
group (bracket And r s) n lev (two f o o') =
    (refl, all_++ (λ e. lev < e.level) (entries r (suc n) (suc lev) o) (entries s (suc n + nodes r) (suc lev) o') (deeper r (suc n) lev (suc lev) (le_refl (suc lev)) o) (deeper s (suc n + nodes r) lev (suc lev) (le_refl (suc lev)) o'))
group (bracket And r s) n lev (left o) = group r (suc n) lev o
group (bracket And r s) n lev (right o) = group s (suc n + nodes r) lev o

-- nodes from a to below b, levels below d
abbrev pub In : ℕ → ℕ → ℕ → Entry → Type 0
In a b d e = (a ≤ e.node) × (e.node < b) × (e.level < d)

wider : (a b d a' b' d' : ℕ) → a' ≤ a → b ≤ b' → d ≤ d' → (es : List Entry) → All (In a b d) es → All (In a' b' d') es
wider a b d a' b' d' h h' h'' es k = all_map (In a b d) (In a' b' d') (λ e i. (omega arith, omega arith, omega arith)) es k

pub within : (r : Rule) (n lev : ℕ) (o : Open r) → All (In n (n + nodes r) (lev + depth r)) (entries r n lev o)
unfolding entries
within (duty k p q) n lev f = ((omega arith, omega arith, omega arith), tt)
within (trigger Once p q s) n lev (waiting f) = ((omega arith, omega arith, omega arith), tt)
within (trigger Once p q s) n lev (running o) = wider (suc n) (suc n + nodes s) (lev + depth s) n (n + suc (nodes s)) (lev + suc (depth s)) (omega arith) (omega arith) (omega arith) (entries s (suc n) lev o) (within s (suc n) lev o)
within (trigger Each p q s) n lev (watch f m ds) = (
  (omega arith, omega arith, omega arith),
  all_together (In n (n + suc (nodes s)) (lev + suc (depth s))) (entries s (suc n) (suc lev))
      (λ o. wider (suc n) (suc n + nodes s) (suc lev + depth s) n (n + suc (nodes s)) (lev + suc (depth s)) (omega arith) (omega arith) (omega arith) (entries s (suc n) (suc lev) o) (within s (suc n) (suc lev) o)) ds,
)
within (bracket Else r s) n lev (first f o) =
    ((omega arith, omega arith, omega arith), wider (suc n) (suc n + nodes r) (suc lev + depth r) n (n + suc (nodes r + nodes s)) (lev + suc (max (depth r) (depth s))) (omega arith) (omega arith) (omega arith) (entries r (suc n) (suc lev) o) (within r (suc n) (suc lev) o))
within (bracket Else r s) n lev (second o) =
    wider (suc n + nodes r) (suc n + nodes r + nodes s) (lev + depth s) n (n + suc (nodes r + nodes s)) (lev + suc (max (depth r) (depth s))) (omega arith) (omega arith) (omega arith) (entries s (suc n + nodes r) lev o) (within s (suc n + nodes r) lev o)
within (bracket And r s) n lev (two f o o') = (
  (omega arith, omega arith, omega arith),
  all_++ (In n (n + suc (nodes r + nodes s)) (lev + suc (max (depth r) (depth s)))) (entries r (suc n) (suc lev) o) (entries s (suc n + nodes r) (suc lev) o')
      (wider (suc n) (suc n + nodes r) (suc lev + depth r) n (n + suc (nodes r + nodes s)) (lev + suc (max (depth r) (depth s))) (omega arith) (omega arith) (omega arith) (entries r (suc n) (suc lev) o) (within r (suc n) (suc lev) o))
      (wider (suc n + nodes r) (suc n + nodes r + nodes s) (suc lev + depth s) n (n + suc (nodes r + nodes s)) (lev + suc (max (depth r) (depth s))) (omega arith) (omega arith) (omega arith) (entries s (suc n + nodes r) (suc lev) o') (within s (suc n + nodes r) (suc lev) o')),
)
within (bracket And r s) n lev (left o) =
    wider (suc n) (suc n + nodes r) (lev + depth r) n (n + suc (nodes r + nodes s)) (lev + suc (max (depth r) (depth s))) (omega arith) (omega arith) (omega arith) (entries r (suc n) lev o) (within r (suc n) lev o)
within (bracket And r s) n lev (right o) =
    wider (suc n + nodes r) (suc n + nodes r + nodes s) (lev + depth s) n (n + suc (nodes r + nodes s)) (lev + suc (max (depth r) (depth s))) (omega arith) (omega arith) (omega arith) (entries s (suc n + nodes r) lev o) (within s (suc n + nodes r) lev o)

-- a rule starts with no more entries than it has nodes
pub starts : (r : Rule) (n lev : ℕ) (f : Bindings) → length (entries r n lev (start r f)) ≤ nodes r
unfolding entries
starts (duty k p q) n lev f = omega arith
starts (trigger Once p q s) n lev f = omega arith
starts (trigger Each p q s) n lev f = omega arith
starts (bracket Else r s) n lev f = omega (arith, starts r (suc n) (suc lev) f)
starts (bracket And r s) n lev f =
    omega (arith, length-append (entries r (suc n) (suc lev) (start r f)) (entries s (suc n + nodes r) (suc lev) (start s f)), starts r (suc n) (suc lev) f, starts s (suc n + nodes r) (suc lev) f)
