-- Successive feeds over the stretches of one input. Assumes nothing.
use Rattle.std.proofs.Common.{◌≡◌, ℕ, zero, suc, ◌+◌, ◌*◌, ◌/◌, ◌<◌, ◌≤◌, min, List, [], ◌∷◌, ◌++◌, length, take, drop, Result, sym, refl, ap, ◌∙◌, ⊎_elim, append-nil, add-zero, mul_comm, mul-pos, mul-zero, mul-suc, arith, length-append, length-drop, take-append-drop, length-take-le, take_all}
use native.Mathlib.Nat.{div-eq_of_eq-mul_left}
use lib.Seq.{take-append-le}
use Rattle.std.proofs.lemmas.List.{drop_all, drop-append-le}
use Rattle.std.proofs.lemmas.Bool.{cases_lt}
use Rattle.feed.specs.Inputs.{counted, items_of}
use Rattle.feed.specs.Recorded.{followed}
use Rattle.feed.specs.declared.faults.FaultKind.{FaultKind}
use Rattle.feed.specs.declared.faults.Item.{Item}
use Rattle.feed.specs.declared.lines.Line.{Line}
use Rattle.feed.proofs.Cuts.{items-none, items-some}

-- whole items first, and then the rest of the input, whose numbers go on
pub items-append : {X : Type 0} (reads : List X → Result Line FaultKind) (w station : ℕ) → 0 < w → (k n : ℕ) (a b : List X) → n ≡ counted n → length a ≡ w * k → items_of reads w station n (a ++ b) ≡ items_of reads w station n a ++ items_of reads w station (counted (n + k)) b
items-append reads w station p zero n [] b f e = rw (add-zero n, ← f, ← items-none reads w station n [] refl)
items-append reads w station p zero n (x ∷ a) b f e = absurd (omega (arith, mul-zero w))
items-append reads w station p (suc k) n a b f e =
    let long : w ≤ length a = omega (arith, mul-suc w k) in
    let some : 0 < length (a ++ b) = simp length-append (omega arith) in
    let rest : length (drop w a) ≡ w * k = simp length-drop (omega (arith, mul-suc w k)) in
    let on : counted (counted (n + 1) + k) ≡ counted (n + suc k) = omega arith in
    let again : counted (n + 1) ≡ counted (counted (n + 1)) = omega arith in
    let whole = items-some reads w station n (a ++ b) p some in
    let front = items-some reads w station n a p (omega arith) in
    rw (whole, front, take-append-le w a b long, drop-append-le w a b long, items-append reads w station p k (counted (n + 1)) (drop w a) b again rest, on)

some-items : {X : Type 0} (reads : List X → Result Line FaultKind) (w station n : ℕ) (xs : List X) → 0 < w → 0 < length xs → 0 < length (items_of reads w station n xs)
some-items reads w station n xs p h = omega (arith, ap length (items-some reads w station n xs p h))

followed-none : (xs : List Item) → followed xs [] ≡ xs
followed-none [] = refl
followed-none (x ∷ xs) = ap (λ ys. x ∷ ys) (append-nil xs)

followed-some : (xs ys : List Item) → 0 < length xs → followed xs ys ≡ xs ++ ys
followed-some [] ys h = absurd (omega arith)
followed-some (x ∷ xs) ys h = refl

-- one stretch of at most k whole items, begun as a feed, and the input behind it
module _ {X : Type 0} (reads : List X → Result Line FaultKind) (w k station n : ℕ) (xs : List X) (p : 0 < w) (q : 0 < k) (f : n ≡ counted n) where
  pub next_in_turn : (m next : ℕ) (a b : List X) (begun : List Item) → m ≡ min (length xs) (k * w) → a ≡ take m xs → b ≡ drop m xs → begun ≡ items_of reads w station n a → next ≡ counted (n + m / w) → followed begun (items_of reads w station next b) ≡ items_of reads w station n xs
  next_in_turn m next a b begun e front back begins on =
      ⊎_elim
      (λ (long : k * w < length xs).
      let m-is : m ≡ k * w = omega arith in
      let units : 0 < k * w = mul-pos q p in
      let full : length (take m xs) ≡ w * k = length-take-le m xs (omega arith) ∙ m-is ∙ mul_comm k w in
      let count : m / w ≡ k = div-eq_of_eq-mul_left p m-is in
      let split = items-append reads w station p k n (take m xs) (drop m xs) f full in
      let some : 0 < length (items_of reads w station n (take m xs)) = some-items reads w station n (take m xs) p (omega (arith, mul_comm k w)) in
      rw (begins, on, front, back, count, followed-some _ (items_of reads w station (counted (n + k)) (drop m xs)) some) (sym split ∙ ap (items_of reads w station n) (take-append-drop m xs)))
      (λ (short : length xs ≤ k * w).
      let all : take m xs ≡ xs = take_all m xs (omega arith) in
      let none : drop m xs ≡ [] = drop_all m xs (omega arith) in
      rw (begins, front, back, all, none, ← items-none reads w station next [] refl) (followed-none _))
      (cases_lt (k * w) (length xs))
