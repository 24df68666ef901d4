-- Cutting an input into items, one at a time. Assumes nothing.
use Rattle.std.proofs.Common.{◌≡◌, ℕ, zero, suc, ◌+◌, ◌-◌, ◌<◌, ◌≤◌, min, Bool, true, false, eqb, List, [], ◌∷◌, length, take, drop, Some, MatchBool, Result, sym, refl, ap, ◌∙◌, subst, ⊎_elim, add-one, arith, length-drop, take-append-drop, length-take-le, take_all, eqb-true}
use native.Mathlib.Nat.{div-eq_of_lt, add-div_right}
use borrow.Author.Tests.{eqb-false}
use Rattle.std.proofs.lemmas.List.{take_min, drop_min, drop_all}
use Rattle.std.proofs.lemmas.Bool.{cases_lt, false≢true}
use Rattle.feed.specs.Inputs.{cut_in, cut, Pieces, none, remainder, piece, piece_count, item_of, counted, numbered, items_of}
use Rattle.feed.specs.Waiting.{first, later, any}
use Rattle.feed.specs.declared.faults.FaultKind.{FaultKind}
use Rattle.feed.specs.declared.faults.Item.{Item}
use Rattle.feed.specs.declared.lines.Line.{Line}

-- allowing for more pieces than there are changes nothing
enough : {X : Type 0} (w : ℕ) → 0 < w → (m k : ℕ) (xs : List X) → length xs ≤ m → length xs ≤ k → cut_in m w xs ≡ cut_in k w xs
enough w p zero zero xs h g = refl
enough w p zero (suc k) [] h g = refl
enough w p zero (suc k) (x ∷ xs) h g = absurd (omega arith)
enough w p (suc m) zero [] h g = refl
enough w p (suc m) zero (x ∷ xs) h g = absurd (omega arith)
enough w p (suc m) (suc k) [] h g = refl
enough w p (suc m) (suc k) (x ∷ xs) h g =
    let short : length (drop w (x ∷ xs)) ≤ length xs = simp length-drop (omega arith) in
    ap (λ ps. take w (x ∷ xs) ∷ ps) (enough w p m k (drop w (x ∷ xs)) (omega arith) (omega arith))

-- the first piece and the rest
pub cut-first : {X : Type 0} (w : ℕ) (xs : List X) → 0 < w → 0 < length xs → cut w xs ≡ take w xs ∷ cut w (drop w xs)
cut-first w [] p h = absurd (omega arith)
cut-first w (x ∷ xs) p h =
    let short : length (drop w (x ∷ xs)) ≤ length xs = simp length-drop (omega arith) in
    ap (λ ps. take w (x ∷ xs) ∷ ps) (enough w p (length xs) (length (drop w (x ∷ xs))) (drop w (x ∷ xs)) short (omega arith))

module _ {X : Type 0} (reads : List X → Result Line FaultKind) (w station n : ℕ) (xs : List X) where
  pub items-none : length xs ≡ 0 → [] ≡ items_of reads w station n xs
  unfolding items_of
  items-none h = none xs h
    where
      none : (ys : List X) → length ys ≡ 0 → [] ≡ numbered reads station n (cut w ys)
      none [] e = refl
      none (y ∷ ys) e = absurd (omega arith)

  pub items-some : 0 < w → 0 < length xs → items_of reads w station n xs ≡ item_of station n (reads (take w xs)) ∷ items_of reads w station (counted (n + 1)) (drop w xs)
  unfolding items_of
  items-some p h = ap (numbered reads station n) (cut-first w xs p h)

-- what a look shows and a drop leaves of the items of an input
module _ {X : Type 0} (reads : List X → Result Line FaultKind) (w station n : ℕ) (xs : List X) where
  pub shown-first : 0 < w → 0 < length xs → (m : ℕ) (x : Item) → m ≡ min w (length xs) → x ≡ item_of station n (reads (take m xs)) → Some x ≡ first (items_of reads w station n xs)
  shown-first p h m x e read =
      let same : x ≡ item_of station n (reads (take w xs)) = read ∙ ap (λ ys. item_of station n (reads ys)) (ap (λ k. take k xs) e ∙ take_min w xs) in
      ap Some same ∙ sym (ap first (items-some reads w station n xs p h))

  pub left-some : 0 < w → 0 < length xs → (m : ℕ) (after : List X) → m ≡ min w (length xs) → after ≡ drop m xs → items_of reads w station (counted (n + 1)) after ≡ later (items_of reads w station n xs)
  left-some p h m after e back =
      ap (items_of reads w station (counted (n + 1))) (back ∙ ap (λ k. drop k xs) e ∙ drop_min w xs) ∙ sym (ap later (items-some reads w station n xs p h))

  -- whether an input is empty tells whether it has items
  pub dry : 0 < w → (b : Bool) → b ≡ eqb (length xs) 0 → MatchBool b (items_of reads w station n xs ≡ []) (any (items_of reads w station n xs) ≡ true)
  dry p true e = sym (items-none reads w station n xs (eqb-true _ _ (sym e)))
  dry p false e = ap any (items-some reads w station n xs p (not_none (eqb-false _ _ (sym e))))
    where
      not_none : (length xs ≡ 0 → ⊥) → 0 < length xs
      not_none f = omega (arith, f)

  pub some_left_lem : any (items_of reads w station n xs) ≡ true → 0 < length xs
  some_left_lem e = ⊎_elim (λ h. h) (λ h. absurd (false≢true (ap any (items-none reads w station n xs (omega arith)) ∙ e))) (cases_lt 0 (length xs))

-- one piece more
count-more : (w len : ℕ) → 0 < w → 0 < len → piece_count w (len - w) + 1 ≡ piece_count w len
count-more w len p some =
    ⊎_elim
    (λ short.
    let one_piece : len + (w - 1) ≡ len - 1 + w = omega arith in
    let no-rest : len - w + (w - 1) < w = omega arith in
    let small : len - 1 < w = omega arith in
    rw (one_piece, add-div_right (len - 1) p, div-eq_of_lt no-rest, div-eq_of_lt small))
    (λ long. let whole : len + (w - 1) ≡ len - w + (w - 1) + w = omega arith in rw (whole, add-div_right (len - w + (w - 1)) p))
    (cases_lt len w)

-- the pieces are those of the input
pub cut-pieces : {X : Type 0} (w : ℕ) → 0 < w → (n : ℕ) (xs : List X) → length xs ≤ n → Pieces w xs (cut w xs)
cut-pieces w p n [] h = none
cut-pieces w p zero (x ∷ xs) h = absurd (omega arith)
cut-pieces w p (suc n) (x ∷ xs) h =
    let ys = x ∷ xs in
    let more : cut w ys ≡ take w ys ∷ cut w (drop w ys) = cut-first w ys p (omega arith) in
    ⊎_elim
    (λ (short : length ys < w). let all : take w ys ≡ ys = take_all w ys (omega arith) in let rest : drop w ys ≡ [] = drop_all w ys (omega arith) in rw (more, rest, all) (remainder ys (omega arith) short))
    (λ (long : w ≤ length ys). rw more (subst (λ zs. Pieces w zs (take w ys ∷ cut w (drop w ys))) (take-append-drop w ys) (piece (take w ys) (drop w ys) _ (length-take-le w ys long) (cut-pieces w p n (drop w ys) (simp length-drop (omega arith))))))
    (cases_lt (length ys) w)

pub cut-count : {X : Type 0} (w : ℕ) → 0 < w → (n : ℕ) (xs : List X) → length xs ≤ n → length (cut w xs) ≡ piece_count w (length xs)
cut-count w p n [] h = sym (div-eq_of_lt (let l : 0 + (w - 1) < w = omega arith in l))
cut-count w p zero (x ∷ xs) h = absurd (omega arith)
cut-count w p (suc n) (x ∷ xs) h =
    let ys = x ∷ xs in
    let some : 0 < length ys = omega arith in
    let more : length (cut w ys) ≡ length (cut w (drop w ys)) + 1 = ap length (cut-first w ys p some) ∙ sym (add-one _) in
    let rest : length (cut w (drop w ys)) ≡ piece_count w (length ys - w) = cut-count w p n (drop w ys) (simp length-drop (omega arith)) ∙ ap (piece_count w) (length-drop w ys) in
    more ∙ ap (λ k. k + 1) rest ∙ count-more w (length ys) p some

pub numbered-count : {X : Type 0} (reads : List X → Result Line FaultKind) (station n : ℕ) (ps : List (List X)) → length (numbered reads station n ps) ≡ length ps
numbered-count reads station n [] = refl
numbered-count reads station n (p ∷ ps) = ap suc (numbered-count reads station (counted (n + 1)) ps)

pub items-count : {X : Type 0} (reads : List X → Result Line FaultKind) (w station n : ℕ) (xs : List X) → 0 < w → length (items_of reads w station n xs) ≡ piece_count w (length xs)
unfolding items_of
items-count reads w station n xs p = numbered-count reads station n (cut w xs) ∙ cut-count w p (length xs) xs (omega arith)
