-- A buffer that is filled from its front.
use Rattle.std.proofs.Common.{◌≡◌, ℕ, ◌+◌, ◌<◌, ◌≤◌, List, [], ◌∷◌, ◌++◌, length, get_or, take, drop, set, sym, refl, ap, ◌∙◌, ap₂, append_assoc, append-nil, arith, length-append, length-drop, length-take}
use borrow.Rule.Slice.PartMut.{put_mid}
use Rattle.std.proofs.lemmas.List.{take_at, drop_at, drop-drop, drop_all, drop_more, set_at, length_push}

-- the first n bytes are p, and the others as they were
pub record Filled (e : List ℕ) (n : ℕ) (p row : List ℕ) : Type 0 where
  pub bytes : row ≡ p ++ drop n e
  pub long : length p ≡ n

pub fills_none : (e : List ℕ) → Filled e 0 [] e
fills_none e = record { bytes = refl; long = refl }

-- the place of the next k bytes
pub place-length : (e p row : List ℕ) (n k : ℕ) → Filled e n p row → n + k ≤ length e → length (take k (drop n row)) ≡ k
place-length e p row n k h le =
    ap (λ x. length (take k (drop n x))) h.bytes ∙ (ap (λ x. length (take k x)) (drop_at p (drop n e) n h.long) ∙ simp (length-take, length-drop) (omega arith))

-- the next k bytes are written
pub fills_on : (e p row ys : List ℕ) (n k : ℕ) → Filled e n p row → length ys ≡ k → Filled e (n + k) (p ++ ys) (put_mid n k row ys)
fills_on e p row ys n k h l =
    let front : take n row ≡ p = ap (take n) h.bytes ∙ take_at p (drop n e) n h.long in
    let back : drop n row ≡ drop n e = ap (drop n) h.bytes ∙ drop_at p (drop n e) n h.long in
    record {
      bytes =
          (λ i. front i ++ (ys ++ drop k (back i)))
          ∙ (ap (λ x. p ++ (ys ++ x)) (drop-drop k n e)
          ∙ sym (append_assoc p ys (drop (n + k) e)));
      long = length-append p ys ∙ ap₂ ◌+◌ h.long l;
    }

pub fills_as : (e p q row : List ℕ) (n m : ℕ) → p ≡ q → n ≡ m → Filled e n p row → Filled e m q row
fills_as e p q row n m same is h = record { bytes = h.bytes ∙ (λ i. same i ++ drop (is i) e); long = ap length (sym same) ∙ (h.long ∙ is) }

-- the next k bytes are written by what fills a place of any width
pub fills_with : (f : ℕ → List ℕ) → ((w : ℕ) → length (f w) ≡ w) → (e p row ys : List ℕ) (n k : ℕ) → Filled e n p row → n + k ≤ length e → ys ≡ f (length (take k (drop n row))) → Filled e (n + k) (p ++ f k) (put_mid n k row ys)
fills_with f long e p row ys n k h le is =
    let same : ys ≡ f k = is ∙ ap f (place-length e p row n k h le) in
    fills_as e (p ++ ys) (p ++ f k) (put_mid n k row ys) (n + k) (n + k) (ap (λ x. p ++ x) same) refl (fills_on e p row ys n k h (ap length same ∙ long k))

-- the next byte is written
pub fills_byte : (e p row : List ℕ) (n b : ℕ) → Filled e n p row → n < length e → Filled e (n + 1) (p ++ (b ∷ [])) (set row n b)
fills_byte e p row n b h lt =
    record {
      bytes =
          ap (λ x. set x n b) (h.bytes ∙ ap (λ x. p ++ x) (drop_more e n 0 lt))
          ∙ (set_at p (get_or e n 0) (drop (n + 1) e) b n h.long
          ∙ sym (append_assoc p (b ∷ []) (drop (n + 1) e)));
      long = length_push p b ∙ ap (λ k. k + 1) h.long;
    }

pub fills_all : (e p row : List ℕ) (n : ℕ) → Filled e n p row → length e ≤ n → row ≡ p
fills_all e p row n h le = h.bytes ∙ (ap (λ x. p ++ x) (drop_all n e le) ∙ append-nil p)
