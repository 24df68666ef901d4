-- Rows that are written one after the other.
use Rattle.std.proofs.Common.{◌≡◌, ℕ, suc, ◌+◌, ◌*◌, ◌<◌, List, [], ◌∷◌, ◌++◌, length, get_or, drop, sym, refl, ap, ◌∙◌, append_assoc, append-nil, add-one, mul-zero, arith, length-append}
use borrow.Rule.Slice.PartMut.{put_mid}
use Rattle.std.proofs.lemmas.List.{drop_all, at_drop_more}
use Rattle.pages.specs.Rows.{rows_of}
use Rattle.pages.proofs.Fills.{Filled, fills_none, fills_on, fills_as}

module _ {A : Type 0} (bytes : ℕ → A → List ℕ) (rule : ℕ → ℕ → A → ℕ) where
  pub length-rows_of : (w : ℕ) → ((n : ℕ) (x : A) → length (bytes n x) ≡ w) → (i n : ℕ) (xs : List A) → length (rows_of bytes rule i n xs) ≡ w * length xs
  unfolding rows_of
  length-rows_of w wide i n [] = sym (mul-zero w)
  length-rows_of w wide i n (x ∷ xs) =
      let m = rule i n x in
      length-append (bytes m x) (rows_of bytes rule (suc i) m xs) ∙ omega (arith, wide m x, length-rows_of w wide (suc i) m xs)

  -- in the bytes e, i of the rows xs of the width w are written, the last of them of rule n
  pub record Writing (w : ℕ) (e : List ℕ) (xs : List A) (i n : ℕ) (out : List ℕ) : Type 0 where
    pub page : List ℕ
    pub filled : Filled e (w * i) page out
    pub whole : page ++ rows_of bytes rule i n (drop i xs) ≡ rows_of bytes rule 0 0 xs

  module _ (w : ℕ) (e : List ℕ) (xs : List A) where
    pub one_written : (i n m : ℕ) (x : A) (out row : List ℕ) (at k : ℕ) → Writing w e xs i n out → i < length xs → x ≡ get_or xs i x → m ≡ rule i n x → row ≡ bytes m x → length row ≡ w → at ≡ w * i → k ≡ w → Writing w e xs (i + 1) m (put_mid at k out row)
    unfolding rows_of
    one_written i n m x out row at k h lt item is made long start wide =
        let tail = drop (i + 1) xs in
        let rest = rows_of bytes rule (i + 1) m tail in
        let next : rows_of bytes rule i n (drop i xs) ≡ row ++ rest =
        at_drop_more (rows_of bytes rule i n) xs i x lt
        ∙ ap (λ y. rows_of bytes rule i n (y ∷ tail)) (sym item)
        ∙ ap (λ k. bytes k x ++ rows_of bytes rule (suc i) k tail) (sym is)
        ∙ ap (λ j. bytes m x ++ rows_of bytes rule j m tail) (sym (add-one i))
        ∙ ap (λ b. b ++ rest) (sym made) in
        record {
          page = h.page ++ row;
          filled = fills_as e _ _ _ (at + k) (w * (i + 1)) refl (omega (arith, start, wide)) (fills_on e h.page out row at k (fills_as e _ _ _ (w * i) at refl (sym start) h.filled) (long ∙ sym wide));
          whole = append_assoc h.page row rest ∙ ap (λ y. h.page ++ y) (sym next) ∙ h.whole;
        }

    pub all_written : (i n : ℕ) (out : List ℕ) → Writing w e xs i n out → i ≡ length xs → out ≡ rows_of bytes rule 0 0 xs ++ drop (w * length xs) e
    unfolding rows_of
    all_written i n out h done =
        let none : drop i xs ≡ [] = drop_all i xs (omega (arith, done)) in
        let page : h.page ≡ rows_of bytes rule 0 0 xs = sym (append-nil h.page) ∙ ap (λ ys. h.page ++ rows_of bytes rule i n ys) (sym none) ∙ h.whole in
        h.filled.bytes ∙ (λ j. page j ++ drop (w * done j) e)
