-- A column from its right end is the column.
use Rattle.std.proofs.Common.{◌≡◌, ℕ, zero, suc, ◌+◌, ◌-◌, ◌/◌, ◌%◌, ◌^◌, ◌<◌, ◌≤◌, ◌⊎◌, List, [], ◌∷◌, ◌++◌, length, drop, replicate, Some, None, decimal, Option, sym, refl, ap, ◌∙◌, inl, inr, append_assoc, append-nil, add-one, arith, length-append, le-leb}
use lib.ListN.{length-replicate}
use borrow.Author.Tests.{lt-leb}
use Rattle.std.proofs.lemmas.Fmt.{decimal_digit, decimal_step}
use Rattle.std.proofs.lemmas.List.{drop_all, drop-append-le, drop-replicate, replicate_more, length_push}
use Rattle.std.proofs.lemmas.Bool.{cond-true, cond-false, cases_lt}
use Rattle.pages.specs.Aligned.{last_byte, in_front, aligned}
use Rattle.pages.specs.Columns.{blanks, column}

pub column_fits : (w n : ℕ) → length (decimal n) ≤ w → column w n ≡ blanks (w - length (decimal n)) ++ decimal n
unfolding column
column_fits w n h =
    drop-append-le (length (decimal n)) (blanks w) (decimal n) (omega (arith, length-replicate {A = ℕ} w 32))
    ∙ ap (λ x. x ++ decimal n) (drop-replicate (length (decimal n)) w 32)

-- with one more place, the digits in front of the last one move on
column-more : (w n d : ℕ) (ds : List ℕ) → decimal n ≡ ds ++ (d ∷ []) → column (suc w) n ≡ drop (length ds) (blanks w ++ ds) ++ (d ∷ [])
unfolding column
column-more w n d ds e =
    ap (λ x. drop (length x) (blanks (suc w) ++ x)) e
    ∙ (ap (λ k. drop k (blanks (suc w) ++ (ds ++ (d ∷ [])))) (length_push ds d ∙ add-one (length ds))
    ∙ (ap (drop (length ds)) (sym (append_assoc (blanks w) ds (d ∷ [])))
    ∙ drop-append-le (length ds) (blanks w ++ ds) (d ∷ []) (simp length-append (omega arith))))

aligned-none : (w : ℕ) → aligned w None ≡ blanks w
unfolding aligned
aligned-none zero = refl
aligned-none (suc w) = ap (λ x. x ++ (32 ∷ [])) (aligned-none w) ∙ (replicate_more w 32 ∙ ap (λ k. replicate k 32) (add-one w))

front-none : (n : ℕ) → n < 10 → in_front (Some n) ≡ None
front-none n h = cond-false _ _ _ (lt-leb 10 n h)

front-some : (n : ℕ) → 10 ≤ n → in_front (Some n) ≡ Some (n / 10)
front-some n h = cond-true _ _ _ (le-leb 10 n h)

pub aligned-column : (w n : ℕ) → n < 2 ^ 64 → aligned w (Some n) ≡ column w n
unfolding aligned column
aligned-column zero n h = sym (drop_all (length (decimal n)) (decimal n) (omega arith))
aligned-column (suc w) n h = go (cases_lt n 10) (λ k. aligned-column w (n / 10) (omega arith))
  where
    go : (n < 10) ⊎ (10 ≤ n) → (10 ≤ n → aligned w (Some (n / 10)) ≡ column w (n / 10)) → aligned (suc w) (Some n) ≡ column (suc w) n
    go (inl one) ih =
        let digit : n % 10 ≡ n = omega arith in
        (λ i. aligned w (front-none n one i) ++ ((48 + digit i) ∷ []))
        ∙ (ap (λ x. x ++ ((48 + n) ∷ [])) (aligned-none w ∙ sym (append-nil (blanks w)))
        ∙ sym (column-more w n (48 + n) [] (decimal_digit n one)))
    go (inr more) ih =
        ap (λ x. aligned w x ++ ((48 + n % 10) ∷ [])) (front-some n more)
        ∙ (ap (λ x. x ++ ((48 + n % 10) ∷ [])) (ih more)
        ∙ sym (column-more w n (48 + n % 10) (decimal (n / 10)) (decimal_step n more h)))

pub aligned-nil : (row : List ℕ) (x : Option ℕ) → length row ≡ 0 → row ≡ aligned (length row) x
unfolding aligned
aligned-nil [] x e = refl
aligned-nil (b ∷ row) x e = absurd (omega arith)

-- the last byte is written, and what stands in front of it
pub aligned_more : (row front : List ℕ) (b : ℕ) (x : Option ℕ) (w : ℕ) (y : Option ℕ) → front ≡ aligned w y → b ≡ last_byte x → y ≡ in_front x → length row ≡ suc w → front ++ (b ∷ []) ≡ aligned (length row) x
unfolding aligned
aligned_more row front b x w y is last next long = rw long ((λ i. is i ++ (last i ∷ [])) ∙ ap (λ z. aligned w z ++ (last_byte x ∷ [])) next)
