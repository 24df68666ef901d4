-- Words that are none of the table, by their length.
use Rattle.std.proofs.Common.{◌≡◌, ◌≢◌, ◌≤◌, ◌<◌, ℕ, suc, false, List, [], ◌∷◌, length, ap, refl, sym, ◌∙◌, arith, ◌==◌, codes, Err}
use Rattle.std.proofs.lemmas.Bool.{and_right}
use Rattle.std.proofs.lemmas.Map.{NonePasses, lookup-none}
use Rattle.std.specs.Option.{ok_or}
use Rattle.std.specs.Str.{bytes_eq}
use Rattle.book.specs.declared.refusals.Reason.TheVariants.{NoToken}
use Rattle.book.specs.Text.{words, word_of}

-- bytes of another length are others
other : (k w : List ℕ) → length k ≢ length w → bytes_eq k w ≡ false
other [] [] h = absurd (h refl)
other [] (x ∷ w) h = refl
other (y ∷ k) [] h = refl
other (y ∷ k) (x ∷ w) h = and_right (y == x) (bytes_eq k w) (other k w (λ e. h (ap suc e)))

none_of : (w : List ℕ) → NonePasses (λ k. bytes_eq k w) words → Err NoToken ≡ word_of w
unfolding word_of
none_of w h = sym (ap (λ o. ok_or o NoToken) (lookup-none (λ k. bytes_eq k w) words h))

-- no word has eight bytes
pub long_word : (w : List ℕ) → 8 ≤ length w → Err NoToken ≡ word_of w
long_word w h =
    let o : (k : List ℕ) → length k < 8 → bytes_eq k w ≡ false = λ k s. other k w (λ e. absurd (omega (arith, e, h, s))) in
    none_of w (o (codes "must") (omega arith), (o (codes "mustnot") (omega arith), (o (codes "before") (omega arith), (o (codes "each") (omega arith), (o (codes "once") (omega arith), (o (codes "until") (omega arith), (o (codes "then") (omega arith), (o (codes "else") (omega arith), (o (codes "and") (omega arith), (o (codes "never") (omega arith), (o (codes "if") (omega arith), (o (codes "time") (omega arith), (o (codes "kind") (omega arith), (o (codes "machine") (omega arith), (o (codes "crew") (omega arith), (o (codes "run") (omega arith), (o (codes "reading") (omega arith), (o (codes "A") (omega arith), (o (codes "B") (omega arith), (o (codes "C") (omega arith), (o (codes "D") (omega arith), (o (codes "E") (omega arith), (o (codes "F") (omega arith), (o (codes "G") (omega arith), (o (codes "H") (omega arith), tt)))))))))))))))))))))))))

-- a word of six bytes is `before`, one of seven is `mustnot`, `machine` or `reading`
pub six_bytes : (w : List ℕ) → length w ≡ 6 → bytes_eq (codes "before") w ≡ false → Err NoToken ≡ word_of w
six_bytes w h b =
    let o : (k : List ℕ) → length k ≢ 6 → bytes_eq k w ≡ false = λ k s. other k w (λ e. s (e ∙ h)) in
    none_of w (o (codes "must") (λ e. absurd (omega (arith, e))), (o (codes "mustnot") (λ e. absurd (omega (arith, e))), (b, (o (codes "each") (λ e. absurd (omega (arith, e))), (o (codes "once") (λ e. absurd (omega (arith, e))), (o (codes "until") (λ e. absurd (omega (arith, e))), (o (codes "then") (λ e. absurd (omega (arith, e))), (o (codes "else") (λ e. absurd (omega (arith, e))), (o (codes "and") (λ e. absurd (omega (arith, e))), (o (codes "never") (λ e. absurd (omega (arith, e))), (o (codes "if") (λ e. absurd (omega (arith, e))), (o (codes "time") (λ e. absurd (omega (arith, e))), (o (codes "kind") (λ e. absurd (omega (arith, e))), (o (codes "machine") (λ e. absurd (omega (arith, e))), (o (codes "crew") (λ e. absurd (omega (arith, e))), (o (codes "run") (λ e. absurd (omega (arith, e))), (o (codes "reading") (λ e. absurd (omega (arith, e))), (o (codes "A") (λ e. absurd (omega (arith, e))), (o (codes "B") (λ e. absurd (omega (arith, e))), (o (codes "C") (λ e. absurd (omega (arith, e))), (o (codes "D") (λ e. absurd (omega (arith, e))), (o (codes "E") (λ e. absurd (omega (arith, e))), (o (codes "F") (λ e. absurd (omega (arith, e))), (o (codes "G") (λ e. absurd (omega (arith, e))), (o (codes "H") (λ e. absurd (omega (arith, e))), tt)))))))))))))))))))))))))

pub seven_bytes : (w : List ℕ) → length w ≡ 7 → bytes_eq (codes "mustnot") w ≡ false → bytes_eq (codes "machine") w ≡ false → bytes_eq (codes "reading") w ≡ false → Err NoToken ≡ word_of w
seven_bytes w h n m r =
    let o : (k : List ℕ) → length k ≢ 7 → bytes_eq k w ≡ false = λ k s. other k w (λ e. s (e ∙ h)) in
    none_of w (o (codes "must") (λ e. absurd (omega (arith, e))), (n, (o (codes "before") (λ e. absurd (omega (arith, e))), (o (codes "each") (λ e. absurd (omega (arith, e))), (o (codes "once") (λ e. absurd (omega (arith, e))), (o (codes "until") (λ e. absurd (omega (arith, e))), (o (codes "then") (λ e. absurd (omega (arith, e))), (o (codes "else") (λ e. absurd (omega (arith, e))), (o (codes "and") (λ e. absurd (omega (arith, e))), (o (codes "never") (λ e. absurd (omega (arith, e))), (o (codes "if") (λ e. absurd (omega (arith, e))), (o (codes "time") (λ e. absurd (omega (arith, e))), (o (codes "kind") (λ e. absurd (omega (arith, e))), (m, (o (codes "crew") (λ e. absurd (omega (arith, e))), (o (codes "run") (λ e. absurd (omega (arith, e))), (r, (o (codes "A") (λ e. absurd (omega (arith, e))), (o (codes "B") (λ e. absurd (omega (arith, e))), (o (codes "C") (λ e. absurd (omega (arith, e))), (o (codes "D") (λ e. absurd (omega (arith, e))), (o (codes "E") (λ e. absurd (omega (arith, e))), (o (codes "F") (λ e. absurd (omega (arith, e))), (o (codes "G") (λ e. absurd (omega (arith, e))), (o (codes "H") (λ e. absurd (omega (arith, e))), tt)))))))))))))))))))))))))
