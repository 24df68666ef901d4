-- What the loops and the steps of the cursor keep.
use Rattle.std.proofs.Common.{◌≡◌, ℕ, zero, suc, ◌+◌, ◌-◌, ◌<◌, ◌≤◌, Bool, true, false, cond, ◌&&◌, leb, List, [], ◌∷◌, length, get_or, take, drop, codes, Option, sym, refl, ap, ◌∙◌, ⊎_elim, add-zero, add-one, arith, length-drop, drop_of_length-le, length-take-le, drop-cons, drop-drop, eqb-true, leb-false, leb-true}
use Rattle.std.proofs.lemmas.Bool.{cond-true, cond-false, cases_Bool, and_parts, false≢true}
use Rattle.std.proofs.lemmas.List.{get_or-drop}
use Rattle.std.proofs.lemmas.List.Sums.{prefix_len-le-length, prefix_len-drop_yes, prefix_len_stops}
use Rattle.std.specs.List.{prefix_len}
use Rattle.tokens.specs.declared.token.Symbol.{Symbol}
use Rattle.tokens.specs.Text.{Stretch, word, number, end, Placed, placed, is_blank, is_letter, is_digit, is_angle, extent, stretch_on, stretches_from, next_is, same, symbol_of, is_end}
use Rattle.tokens.specs.Tokens.{SymbolAt, symbol_stretch, symbol_span, tokens_at, AtEnd}

pub cut : (bs : List ℕ) (n : ℕ) → n < length bs → drop n bs ≡ get_or bs n 0 ∷ drop (n + 1) bs
cut bs n h = drop-cons bs n 0 h ∙ ap (λ k. get_or bs n 0 ∷ drop k bs) (sym (add-one n))

-- blanks are passed over
blanks : (xs : List ℕ) (p : ℕ) → stretches_from p 0 xs ≡ stretches_from (p + prefix_len is_blank xs) 0 (drop (prefix_len is_blank xs) xs)
blanks [] p = ap (λ q. stretches_from q 0 []) (sym (add-zero p))
blanks (b ∷ xs) p =
    ⊎_elim
    (λ (blank : is_blank b ≡ true).
    let n = prefix_len is_blank xs in
    let one : 1 + n ≡ suc n = omega arith in
    let more : prefix_len is_blank (b ∷ xs) ≡ suc n = cond-true _ _ _ blank ∙ one in
    let on : p + 1 + n ≡ p + suc n = omega arith in
    cond-true _ _ _ blank ∙ blanks xs (p + 1) ∙ ap (λ q. stretches_from q 0 (drop n xs)) on ∙ ap (λ m. stretches_from (p + m) 0 (drop m (b ∷ xs))) (sym more))
    (λ (dark : is_blank b ≡ false).
    let none : prefix_len is_blank (b ∷ xs) ≡ 0 = cond-false _ _ _ dark in
    ap (λ q. stretches_from q 0 (b ∷ xs)) (sym (add-zero p)) ∙ ap (λ m. stretches_from (p + m) 0 (drop m (b ∷ xs))) (sym none))
    (cases_Bool (is_blank b))

module _ (bs rest : List ℕ) (n k : ℕ) (q : rest ≡ drop n bs) (run : k ≡ prefix_len is_blank rest) where
  pub past_blanks : tokens_at bs n ≡ tokens_at bs (n + k)
  unfolding tokens_at
  past_blanks = rw (run, q) (blanks (drop n bs) n ∙ ap (stretches_from (n + prefix_len is_blank (drop n bs)) 0) (drop-drop _ n bs))

  pub behind_blanks : n + k < length bs → is_blank (get_or bs (n + k) 0) ≡ false
  behind_blanks h =
      let short : prefix_len is_blank rest < length rest = omega (arith, ap length q, length-drop n bs) in
      ap is_blank (sym (get_or-drop n bs k 0) ∙ ap (λ xs. get_or xs k 0) (sym q) ∙ ap (λ m. get_or rest m 0) run) ∙ prefix_len_stops is_blank rest 0 short

-- the end
pub at_end : (bs : List ℕ) (n : ℕ) → length bs ≤ n → tokens_at bs n ≡ stretches_from n 0 []
unfolding tokens_at
at_end bs n h = ap (stretches_from n 0) (drop_of_length-le bs {i = n} h)

-- what is left of a stretch that has begun is passed over
pub pass : (bs : List ℕ) (p k : ℕ) → k ≤ length bs → stretches_from p k bs ≡ stretches_from (p + k) 0 (drop k bs)
pass [] p zero h = ap (λ q. stretches_from q 0 []) (sym (add-zero p))
pass [] p (suc k) h = absurd (omega arith)
pass (b ∷ bs) p zero h = ap (λ q. stretches_from q 0 (b ∷ bs)) (sym (add-zero p))
pass (b ∷ bs) p (suc k) h = pass bs (p + 1) k (omega arith) ∙ ap (λ q. stretches_from q 0 (drop k bs)) (let e : p + 1 + k ≡ p + suc k = omega arith in e)

-- a stretch at the front
front : (b : ℕ) (r : List ℕ) (p m : ℕ) → is_blank b ≡ false → extent b r ≡ m → 0 < m → m ≤ length (b ∷ r) → stretches_from p 0 (b ∷ r) ≡ placed p (stretch_on b (take m (b ∷ r))) ∷ stretches_from (p + m) 0 (drop m (b ∷ r))
front b r p zero dark x some le = absurd (omega arith)
front b r p (suc k) dark x some le =
    let less : suc k - 1 ≡ k = omega arith in
    let on : p + 1 + k ≡ p + suc k = omega arith in
    cond-false _ _ _ dark
    ∙ ap (λ m. placed p (stretch_on b (take m (b ∷ r))) ∷ stretches_from (p + 1) (m - 1) r) x
    ∙ ap (λ ss. placed p (stretch_on b (take (suc k) (b ∷ r))) ∷ ss) (ap (λ m. stretches_from (p + 1) m r) less ∙ pass r (p + 1) k (omega arith) ∙ ap (λ q. stretches_from q 0 (drop k r)) on)

-- the stretch at n, where rest is what the text has from n on
stretch : (bs rest : List ℕ) (n m : ℕ) → rest ≡ drop n bs → is_blank (get_or rest 0 0) ≡ false → extent (get_or rest 0 0) (drop 1 rest) ≡ m → 0 < m → m ≤ length rest → tokens_at bs n ≡ placed n (stretch_on (get_or rest 0 0) (take m rest)) ∷ tokens_at bs (n + m)
unfolding tokens_at
stretch bs [] n m q dark x some le = absurd (omega arith)
stretch bs (b ∷ r) n m q dark x some le =
    ap (stretches_from n 0) (sym q)
    ∙ front b r n m dark x some le
    ∙ ap (λ xs. placed n (stretch_on b (take m (b ∷ r))) ∷ stretches_from (n + m) 0 xs) (ap (drop m) q ∙ drop-drop m n bs)

next-cons : (c : ℕ) (r : List ℕ) → next_is c r ≡ true → (rs : List ℕ) × (r ≡ c ∷ rs)
next-cons c [] e = absurd (false≢true e)
next-cons c (b ∷ bs) e = (bs, ap (λ x. x ∷ bs) (eqb-true b c e))

-- the bytes of a symbol: two where `=` follows an angle, and one elsewhere
symbol_taken : (rest : List ℕ) (two : Bool) → 0 < length rest → (is_angle (get_or rest 0 0) && next_is 61 (drop 1 rest)) ≡ two →
    (0 < cond two 2 1) × (cond two 2 1 ≤ length rest) × (take (cond two 2 1) rest ≡ cond two (get_or rest 0 0 ∷ 61 ∷ []) (get_or rest 0 0 ∷ []))
symbol_taken [] two some e = absurd (omega arith)
symbol_taken (b ∷ r) false some e = (omega arith, omega arith, refl)
symbol_taken (b ∷ r) true some e =
    let next = next-cons 61 r (and_parts (is_angle b) (next_is 61 r) e).1 in
    (omega arith, omega (arith, ap length next.1), ap (λ xs. take 2 (b ∷ xs)) next.1)

module _ (bs rest : List ℕ) (n : ℕ) (q : rest ≡ drop n bs) (dark_there : is_blank (get_or bs n 0) ≡ false) (in_text : n < length bs) where
  dark : is_blank (get_or rest 0 0) ≡ false
  dark = ap is_blank (ap (λ xs. get_or xs 0 0) q ∙ get_or-drop n bs 0 0 ∙ ap (λ i. get_or bs i 0) (add-zero n)) ∙ dark_there

  some : 0 < length rest
  some = omega (arith, ap length q, length-drop n bs)

  -- a run of bytes of one kind
  run_step : (kind : ℕ → Bool) (made : List ℕ → Stretch) (m : ℕ) → m ≡ 1 + prefix_len kind (drop 1 rest) → kind (get_or rest 0 0) ≡ true → extent (get_or rest 0 0) (drop 1 rest) ≡ 1 + prefix_len kind (drop 1 rest) → ((w : List ℕ) → stretch_on (get_or rest 0 0) w ≡ made w) →
      tokens_at bs n ≡ placed n (made (take m rest)) ∷ tokens_at bs (n + length (take m rest))
  run_step kind made m run first x is =
      let more : prefix_len kind rest ≡ 1 + prefix_len kind (drop 1 rest) = prefix_len-drop_yes kind rest 0 0 some first in
      let le : m ≤ length rest = omega (arith, more, prefix_len-le-length kind rest) in
      let long : length (take m rest) ≡ m = length-take-le m rest le in
      stretch bs rest n m q dark (x ∙ sym run) (omega arith) le
      ∙ ap (λ s. placed n s ∷ tokens_at bs (n + m)) (is (take m rest))
      ∙ ap (λ k. placed n (made (take m rest)) ∷ tokens_at bs (n + k)) (sym long)

  pub word_step : (m : ℕ) → m ≡ 1 + prefix_len is_letter (drop 1 rest) → is_letter (get_or rest 0 0) ≡ true → tokens_at bs n ≡ placed n (word (take m rest)) ∷ tokens_at bs (n + length (take m rest))
  word_step m run letter = run_step is_letter word m run letter (cond-true _ _ _ letter) (λ w. cond-true _ _ _ letter)

  pub number_step : (m : ℕ) → m ≡ 1 + prefix_len is_digit (drop 1 rest) → is_letter (get_or rest 0 0) ≡ false → is_digit (get_or rest 0 0) ≡ true → tokens_at bs n ≡ placed n (number (take m rest)) ∷ tokens_at bs (n + length (take m rest))
  number_step m run no_letter digit =
      run_step is_digit number m run digit (cond-false _ _ _ no_letter ∙ cond-true _ _ _ digit) (λ w. cond-false _ _ _ no_letter ∙ cond-true _ _ _ digit)

  pub symbol_step : (o : Option Symbol) → is_letter (get_or rest 0 0) ≡ false → is_digit (get_or rest 0 0) ≡ false → SymbolAt (get_or rest 0 0) (next_is 61 (drop 1 rest)) o →
      tokens_at bs n ≡ placed n (symbol_stretch o) ∷ tokens_at bs (n + symbol_span o)
  symbol_step o no_letter no_digit s =
      let two = is_angle (get_or rest 0 0) && next_is 61 (drop 1 rest) in
      let x : extent (get_or rest 0 0) (drop 1 rest) ≡ cond two 2 1 = cond-false _ _ _ no_letter ∙ cond-false _ _ _ no_digit in
      let taken = symbol_taken rest two some refl in
      let span : symbol_span o ≡ cond two 2 1 = s.span in
      stretch bs rest n (symbol_span o) q dark (x ∙ sym span) (omega (arith, taken.0)) (omega (arith, taken.1))
      ∙ ap (λ g. placed n g ∷ tokens_at bs (n + symbol_span o)) (cond-false _ _ _ no_letter ∙ cond-false _ _ _ no_digit ∙ ap (λ k. symbol_of (take k rest)) span ∙ ap symbol_of taken.2 ∙ s.is)

data Goes : Stretch → Type 0 where
  goes : {s : Stretch} → is_end s ≡ false → Goes s

still : (s : Stretch) → Goes s → is_end s ≡ false
still s (goes e) = e

pick : (b : Bool) {x y : Stretch} → Goes x → Goes y → Goes (cond b x y)
pick true p q = p
pick false p q = q

symbol-goes : (w : List ℕ) → Goes (symbol_of w)
unfolding symbol_of
symbol-goes w =
    pick (same w (codes "<=")) (goes refl) (pick (same w (codes ">=")) (goes refl) (pick (same w (codes "=")) (goes refl) (pick (same w (codes "+")) (goes refl)
    (pick (same w (codes "*")) (goes refl) (pick (same w (codes ",")) (goes refl) (pick (same w (codes ";")) (goes refl) (pick (same w (codes "(")) (goes refl)
    (pick (same w (codes ")")) (goes refl) (pick (same w (codes "[")) (goes refl) (pick (same w (codes "]")) (goes refl) (goes refl)))))))))))

-- where no blank stands, something other than the end does
pub begins : (bs : List ℕ) (n : ℕ) → n < length bs → is_blank (get_or bs n 0) ≡ false → (s : Stretch) × (rest : List Placed) × (tokens_at bs n ≡ placed n s ∷ rest) × (is_end s ≡ false)
unfolding tokens_at
begins bs n h e =
    let b = get_or bs n 0 in
    let r = drop (n + 1) bs in
    let w = take (extent b r) (b ∷ r) in (
      stretch_on b w,
      stretches_from (n + 1) (extent b r - 1) r,
      ap (stretches_from n 0) (cut bs n h) ∙ ap (λ t. cond t (stretches_from (n + 1) 0 r) (placed n (stretch_on b w) ∷ stretches_from (n + 1) (extent b r - 1) r)) e,
      still (stretch_on b w) (pick (is_letter b) (goes refl) (pick (is_digit b) (goes refl) (symbol-goes w))),
    )

-- what stands at n, where only blanks are before it from m on
pub ended : (bs : List ℕ) (m n : ℕ) (r : Bool) → leb (length bs) n ≡ r → tokens_at bs m ≡ tokens_at bs n → (n < length bs → is_blank (get_or bs n 0) ≡ false) → AtEnd (tokens_at bs m) r (tokens_at bs n)
ended bs m n true t s stops =
    record { stays = sym s; next = placed n end; rest = []; split = s ∙ at_end bs n (leb-true (length bs) n t); only = λ _. (refl, refl); more = λ e. cc }
ended bs m n false t s stops =
    let h = leb-false (length bs) n t in
    let b = begins bs n h (stops h) in
    record { stays = sym s; next = placed n b.0; rest = b.1; split = s ∙ b.2; only = λ e. cc; more = λ _. b.3 }
