-- Reading the columns of a field byte by byte. Assumes nothing.
use Rattle.std.proofs.Common.{◌≡◌, ℕ, suc, ◌+◌, ◌^◌, ◌<◌, ◌≤◌, cond, true, false, eqb, List, [], ◌∷◌, drop, refl, arith}
use native.Mathlib.Nat.{pow-le-pow_right}
use Rattle.std.specs.List.{prefix_len}
use Rattle.feed.specs.Text.{after_blanks}

-- the blanks in front, and what follows them
pub behind_blanks : (bs : List ℕ) → drop (prefix_len (λ b. eqb b 32) bs) bs ≡ after_blanks bs
behind_blanks [] = refl
behind_blanks (b ∷ bs) =
    let n = prefix_len (λ b. eqb b 32) bs in
    let one : 1 + n ≡ suc n = omega arith in
    elim (eqb b 32) as (λ t. drop (cond t (1 + n) 0) (b ∷ bs) ≡ cond t (after_blanks bs) (b ∷ bs)) [
      | true ↦ rw one (behind_blanks bs)
      | false ↦ refl
    ]

-- a number of at most seven digits, and one digit more
pub small : (i n : ℕ) → i ≤ 7 → n < 10 ^ i → n < 10000000
small i n h l = omega (arith, pow-le-pow_right {n = 10} (omega arith) {i = i} {j = 7} h)
