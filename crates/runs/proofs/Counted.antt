-- One more moment counted.
use Rattle.std.proofs.Common.{◌≡◌, ℕ, suc, ◌+◌, min, Bool, true, false, cond, List, [], ◌∷◌, ◌++◌, refl, ap, ◌∙◌, arith}
use Rattle.runs.specs.Counts.{moments_of, most_counted, Counts}
use Rattle.runs.specs.Turns.{same_side, Moment}
use Rattle.runs.specs.declared.calls.Side.{Side}
use Rattle.runs.specs.declared.calls.Side.TheVariants.{First, Second}

one_count : (b : Bool) (n k : ℕ) → cond b (suc (n + k)) (n + k) ≡ cond b (suc n) n + k
one_count true n k = omega arith
one_count false n k = refl

counted-more : (x : Side) (ms : List Moment) (m : Moment) → moments_of x (ms ++ (m ∷ [])) ≡ moments_of x ms + moments_of x (m ∷ [])
counted-more x [] m = omega arith
counted-more x (k ∷ ms) m =
    ap (λ n. cond (same_side x k.whose) (suc n) n) (counted-more x ms m) ∙ one_count (same_side x k.whose) (moments_of x ms) (moments_of x (m ∷ []))

module _ (a b : ℕ) (ms : List Moment) (m : Moment) (h : Counts a b ms) where
  pub first_counted : (a' : ℕ) → m.whose ≡ First → a' ≡ min (a + 1) most_counted → Counts a' b (ms ++ (m ∷ []))
  first_counted a' e more =
      let one : moments_of First (m ∷ []) ≡ 1 = ap (λ y. cond (same_side First y) (suc 0) 0) e in
      let none : moments_of Second (m ∷ []) ≡ 0 = ap (λ y. cond (same_side Second y) (suc 0) 0) e in
      record {
        firsts = omega (arith, h.firsts, counted-more First ms m);
        seconds = omega (arith, h.seconds, counted-more Second ms m);
      }

  pub second-counted : (b' : ℕ) → m.whose ≡ Second → b' ≡ min (b + 1) most_counted → Counts a b' (ms ++ (m ∷ []))
  second-counted b' e more =
      let none : moments_of First (m ∷ []) ≡ 0 = ap (λ y. cond (same_side First y) (suc 0) 0) e in
      let one : moments_of Second (m ∷ []) ≡ 1 = ap (λ y. cond (same_side Second y) (suc 0) 0) e in
      record {
        firsts = omega (arith, h.firsts, counted-more First ms m);
        seconds = omega (arith, h.seconds, counted-more Second ms m);
      }
