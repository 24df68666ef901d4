-- Words and numbers, byte by byte.
use Rattle.std.proofs.Common.{◌≡◌, ℕ, ◌+◌, ◌-◌, ◌*◌, ◌<◌, ◌≤◌, false, List, [], ◌∷◌, arith, Ok, Err}
use Rattle.std.proofs.lemmas.Bool.Decides.{nat_tests}
use Rattle.book.specs.declared.terminals.Terminal.TheVariants.{Numeral}
use Rattle.book.specs.declared.refusals.Reason.TheVariants.{BadNumber}
use Rattle.book.specs.Text.{value_from, number_of, leading_zero}

pub value_grows : (w : List ℕ) (v : ℕ) → v ≤ value_from v w
value_grows [] v = omega arith
value_grows (d ∷ w) v = omega (arith, value_grows w (v * 10 + (d - 48)))

pub too_large : (w : List ℕ) → leading_zero w ≡ false → 9999999 < value_from 0 w → number_of w ≡ Err BadNumber
unfolding number_of
too_large w z h = grind (arith, nat_tests)

pub in_range : (w : List ℕ) (v : ℕ) → leading_zero w ≡ false → value_from 0 w ≡ v → v ≤ 9999999 → number_of w ≡ Ok (Numeral v)
unfolding number_of
in_range w v z e h = grind (arith, nat_tests)
