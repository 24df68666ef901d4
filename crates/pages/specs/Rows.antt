-- Rows of one page, each of a rule. Assumes nothing.
use Rattle.std.specs.Prelude.{ℕ, suc, List, [], ◌∷◌, ◌++◌}

module _ {A : Type 0} (bytes : ℕ → A → List ℕ) (rule : ℕ → ℕ → A → ℕ) where
  -- the rows from row i on, where the one before them is of rule n
  unfoldable pub rows_of : ℕ → ℕ → List A → List ℕ
  rows_of i n [] = []
  rows_of i n (x ∷ xs) = bytes (rule i n x) x ++ rows_of (suc i) (rule i n x) xs
