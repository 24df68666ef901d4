-- The merge of two lists. Assumes nothing.
use Rattle.std.proofs.Common.{◌≡◌, true, false, cond, List, [], ◌∷◌, Some, refl, ap}
use Rattle.feed.specs.Waiting.{first, later, before, placed, merged, leads, Interleaved, none, left, right, Merge}
use Rattle.feed.specs.declared.faults.Item.{Item}

all_right : (ys : List Item) → Interleaved [] ys ys
all_right [] = none
all_right (y ∷ ys) = right y [] ys ys (all_right ys)

placed-both : (x : Item) (xs : List Item) → ((ys : List Item) → Interleaved xs ys (merged xs ys)) → (ys : List Item) → Interleaved (x ∷ xs) ys (placed x (merged xs) ys)
placed-both x xs both [] = left x xs [] (merged xs []) (both [])
placed-both x xs both (y ∷ ys) =
    elim (before x y) as (λ b. Interleaved (x ∷ xs) (y ∷ ys) (cond b (x ∷ merged xs (y ∷ ys)) (y ∷ placed x (merged xs) ys))) [
      | true ↦ left x xs (y ∷ ys) (merged xs (y ∷ ys)) (both (y ∷ ys))
      | false ↦ right y (x ∷ xs) ys (placed x (merged xs) ys) (placed-both x xs both ys)
    ]

merged-both : (xs ys : List Item) → Interleaved xs ys (merged xs ys)
merged-both [] ys = all_right ys
merged-both (x ∷ xs) ys = placed-both x xs (merged-both xs) ys

merged-left : (xs : List Item) → merged xs [] ≡ xs
merged-left [] = refl
merged-left (x ∷ xs) = ap (λ zs. x ∷ zs) (merged-left xs)

merged-heads : (xs ys : List Item) → first (merged xs ys) ≡ cond (leads (first xs) (first ys)) (first xs) (first ys)
merged-heads [] ys = refl
merged-heads (x ∷ xs) [] = refl
merged-heads (x ∷ xs) (y ∷ ys) =
    elim (before x y) as (λ b. first (cond b (x ∷ merged xs (y ∷ ys)) (y ∷ placed x (merged xs) ys)) ≡ cond b (Some x) (Some y)) [
      | true ↦ refl
      | false ↦ refl
    ]

merged-rest : (xs ys : List Item) → later (merged xs ys) ≡ cond (leads (first xs) (first ys)) (merged (later xs) ys) (merged xs (later ys))
merged-rest [] ys = refl
merged-rest (x ∷ xs) [] = refl
merged-rest (x ∷ xs) (y ∷ ys) =
    elim (before x y) as (λ b. later (cond b (x ∷ merged xs (y ∷ ys)) (y ∷ placed x (merged xs) ys)) ≡ cond b (merged xs (y ∷ ys)) (merged (x ∷ xs) ys)) [
      | true ↦ refl
      | false ↦ refl
    ]

pub merge : (xs ys : List Item) → Merge xs ys
merge xs ys = record {
  heads = merged-heads xs ys;
  rest = merged-rest xs ys;
  both = merged-both xs ys;
  left_alone = merged-left xs;
  right_alone = refl;
}
