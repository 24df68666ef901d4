-- The join of a list of results: taken in from the left, and cut in two. Assumes nothing but the laws of the join.
use Rattle.std.proofs.Common.{◌≡◌, ℕ, ◌+◌, ◌≤◌, Bool, true, false, cond, leb, List, [], ◌∷◌, ◌++◌, length, take, drop, Ok, Err, Result, sym, refl, ap, ◌∙◌, arith, drop-drop, take-add, le-leb, leb-true}
use Rattle.roundup.specs.Rounding.{joined_all, round_up, CutInTwo}
use Rattle.roundup.specs.declared.rounding.OutsideResults.{OutsideResults}

found : {K : Type 0} (test : Bool) (u x : K) → ◌≡◌ {A = Result K OutsideResults} (cond test (Ok u) (Err (record {}))) (Ok x) → (test ≡ true) × (x ≡ u)
found true u x e = (refl, cc)
found false u x e = let z : ◌≡◌ {A = ℕ} 0 1 = cc in absurd (omega arith)

-- what a round-up answers, and what an answer says
module _ {K : Type 0} (join : K → K → K) (neutral : K) (results : List K) (start count : ℕ) where
  within : (x : K) (xs : List K) → start + count ≤ length results → xs ≡ take count (drop start results) → x ≡ joined_all join neutral xs → Ok x ≡ round_up join neutral results start count
  within x xs h found e = rw (le-leb (start + count) (length results) h) (ap Ok (e ∙ ap (joined_all join neutral) found))

  answered : (x : K) → round_up join neutral results start count ≡ Ok x → (start + count ≤ length results) × (x ≡ joined_all join neutral (take count (drop start results)))
  answered x e =
      let f = found (leb (start + count) (length results)) (joined_all join neutral (take count (drop start results))) x e in
      (leb-true (start + count) (length results) f.0, f.1)

module _
    {K : Type 0}
    (join : K → K → K)
    (neutral : K)
    (regrouped : (x y z : K) → join (join x y) z ≡ join x (join y z))
    (exchanged : (x y : K) → join x y ≡ join y x)
    (unchanged : (x : K) → join neutral x ≡ x)
  where
    joined_append : (xs ys : List K) → joined_all join neutral (xs ++ ys) ≡ join (joined_all join neutral xs) (joined_all join neutral ys)
    joined_append [] ys = sym (unchanged (joined_all join neutral ys))
    joined_append (x ∷ xs) ys = ap (join x) (joined_append xs ys) ∙ sym (regrouped x (joined_all join neutral xs) (joined_all join neutral ys))

    -- one more result is joined
    pub joined_push : (total x : K) (xs : List K) → total ≡ joined_all join neutral xs → join total x ≡ joined_all join neutral (xs ++ (x ∷ []))
    joined_push total x xs is =
        ap (λ y. join y x) is ∙ ap (join (joined_all join neutral xs)) (sym (exchanged x neutral ∙ unchanged x)) ∙ sym (joined_append xs (x ∷ []))

    joined_cut : (xs : List K) (m n : ℕ) → joined_all join neutral (take (m + n) xs) ≡ join (joined_all join neutral (take m xs)) (joined_all join neutral (take n (drop m xs)))
    joined_cut xs m n = ap (joined_all join neutral) (take-add m n xs) ∙ joined_append (take m xs) (take n (drop m xs))

    answers-cut : (results : List K) (start m n : ℕ) (x y : K) → round_up join neutral results start m ≡ Ok x → round_up join neutral results (start + m) n ≡ Ok y → round_up join neutral results start (m + n) ≡ Ok (join x y)
    answers-cut results start m n x y p q =
        let a = answered join neutral results start m x p in
        let b = answered join neutral results (start + m) n y q in
        let rest = ap (λ ys. joined_all join neutral (take n ys)) (drop-drop m start results) in
        let both : join x y ≡ joined_all join neutral (take (m + n) (drop start results)) = cc (joined_cut (drop start results) m n, rest) in
        sym (within join neutral results start (m + n) (join x y) (take (m + n) (drop start results)) (omega (arith, b.0)) refl both)

    pub cut_in_two : CutInTwo join neutral
    cut_in_two = record { joins = joined_cut; answers = answers-cut }
