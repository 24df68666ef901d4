-- A page and the buffer that it goes into.
use Rattle.std.proofs.Common.{◌≡◌, ℕ, Bool, true, false, cond, ltb, List, ◌++◌, length, drop, Some, None, Option, sym, refl, ap, ◌∙◌, arith}
use Rattle.pages.specs.Pages.{paging, written}

-- the answer, by the length that was tested
pub answers : (page buffer : List ℕ) (n : ℕ) (x : Option ℕ) → length page ≡ n → x ≡ cond (ltb (length buffer) n) None (Some n) → x ≡ paging page buffer
answers page buffer n x long e = e ∙ ap (λ k. cond (ltb (length buffer) k) None (Some k)) (sym long)

pub refused_stays : (page buffer : List ℕ) → None ≡ paging page buffer → buffer ≡ written page buffer
refused_stays page buffer = go (ltb (length buffer) (length page))
  where
    go : (t : Bool) → None ≡ cond t None (Some (length page)) → buffer ≡ cond t buffer (page ++ drop (length page) buffer)
    go true e = refl
    go false e = let z : ◌≡◌ {A = ℕ} 0 1 = cc in absurd (omega arith)

pub answered_holds : (page buffer out : List ℕ) (n k : ℕ) → length page ≡ k → Some n ≡ paging page buffer → out ≡ page ++ drop k buffer → out ≡ written page buffer
answered_holds page buffer out n k long some is = is ∙ (ap (λ m. page ++ drop m buffer) (sym long) ∙ go (ltb (length buffer) (length page)) some)
  where
    go : (t : Bool) → Some n ≡ cond t None (Some (length page)) → page ++ drop (length page) buffer ≡ cond t buffer (page ++ drop (length page) buffer)
    go true e = let z : ◌≡◌ {A = ℕ} 0 1 = cc in absurd (omega arith)
    go false e = refl
