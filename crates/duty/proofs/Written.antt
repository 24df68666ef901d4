-- What a draft holds after a write, and after it is cut back.
use Rattle.std.proofs.Common.{◌≡◌, ℕ, ◌<◌, ◌≤◌, min, ◌⊎◌, List, [], ◌∷◌, ◌++◌, length, take, sym, ap, ◌∙◌, subst, inl, inr, append_assoc, append-nil, arith, length-append, length-take, take_all, take-take, take_at, vec_len}
use lib.Seq.{take-append-le}
use Rattle.std.proofs.lemmas.Bool.{cases_lt}
use Rattle.duty.specs.Drafts.{Drafted, Adds}
use Rattle.duty.specs.declared.entries.Entry.{Entry}
use Rattle.duty.specs.declared.drafts.Draft.{Draft}

pub stored : (es items items' : List Entry) (e : Entry) → items ≡ take 257 es → length items ≤ 256 → items' ≡ items ++ (e ∷ []) → items' ≡ take 257 (es ++ (e ∷ []))
stored es items items' e h le p =
    let short : length es ≤ 256 = omega (arith, ap length h, length-take 257 es) in
    let longer : length (es ++ (e ∷ [])) ≤ 257 = omega (arith, length-append es (e ∷ [])) in
    p ∙ (ap (λ x. x ++ (e ∷ [])) (h ∙ take_all 257 es (omega arith)) ∙ sym (take_all 257 (es ++ (e ∷ [])) longer))

pub full : (es items : List Entry) (e : Entry) → items ≡ take 257 es → 256 < length items → items ≡ take 257 (es ++ (e ∷ []))
full es items e h lt =
    let long : 257 ≤ length es = omega (arith, ap length h, length-take 257 es) in
    h ∙ sym (take-append-le 257 es (e ∷ []) long)

pub counted : (d : Draft) (es : List Entry) → Drafted d es → vec_len d.entries ≡ min (length es) 257
counted d es h = omega (arith, ap length h, length-take 257 es, d.entries.ok.0)

pub cut : (es more items items' : List Entry) (n : ℕ) → items ≡ take 257 (es ++ more) → n ≡ min (length es) 257 → items' ≡ take n items → items' ≡ take 257 es
cut es more items items' n h k p = p ∙ (ap (take n) h ∙ (take-take n 257 (es ++ more) (omega arith) ∙ go (cases_lt 257 (length es))))
  where
    go : (257 < length es) ⊎ (length es ≤ 257) → take n (es ++ more) ≡ take 257 es
    go (inl lt) = let e : n ≡ 257 = omega arith in ap (λ m. take m (es ++ more)) e ∙ take-append-le 257 es more (omega arith)
    go (inr le) = let e : n ≡ length es = omega arith in take_at es more n (sym e) ∙ sym (take_all 257 es le)

-- one write after another
pub adds_none : (d : Draft) → Adds d d []
adds_none d es h = subst (Drafted d) (sym (append-nil es)) h

pub adds_then : (d d' d'' : Draft) (a b : List Entry) → Adds d d' a → Adds d' d'' b → Adds d d'' (a ++ b)
adds_then d d' d'' a b x y es h = subst (Drafted d'') (append_assoc es a b) (y (es ++ a) (x es h))

pub adds_as : (d d' : Draft) (a b : List Entry) → a ≡ b → Adds d d' a → Adds d d' b
adds_as d d' a b e h = subst (Adds d d') e h
