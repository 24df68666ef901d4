-- Where a group ends.
use Rattle.std.proofs.Common.{◌≡◌, ℕ, ◌+◌, ◌≤◌, nat_lt, if◌then◌else◌, List, [], ◌∷◌, ◌++◌, length, take, drop, sym, refl, ap, ◌∙◌, arith, take_at, drop_at}
use Rattle.std.proofs.lemmas.Bool.{lt-ltb, le-ltb}
use Rattle.std.specs.List.{prefix_len}
use Rattle.duty.specs.Facts.{Deeper, Group}
use Rattle.duty.specs.Groups.{group_size}
use Rattle.duty.specs.Open.{together}
use Rattle.duty.specs.declared.entries.Entry.{Entry}

-- nothing, or first an entry that is no deeper than level lev
abbrev pub Shallow : ℕ → List Entry → Type 0
Shallow lev [] = Unit {0}
Shallow lev (e ∷ es) = e.level ≤ lev

deep_prefix : (lev : ℕ) (es rest : List Entry) → Deeper lev es → Shallow lev rest → prefix_len (λ x. nat_lt lev x.level) (es ++ rest) ≡ length es
deep_prefix lev [] [] d s = refl
deep_prefix lev [] (r ∷ rs) d s = ap (λ deeper. if deeper then 1 + prefix_len (λ x. nat_lt lev x.level) rs else 0) (le-ltb lev r.level s)
deep_prefix lev (e ∷ es) rest d s = ap (λ deeper. if deeper then 1 + prefix_len (λ x. nat_lt lev x.level) (es ++ rest) else 0) (lt-ltb lev e.level d.0) ∙ omega (arith, deep_prefix lev es rest d.1 s)

group_length : (lev : ℕ) (g rest : List Entry) → Group lev g → Shallow lev rest → group_size (g ++ rest) ≡ length g
group_length lev [] rest g s = absurd g
group_length lev (e ∷ es) rest g s = omega (arith, ap (λ k. prefix_len (λ x. nat_lt k x.level) (es ++ rest)) g.0 ∙ deep_prefix lev es rest g.1 s)

-- the group at the front, and the rest
pub record Splits (xs g rest : List Entry) : Type 0 where
  pub front : take (group_size xs) xs ≡ g
  pub back : drop (group_size xs) xs ≡ rest

pub group_splits : (lev : ℕ) (xs g rest : List Entry) → xs ≡ g ++ rest → Group lev g → Shallow lev rest → Splits xs g rest
group_splits lev xs g rest e h s =
    let l : group_size xs ≡ length g = ap group_size e ∙ group_length lev g rest h s in
    record { front = ap (take (group_size xs)) e ∙ take_at g rest (group_size xs) (sym l); back = ap (drop (group_size xs)) e ∙ drop_at g rest (group_size xs) (sym l) }

pub shallow_group : (lev : ℕ) (g rest : List Entry) → Group lev g → Shallow lev (g ++ rest)
shallow_group lev [] rest h = absurd h
shallow_group lev (e ∷ es) rest h = omega (arith, h.0)

pub shallow_together : {A : Type 0} (lev : ℕ) (h : A → List Entry) → ((d : A) → Group lev (h d)) → (ds : List A) → Shallow lev (together h ds)
shallow_together lev h g [] = tt
shallow_together lev h g (d ∷ ds) = shallow_group lev (h d) (together h ds) (g d)
