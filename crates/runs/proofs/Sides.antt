-- The turns of one side are the calls of its account.
use Rattle.std.proofs.Common.{◌≡◌, ℕ, ◌≤◌, Bool, true, false, cond, List, [], ◌∷◌, ◌++◌, map, length, take, drop, vec_items, sym, refl, ap, ◌∙◌, arith, take-append-drop, take_all}
use lib.Seq.{take-append-le}
use Rattle.runs.specs.Calls.{Said, next, reply, finally, replies}
use Rattle.runs.specs.Making.{told_turns}
use Rattle.runs.specs.Turns.{same_side, turns_of, asked, said, Called, called, Both, side, on_side, after_turn, after_turns}
use Rattle.runs.specs.declared.calls.Side.{Side}
use Rattle.runs.specs.declared.calls.Side.TheVariants.{First, Second}
use Rattle.runs.specs.declared.calls.Turn.{Turn}

map-cond : {A B : Type 0} (f : A → B) (b : Bool) (xs ys : List A) → map f (cond b xs ys) ≡ cond b (map f xs) (map f ys)
map-cond f true xs ys = refl
map-cond f false xs ys = refl

one_after : (x y : Side) (b : Both) (t : Turn) (rest : List Turn) → finally (side x (on_side y b (next (side y b) t.call))) (map asked rest) ≡ finally (side x b) (map asked (cond (same_side x y) (t ∷ rest) rest))
one_after First First b t rest = refl
one_after First Second b t rest = refl
one_after Second First b t rest = refl
one_after Second Second b t rest = refl

pub side_after : (x : Side) (b : Both) (ts : List Turn) → side x (after_turns b ts) ≡ finally (side x b) (map asked (turns_of x ts))
side_after x b [] = refl
side_after x b (t ∷ ts) = side_after x (after_turn b t) ts ∙ one_after x t.side b t (turns_of x ts)

one_told : (x y : Side) (b : Both) (t : Turn) (rest : List Turn) → cond (same_side x y) (reply (side y b) t.call (vec_items t.buffer) ∷ replies (side x (on_side y b (next (side y b) t.call))) (map asked rest)) (replies (side x (on_side y b (next (side y b) t.call))) (map asked rest)) ≡ replies (side x b) (map asked (cond (same_side x y) (t ∷ rest) rest))
one_told First First b t rest = refl
one_told First Second b t rest = refl
one_told Second First b t rest = refl
one_told Second Second b t rest = refl

pub side-told : (x : Side) (b : Both) (ts ts' : List Turn) → map called ts' ≡ map called ts → map said ts' ≡ told_turns b ts → map said (turns_of x ts') ≡ replies (side x b) (map asked (turns_of x ts))
side-told x b [] [] k e = refl
side-told x b [] (t' ∷ ts') k e = let z : ◌≡◌ {A = ℕ} 0 1 = cc in absurd (omega arith)
side-told x b (t ∷ ts) [] k e = let z : ◌≡◌ {A = ℕ} 0 1 = cc in absurd (omega arith)
side-told x b (t ∷ ts) (t' ∷ ts') k e =
    let here : called t' ≡ called t = cc in
    let same : t'.side ≡ t.side = ap (λ (c : Called). c.side) here in
    let rest : map called ts' ≡ map called ts = cc in
    let told : said t' ≡ reply (side t.side b) t.call (vec_items t.buffer) = cc in
    let more : map said ts' ≡ told_turns (after_turn b t) ts = cc in
    let ih = side-told x (after_turn b t) ts ts' rest more in
    map-cond said (same_side x t'.side) (t' ∷ turns_of x ts') (turns_of x ts')
    ∙ ap (λ y. cond (same_side x y) (said t' ∷ map said (turns_of x ts')) (map said (turns_of x ts'))) same
    ∙ ap (λ (s : Said). cond (same_side x t.side) (s ∷ map said (turns_of x ts')) (map said (turns_of x ts'))) told
    ∙ ap (λ l. cond (same_side x t.side) (reply (side t.side b) t.call (vec_items t.buffer) ∷ l) l) ih
    ∙ one_told x t.side b t (turns_of x ts)

-- the turns of one side among the first k are the first of its turns
turns-append : (x : Side) (b : Bool) (t : Turn) (us vs : List Turn) → cond b (t ∷ (us ++ vs)) (us ++ vs) ≡ cond b (t ∷ us) us ++ vs
turns-append x true t us vs = refl
turns-append x false t us vs = refl

sides-append : (x : Side) (ts us : List Turn) → turns_of x (ts ++ us) ≡ turns_of x ts ++ turns_of x us
sides-append x [] us = refl
sides-append x (t ∷ ts) us =
    ap (λ l. cond (same_side x t.side) (t ∷ l) l) (sides-append x ts us) ∙ turns-append x (same_side x t.side) t (turns_of x ts) (turns_of x us)

pub first-turns : (x : Side) (k : ℕ) (ts : List Turn) → turns_of x (take k ts) ≡ take (length (turns_of x (take k ts))) (turns_of x ts)
first-turns x k ts =
    let us = turns_of x (take k ts) in
    let n = length us in
    let le : n ≤ length us = omega arith in
    sym (ap (λ l. take n (turns_of x l)) (sym (take-append-drop k ts)) ∙ ap (take n) (sides-append x (take k ts) (drop k ts)) ∙ take-append-le n us (turns_of x (drop k ts)) le ∙ take_all n us le)
