-- A take at one feed of several.
use Rattle.std.proofs.Common.{◌≡◌, ℕ, ◌-◌, false, eqb, List, [], ◌∷◌, sym, refl, ap, subst, ne_eqb}
use Rattle.feed.specs.declared.faults.Item.{Item}
use Rattle.feed.specs.declared.lines.Line.{Line}
use Rattle.book.specs.Rules.{Rule}
use Rattle.auditor.specs.Account.{takes}
use Rattle.auditor.specs.Holds.{Took}
use Rattle.auditor.specs.declared.answers.Taken.{Taken}
use Rattle.auditor.specs.declared.auditors.Auditor.{Auditor}
use Rattle.runs.specs.Lists.{waiting_at, TookAt}

module _ (rs : List Rule) (c : ℕ) (log : List Line) (i : ℕ) (r : Taken) (a : Auditor) where
  pub at_first_lem : (w w' : List Item) (ws : List (List Item)) → i ≡ 0 → Took rs log (takes rs c log w) r a w' → TookAt rs log (takes rs c log (waiting_at (w ∷ ws) i)) i r a (w ∷ ws) (w' ∷ ws)
  at_first_lem w w' ws e t =
      subst (λ n. TookAt rs log (takes rs c log (waiting_at (w ∷ ws) n)) n r a (w ∷ ws) (w' ∷ ws)) (sym e)
      (record { lines = t.lines; stop = t.stop; holds = t.holds; left = ap (λ v. v ∷ ws) t.left })

  pub at_rest : (w : List Item) (ws ws' : List (List Item)) → (i ≡ 0 → ⊥) → TookAt rs log (takes rs c log (waiting_at ws (i - 1))) (i - 1) r a ws ws' → TookAt rs log (takes rs c log (waiting_at (w ∷ ws) i)) i r a (w ∷ ws) (w ∷ ws')
  at_rest w ws ws' n t =
      let z : eqb i 0 ≡ false = ne_eqb i 0 n in
      rw z (record { lines = t.lines; stop = t.stop; holds = t.holds; left = rw z (ap (λ v. w ∷ v) t.left) })

  pub at_none : (w' : List Item) → Took rs log (takes rs c log []) r a w' → TookAt rs log (takes rs c log []) i r a [] []
  at_none w' t = record { lines = t.lines; stop = t.stop; holds = t.holds; left = refl }
