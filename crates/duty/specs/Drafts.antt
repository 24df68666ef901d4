-- What a draft holds. Assumes nothing.
use Rattle.std.specs.Prelude.{◌≡◌, ℕ, min, List, ◌++◌, length, take, vec_items}
use Rattle.duty.specs.declared.entries.Entry.{Entry}
use Rattle.duty.specs.declared.drafts.Draft.{Draft}

-- the entries es have been written
abbrev pub Drafted : Draft → List Entry → Type 0
Drafted d es = vec_items d.entries ≡ take 257 es

-- what has been written since
abbrev pub Adds : Draft → Draft → List Entry → Type 0
Adds d d' new = (es : List Entry) → Drafted d es → Drafted d' (es ++ new)

-- back to the first n entries, where 257 stand for all
abbrev pub Cuts : ℕ → Draft → Draft → Type 0
Cuts n d d' = (es more : List Entry) → Drafted d (es ++ more) → n ≡ min (length es) 257 → Drafted d' es
