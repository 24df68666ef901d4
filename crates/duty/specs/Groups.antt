-- The group at the front of a list of entries. Assumes nothing.
use Rattle.std.specs.Prelude.{ℕ, ◌+◌, false, List, [], ◌∷◌, nat_lt, slice_index_or}
use Rattle.std.specs.List.{prefix_len}
use Rattle.duty.specs.declared.entries.Entry.{Entry}

abbrev pub blank : Entry
blank = record { node = 0; level = 0; mark = false; letters = [] }

-- its head
abbrev pub head : List Entry → Entry
head es = slice_index_or es 0 blank

-- how many entries it has: its head, and the deeper ones that follow
abbrev pub group_size : List Entry → ℕ
group_size [] = 0
group_size (e ∷ es) = 1 + prefix_len (λ x. nat_lt e.level x.level) es
