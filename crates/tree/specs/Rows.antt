-- The row of entries, first to last.
use Rattle.std.specs.Prelude.{ℕ, ◌+◌, cond, List, [], ◌∷◌, Some, None, Option, ◌==◌}
use Rattle.buckets.specs.declared.Entry.{Entry}
use Rattle.tree.specs.Contracted.{one}

-- How often the slot j stands in the row.
abbrev pub often : {P : Type 0} → ℕ → List (Entry P) → ℕ
often j [] = 0
often j (e ∷ es) = one j e.set + often j es

-- The row without the slot s.
abbrev pub without : {P : Type 0} → ℕ → List (Entry P) → List (Entry P)
without s [] = []
without s (e ∷ es) = cond (s == e.set) (without s es) (e ∷ without s es)

-- Where slot j stands in the row, if it does.
abbrev pub find : {P : Type 0} → ℕ → List (Entry P) → Option P
find j [] = None
find j (e ∷ es) = cond (j == e.set) (Some e.place) (find j es)
