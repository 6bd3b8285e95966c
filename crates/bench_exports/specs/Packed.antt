-- Answers as single numbers, since only numbers and byte slices pass to C.
use Rattle.std.specs.Prelude.{ℕ, ◌+◌, ◌*◌, Some, None, Option}
use Rattle.curve.specs.declared.Cell.{Cell}

-- Stands for "no answer"; no key and no packed cell of the grid is as large.
abbrev pub nothing : ℕ
nothing = 4294967295

abbrev pub packed_key : Option ℕ → ℕ
packed_key (Some k) = k
packed_key None = nothing

-- x in the low 16 bits and y above them.
abbrev pub packed_cell : Option Cell → ℕ
packed_cell (Some c) = c.x + 65536 * c.y
packed_cell None = nothing
