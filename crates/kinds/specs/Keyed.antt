-- The key that a place on the plane carries beside its cell.
use Rattle.std.specs.Prelude.{ℕ, Bool, true, cond, ◌&&◌, ◌==◌}
use Rattle.curve.specs.declared.Cell.{Cell}
use Rattle.curve.specs.Hilbert.{key_of, cell_of}
use Rattle.curve.specs.Grid.{on_grid}

-- The number that a place at the cell c carries: the cell's key, or 4 ^ 12 where the cell lies outside the grid.
abbrev pub carried : Cell → ℕ
carried c = cond (on_grid c) (key_of 12 c) 16777216

-- Whether that number leads back to the cell, where this lies on the grid.
abbrev pub leads_back : ℕ → Cell → Bool
leads_back key c = cond (on_grid c) ((cell_of 12 key).x == c.x && (cell_of 12 key).y == c.y) true
