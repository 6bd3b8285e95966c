-- The grid on which places lie: the square of order 12, with numbers to 4,095 and keys to 16,777,215.
use Rattle.std.specs.Prelude.{◌≡◌, ℕ, ◌+◌, ◌<◌, Bool, cond, ◌&&◌, Some, None, Option, nat_lt}
use Rattle.std.specs.declared.cmp.Ordering.{Ordering}
use Rattle.curve.specs.declared.Cell.{Cell}
use Rattle.curve.specs.Hilbert.{key_of, cell_of}
use Rattle.curve.specs.Laws.{Beside}
use Rattle.std.specs.Ordering.{nat_cmp}

-- Whether a cell lies on the grid.
abbrev pub on_grid : Cell → Bool
on_grid c = nat_lt c.x 4096 && nat_lt c.y 4096

-- The key of a cell, where it lies on the grid.
abbrev pub grid_key : Cell → Option ℕ
grid_key c = cond (on_grid c) (Some (key_of 12 c)) None

-- The cell of a key, where there is one.
abbrev pub grid_cell : ℕ → Option Cell
grid_cell k = cond (nat_lt k 16777216) (Some (cell_of 12 k)) None

-- How two cells compare: by their keys, where both have one.
abbrev pub ranked : Option ℕ → Option ℕ → Option Ordering
ranked (Some j) (Some k) = Some (nat_cmp j k)
ranked (Some j) None = None
ranked None (Some k) = None
ranked None None = None

abbrev pub by_key : Cell → Cell → Option Ordering
by_key a b = ranked (grid_key a) (grid_key b)

-- A key that was given is below 4 ^ 12, and its cell is the one that it was given for.
abbrev pub LeadsBack : Cell → Option ℕ → Type 0
LeadsBack c None = Unit {0}
LeadsBack c (Some k) = (k < 16777216) × (cell_of 12 k ≡ c)

-- The cell c has the key k, and the cell of the next key lies beside it.
pub record AtKey (k : ℕ) (c : Cell) : Type 0 where
  pub has_key : grid_key c ≡ Some k
  pub next_beside : k + 1 < 16777216 → Beside c (cell_of 12 (k + 1))

-- A cell that was given has the key that it was given for.
abbrev pub OnCurve : ℕ → Option Cell → Type 0
OnCurve k None = Unit {0}
OnCurve k (Some c) = AtKey k c
