-- That the definitions are a curve through the square: each cell has one key, each key one cell, and each step of the
-- curve leads to a cell beside the last.
use Rattle.std.specs.Prelude.{◌≡◌, ℕ, ◌+◌, ◌^◌, ◌<◌, ◌⊎◌}
use Rattle.curve.specs.declared.Cell.{Cell}
use Rattle.curve.specs.Hilbert.{cell, cells, key_of, cell_of}

-- The cell c lies in the square of side n.
pub record InSquare (n : ℕ) (c : Cell) : Type 0 where
  pub x_below : c.x < n
  pub y_below : c.y < n

-- Two numbers that differ by one.
abbrev pub Adjacent : ℕ → ℕ → Type 0
Adjacent a b = (a + 1 ≡ b) ⊎ (b + 1 ≡ a)

-- Two cells that share a side.
abbrev pub Beside : Cell → Cell → Type 0
Beside a b = ((a.x ≡ b.x) × Adjacent a.y b.y) ⊎ ((a.y ≡ b.y) × Adjacent a.x b.x)

-- The laws of the curve of order m.
pub record CurveLaws (m : ℕ) : Type 0 where
  pub key_below : (c : Cell) → InSquare (2 ^ m) c → key_of m c < cells m
  pub cell_inside : (k : ℕ) → k < cells m → InSquare (2 ^ m) (cell_of m k)
  pub cell_of_key : (c : Cell) → InSquare (2 ^ m) c → cell_of m (key_of m c) ≡ c
  pub key_of_cell : (k : ℕ) → k < cells m → key_of m (cell_of m k) ≡ k
  pub one_key : (a b : Cell) → InSquare (2 ^ m) a → InSquare (2 ^ m) b → key_of m a ≡ key_of m b → a ≡ b
  pub steps_beside : (k : ℕ) → k + 1 < cells m → Beside (cell_of m k) (cell_of m (k + 1))

-- Ten known keys of order 12.
abbrev pub KnownKeys : Type 0
KnownKeys =
    (key_of 12 (cell 0 0) ≡ 0)
    × (key_of 12 (cell 1 0) ≡ 1)
    × (key_of 12 (cell 1 1) ≡ 2)
    × (key_of 12 (cell 0 1) ≡ 3)
    × (key_of 12 (cell 0 3) ≡ 5)
    × (key_of 12 (cell 3 3) ≡ 10)
    × (key_of 12 (cell 3 0) ≡ 15)
    × (key_of 12 (cell 0 4095) ≡ 5592405)
    × (key_of 12 (cell 4095 4095) ≡ 11184810)
    × (key_of 12 (cell 4095 0) ≡ 16777215)
