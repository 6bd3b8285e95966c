-- Hilbert's curve of 1891, by recursion on its order: the key of each cell, and the cell of each key.
-- The curve of order m passes through the cells of a square of side 2 ^ m, and a cell's key is its position on the curve.
use Rattle.std.specs.Prelude.{ℕ, zero, suc, ◌+◌, ◌-◌, ◌*◌, ◌/◌, ◌%◌, ◌^◌, cond, nat_lt}
use Rattle.curve.specs.declared.Cell.{Cell}

abbrev pub cell : ℕ → ℕ → Cell
cell x y = record { x = x; y = y }

-- How many cells the square of order m has.
abbrev pub cells : ℕ → ℕ
cells m = 2 ^ m * 2 ^ m

-- The quarter of a square of side 2s in which a cell lies: 0 where x < s and y < s, 1 where x < s ≤ y,
-- 2 where both are at least s, 3 where y < s ≤ x.
abbrev pub digit : ℕ → Cell → ℕ
digit s c = cond (nat_lt c.x s) (cond (nat_lt c.y s) 0 1) (cond (nat_lt c.y s) 3 2)

-- One of four values, by the digit.
abbrev pub by_digit : {A : Type 0} → ℕ → A → A → A → A → A
by_digit zero a b c d = a
by_digit (suc zero) a b c d = b
by_digit (suc (suc zero)) a b c d = c
by_digit (suc (suc (suc n))) a b c d = d

-- A cell's position within its quarter, reflected so that each quarter's curve begins beside the end of the one before:
-- with u = x mod s and v = y mod s it is (v, u) for digit 0, (u, v) for 1 and 2, and (s − 1 − v, s − 1 − u) for 3.
abbrev pub reflected : ℕ → ℕ → ℕ → ℕ → Cell
reflected s d u v = by_digit d (cell v u) (cell u v) (cell u v) (cell (s - 1 - v) (s - 1 - u))

abbrev pub inner : ℕ → Cell → Cell
inner s c = reflected s (digit s c) (c.x % s) (c.y % s)

-- The key of order 0 is 0. That of order m + 1, with s = 2 ^ m, is digit · s² plus the inner cell's key of order m.
abbrev pub key_of : ℕ → Cell → ℕ
key_of zero c = 0
key_of (suc m) c = digit (2 ^ m) c * cells m + key_of m (inner (2 ^ m) c)

-- The cell in a square of side 2s that has the digit d and the inner cell c.
abbrev pub outer : ℕ → ℕ → Cell → Cell
outer s d c =
    by_digit d
    (cell c.y c.x)
    (cell c.x (s + c.y))
    (cell (s + c.x) (s + c.y))
    (cell (s + (s - 1 - c.y)) (s - 1 - c.x))

-- The cell of a key. Of order 0 it is (0, 0). Of order m + 1 the quotient of the key by s² is the digit, and the
-- remainder is the inner cell's key.
abbrev pub cell_of : ℕ → ℕ → Cell
cell_of zero k = cell 0 0
cell_of (suc m) k = outer (2 ^ m) (k / cells m) (cell_of m (k % cells m))
