-- Numbers in bytes.
use Rattle.std.specs.Prelude.{ℕ, ◌/◌, ◌%◌, List, ◌∷◌}

-- A 16-bit number in two bytes, the low one first, before other bytes.
abbrev pub le16 : ℕ → List ℕ → List ℕ
le16 n rest = (n % 256) ∷ ((n / 256) ∷ rest)
