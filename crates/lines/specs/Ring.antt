-- Messages in a ring of slots.
use Rattle.std.specs.Prelude.{ℕ, zero, suc, ◌+◌, ◌%◌, List, [], ◌∷◌, length, slice_index_or}

-- The slot after slot i, of n.
abbrev pub next_slot : ℕ → ℕ → ℕ
next_slot n i = (i + 1) % n

-- The k messages from slot i on.
abbrev pub ring : List (List ℕ) → ℕ → ℕ → List (List ℕ)
ring slots i zero = []
ring slots i (suc k) = slice_index_or slots i [] ∷ ring slots (next_slot (length slots) i) k
