-- How bytes are read: numbers are little-endian, and a record begins with its length in two bytes.
use Rattle.std.specs.Prelude.{ℕ, ◌+◌, ◌*◌, Bool, ◌&&◌, List, length, nat_le, slice_index}

-- The number in two bytes, the low one first.
abbrev pub word : ℕ → ℕ → ℕ
word low high = low + 256 * high

-- The number in the two bytes at i and i + 1.
abbrev pub word_at : List ℕ → ℕ → ℕ
word_at bytes i = word (slice_index bytes i) (slice_index bytes (i + 1))

-- A record's length, which counts all bytes of the record, and its kind.
abbrev pub record_length : List ℕ → ℕ
record_length bytes = word_at bytes 0

abbrev pub record_kind : List ℕ → ℕ
record_kind bytes = word_at bytes 2

-- The bytes left begin with a whole record: there are two for its length, which is at least 4 and at most what is left.
abbrev pub whole : List ℕ → Bool
whole bytes = nat_le 2 (length bytes) && (nat_le 4 (record_length bytes) && nat_le (record_length bytes) (length bytes))
