-- Spans: all values from a lowest to a highest, in an order.
use Rattle.std.specs.Prelude.{ℕ, Bool, ◌&&◌, List}
use Rattle.std.specs.declared.cmp.Ordering.{Ordering}
use Rattle.std.specs.Ordering.{is_le, ord_min, ord_max}
use Rattle.kinds.specs.declared.span.Span.{Span}
use Rattle.kinds.specs.Bytes.{le16}

module _ {T : Type 0} where
  abbrev pub span : T → T → Span T
  span a b = record { low = a; high = b }

  abbrev pub one : T → Span T
  one a = span a a

module _ {T : Type 0} (cmp : T → T → Ordering) where
  -- The lower of the lowest values and the higher of the highest.
  abbrev pub joined : Span T → Span T → Span T
  joined a b = span (ord_min cmp a.low b.low) (ord_max cmp a.high b.high)

  -- Whether a lies within b.
  abbrev pub inside : Span T → Span T → Bool
  inside a b = is_le (cmp b.low a.low) && is_le (cmp a.high b.high)

-- A span of numbers in four bytes, the lowest number first, before other bytes.
abbrev pub span_bytes : Span ℕ → List ℕ → List ℕ
span_bytes a rest = le16 a.low (le16 a.high rest)
