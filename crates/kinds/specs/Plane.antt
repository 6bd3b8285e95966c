-- The plane: a place is a cell of the grid, and places are ordered by the key of their cell.
use Rattle.std.specs.Prelude.{ℕ, List, []}
use Rattle.std.specs.declared.cmp.Ordering.{Ordering}
use Rattle.curve.specs.declared.Cell.{Cell}
use Rattle.curve.specs.Grid.{on_grid}
use Rattle.kinds.specs.declared.plane_place.PlanePlace.{PlanePlace}
use Rattle.kinds.specs.declared.plane.PlaneRegion.{PlaneRegion}
use Rattle.kinds.specs.declared.span.Span.{Span}
use Rattle.kinds.specs.Span.{one, joined, span_bytes}
use Rattle.kinds.specs.Keyed.{carried}
use Rattle.kinds.specs.Rules.{Model}
use Rattle.std.specs.Ordering.{nat_cmp}

abbrev pub cell_of_place : PlanePlace → Cell
cell_of_place p = p.cell

-- By the keys of their cells; a cell outside the grid stands behind all others.
abbrev pub by_key : PlanePlace → PlanePlace → Ordering
by_key a b = nat_cmp (carried (cell_of_place a)) (carried (cell_of_place b))

abbrev pub rectangle : Span ℕ → Span ℕ → PlaneRegion
rectangle a b = record { x = a; y = b }

-- The smaller lows and the larger highs.
abbrev pub hull : PlaneRegion → PlaneRegion → PlaneRegion
hull a b = rectangle (joined nat_cmp a.x b.x) (joined nat_cmp a.y b.y)

-- The lowest and highest x, and the lowest and highest y.
abbrev pub plane_bytes : PlaneRegion → List ℕ
plane_bytes a = span_bytes a.x (span_bytes a.y [])

abbrev pub plane : Model PlanePlace PlaneRegion
plane =
    record {
      admitted = λ p. on_grid (cell_of_place p);
      order = by_key;
      single = λ p. rectangle (one p.cell.x) (one p.cell.y);
      joined = hull;
      width = 8;
      bytes = plane_bytes;
    }
