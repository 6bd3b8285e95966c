-- The course: a place is a reach, a numbered stretch of water, and an offset along it in decimetres.
use Rattle.std.specs.Prelude.{ℕ, Bool, ◌&&◌, List, [], nat_le}
use Rattle.std.specs.declared.cmp.Ordering.{Ordering}
use Rattle.std.specs.Ordering.{ordering_then, nat_cmp}
use Rattle.kinds.specs.declared.course.CoursePlace.{CoursePlace}
use Rattle.kinds.specs.declared.span.Span.{Span}
use Rattle.kinds.specs.Bytes.{le16}
use Rattle.kinds.specs.Rules.{Model}
use Rattle.kinds.specs.Span.{one, joined}

-- Reaches are 1 to 999, and offsets 0 to 50,000.
abbrev pub on_course : CoursePlace → Bool
on_course p = (nat_le 1 p.reach && nat_le p.reach 999) && nat_le p.offset 50000

-- By reach, then by offset.
abbrev pub by_reach : CoursePlace → CoursePlace → Ordering
by_reach a b = ordering_then (nat_cmp a.reach b.reach) (nat_cmp a.offset b.offset)

abbrev pub course_bytes : Span CoursePlace → List ℕ
course_bytes a = le16 a.low.reach (le16 a.low.offset (le16 a.high.reach (le16 a.high.offset [])))

abbrev pub course : Model CoursePlace (Span CoursePlace)
course =
    record {
      admitted = on_course;
      order = by_reach;
      single = one;
      joined = joined by_reach;
      width = 8;
      bytes = course_bytes;
    }
