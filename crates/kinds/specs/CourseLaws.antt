-- The course meets the rules.
use Rattle.std.specs.Prelude.{◌≡◌, refl}
use Rattle.std.specs.declared.cmp.Ordering.TheVariants.{Equal}
use Rattle.std.specs.Cmp.{IsTotalOrder}
use Rattle.std.proofs.Common.{rules}
use Rattle.std.proofs.lemmas.Cmp.{then_total, on_total, nat_cmp_total}
use Rattle.kinds.specs.declared.course.CoursePlace.{CoursePlace}
use Rattle.kinds.specs.declared.span.Span.{Span}
use Rattle.kinds.specs.Rules.{Laws}
use Rattle.kinds.specs.Course.{by_reach, course_bytes, course}
use Rattle.kinds.specs.SpanLaws.{joined_associates, joined_commutes, joined_itself, one_alone}

pub by_reach_total : IsTotalOrder by_reach
by_reach_total = then_total (on_total (λ (p : CoursePlace). p.reach) nat_cmp_total) (on_total (λ (p : CoursePlace). p.offset) nat_cmp_total)

pub same_course_place : (a b : CoursePlace) → by_reach a b ≡ Equal → a ≡ b
same_course_place a b e = search rules

bytes_injective : (a b : Span CoursePlace) → course_bytes a ≡ course_bytes b → a ≡ b
bytes_injective a b h = search rules

pub course_laws : Laws course
course_laws =
    record {
      order_antisymmetric = λ a b p q. by_reach_total.antisymm a b;
      order_transitive = λ a b c p q r. by_reach_total.trans a b c;
      order_equal_same = λ a b p q. same_course_place a b;
      covers_one = λ a b p q. one_alone by_reach by_reach_total same_course_place a b;
      join_associative = joined_associates by_reach by_reach_total same_course_place;
      join_commutative = joined_commutes by_reach by_reach_total same_course_place;
      join_idempotent = joined_itself by_reach by_reach_total same_course_place;
      bytes_length = λ a h. refl;
      bytes_injective = λ a b h. bytes_injective a b;
    }
