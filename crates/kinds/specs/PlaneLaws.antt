-- The plane meets the rules.
use Rattle.std.specs.Prelude.{◌≡◌, ℕ, refl}
use Rattle.std.specs.Ordering.{nat_cmp}
use Rattle.std.proofs.Common.{sym, ap, ◌∙◌, rules}
use Rattle.std.proofs.lemmas.Cmp.{nat_cmp_total}
use Rattle.kinds.specs.declared.plane.PlaneRegion.{PlaneRegion}
use Rattle.kinds.specs.declared.plane_place.PlanePlace.{PlanePlace}
use Rattle.kinds.specs.Keyed.{carried}
use Rattle.kinds.specs.Rules.{Laws}
use Rattle.kinds.specs.Plane.{cell_of_place, rectangle, hull, plane_bytes, plane}
use Rattle.kinds.specs.SpanLaws.{joined_associates, joined_commutes, joined_itself, one_alone, same_number}
use Rattle.kinds.specs.Carried.{same_cell, same_place, one_place}

hull_associates : (a b c : PlaneRegion) → hull (hull a b) c ≡ hull a (hull b c)
hull_associates a b c =
    let p = joined_associates nat_cmp nat_cmp_total same_number a.x b.x c.x in
    let q = joined_associates nat_cmp nat_cmp_total same_number a.y b.y c.y in
    λ i. rectangle (p i) (q i)

hull_commutes : (a b : PlaneRegion) → hull a b ≡ hull b a
hull_commutes a b =
    let p = joined_commutes nat_cmp nat_cmp_total same_number a.x b.x in
    let q = joined_commutes nat_cmp nat_cmp_total same_number a.y b.y in
    λ i. rectangle (p i) (q i)

hull_itself : (a : PlaneRegion) → hull a a ≡ a
hull_itself a =
    let p = joined_itself nat_cmp nat_cmp_total same_number a.x in
    let q = joined_itself nat_cmp nat_cmp_total same_number a.y in
    λ i. rectangle (p i) (q i)

bytes_injective : (a b : PlaneRegion) → plane_bytes a ≡ plane_bytes b → a ≡ b
bytes_injective a b h = search rules

abbrev number : PlanePlace → ℕ
number p = carried (cell_of_place p)

pub plane_laws : Laws plane
plane_laws =
    record {
      order_antisymmetric = λ a b p q. nat_cmp_total.antisymm (number a) (number b);
      order_transitive = λ a b c p q r. nat_cmp_total.trans (number a) (number b) (number c);
      order_equal_same = λ a b p q e. one_place a b p q (a.keyed ∙ same_number (number a) (number b) e ∙ sym b.keyed);
      covers_one = λ a b p q h.
          let x = one_alone nat_cmp nat_cmp_total same_number a.cell.x b.cell.x (ap (λ (r : PlaneRegion). r.x) h) in
          let y = one_alone nat_cmp nat_cmp_total same_number a.cell.y b.cell.y (ap (λ (r : PlaneRegion). r.y) h) in
          same_place b a (same_cell b.cell a.cell x y);
      join_associative = hull_associates;
      join_commutative = hull_commutes;
      join_idempotent = hull_itself;
      bytes_length = λ a h. refl;
      bytes_injective = λ a b h. bytes_injective a b;
    }
