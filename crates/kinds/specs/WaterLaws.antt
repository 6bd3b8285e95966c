-- By water meets the rules where the kind below does.
use Rattle.std.specs.Ordering.{nat_cmp}
use Rattle.std.proofs.Common.{ap, rules}
use Rattle.std.proofs.lemmas.Cmp.{nat_cmp_total}
use Rattle.kinds.specs.declared.water.WaterRegion.{WaterRegion}
use Rattle.kinds.specs.Rules.{Model, Laws}
use Rattle.kinds.specs.Water.{by_water}
use Rattle.kinds.specs.SpanLaws.{joined_associates, joined_commutes, joined_itself, one_alone, same_number}

pub water_laws : {P R : Type 0} {m : Model P R} → Laws m → Laws (by_water m)
water_laws {P} {R} {m} l =
    record {
      order_antisymmetric = λ a b p q. search (rules, l.order_antisymmetric);
      order_transitive = λ a b c p q r x y. search (rules, l.order_transitive);
      order_equal_same = λ a b p q e. search (rules, l.order_equal_same);
      covers_one = λ a b p q h.
          let w = one_alone nat_cmp nat_cmp_total same_number a.water b.water (ap (λ (r : WaterRegion R). r.water) h) in
          let v = l.covers_one a.below b.below p q (ap (λ (r : WaterRegion R). r.below) h) in
          λ i. record { water = w i; below = v i };
      join_associative = λ a b c.
          let w = joined_associates nat_cmp nat_cmp_total same_number a.water b.water c.water in
          let v = l.join_associative a.below b.below c.below in
          λ i. record { water = w i; below = v i };
      join_commutative = λ a b.
          let w = joined_commutes nat_cmp nat_cmp_total same_number a.water b.water in
          let v = l.join_commutative a.below b.below in
          λ i. record { water = w i; below = v i };
      join_idempotent = λ a.
          let w = joined_itself nat_cmp nat_cmp_total same_number a.water in
          let v = l.join_idempotent a.below in
          λ i. record { water = w i; below = v i };
      bytes_length = λ a h. search (rules, l.bytes_length);
      bytes_injective = λ a b h e. search (rules, l.bytes_injective);
    }
