-- By water: a place of any kind, on one of several numbered waters. The kind below may itself be by water.
use Rattle.std.specs.Prelude.{◌+◌, min}
use Rattle.std.specs.Ordering.{ordering_then, nat_cmp}
use Rattle.kinds.specs.declared.water.WaterPlace.{WaterPlace}
use Rattle.kinds.specs.declared.water.WaterRegion.{WaterRegion}
use Rattle.kinds.specs.Rules.{Model}
use Rattle.kinds.specs.Span.{one, joined, span_bytes}

-- Every water number is admitted, and orders first. A region is the lowest and highest water number and the region
-- below, joined part by part; its width is 4 more than below and stops at 255.
abbrev pub by_water : {P R : Type 0} → Model P R → Model (WaterPlace P) (WaterRegion R)
by_water m =
    record {
      admitted = λ p. m.admitted p.below;
      order = λ p q. ordering_then (nat_cmp p.water q.water) (m.order p.below q.below);
      single = λ p. record { water = one p.water; below = m.single p.below };
      joined = λ a b.
          record {
            water = joined nat_cmp a.water b.water;
            below = m.joined a.below b.below;
          };
      width = min 255 (4 + m.width);
      bytes = λ a. span_bytes a.water (m.bytes a.below);
    }
