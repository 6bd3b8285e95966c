-- The join of one-place regions is the least region that covers the places.
use Rattle.std.proofs.Common.{List, [], ◌∷◌, sym, ap, ◌∙◌}
use Rattle.kinds.specs.Rules.{Model, Laws, Within, Covers}
use Rattle.buckets.specs.Rows.{In, here, later}
use Rattle.buckets.specs.declared.Entry.{Entry}
use Rattle.buckets.specs.Regions.{joined_with, region_of, CoversAll, RegionLaws}

module _ {P R : Type 0} (m : Model P R) (laws : Laws m) where
  within_left : (a b : R) → Within m a (m.joined a b)
  within_left a b = sym (laws.join_associative a a b) ∙ ap (λ x. m.joined x b) (laws.join_idempotent a)

  within_right : (a b : R) → Within m b (m.joined a b)
  within_right a b = ap (m.joined b) (laws.join_commutative a b) ∙ within_left b a ∙ laws.join_commutative b a

  within_chains : (a b c : R) → Within m a b → Within m b c → Within m a c
  within_chains a b c p q =
      ap (m.joined a) (sym q) ∙ sym (laws.join_associative a b c) ∙ ap (λ x. m.joined x c) p ∙ q

  join_within : (a b c : R) → Within m a c → Within m b c → Within m (m.joined a b) c
  join_within a b c p q = laws.join_associative a b c ∙ ap (m.joined a) q ∙ p

  start_within : (r : R) (es : List (Entry P)) → Within m r (joined_with m r es)
  start_within r [] = laws.join_idempotent r
  start_within r (e ∷ es) =
      within_chains r (m.joined r (m.single e.place)) _ (within_left r (m.single e.place))
      (start_within (m.joined r (m.single e.place)) es)

  member_within : (e : Entry P) (r : R) {es : List (Entry P)} → In e es → Covers m (joined_with m r es) e.place
  member_within e r (here {xs}) =
      within_chains (m.single e.place) (m.joined r (m.single e.place)) _ (within_right r (m.single e.place))
      (start_within (m.joined r (m.single e.place)) xs)
  member_within e r (later {y} {xs} i) = member_within e (m.joined r (m.single y.place)) i

  all_within : (r o : R) (es : List (Entry P)) → Within m r o → CoversAll m o es → Within m (joined_with m r es) o
  all_within r o [] w c = w
  all_within r o (e ∷ es) w c =
      all_within (m.joined r (m.single e.place)) o es (join_within r (m.single e.place) o w (c e here))
      (λ f i. c f (later i))

  covers : (e : Entry P) (es : List (Entry P)) (f : Entry P) → In f (e ∷ es) → Covers m (region_of m e es) f.place
  covers e es f here = start_within (m.single f.place) es
  covers e es f (later i) = member_within f (m.single e.place) i

  pub region_laws : RegionLaws m
  region_laws =
      record {
        covers = covers;
        least = λ e es r c. all_within (m.single e.place) r es (c e here) (λ f i. c f (later i));
      }
