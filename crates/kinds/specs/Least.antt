-- What takes the least of two values.
use Rattle.std.specs.Prelude.{◌≡◌}

-- What gives the greatest lower bound of two, in any order, is commutative and associative.
module _ {K : Type 0} (Upto : K → K → Type 0) (least : K → K → K)
    (trans : (a b c : K) → Upto a b → Upto b c → Upto a c) (same : (a b : K) → Upto a b → Upto b a → a ≡ b)
    (first : (a b : K) → Upto (least a b) a) (second : (a b : K) → Upto (least a b) b)
    (best : (x a b : K) → Upto x a → Upto x b → Upto x (least a b)) where
  pub least_commutes : (a b : K) → least a b ≡ least b a
  least_commutes a b = same _ _ (best _ _ _ (second a b) (first a b)) (best _ _ _ (second b a) (first b a))

  pub least_associates : (a b c : K) → least (least a b) c ≡ least a (least b c)
  least_associates a b c =
      same _ _
      (best _ _ _ (trans _ _ _ (first (least a b) c) (first a b))
      (best _ _ _ (trans _ _ _ (first (least a b) c) (second a b)) (second (least a b) c)))
      (best _ _ _ (best _ _ _ (first a (least b c)) (trans _ _ _ (second a (least b c)) (first b c)))
      (trans _ _ _ (second a (least b c)) (second b c)))
