-- Spans in a total order whose equal values are the same: joining is associative, commutative and idempotent, and within
-- the span of one value lies that of no other.
use Rattle.std.specs.Prelude.{◌≡◌, ℕ, Bool, true, false, cond, refl}
use Rattle.std.specs.declared.cmp.Ordering.{Ordering}
use Rattle.std.specs.declared.cmp.Ordering.TheVariants.{Less, Equal, Greater}
use Rattle.std.specs.Ordering.{ordering_reverse, is_lt, is_gt, ord_min, ord_max, nat_cmp}
use Rattle.std.specs.Cmp.{IsTotalOrder}
use Rattle.std.proofs.Common.{sym, ap, ◌∙◌, true≢false, arith}
use Rattle.std.proofs.lemmas.Bool.Decides.{nat_tests}
use Rattle.std.proofs.lemmas.Cmp.{upto, tied_itself}
use Rattle.kinds.specs.declared.span.Span.{Span}
use Rattle.kinds.specs.Span.{span, one, joined}
use Rattle.kinds.specs.Least.{least_commutes, least_associates}

gt_turned : (o : Ordering) → is_gt (ordering_reverse o) ≡ is_lt o
gt_turned Less = refl
gt_turned Equal = refl
gt_turned Greater = refl

lt_not_gt : (o : Ordering) → is_lt o ≡ true → is_gt o ≡ false
lt_not_gt Less e = refl
lt_not_gt Equal e = refl
lt_not_gt Greater e = absurd (true≢false (sym e))

neither : (o : Ordering) → is_gt o ≡ false → is_lt o ≡ false → o ≡ Equal
neither Less g l = absurd (true≢false l)
neither Equal g l = refl
neither Greater g l = absurd (true≢false g)

module _ {T : Type 0} (cmp : T → T → Ordering) (total : IsTotalOrder cmp)
    (same : (a b : T) → cmp a b ≡ Equal → a ≡ b) where
  Upto : T → T → Type 0
  Upto a b = is_gt (cmp a b) ≡ false

  From : T → T → Type 0
  From a b = is_gt (cmp b a) ≡ false

  itself : (a : T) → is_gt (cmp a a) ≡ false
  itself a = ap is_gt (tied_itself total a)

  turned : (a b : T) → is_gt (cmp a b) ≡ is_lt (cmp b a)
  turned a b = ap is_gt (total.antisymm a b) ∙ gt_turned (cmp b a)

  tells : (a b : T) → is_gt (cmp a b) ≡ false → is_gt (cmp b a) ≡ false → a ≡ b
  tells a b p q = same a b (neither (cmp a b) p (sym (turned b a) ∙ q))

  min_first : (a b : T) (t : Bool) → is_lt (cmp b a) ≡ t → is_gt (cmp (cond t b a) a) ≡ false
  min_first a b true e = lt_not_gt _ e
  min_first a b false e = itself a

  min_second : (a b : T) (t : Bool) → is_lt (cmp b a) ≡ t → is_gt (cmp (cond t b a) b) ≡ false
  min_second a b true e = itself b
  min_second a b false e = turned a b ∙ e

  max_first : (a b : T) (t : Bool) → is_lt (cmp b a) ≡ t → is_gt (cmp a (cond t a b)) ≡ false
  max_first a b true e = itself a
  max_first a b false e = turned a b ∙ e

  max_second : (a b : T) (t : Bool) → is_lt (cmp b a) ≡ t → is_gt (cmp b (cond t a b)) ≡ false
  max_second a b true e = lt_not_gt _ e
  max_second a b false e = itself b

  min_best : (x a b : T) (t : Bool) → Upto x a → Upto x b → is_gt (cmp x (cond t b a)) ≡ false
  unfolding Upto
  min_best x a b true p q = q
  min_best x a b false p q = p

  max_best : (x a b : T) (t : Bool) → From x a → From x b → is_gt (cmp (cond t a b) x) ≡ false
  unfolding From
  max_best x a b true p q = p
  max_best x a b false p q = q

  min_commutes : (a b : T) → ord_min cmp a b ≡ ord_min cmp b a
  unfolding Upto
  min_commutes =
      least_commutes Upto (ord_min cmp) (upto total) tells (λ a b. min_first a b _ refl) (λ a b. min_second a b _ refl)
      (λ x a b. min_best x a b _)

  min_associates : (a b c : T) → ord_min cmp (ord_min cmp a b) c ≡ ord_min cmp a (ord_min cmp b c)
  unfolding Upto
  min_associates =
      least_associates Upto (ord_min cmp) (upto total) tells (λ a b. min_first a b _ refl) (λ a b. min_second a b _ refl)
      (λ x a b. min_best x a b _)

  -- The greatest is the least in the order turned round.
  max_commutes : (a b : T) → ord_max cmp a b ≡ ord_max cmp b a
  unfolding From
  max_commutes =
      least_commutes From (ord_max cmp) (λ a b c p q. upto total c b a q p) (λ a b p q. tells a b q p)
      (λ a b. max_first a b _ refl) (λ a b. max_second a b _ refl) (λ x a b. max_best x a b _)

  max_associates : (a b c : T) → ord_max cmp (ord_max cmp a b) c ≡ ord_max cmp a (ord_max cmp b c)
  unfolding From
  max_associates =
      least_associates From (ord_max cmp) (λ a b c p q. upto total c b a q p) (λ a b p q. tells a b q p)
      (λ a b. max_first a b _ refl) (λ a b. max_second a b _ refl) (λ x a b. max_best x a b _)

  pub joined_associates : (a b c : Span T) → joined cmp (joined cmp a b) c ≡ joined cmp a (joined cmp b c)
  joined_associates a b c =
      let p = min_associates a.low b.low c.low in
      let q = max_associates a.high b.high c.high in
      λ i. span (p i) (q i)

  pub joined_commutes : (a b : Span T) → joined cmp a b ≡ joined cmp b a
  joined_commutes a b = λ i. span (min_commutes a.low b.low i) (max_commutes a.high b.high i)

  least_itself : (a : T) (t : Bool) → cond t a a ≡ a
  least_itself a true = refl
  least_itself a false = refl

  pub joined_itself : (a : Span T) → joined cmp a a ≡ a
  joined_itself a = λ i. span (least_itself a.low (is_lt (cmp a.low a.low)) i) (least_itself a.high (is_lt (cmp a.high a.high)) i)

  -- Where the least of two is the second, this is not behind the first.
  low_upto : (a b : T) → ord_min cmp a b ≡ b → is_gt (cmp b a) ≡ false
  low_upto a b e = ap (λ x. is_gt (cmp x a)) (sym e) ∙ min_first a b _ refl

  high_upto : (a b : T) → ord_max cmp a b ≡ b → is_gt (cmp a b) ≡ false
  high_upto a b e = ap (λ x. is_gt (cmp a x)) (sym e) ∙ max_first a b _ refl

  pub one_alone : (a b : T) → joined cmp (one b) (one a) ≡ one a → b ≡ a
  one_alone a b e =
      tells b a (high_upto b a (ap (λ (s : Span T). s.high) e)) (low_upto b a (ap (λ (s : Span T). s.low) e))

pub same_number : (a b : ℕ) → nat_cmp a b ≡ Equal → a ≡ b
same_number a b p = grind (arith, nat_tests)
