-- The ends of buckets: k to 2k − 1 ranks each, and each rank in one.
use Rattle.std.proofs.Common.{◌≡◌, ℕ, suc, ◌+◌, ◌-◌, ◌*◌, ◌/◌, ◌%◌, ◌<◌, ◌≤◌, sym, refl, ap, ◌∙◌, ⊎_elim, mul-le-mul_right, mod-lt, suc-mul, le-div_iff_mul-le, arith}
use native.Mathlib.Nat.{min-eq_left, min-eq_right}
use Rattle.std.proofs.lemmas.Nat.{div-add-mod'}
use Rattle.std.proofs.lemmas.Bool.{cases_lt, cases_eq, eq-eqb, ne_eqb}
use Rattle.buckets.specs.Ends.{bucket_number, ends_of, Between, EndsLaws}

module _ (n k : ℕ) (hk : 1 ≤ k) (hn : k ≤ n) where
  -- What the products have to do with n.
  record Cut : Type 0 where
    some : 1 ≤ n / k
    n_is : n / k * k + n % k ≡ n
    rest : n % k < k
    last_is : (n / k - 1) * k + k ≡ n / k * k

  cut : Cut
  cut =
      let q : 1 ≤ n / k = (le-div_iff_mul-le {x = 1} hk).1 (omega arith) in
      let e : suc (n / k - 1) ≡ n / k = omega arith in
      record {
        some = q;
        n_is = div-add-mod' n k;
        rest = mod-lt n hk;
        last_is = sym (suc-mul (n / k - 1) k) ∙ ap (λ (x : ℕ). x * k) e;
      }

  -- A bucket is the last one, or one before it, which ends where the next starts.
  data Shape (b : ℕ) : Type 0 where
    the_last : b * k + k ≡ n / k * k → (ends_of n k b).last ≡ n - 1 → Shape b
    before_last : b * k + 2 * k ≤ n / k * k → (ends_of n k b).last ≡ b * k + k - 1 → Shape b

  shape : (b : ℕ) → b < n / k → Shape b
  shape b l =
      ⊎_elim
      (λ e.
      let t = eq-eqb b (n / k - 1) e in
      the_last (ap (λ (x : ℕ). x * k + k) e ∙ cut.last_is) (rw t refl))
      (λ ne.
      let t = ne_eqb b (n / k - 1) ne in
      let h : suc b ≤ n / k - 1 = omega arith in
      let up : suc b * k ≤ (n / k - 1) * k = mul-le-mul_right k h in
      before_last (omega (arith, suc-mul b k, cut.last_is)) (rw t refl))
      (cases_eq b (n / k - 1))

  record Spread (b : ℕ) : Type 0 where
    within : (ends_of n k b).last < n
    least : b * k + k ≤ (ends_of n k b).last + 1
    most : (ends_of n k b).last + 1 < b * k + 2 * k

  spread : (b : ℕ) → b < n / k → Spread b
  spread b l = go (shape b l)
    where
      go : Shape b → Spread b
      go (the_last p q) =
          let c = cut in
          record { within = omega arith; least = omega arith; most = omega arith }
      go (before_last p q) =
          let c = cut in
          record { within = omega arith; least = omega arith; most = omega arith }

  number_below : (r : ℕ) → r < n → bucket_number n k r < n / k
  number_below r l = let c = cut in omega arith

  quotient_most : (r : ℕ) → r < n → r / k ≤ n / k
  quotient_most r l = let c = cut in (le-div_iff_mul-le hk).1 (omega (arith, div-add-mod' r k))

  own : (r : ℕ) → r < n → Between (ends_of n k (bucket_number n k r)) r
  own r l = ⊎_elim low high (cases_lt (r / k) (n / k - 1))
    where
      low : r / k < n / k - 1 → Between (ends_of n k (bucket_number n k r)) r
      low h =
          let b : bucket_number n k r ≡ r / k = min-eq_left (omega arith) in
          let t = ne_eqb (r / k) (n / k - 1) (omega arith) in
          let s = mod-lt r hk in
          let d = div-add-mod' r k in
          rw (b, t) (record { from = omega arith; upto = omega arith })

      high : n / k - 1 ≤ r / k → Between (ends_of n k (bucket_number n k r)) r
      high h =
          let b : bucket_number n k r ≡ n / k - 1 = min-eq_right h in
          let t = eq-eqb (n / k - 1) (n / k - 1) refl in
          let up : (n / k - 1) * k ≤ r / k * k = mul-le-mul_right k h in
          let d = div-add-mod' r k in
          rw (b, t) (record { from = omega arith; upto = omega arith })

  -- Of two buckets, the lower one ends before the other starts.
  apart : (b d : ℕ) → b < d → d < n / k → (ends_of n k b).last < d * k
  apart b d l h = go (shape b (omega arith))
    where
      go : Shape b → (ends_of n k b).last < d * k
      go (the_last p q) =
          let up : suc b * k ≤ d * k = mul-le-mul_right k l in
          let e : d ≤ n / k - 1 = omega arith in
          let up2 : d * k ≤ (n / k - 1) * k = mul-le-mul_right k e in
          absurd (omega (arith, suc-mul b k, cut.last_is))
      go (before_last p q) =
          let up : suc b * k ≤ d * k = mul-le-mul_right k l in
          omega (arith, suc-mul b k)

  no_other : (r b : ℕ) → r < n → b < n / k → Between (ends_of n k b) r → b ≡ bucket_number n k r
  no_other r b l h i =
      let d = bucket_number n k r in
      let j = own r l in
      let hd = number_below r l in
      ⊎_elim
      (λ (lt : b < d). absurd (omega (arith, apart b d lt hd, i.upto, j.from)))
      (λ (le : d ≤ b).
      ⊎_elim
      (λ (lt : d < b). absurd (omega (arith, apart d b lt h, j.upto, i.from)))
      (λ (ge : b ≤ d). omega arith)
      (cases_lt d b))
      (cases_lt b d)

  pub ends_laws : EndsLaws n k
  ends_laws =
      record {
        within = λ b l. (spread b l).within;
        least = λ b l. (spread b l).least;
        most = λ b l. (spread b l).most;
        number_below = number_below;
        own = own;
        no_other = no_other;
      }
