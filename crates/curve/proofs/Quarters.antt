-- One step of the curve: from a cell in a square of side s + s into its quarter of side s, and out again.
use Rattle.std.proofs.Common.{◌≡◌, ℕ, zero, suc, ◌+◌, ◌-◌, ◌%◌, ◌<◌, ◌≤◌, refl, ◌∙◌, inl, inr, ⊎_elim, mod-eq_of_lt, arith}
use native.Mathlib.Nat.{mod-eq-sub-mod}
use Rattle.std.proofs.lemmas.Bool.{lt-ltb, le-ltb, cases_lt}
use Rattle.curve.specs.declared.Cell.{Cell}
use Rattle.curve.specs.Hilbert.{cell, digit, inner, outer}
use Rattle.curve.specs.Laws.{InSquare, Beside}

pub same_cell : (a b c d : ℕ) → a ≡ c → b ≡ d → cell a b ≡ cell c d
same_cell a b c d p q = cc

high_mod : (n s : ℕ) → s ≤ n → n < s + s → n % s ≡ n - s
high_mod n s h k = let p : n - s < s = omega arith in mod-eq-sub-mod h ∙ mod-eq_of_lt p

-- What holds of each quarter holds of a cell's digit and inner cell.
module _ (P : ℕ → Cell → Type 0) (s : ℕ) (c : Cell) (w : InSquare (s + s) c) where
  quarter_0 : c.x < s → c.y < s → P 0 (cell c.y c.x) → P (digit s c) (inner s c)
  quarter_0 hx hy p = simp (lt-ltb c.x s hx, lt-ltb c.y s hy, mod-eq_of_lt hx, mod-eq_of_lt hy) p

  quarter_1 : c.x < s → s ≤ c.y → P 1 (cell c.x (c.y - s)) → P (digit s c) (inner s c)
  quarter_1 hx hy p =
      simp (lt-ltb c.x s hx, le-ltb c.y s hy, mod-eq_of_lt hx, high_mod c.y s hy w.y_below) p

  quarter_2 : s ≤ c.x → s ≤ c.y → P 2 (cell (c.x - s) (c.y - s)) → P (digit s c) (inner s c)
  quarter_2 hx hy p =
      simp (le-ltb c.x s hx, le-ltb c.y s hy, high_mod c.x s hx w.x_below, high_mod c.y s hy w.y_below) p

  quarter_3 : s ≤ c.x → c.y < s → P 3 (cell (s - 1 - c.y) (s - 1 - (c.x - s))) → P (digit s c) (inner s c)
  quarter_3 hx hy p =
      simp (le-ltb c.x s hx, lt-ltb c.y s hy, high_mod c.x s hx w.x_below, mod-eq_of_lt hy) p

  by-quarter :
      (c.x < s → c.y < s → P 0 (cell c.y c.x))
      → (c.x < s → s ≤ c.y → P 1 (cell c.x (c.y - s)))
      → (s ≤ c.x → s ≤ c.y → P 2 (cell (c.x - s) (c.y - s)))
      → (s ≤ c.x → c.y < s → P 3 (cell (s - 1 - c.y) (s - 1 - (c.x - s))))
      → P (digit s c) (inner s c)
  by-quarter p0 p1 p2 p3 =
      ⊎_elim
      (λ hx. ⊎_elim (λ hy. quarter_0 hx hy (p0 hx hy)) (λ hy. quarter_1 hx hy (p1 hx hy)) (cases_lt c.y s))
      (λ hx. ⊎_elim (λ hy. quarter_3 hx hy (p3 hx hy)) (λ hy. quarter_2 hx hy (p2 hx hy)) (cases_lt c.y s))
      (cases_lt c.x s)

-- Going in: the digit is below 4, the inner cell lies in the quarter, and going out again leads back.
pub record GoesIn (s : ℕ) (c : Cell) (d : ℕ) (i : Cell) : Type 0 where
  pub low : d < 4
  pub inside : InSquare s i
  pub back : outer s d i ≡ c

pub goes_in : (s : ℕ) (c : Cell) → InSquare (s + s) c → GoesIn s c (digit s c) (inner s c)
goes_in s c w =
    by-quarter (GoesIn s c) s c w
    (λ hx hy. record { low = omega arith; inside = record { x_below = hy; y_below = hx }; back = refl })
    (λ hx hy.
    record {
      low = omega arith;
      inside = record { x_below = hx; y_below = omega arith };
      back = same_cell _ _ _ _ refl (omega arith);
    })
    (λ hx hy.
    record {
      low = omega arith;
      inside = record { x_below = omega arith; y_below = omega arith };
      back = same_cell _ _ _ _ (omega arith) (omega arith);
    })
    (λ hx hy.
    record {
      low = omega arith;
      inside = record { x_below = omega arith; y_below = omega arith };
      back = same_cell _ _ _ _ (omega arith) (omega arith);
    })

-- Going out: the cell lies in the square of side s + s, and going in again leads back.
pub record GoesOut (s d : ℕ) (c : Cell) : Type 0 where
  pub inside : InSquare (s + s) (outer s d c)
  pub digit_back : digit s (outer s d c) ≡ d
  pub inner_back : inner s (outer s d c) ≡ c

abbrev Both : ℕ → Cell → ℕ → Cell → Type 0
Both d c e i = (e ≡ d) × (i ≡ c)

pub goes_out : (s d : ℕ) (c : Cell) → d < 4 → InSquare s c → GoesOut s d c
goes_out s zero c h w =
    let o : InSquare (s + s) (cell c.y c.x) = record { x_below = omega arith; y_below = omega arith } in
    let q = quarter_0 (Both 0 c) s (cell c.y c.x) o w.y_below w.x_below (refl, refl) in
    record { inside = o; digit_back = q.0; inner_back = q.1 }
goes_out s (suc zero) c h w =
    let o : InSquare (s + s) (cell c.x (s + c.y)) = record { x_below = omega arith; y_below = omega arith } in
    let q =
    quarter_1 (Both 1 c) s (cell c.x (s + c.y)) o w.x_below (omega arith)
    (refl, same_cell _ _ _ _ refl (omega arith)) in
    record { inside = o; digit_back = q.0; inner_back = q.1 }
goes_out s (suc (suc zero)) c h w =
    let o : InSquare (s + s) (cell (s + c.x) (s + c.y)) = record { x_below = omega arith; y_below = omega arith } in
    let q =
    quarter_2 (Both 2 c) s (cell (s + c.x) (s + c.y)) o (omega arith) (omega arith)
    (refl, same_cell _ _ _ _ (omega arith) (omega arith)) in
    record { inside = o; digit_back = q.0; inner_back = q.1 }
goes_out s (suc (suc (suc zero))) c h w =
    let o : InSquare (s + s) (cell (s + (s - 1 - c.y)) (s - 1 - c.x)) =
    record { x_below = omega arith; y_below = omega arith } in
    let q =
    quarter_3 (Both 3 c) s (cell (s + (s - 1 - c.y)) (s - 1 - c.x)) o (omega arith) (omega arith)
    (refl, same_cell _ _ _ _ (omega arith) (omega arith)) in
    record { inside = o; digit_back = q.0; inner_back = q.1 }
goes_out s (suc (suc (suc (suc n)))) c h w = absurd (omega arith)

-- Cells beside each other stay so where both go out of one quarter.
pub beside_within : (s d : ℕ) (a b : Cell) → InSquare s a → InSquare s b → Beside a b → Beside (outer s d a) (outer s d b)
beside_within s zero a b u w (inl (e, g)) = inr (e, g)
beside_within s zero a b u w (inr (e, g)) = inl (e, g)
beside_within s (suc zero) a b u w h = grind arith
beside_within s (suc (suc zero)) a b u w h = grind arith
beside_within s (suc (suc (suc n))) a b u w h = grind arith

-- The last cell of a quarter lies beside the first of the next.
pub beside_across : (s d : ℕ) → 0 < s → d < 3 → Beside (outer s d (cell (s - 1) 0)) (outer s (suc d) (cell 0 0))
beside_across s zero p h = inl (refl, inl (omega arith))
beside_across s (suc zero) p h = inr (refl, inl (omega arith))
beside_across s (suc (suc zero)) p h = inl (omega arith, inr (omega arith))
beside_across s (suc (suc (suc n))) p h = absurd (omega arith)
