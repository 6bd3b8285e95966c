-- The laws of the curve by induction on its order, and the steps of the code from order to order.
use Rattle.std.proofs.Common.{◌≡◌, ℕ, zero, suc, ◌+◌, ◌-◌, ◌*◌, ◌/◌, ◌%◌, ◌^◌, ◌<◌, ◌≤◌, sym, refl, ap, ◌∙◌, subst, ⊎_elim, mul-le-mul_right, mul_assoc, add-mul, mul-pos, pow-suc, mul-add, add-one, arith}
use mathlib.Core.Path.{subst⁻¹}
use native.Mathlib.Nat.{zero-div, zero-mod}
use Rattle.std.proofs.lemmas.Bool.{cases_lt}
use Rattle.std.proofs.lemmas.Nat.{pow_pos, div-mul-add, mod-mul-add, mul-add-lt, div_below, mod_below, div-add-mod'}
use Rattle.curve.specs.declared.Cell.{Cell}
use Rattle.curve.specs.Hilbert.{cell, cells, digit, inner, key_of, outer, cell_of}
use Rattle.curve.specs.Laws.{InSquare, Beside, CurveLaws}
use Rattle.curve.proofs.Quarters.{same_cell, goes_in, goes_out, beside_within, beside_across}

-- The square of the next order has twice the side and four times the cells.
double : (m : ℕ) → 2 ^ suc m ≡ 2 ^ m + 2 ^ m
double m = omega (arith, pow-suc 2 m)

four : (m : ℕ) → cells (suc m) ≡ 4 * cells m
four m = rw double (omega (arith, mul-add (2 ^ m + 2 ^ m) (2 ^ m) (2 ^ m), add-mul (2 ^ m) (2 ^ m) (2 ^ m)))

some_cells : (m : ℕ) → 0 < cells m
some_cells m = mul-pos (pow_pos m) (pow_pos m)

halves : (m : ℕ) (c : Cell) → InSquare (2 ^ suc m) c → InSquare (2 ^ m + 2 ^ m) c
halves m c w = rw double at w

joins : (m : ℕ) (c : Cell) → InSquare (2 ^ m + 2 ^ m) c → InSquare (2 ^ suc m) c
joins m c w = rw double w

key_below : (m : ℕ) (c : Cell) → InSquare (2 ^ m) c → key_of m c < cells m
key_below zero c w = omega arith
key_below (suc m) c w =
    let t = goes_in (2 ^ m) c (halves m c w) in
    let ih = key_below m (inner (2 ^ m) c) t.inside in
    omega (arith, four m, mul-add-lt (digit (2 ^ m) c) (cells m) (key_of m (inner (2 ^ m) c)) 4 t.low ih)

cell_of_key : (m : ℕ) (c : Cell) → InSquare (2 ^ m) c → cell_of m (key_of m c) ≡ c
cell_of_key zero c w = same_cell 0 0 c.x c.y (omega (arith, w.x_below)) (omega (arith, w.y_below))
cell_of_key (suc m) c w =
    let t = goes_in (2 ^ m) c (halves m c w) in
    let ih = cell_of_key m (inner (2 ^ m) c) t.inside in
    let low = key_below m (inner (2 ^ m) c) t.inside in
    simp (
      div-mul-add (digit (2 ^ m) c) (cells m) (key_of m (inner (2 ^ m) c)) low,
      mod-mul-add (digit (2 ^ m) c) (cells m) (key_of m (inner (2 ^ m) c)) low,
      ih,
    ) t.back

-- The first digit of a key of the next order, and the key that is left.
first_digit : (m k : ℕ) → k < cells (suc m) → k / cells m < 4
first_digit m k h = div_below k (cells m) 4 (some_cells m) (omega (arith, four m))

rest_below : (m k : ℕ) → k % cells m < cells m
rest_below m k = mod_below k (cells m) (some_cells m)

cell_inside : (m k : ℕ) → k < cells m → InSquare (2 ^ m) (cell_of m k)
cell_inside zero k h = record { x_below = omega arith; y_below = omega arith }
cell_inside (suc m) k h =
    let ih = cell_inside m (k % cells m) (rest_below m k) in
    joins m _ (goes_out (2 ^ m) (k / cells m) (cell_of m (k % cells m)) (first_digit m k h) ih).inside

key_outer : (m d : ℕ) (c : Cell) → d < 4 → InSquare (2 ^ m) c → key_of (suc m) (outer (2 ^ m) d c) ≡ d * cells m + key_of m c
key_outer m d c h w =
    let t = goes_out (2 ^ m) d c h w in
    ap (λ (e : ℕ). e * cells m + key_of m (inner (2 ^ m) (outer (2 ^ m) d c))) t.digit_back
    ∙ ap (λ (j : ℕ). d * cells m + j) (ap (key_of m) t.inner_back)

key_of_cell : (m k : ℕ) → k < cells m → key_of m (cell_of m k) ≡ k
key_of_cell zero k h = omega arith
key_of_cell (suc m) k h =
    let i = cell_of m (k % cells m) in
    let w = cell_inside m (k % cells m) (rest_below m k) in
    let ih = key_of_cell m (k % cells m) (rest_below m k) in
    key_outer m (k / cells m) i (first_digit m k h) w
    ∙ ap (λ (j : ℕ). k / cells m * cells m + j) ih
    ∙ div-add-mod' k (cells m)

one_key : (m : ℕ) (a b : Cell) → InSquare (2 ^ m) a → InSquare (2 ^ m) b → key_of m a ≡ key_of m b → a ≡ b
one_key m a b u w e = sym (cell_of_key m a u) ∙ ap (cell_of m) e ∙ cell_of_key m b w

-- The cell of the key that has the digit d and the rest r.
cell_split : (m d r : ℕ) → r < cells m → cell_of (suc m) (d * cells m + r) ≡ outer (2 ^ m) d (cell_of m r)
cell_split m d r h = simp (div-mul-add d (cells m) r h, mod-mul-add d (cells m) r h)

-- The curve begins at (0, 0) and ends at (2 ^ m − 1, 0).
begins : (m : ℕ) → cell_of m 0 ≡ cell 0 0
begins zero = refl
begins (suc m) = simp (zero-div, zero-mod, begins m)

ends : (m : ℕ) → cell_of m (cells m - 1) ≡ cell (2 ^ m - 1) 0
ends zero = refl
ends (suc m) =
    let p = some_cells m in
    let q = pow_pos m in
    let e : cells (suc m) - 1 ≡ 3 * cells m + (cells m - 1) = omega (arith, four m) in
    let s : cells m - 1 < cells m = omega arith in
    ap (cell_of (suc m)) e ∙ cell_split m 3 (cells m - 1) s ∙ ap (outer (2 ^ m) 3) (ends m)
    ∙ same_cell _ _ _ _ (omega (arith, double m)) (omega arith)

steps_beside : (m k : ℕ) → suc k < cells m → Beside (cell_of m k) (cell_of m (suc k))
steps_beside zero k h = absurd (omega arith)
steps_beside (suc m) k h =
    let n = cells m in
    let d = k / n in
    let r = k % n in
    let e : d * n + r ≡ k = div-add-mod' k n in
    let p = some_cells m in
    let lr : r < n = rest_below m k in
    ⊎_elim
    (λ (l : suc r < n).
    let e' : d * n + suc r ≡ suc k = omega arith in
    subst (λ (j : ℕ). Beside (cell_of (suc m) k) (cell_of (suc m) j)) e'
    (subst⁻¹ (λ (c : Cell). Beside (cell_of (suc m) k) c) (cell_split m d (suc r) l)
    (beside_within (2 ^ m) d (cell_of m r) (cell_of m (suc r)) (cell_inside m r lr) (cell_inside m (suc r) l)
    (steps_beside m r l))))
    (λ (l : n ≤ suc r).
    let e' : suc d * n + 0 ≡ suc k = omega (arith, add-mul d 1 n) in
    let er : r ≡ n - 1 = omega arith in
    let ld : d < 3 =
    ⊎_elim (λ i. i) (λ (i : 3 ≤ d). absurd (omega (arith, four m, mul-le-mul_right n i))) (cases_lt d 3) in
    subst (λ (j : ℕ). Beside (cell_of (suc m) k) (cell_of (suc m) j)) e'
    (subst⁻¹ (λ (c : Cell). Beside (outer (2 ^ m) d (cell_of m r)) c)
    (cell_split m (suc d) 0 p ∙ ap (outer (2 ^ m) (suc d)) (begins m))
    (subst⁻¹ (λ (c : Cell). Beside (outer (2 ^ m) d c) (outer (2 ^ m) (suc d) (cell 0 0)))
    (ap (cell_of m) er ∙ ends m)
    (beside_across (2 ^ m) d (pow_pos m) ld))))
    (cases_lt (suc r) n)

pub curve_laws : (m : ℕ) → CurveLaws m
curve_laws m =
    record {
      key_below = key_below m;
      cell_inside = cell_inside m;
      cell_of_key = cell_of_key m;
      key_of_cell = key_of_cell m;
      one_key = one_key m;
      steps_beside = λ k h.
          subst⁻¹ (λ (j : ℕ). Beside (cell_of m k) (cell_of m j)) (add-one k) (steps_beside m k (rw add-one at h));
    }

-- One step of `key_at`, from order n to order m.
pub record KeyFound (m : ℕ) (c : Cell) (k : ℕ) : Type 0 where
  pub value : k ≡ key_of m c
  pub below : k < cells m
  pub back : cell_of m k ≡ c

pub key_found : (m n s d k : ℕ) (c i : Cell) → InSquare (2 ^ m) c → n + 1 ≡ m → s ≡ 2 ^ n → d ≡ digit (2 ^ n) c
    → i ≡ inner (2 ^ n) c → k ≡ key_of n i → KeyFound m c (d * (s * s) + k)
key_found m n s d k c i w em es ed ei ek =
    let e : suc n ≡ m = sym (add-one n) ∙ em in
    let f : d * (s * s) + k ≡ key_of (suc n) c = cc in
    let value : d * (s * s) + k ≡ key_of m c = f ∙ ap (λ (o : ℕ). key_of o c) e in
    record {
      value = value;
      below = subst⁻¹ (λ (j : ℕ). j < cells m) value (key_below m c w);
      back = ap (cell_of m) value ∙ cell_of_key m c w;
    }

-- One step of `reached`, which has m digits left and goes out from order n to order o.
pub fewer_digits : (m k : ℕ) → (m ≡ 0 → ⊥) → k < cells m → k / 4 < cells (m - 1)
fewer_digits zero k z h = absurd (z refl)
fewer_digits (suc m) k z h =
    let e : suc m - 1 ≡ m = omega arith in
    subst⁻¹ (λ (i : ℕ). k / 4 < cells i) e (div_below k 4 (cells m) (omega arith) (omega (arith, four m)))

next_digit : (n o k : ℕ) (c d : Cell) → o ≡ n + 1 → InSquare (2 ^ n) c → d ≡ outer (2 ^ n) (k % 4) c
    → k / 4 * cells o + key_of o d ≡ k * cells n + key_of n c
next_digit n o k c d eo w ed =
    let e : o ≡ suc n = eo ∙ add-one n in
    let f : cells o ≡ 4 * cells n = ap cells e ∙ four n in
    let g : key_of o d ≡ k % 4 * cells n + key_of n c =
    ap (λ (i : ℕ). key_of i d) e ∙ ap (key_of (suc n)) ed ∙ key_outer n (k % 4) c (mod_below k 4 (omega arith)) w in
    let p : (k / 4 * 4 + k % 4) * cells n ≡ k * cells n = ap (λ (i : ℕ). i * cells n) (div-add-mod' k 4) in
    let q : k / 4 * cells o ≡ k / 4 * (4 * cells n) = ap (λ (i : ℕ). k / 4 * i) f in
    omega (arith, add-mul (k / 4 * 4) (k % 4) (cells n), mul_assoc (k / 4) 4 (cells n))

pub reached_next : (m n o k : ℕ) (c d r : Cell) → (m ≡ 0 → ⊥) → o ≡ n + 1 → InSquare (2 ^ n) c → d ≡ outer (2 ^ n) (k % 4) c
    → r ≡ cell_of (m - 1 + o) (k / 4 * cells o + key_of o d) → r ≡ cell_of (m + n) (k * cells n + key_of n c)
reached_next m n o k c d r z eo w ed ih =
    let e : m - 1 + o ≡ m + n = omega arith in
    ih ∙ ap (cell_of (m - 1 + o)) (next_digit n o k c d eo w ed) ∙ ap (λ (i : ℕ). cell_of i (k * cells n + key_of n c)) e

-- Where no digit is left, the key is that of the cell itself.
pub reached_now : (m n k : ℕ) (c : Cell) → m ≡ 0 → k < cells m → InSquare (2 ^ n) c → c ≡ cell_of (m + n) (k * cells n + key_of n c)
reached_now zero n k c z h w =
    let zero_key : k ≡ 0 = omega arith in
    let e : 0 + n ≡ n = omega arith in
    let g : 0 * cells n + key_of n c ≡ key_of n c = omega arith in
    rw (zero_key, e, g) (sym (cell_of_key n c w))
reached_now (suc m) n k c z h w = absurd (omega arith)
