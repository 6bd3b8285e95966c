-- The key that a place on the plane carries, and what it tells of the place.
use Rattle.std.specs.Prelude.{◌≡◌, ℕ, Bool, true, false, cond, ◌&&◌, Some, None, Option, ◌==◌, nat_eq, refl}
use Rattle.std.specs.Option.{unwrap_or}
use Rattle.std.proofs.Common.{sym, ap, ◌∙◌, eq-eqb, eqb-true, arith}
use Rattle.curve.specs.declared.Cell.{Cell}
use Rattle.curve.specs.Hilbert.{key_of, cell_of}
use Rattle.curve.specs.Grid.{on_grid, grid_key, LeadsBack}
use denote.Struct.Cover.{Cover-one}
use Rattle.kinds.specs.contracts.plane_place.PlanePlace.{the_type}
use Rattle.kinds.specs.declared.plane_place.PlanePlace.{PlanePlace}
use Rattle.kinds.specs.Keyed.{carried, leads_back}
use Rattle.kinds.specs.Plane.{cell_of_place}

both_true : (a b : Bool) → (a && b) ≡ true → (a ≡ true) × (b ≡ true)
both_true true b e = (refl, e)
both_true false b e = absurd (let z : ◌≡◌ {A = ℕ} 0 1 = cc in omega arith)

-- A key that was given is the key of a cell on the grid.
given : (b : Bool) (j k : ℕ) → Some k ≡ cond b (Some j) None → (b ≡ true) × (k ≡ j)
given true j k e = (refl, cc)
given false j k e = absurd (let z : ◌≡◌ {A = ℕ} 0 1 = cc in omega arith)

-- None was given where the cell lies outside.
not_given : (b : Bool) (j : ℕ) → None ≡ cond b (Some j) None → b ≡ false
not_given true j e = absurd (let z : ◌≡◌ {A = ℕ} 0 1 = cc in omega arith)
not_given false j e = refl

-- A key that was given is the one to carry, and where none was given 4 ^ 12 is.
pub carried_key : (c : Cell) (r : Option ℕ) → r ≡ grid_key c → LeadsBack c r
    → (unwrap_or r 16777216 ≡ carried c) × (leads_back (unwrap_or r 16777216) c ≡ true)
carried_key c None e l = let h = not_given (on_grid c) (key_of 12 c) e in (simp h, simp h)
carried_key c (Some k) e l =
    let h = given (on_grid c) (key_of 12 c) k e in
    let x : nat_eq (cell_of 12 k).x c.x ≡ true = eq-eqb _ _ (ap (λ (d : Cell). d.x) l.1) in
    let y : nat_eq (cell_of 12 k).y c.y ≡ true = eq-eqb _ _ (ap (λ (d : Cell). d.y) l.1) in
    (simp h.0 h.1, simp (h.0, x, y))

-- Places at one cell are one place.
pub same_place : (a b : PlanePlace) → cell_of_place a ≡ cell_of_place b → a ≡ b
same_place a b e =
    let k : a.key ≡ b.key = a.keyed ∙ ap carried e ∙ sym b.keyed in
    Cover-one the_type.cover the_type.propositions a b (λ i. (e i, (k i, tt)))

pub same_cell : (c d : Cell) → c.x ≡ d.x → c.y ≡ d.y → c ≡ d
same_cell c d p q = λ i. record { x = p i; y = q i }

-- A place on the grid is at the cell of its key.
pub cell_by_key : (a : PlanePlace) → on_grid (cell_of_place a) ≡ true → cell_of 12 a.key ≡ cell_of_place a
cell_by_key a g =
    let t : ((cell_of 12 a.key).x == a.cell.x && (cell_of 12 a.key).y == a.cell.y) ≡ true = simp g at a.back in
    let b = both_true _ _ t in
    same_cell (cell_of 12 a.key) (cell_of_place a) (eqb-true _ _ b.0) (eqb-true _ _ b.1)

-- So places on the grid with one key are one place.
pub one_place : (a b : PlanePlace) → on_grid (cell_of_place a) ≡ true → on_grid (cell_of_place b) ≡ true → a.key ≡ b.key → a ≡ b
one_place a b g h e = same_place a b (sym (cell_by_key a g) ∙ ap (cell_of 12) e ∙ cell_by_key b h)
