-- What a rotation keeps, and how high the tree is after it.
use Rattle.std.proofs.Common.{◌≡◌, ℕ, zero, suc, ◌+◌, ◌<◌, ◌≤◌, max, Bool, true, false, cond, eqb, ltb, ◌∷◌, ◌++◌, refl, append_assoc, arith}
use native.Mathlib.Decide.{dec_le}
use Rattle.std.proofs.lemmas.Bool.Decides.{nat_tests}
use Rattle.kinds.specs.Rules.{Model}
use Rattle.buckets.specs.Rows.{entry}
use Rattle.tree.specs.Tree.{Tree, leaf, node, linked, tall, size, row_of, times, Balanced, Joined}
use Rattle.tree.specs.Shapes.{rotated_twice, rotated_right, rotated_left, evened}

-- What a rotation keeps: the row, how often a slot stands there, and how many there are.
pub record Same {P R : Type 0} (t : Tree P R) (l : Tree P R) (s : ℕ) (p : P) (r : Tree P R) : Type 0 where
  pub rows : row_of t ≡ row_of l ++ (entry s p ∷ row_of r)
  pub slots : (j : ℕ) → times j t ≡ times j l + cond (eqb j s) 1 0 + times j r
  pub sizes : size t ≡ 1 + size l + size r

-- The height after a rotation is a plain node's or one less, and the tree is balanced.
pub record Evened {P R : Type 0} (t : Tree P R) (l r : Tree P R) : Type 0 where
  pub balanced : Balanced t
  pub low : tall t ≤ 1 + max (tall l) (tall r)
  pub high : max (tall l) (tall r) ≤ tall t
  pub plain : tall l ≤ 1 + tall r → tall r ≤ 1 + tall l → tall t ≡ 1 + max (tall l) (tall r)

module _ {P R : Type 0} (m : Model P R) where
  twice_right : (a : Tree P R) (s : ℕ) (p : P) (v : R) (b : Tree P R) (k : ℕ) (q : P) (c : Tree P R)
      → Same (rotated_twice m a s p b k q c) (node a s p v b) k q c
  twice_right a s p v leaf k q c = record { rows = simp append_assoc; slots = λ j. omega arith; sizes = omega arith }
  twice_right a s p v (node d i o w b) k q c =
      record { rows = simp append_assoc; slots = λ j. omega arith; sizes = omega arith }

  twice_left : (a : Tree P R) (s : ℕ) (p : P) (b : Tree P R) (k : ℕ) (q : P) (v : R) (c : Tree P R)
      → Same (rotated_twice m a s p b k q c) a s p (node b k q v c)
  twice_left a s p leaf k q v c = record { rows = refl; slots = λ j. omega arith; sizes = omega arith }
  twice_left a s p (node d i o w b) k q v c =
      record { rows = simp append_assoc; slots = λ j. omega arith; sizes = omega arith }

  same_rotated_right : (l : Tree P R) (k : ℕ) (q : P) (c : Tree P R) → Same (rotated_right m l k q c) l k q c
  same_rotated_right leaf k q c = record { rows = refl; slots = λ j. refl; sizes = refl }
  same_rotated_right (node a s p v b) k q c = go (ltb (tall a) (tall b))
    where
      go : (t : Bool)
          → Same (cond t (rotated_twice m a s p b k q c) (linked m a s p (linked m b k q c))) (node a s p v b) k q c
      go true = twice_right a s p v b k q c
      go false = record { rows = simp append_assoc; slots = λ j. omega arith; sizes = omega arith }

  same_rotated_left : (a : Tree P R) (s : ℕ) (p : P) (r : Tree P R) → Same (rotated_left m a s p r) a s p r
  same_rotated_left a s p leaf = record { rows = refl; slots = λ j. refl; sizes = refl }
  same_rotated_left a s p (node b k q v c) = go (ltb (tall c) (tall b))
    where
      go : (t : Bool)
          → Same (cond t (rotated_twice m a s p b k q c) (linked m (linked m a s p b) k q c)) a s p (node b k q v c)
      go true = twice_left a s p b k q v c
      go false = record { rows = simp append_assoc; slots = λ j. omega arith; sizes = omega arith }

  pub same_even : (l : Tree P R) (s : ℕ) (p : P) (r : Tree P R) → Same (evened m l s p r) l s p r
  same_even l s p r = go (ltb (1 + tall r) (tall l)) (ltb (1 + tall l) (tall r))
    where
      go : (t u : Bool)
          → Same (cond t (rotated_right m l s p r) (cond u (rotated_left m l s p r) (linked m l s p r))) l s p r
      go true u = same_rotated_right l s p r
      go false true = same_rotated_left l s p r
      go false false = record { rows = refl; slots = λ j. refl; sizes = refl }

  -- The regions stored stay right.
  joined_twice : (a : Tree P R) (s : ℕ) (p : P) (b : Tree P R) (k : ℕ) (q : P) (c : Tree P R) → Joined m a → Joined m b
      → Joined m c → Joined m (rotated_twice m a s p b k q c)
  joined_twice a s p leaf k q c x y z = (x, (tt, z, refl), refl)
  joined_twice a s p (node d i o w b) k q c x y z = ((x, y.0, refl), (y.1, z, refl), refl)

  joined_rotated_right : (l : Tree P R) (k : ℕ) (q : P) (c : Tree P R) → Joined m l → Joined m c
      → Joined m (rotated_right m l k q c)
  joined_rotated_right leaf k q c x z = (tt, z, refl)
  joined_rotated_right (node a s p v b) k q c x z = go (ltb (tall a) (tall b))
    where
      go : (t : Bool) → Joined m (cond t (rotated_twice m a s p b k q c) (linked m a s p (linked m b k q c)))
      go true = joined_twice a s p b k q c x.0 x.1 z
      go false = (x.0, (x.1, z, refl), refl)

  joined_rotated_left : (a : Tree P R) (s : ℕ) (p : P) (r : Tree P R) → Joined m a → Joined m r
      → Joined m (rotated_left m a s p r)
  joined_rotated_left a s p leaf x z = (x, tt, refl)
  joined_rotated_left a s p (node b k q v c) x z = go (ltb (tall c) (tall b))
    where
      go : (t : Bool) → Joined m (cond t (rotated_twice m a s p b k q c) (linked m (linked m a s p b) k q c))
      go true = joined_twice a s p b k q c x z.0 z.1
      go false = ((x, z.0, refl), z.1, refl)

  pub joined_even : (l : Tree P R) (s : ℕ) (p : P) (r : Tree P R) → Joined m l → Joined m r
      → Joined m (evened m l s p r)
  joined_even l s p r x z = go (ltb (1 + tall r) (tall l)) (ltb (1 + tall l) (tall r))
    where
      go : (t u : Bool) → Joined m (cond t (rotated_right m l s p r) (cond u (rotated_left m l s p r) (linked m l s p r)))
      go true u = joined_rotated_right l s p r x z
      go false true = joined_rotated_left l s p r x z
      go false false = (x, z, refl)

  -- The middle tree is one level higher than its two neighbours.
  twice_tall : (a : Tree P R) (s : ℕ) (p : P) (b : Tree P R) (k : ℕ) (q : P) (c : Tree P R) → Balanced a → Balanced b
      → Balanced c → tall b ≡ 1 + tall a → tall b ≡ 1 + tall c
      → Balanced (rotated_twice m a s p b k q c) × (tall (rotated_twice m a s p b k q c) ≡ 1 + tall b)
  twice_tall a s p leaf k q c ha hb hc ta tc = absurd (omega arith)
  twice_tall a s p (node d i o v b) k q c ha hb hc ta tc = (
    ((ha, hb.0, omega arith, omega arith), (hb.1, hc, omega arith, omega arith), omega arith, omega arith),
    omega
        arith,
  )

  rotated_right_tall : (l : Tree P R) (s : ℕ) (p : P) (r : Tree P R) → Balanced l → Balanced r → tall l ≡ 2 + tall r
      → Evened (rotated_right m l s p r) l r
  rotated_right_tall leaf s p r hl hr two = absurd (omega arith)
  rotated_right_tall (node a k q v b) s p r hl hr two = go (ltb (tall a) (tall b)) refl
    where
      go : (t : Bool) → ltb (tall a) (tall b) ≡ t
          → Evened (cond t (rotated_twice m a k q b s p r) (linked m a k q (linked m b s p r))) (node a k q v b) r
      go true is =
          let lt : tall a < tall b = grind (arith, nat_tests) in
          let w = twice_tall a k q b s p r hl.0 hl.1 hr (omega arith) (omega arith) in
          record { balanced = w.0; low = omega arith; high = omega arith; plain = λ x y. omega arith }
      go false is =
          let ge : tall b ≤ tall a = grind (arith, nat_tests) in
          record {
            balanced = (hl.0, (hl.1, hr, omega arith, omega arith), omega arith, omega arith);
            low = omega arith;
            high = omega arith;
            plain = λ x y. omega arith;
          }

  rotated_left_tall : (l : Tree P R) (s : ℕ) (p : P) (r : Tree P R) → Balanced l → Balanced r → tall r ≡ 2 + tall l
      → Evened (rotated_left m l s p r) l r
  rotated_left_tall l s p leaf hl hr two = absurd (omega arith)
  rotated_left_tall l s p (node a k q v b) hl hr two = go (ltb (tall b) (tall a)) refl
    where
      go : (t : Bool) → ltb (tall b) (tall a) ≡ t
          → Evened (cond t (rotated_twice m l s p a k q b) (linked m (linked m l s p a) k q b)) l (node a k q v b)
      go true is =
          let lt : tall b < tall a = grind (arith, nat_tests) in
          let w = twice_tall l s p a k q b hl hr.0 hr.1 (omega arith) (omega arith) in
          record { balanced = w.0; low = omega arith; high = omega arith; plain = λ x y. omega arith }
      go false is =
          let ge : tall a ≤ tall b = grind (arith, nat_tests) in
          record {
            balanced = ((hl, hr.0, omega arith, omega arith), hr.1, omega arith, omega arith);
            low = omega arith;
            high = omega arith;
            plain = λ x y. omega arith;
          }

  pub even_tall : (l : Tree P R) (s : ℕ) (p : P) (r : Tree P R) → Balanced l → Balanced r → tall l ≤ 2 + tall r
      → tall r ≤ 2 + tall l → Evened (evened m l s p r) l r
  even_tall l s p r hl hr nl nr = go (ltb (1 + tall r) (tall l)) refl (ltb (1 + tall l) (tall r)) refl
    where
      go : (t : Bool) → ltb (1 + tall r) (tall l) ≡ t → (u : Bool) → ltb (1 + tall l) (tall r) ≡ u
          → Evened (cond t (rotated_right m l s p r) (cond u (rotated_left m l s p r) (linked m l s p r))) l r
      go true is u iu = rotated_right_tall l s p r hl hr (grind (arith, nat_tests))
      go false is true iu = rotated_left_tall l s p r hl hr (grind (arith, nat_tests))
      go false is false iu =
          record {
            balanced = (hl, hr, grind (arith, nat_tests), grind (arith, nat_tests));
            low = omega arith;
            high = omega
                arith;
            plain = λ x y. omega arith;
          }

-- The fewest nodes of a balanced tree of n levels.
abbrev least : ℕ → ℕ
least zero = 0
least (suc zero) = 1
least (suc (suc n)) = 1 + least (suc n) + least n

module _ {P R : Type 0} where
  deep : (n : ℕ) (t : Tree P R) → Balanced t → n ≤ tall t → least n ≤ size t
  deep zero t b h = omega arith
  deep (suc zero) leaf b h = absurd (omega arith)
  deep (suc zero) (node l s p v r) b h = omega arith
  deep (suc (suc n)) leaf b h = absurd (omega arith)
  deep (suc (suc n)) (node l s p v r) b h =
      go (dec_le (suc n) (tall l)) (deep (suc n) l b.0) (deep n l b.0) (deep (suc n) r b.1) (deep n r b.1)
    where
      go : Dec (suc n ≤ tall l) → (suc n ≤ tall l → least (suc n) ≤ size l) → (n ≤ tall l → least n ≤ size l)
          → (suc n ≤ tall r → least (suc n) ≤ size r) → (n ≤ tall r → least n ≤ size r)
          → 1 + least (suc n) + least n ≤ 1 + size l + size r
      go (yes lt) f g u w =
          let x : least (suc n) ≤ size l = f lt in let y : least n ≤ size r = w (omega arith) in omega arith
      go (no ge) f g u w =
          let x : least (suc n) ≤ size r = u (omega arith) in let y : least n ≤ size l = g (omega arith) in omega arith

  pub low : (t : Tree P R) → Balanced t → size t ≤ 4095 → tall t < 17
  low t b few = go (dec_le 17 (tall t))
    where
      go : Dec (17 ≤ tall t) → tall t < 17
      go (yes h) = let x : least 17 ≤ size t = deep 17 t b h in absurd (omega arith)
      go (no h) = omega arith
