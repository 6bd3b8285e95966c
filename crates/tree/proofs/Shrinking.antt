-- The tree with one entry less: balanced, and not much lower.
use Rattle.std.proofs.Common.{◌≡◌, ℕ, ◌+◌, ◌≤◌, Bool, true, false, cond, eqb, ◌∷◌, ◌++◌, sym, refl, ap, ◌∙◌, arith}
use Rattle.std.proofs.lemmas.List.{append-nil}
use native.Mathlib.Decide.{dec_le}
use Rattle.kinds.specs.Rules.{Model}
use Rattle.tree.specs.Tree.{Tree, leaf, node, tall, size, row_of, times, Balanced, Joined}
use Rattle.buckets.specs.Rows.{entry, ahead}
use Rattle.tree.specs.Shapes.{evened, head_slot, head_place, pull, fused, shrunk}
use Rattle.tree.specs.Contracted.{one}
use Rattle.tree.proofs.Balance.{same_even, joined_even, even_tall}

module _ {P R : Type 0} where
  -- u is t with at most one entry less.
  pub record Smaller (t u : Tree P R) : Type 0 where
    pub balanced : Balanced u
    pub low : tall u ≤ tall t
    pub high : tall t ≤ 1 + tall u
    pub slots : (j : ℕ) → times j u ≤ times j t
    pub sizes : size u ≤ size t

module _ {P R : Type 0} (m : Model P R) where
  pub smaller_left : (l u : Tree P R) (k : ℕ) (q : P) (v : R) (r : Tree P R) → Balanced (node l k q v r) → Smaller l u
      → Smaller (node l k q v r) (evened m u k q r)
  smaller_left l u k q v r b g =
      let w = even_tall m u k q r g.balanced b.1 (omega arith) (omega arith) in
      let x = same_even m u k q r in
      record {
        balanced = w.balanced;
        low = omega arith;
        high = elim (dec_le (tall r) (1 + tall u))
            [ yes y ↦ omega (arith, w.plain (omega arith) y) | no y ↦ omega arith ];
        slots = λ j. omega (arith, x.slots j, g.slots j);
        sizes = omega arith;
      }

  pub smaller_right : (l : Tree P R) (k : ℕ) (q : P) (v : R) (r u : Tree P R) → Balanced (node l k q v r) → Smaller r u
      → Smaller (node l k q v r) (evened m l k q u)
  smaller_right l k q v r u b g =
      let w = even_tall m l k q u b.0 g.balanced (omega arith) (omega arith) in
      let x = same_even m l k q u in
      record {
        balanced = w.balanced;
        low = omega arith;
        high = elim (dec_le (tall l) (1 + tall u))
            [ yes y ↦ omega (arith, w.plain y (omega arith)) | no y ↦ omega arith ];
        slots = λ j. omega (arith, x.slots j, g.slots j);
        sizes = omega arith;
      }

  -- A node without its first entry.
  pub record Headed (a : Tree P R) (k : ℕ) (q : P) (v : R) (b : Tree P R) : Type 0 where
    pub smaller : Smaller (node a k q v b) (pull m a k q b)
    pub rows : row_of (node a k q v b) ≡ entry (head_slot a k) (head_place a q) ∷ row_of (pull m a k q b)
    pub slots : (j : ℕ) → times j (node a k q v b) ≡ one j (head_slot a k) + times j (pull m a k q b)
    pub sizes : size (node a k q v b) ≡ 1 + size (pull m a k q b)

  pub headed : (a : Tree P R) (k : ℕ) (q : P) (v : R) (b : Tree P R) → Balanced (node a k q v b) → Headed a k q v b
  headed leaf k q v b h =
      record {
        smaller = record {
          balanced = h.1;
          low = omega arith;
          high = omega arith;
          slots = λ j. omega arith;
          sizes =
              omega arith;
        };
        rows = refl;
        slots = λ j. omega arith;
        sizes = omega arith;
      }
  headed (node a i o w c) k q v b h =
      let ih = headed a i o w c h.0 in
      let x = same_even m (pull m a i o c) k q b in
      record {
        smaller = smaller_left (node a i o w c) (pull m a i o c) k q v b h ih.smaller;
        rows = ap (λ z. z ++ (entry k q ∷ row_of b)) ih.rows
            ∙ ap (λ z. entry (head_slot a i) (head_place a o) ∷ z) (sym x.rows);
        slots = λ j. omega (arith, ih.slots j, x.slots j);
        sizes = omega (arith, ih.sizes, x.sizes);
      }

  -- Two trees made one.
  pub record Fused (l r : Tree P R) (k : ℕ) (q : P) (v : R) (t : Tree P R) : Type 0 where
    pub smaller : Smaller (node l k q v r) t
    pub rows : row_of t ≡ row_of l ++ row_of r
    pub slots : (j : ℕ) → times j t ≡ times j l + times j r
    pub sizes : size t ≡ size l + size r

  pub fuses : (l r : Tree P R) (k : ℕ) (q : P) (v : R) → Balanced (node l k q v r) → Fused l r k q v (fused m l r)
  fuses l leaf k q v h =
      record {
        smaller = record {
          balanced = h.0;
          low = omega arith;
          high = omega arith;
          slots = λ j. omega arith;
          sizes =
              omega arith;
        };
        rows = sym (append-nil (row_of l));
        slots = λ j. omega arith;
        sizes = omega arith;
      }
  fuses l (node a i o w b) k q v h =
      let ih = headed a i o w b h.1 in
      let w₀ = smaller_right l k q v (node a i o w b) (pull m a i o b) h ih.smaller in
      let w' = smaller_right l (head_slot a i) (head_place a o) v (node a i o w b) (pull m a i o b) h ih.smaller in
      let x = same_even m l (head_slot a i) (head_place a o) (pull m a i o b) in
      record {
        smaller = record {
          balanced = w'.balanced;
          low = w'.low;
          high = w'.high;
          slots = λ j. omega
              (arith, ih.slots j, x.slots j);
          sizes = omega (arith, ih.sizes, x.sizes);
        };
        rows = x.rows ∙ ap (λ z. row_of l ++ z) (sym ih.rows);
        slots = λ j. omega (arith, ih.slots j, x.slots j);
        sizes = omega (arith, ih.sizes, x.sizes);
      }

module _ {P R : Type 0} (m : Model P R) (p : P) (s : ℕ) where
  pub smaller : (t : Tree P R) → Balanced t → Smaller t (shrunk m p s t)
  smaller leaf b =
      record { balanced = tt; low = omega arith; high = omega arith; slots = λ j. omega arith; sizes = omega arith }
  smaller (node l k q v r) b = go (eqb s k) (ahead m (entry s p) (entry k q)) (smaller l b.0) (smaller r b.1)
    where
      go : (t u : Bool) → Smaller l (shrunk m p s l) → Smaller r (shrunk m p s r)
          → Smaller (node l k q v r)
          (cond t (fused m l r) (cond u (evened m (shrunk m p s l) k q r) (evened m l k q (shrunk m p s r))))
      go true u x y = (fuses m l r k q v b).smaller
      go false true x y = smaller_left m l (shrunk m p s l) k q v r b x
      go false false x y = smaller_right m l k q v r (shrunk m p s r) b y

module _ {P R : Type 0} (m : Model P R) where
  pub joined_pull : (a : Tree P R) (k : ℕ) (q : P) (b : Tree P R) → Joined m a → Joined m b → Joined m (pull m a k q b)
  joined_pull leaf k q b x y = y
  joined_pull (node a i o v c) k q b x y = joined_even m (pull m a i o c) k q b (joined_pull a i o c x.0 x.1) y

  joined_fused : (l r : Tree P R) → Joined m l → Joined m r → Joined m (fused m l r)
  joined_fused l leaf x y = x
  joined_fused l (node a k q v b) x y =
      joined_even m l (head_slot a k) (head_place a q) (pull m a k q b) x (joined_pull a k q b y.0 y.1)

  pub joined_shrunk : (p : P) (s : ℕ) (t : Tree P R) → Joined m t → Joined m (shrunk m p s t)
  joined_shrunk p s leaf h = tt
  joined_shrunk p s (node l k q v r) h =
      go (eqb s k) (ahead m (entry s p) (entry k q)) (joined_shrunk p s l h.0) (joined_shrunk p s r h.1)
    where
      go : (t u : Bool) → Joined m (shrunk m p s l) → Joined m (shrunk m p s r)
          → Joined m (cond t (fused m l r) (cond u (evened m (shrunk m p s l) k q r) (evened m l k q (shrunk m p s r))))
      go true u x y = joined_fused l r h.0 h.1
      go false true x y = joined_even m (shrunk m p s l) k q r x h.1
      go false false x y = joined_even m l k q (shrunk m p s r) h.0 y
