-- The tree with one more entry: balanced, and not much taller.
use Rattle.std.proofs.Common.{◌≡◌, ℕ, ◌+◌, ◌≤◌, Bool, true, false, cond, refl, arith}
use native.Mathlib.Decide.{dec_le}
use Rattle.kinds.specs.Rules.{Model}
use Rattle.tree.specs.Tree.{Tree, leaf, node, tall, size, times, Balanced, Joined}
use Rattle.buckets.specs.Rows.{entry, ahead}
use Rattle.tree.specs.Shapes.{evened, grown}
use Rattle.tree.specs.Contracted.{one}
use Rattle.tree.proofs.Balance.{same_even, joined_even, even_tall}

-- u is t with the slot s more.
pub record Larger {P R : Type 0} (s : ℕ) (t u : Tree P R) : Type 0 where
  pub balanced : Balanced u
  pub low : tall u ≤ 1 + tall t
  pub high : tall t ≤ tall u
  pub slots : (j : ℕ) → times j u ≡ times j t + one j s
  pub sizes : size u ≡ 1 + size t

module _ {P R : Type 0} (m : Model P R) (p : P) (s : ℕ) where
  larger_left : (l u : Tree P R) (k : ℕ) (q : P) (v : R) (r : Tree P R) → Balanced (node l k q v r) → Larger s l u
      → Larger s (node l k q v r) (evened m u k q r)
  larger_left l u k q v r b g =
      let w = even_tall m u k q r g.balanced b.1 (omega arith) (omega arith) in
      let x = same_even m u k q r in
      record {
        balanced = w.balanced;
        low = omega arith;
        high = elim (dec_le (tall u) (1 + tall r))
            [ yes x ↦ omega (arith, w.plain x (omega arith)) | no x ↦ omega arith ];
        slots = λ j. omega (arith, x.slots j, g.slots j);
        sizes = omega arith;
      }

  larger_right : (l : Tree P R) (k : ℕ) (q : P) (v : R) (r u : Tree P R) → Balanced (node l k q v r) → Larger s r u
      → Larger s (node l k q v r) (evened m l k q u)
  larger_right l k q v r u b g =
      let w = even_tall m l k q u b.0 g.balanced (omega arith) (omega arith) in
      let x = same_even m l k q u in
      record {
        balanced = w.balanced;
        low = omega arith;
        high = elim (dec_le (tall u) (1 + tall l))
            [ yes x ↦ omega (arith, w.plain (omega arith) x) | no x ↦ omega arith ];
        slots = λ j. omega (arith, x.slots j, g.slots j);
        sizes = omega arith;
      }

  pub larger : (t : Tree P R) → Balanced t → Larger s t (grown m p s t)
  larger leaf b =
      record {
        balanced = (tt, tt, omega arith, omega arith);
        low = omega arith;
        high = omega arith;
        slots = λ j. omega
            arith;
        sizes = omega arith;
      }
  larger (node l k q v r) b = go (ahead m (entry s p) (entry k q)) (larger l b.0) (larger r b.1)
    where
      go : (t : Bool) → Larger s l (grown m p s l) → Larger s r (grown m p s r)
          → Larger s (node l k q v r) (cond t (evened m (grown m p s l) k q r) (evened m l k q (grown m p s r)))
      go true x y = larger_left l (grown m p s l) k q v r b x
      go false x y = larger_right l k q v r (grown m p s r) b y

  pub joined_grown : (t : Tree P R) → Joined m t → Joined m (grown m p s t)
  joined_grown leaf h = (tt, tt, refl)
  joined_grown (node l k q v r) h = go (ahead m (entry s p) (entry k q)) (joined_grown l h.0) (joined_grown r h.1)
    where
      go : (t : Bool) → Joined m (grown m p s l) → Joined m (grown m p s r)
          → Joined m (cond t (evened m (grown m p s l) k q r) (evened m l k q (grown m p s r)))
      go true x y = joined_even m (grown m p s l) k q r x h.1
      go false x y = joined_even m l k q (grown m p s r) h.0 y
