-- The rank of a set in the row.
use Rattle.std.proofs.Common.{◌≡◌, ℕ, zero, suc, ◌<◌, ◌≤◌, true, false, cond, eqb, List, [], ◌∷◌, Some, sym, ap, ◌∙◌, arith}
use Rattle.std.proofs.lemmas.Bool.Decides.{nat_tests}
use Rattle.std.specs.List.{slice_get}
use Rattle.kinds.specs.Rules.{Model}
use Rattle.tree.specs.declared.node.Node.{Node}
use Rattle.tree.specs.Tree.{Tree, row_of}
use Rattle.tree.specs.Shapes.{ranked}
use Rattle.tree.specs.Rows.{often}
use Rattle.buckets.specs.Rows.{entry, rank_of, AheadLaws}
use Rattle.buckets.specs.declared.Entry.{Entry}
use Rattle.tree.specs.Whole.{place_in, ShapeAt, OrderlyAt}
use Rattle.tree.proofs.Order.{often_row}
use Rattle.tree.proofs.Without.{ranked_nth}
use Rattle.tree.proofs.Shape.{mark_one}
use Rattle.tree.proofs.Presence.{in_found, view_row}

module _ {P : Type 0} where
  nth_often : (es : List (Entry P)) (r : ℕ) (e : Entry P) → slice_get es r ≡ Some e → 0 < often e.set es
  nth_often [] r e h = let z : ◌≡◌ {A = ℕ} 0 1 = cc in absurd (omega arith)
  nth_often (x ∷ xs) zero e h = let a : x.set ≡ e.set = cc in grind (arith, nat_tests)
  nth_often (x ∷ xs) (suc r) e h = omega (arith, nth_often xs r e h)

  -- Where an entry stands is its rank.
  pub rank_nth : (es : List (Entry P)) (r : ℕ) (e : Entry P) → often e.set es ≤ 1 → slice_get es r ≡ Some e
      → r ≡ rank_of e.set es
  rank_nth [] r e u h = let z : ◌≡◌ {A = ℕ} 0 1 = cc in absurd (omega arith)
  rank_nth (x ∷ xs) zero e u h =
      let a : x.set ≡ e.set = cc in
      let test : eqb x.set e.set ≡ true = grind (arith, nat_tests) in
      sym (ap (λ b. cond b 0 (suc (rank_of e.set xs))) test)
  rank_nth (x ∷ xs) (suc r) e u h =
      let a = nth_often xs r e h in
      let test : eqb x.set e.set ≡ false = grind (arith, nat_tests) in
      let ih = rank_nth xs r e (omega arith) h in
      let b : suc r ≡ suc (rank_of e.set xs) = omega arith in
      b ∙ sym (ap (λ b. cond b 0 (suc (rank_of e.set xs))) test)

module _ {P R : Type 0} (m : Model P R) (laws : AheadLaws m) where
  pub ranked_is : (ns : List (Node P R)) (root s : ℕ) (p : P) (t : Tree P R) → ShapeAt ns root t → place_in ns s ≡ Some p
      → OrderlyAt m t → ranked m p s t ≡ rank_of s (row_of t)
  ranked_is ns root s p t y there o =
      rank_nth (row_of t) (ranked m p s t) (entry s p) (omega (arith, often_row s t, y.marked s, mark_one ns s))
      (ranked_nth m laws p s t (λ j. omega (arith, y.marked j, mark_one ns j)) o.sorted o.admitted
      (in_found s p (row_of t) (sym (view_row ns root t y s) ∙ there)))
