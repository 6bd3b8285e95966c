-- What the slots hold after a set has entered.
use Rattle.std.proofs.Common.{◌≡◌, ℕ, ◌+◌, ◌<◌, ◌≤◌, Bool, true, false, cond, eqb, List, ◌∷◌, ◌++◌, Some, Option, sym, refl, ap, ◌∙◌, subst, ap₂, arith}
use native.Mathlib.Decide.{ℕ_discrete}
use Rattle.std.proofs.lemmas.Bool.Decides.{nat_tests}
use Rattle.std.specs.List.{slice_get}
use Rattle.kinds.specs.Rules.{Model, Admitted}
use Rattle.tree.specs.declared.node.Node.{Node}
use Rattle.tree.specs.Tree.{Tree, leaf, node, row_of, times}
use Rattle.tree.specs.Shapes.{evened, grown}
use Rattle.tree.specs.Contracted.{one, GrowAt, Done}
use Rattle.tree.specs.Rows.{often, find}
use Rattle.buckets.specs.Rows.{entry, ahead, inserted, Sorted, AllAdmitted, AheadLaws}
use Rattle.buckets.specs.declared.Entry.{Entry}
use Rattle.tree.specs.Whole.{capacity, in_use, place_in, row_in, ShapeAt, OrderlyAt, Orderly}
use Rattle.tree.proofs.Held.{at_nth}
use Rattle.tree.proofs.Balance.{same_even, low}
use Rattle.tree.proofs.Growing.{larger, joined_grown}
use Rattle.tree.proofs.Order.{row_grown, sorted_inserted, admitted_inserted, often_row}
use Rattle.tree.proofs.Room.{room_for}
use Rattle.tree.proofs.Writes.{one_other}
use Rattle.tree.proofs.Shape.{mark_one, mark_high, shape_tree}
use Rattle.tree.proofs.Presence.{alt, find_append, find_none, unused_mark, view_row, mark_at, marked_held, mark_low}

apart_new : (j s : ℕ) (f : ℕ → ℕ) → ((k : ℕ) → f k ≤ 1) → f s ≡ 0 → f j + one j s ≤ 1
apart_new j s f h z = go (ℕ_discrete j s)
  where
    go : Dec (j ≡ s) → f j + one j s ≤ 1
    go (yes e) = let a : f j ≡ 0 = ap f e ∙ z in let b : one j s ≤ 1 = grind (arith, nat_tests) in omega arith
    go (no e) = omega (arith, h j, one_other j s e)

module _ {P R : Type 0} (m : Model P R) where
  -- A tree may grow by a slot that is not in use.
  pub shape_grow : (ns : List (Node P R)) (root s : ℕ) (t : Tree P R) → ShapeAt ns root t → in_use ns s ≡ false → 0 < s
      → s ≤ capacity ns → GrowAt ns s root t
  shape_grow ns root s t y off pos le =
      let z : times s t ≡ 0 = y.marked s ∙ unused_mark ns s off in
      let ap₀ : (j : ℕ) → times j t + one j s ≤ 1 = λ j. apart_new j s (λ k. times k t)
      (λ k. omega (arith, y.marked k, mark_one ns k)) z in
      record {
        root_is = y.root_is;
        held = y.held;
        apart = ap₀;
        pos = pos;
        within = omega arith;
        few = room_for ns t s y.held ap₀ pos (omega arith) (λ j far. y.marked j ∙ mark_high ns j far) (omega arith);
        balanced = y.balanced;
      }

  pub grown_shape : (ns ms : List (Node P R)) (root res s : ℕ) (p : P) (t : Tree P R) → ShapeAt ns root t
      → GrowAt ns s root t → s < 4096 → Done ns ms res (grown m p s t) → ShapeAt ms res (grown m p s t)
  grown_shape ns ms root res s p t y z low d =
      let w = larger m p s t y.balanced in
      record {
        root_is = d.root;
        held = d.held;
        balanced = w.balanced;
        marked = marked_held ms (grown m p s t) d.held (λ j. omega (arith, w.slots j, z.apart j))
            (λ j lt. elim (ℕ_discrete j s) [
              | yes e ↦ omega arith
              | no e ↦ mark_low ns j
                  (omega (arith, w.slots j, one_other j s e, y.marked j))
            ])
            (λ j off. mark_at ns ms j (at_nth ns ms j (d.kept j off)) ∙ sym (y.marked j) ∙ omega (arith, w.slots j));
      }

  find_grown : (p : P) (s : ℕ) (t : Tree P R) → times s t ≡ 0 → (j : ℕ)
      → find j (row_of (grown m p s t)) ≡ cond (eqb j s) (Some p) (find j (row_of t))
  find_grown p s leaf z j = refl
  find_grown p s (node l k q v r) z j =
      go (ahead m (entry s p) (entry k q)) (find_grown p s l (omega arith) j) (find_grown p s r (omega arith) j)
    where
      f : Entry P
      f = entry k q

      old : find j (row_of l ++ (entry k q ∷ row_of r)) ≡ alt (find j (row_of l))
          (cond (eqb j k) (Some q) (find j (row_of r)))
      old = find_append j (row_of l) (entry k q ∷ row_of r)

      goes : (b : Bool) → eqb j s ≡ b → find j (row_of (grown m p s r)) ≡ cond (eqb j s) (Some p) (find j (row_of r))
          → alt (find j (row_of l)) (cond (eqb j k) (Some q) (find j (row_of (grown m p s r)))) ≡ cond b (Some p)
          (alt (find j (row_of l)) (cond (eqb j k) (Some q) (find j (row_of r))))
      goes true is y =
          let e : j ≡ s = grind (arith, nat_tests) in
          let zl : times j l ≡ 0 = ap (λ i. times i l) e ∙ omega arith in
          let test : eqb j k ≡ false = grind (arith, nat_tests) in
          ap₂ (λ o b. alt o (cond b (Some q) (find j (row_of (grown m p s r)))))
          (find_none j (row_of l) (often_row j l ∙ zl)) test
          ∙ y ∙ ap (λ b. cond b (Some p) (find j (row_of r))) is
      goes false is y =
          ap (λ o. alt (find j (row_of l)) (cond (eqb j k) (Some q) o))
          (y ∙ ap (λ b. cond b (Some p) (find j (row_of r))) is)

      left : (b : Bool) → (X Y : Option P) → alt (cond b (Some p) X) Y ≡ cond b (Some p) (alt X Y)
      left true X Y = refl
      left false X Y = refl

      go : (b : Bool) → find j (row_of (grown m p s l)) ≡ cond (eqb j s) (Some p) (find j (row_of l))
          → find j (row_of (grown m p s r)) ≡ cond (eqb j s) (Some p) (find j (row_of r))
          → find j (row_of (cond b (evened m (grown m p s l) k q r) (evened m l k q (grown m p s r)))) ≡ cond (eqb j s)
          (Some p) (find j (row_of l ++ (entry k q ∷ row_of r)))
      go true x y =
          ap (find j) (same_even m (grown m p s l) k q r).rows
          ∙ find_append j (row_of (grown m p s l)) (entry k q ∷ row_of r)
          ∙ ap (λ o. alt o (cond (eqb j k) (Some q) (find j (row_of r)))) x
          ∙ left (eqb j s) (find j (row_of l)) (cond (eqb j k) (Some q) (find j (row_of r)))
          ∙ ap (λ o. cond (eqb j s) (Some p) o) (sym (find_append j (row_of l) (entry k q ∷ row_of r)))
      go false x y =
          ap (find j) (same_even m l k q (grown m p s r)).rows
          ∙ find_append j (row_of l) (entry k q ∷ row_of (grown m p s r))
          ∙ goes (eqb j s) refl y
          ∙ ap (λ o. cond (eqb j s) (Some p) o) (sym (find_append j (row_of l) (entry k q ∷ row_of r)))

  -- What `enter` promises of the view.
  pub view_grown : (ns ms : List (Node P R)) (root res s : ℕ) (p : P) (t : Tree P R) → ShapeAt ns root t
      → ShapeAt ms res (grown m p s t) → in_use ns s ≡ false → (j : ℕ)
      → place_in ms j ≡ cond (eqb j s) (Some p) (place_in ns j)
  view_grown ns ms root res s p t y z off j =
      view_row ms res (grown m p s t) z j ∙ find_grown p s t (y.marked s ∙ unused_mark ns s off) j
      ∙ ap (λ o. cond (eqb j s) (Some p) o) (sym (view_row ns root t y j))

  pub others_kept : (ns ms : List (Node P R)) (res : ℕ) (t : Tree P R) → ShapeAt ms res t → Done ns ms res t → (j : ℕ)
      → in_use ms j ≡ false → slice_get ms j ≡ slice_get ns j
  others_kept ns ms res t z d j off = d.kept j (z.marked j ∙ unused_mark ms j off)

  pub order_grown : AheadLaws m → (ns ms : List (Node P R)) (root res s : ℕ) (p : P) (t : Tree P R) → ShapeAt ns root t
      → ShapeAt ms res (grown m p s t) → in_use ns s ≡ false → Orderly m ns root → Admitted m p
      → Orderly m ms res × (row_in ms res ≡ inserted m (entry s p) (row_in ns root))
  order_grown laws ns ms root res s p t y z off ord o =
      let et = shape_tree ns root t y in
      let eu = shape_tree ms res (grown m p s t) z in
      let w : OrderlyAt m t = subst (OrderlyAt m) et ord in
      let is = row_grown m laws p s t o w.admitted w.sorted in
      let fresh : often s (row_of t) ≡ 0 = often_row s t ∙ y.marked s ∙ unused_mark ns s off in
      let u : OrderlyAt m (grown m p s t) = record {
        sorted = subst (Sorted m) (sym is)
            (sorted_inserted m laws (entry s p) (row_of t) o w.admitted fresh w.sorted);
        admitted = subst (AllAdmitted m) (sym is) (admitted_inserted m (entry s p) (row_of t) o w.admitted);
        joined = joined_grown m p s t w.joined;
      } in
      (subst (OrderlyAt m) (sym eu) u, ap row_of eu ∙ is ∙ ap (λ v. inserted m (entry s p) (row_of v)) (sym et))
