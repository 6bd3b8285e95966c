-- What the slots hold after a set has left.
use Rattle.std.proofs.Common.{◌≡◌, ℕ, ◌+◌, ◌≤◌, Bool, true, false, cond, eqb, ◌⊎◌, List, [], ◌∷◌, set, Some, None, Option, sym, refl, ap, ◌∙◌, subst, inl, inr, ⊎_elim, arith}
use mathlib.Core.Bool.{false≢true}
use native.Mathlib.Decide.{ℕ_discrete}
use Rattle.std.proofs.lemmas.Bool.Decides.{nat_tests}
use Rattle.std.specs.List.{slice_get}
use Rattle.kinds.specs.Rules.{Model}
use Rattle.tree.specs.declared.node.Node.{Node}
use Rattle.tree.specs.Slots.{at, count_of, idle}
use Rattle.tree.specs.Tree.{Tree, leaf, node, size, row_of, times, Balanced, Holds}
use Rattle.tree.specs.Shapes.{evened, fused, shrunk}
use Rattle.tree.specs.Contracted.{one, Done}
use Rattle.tree.specs.Rows.{often, without, find}
use Rattle.buckets.specs.Rows.{entry, In, later, ahead, Sorted, AllAdmitted, AheadLaws}
use Rattle.buckets.specs.declared.Entry.{Entry}
use Rattle.tree.specs.Whole.{in_use, place_in, row_in, ShapeAt, OrderlyAt, Orderly}
use Rattle.tree.proofs.Held.{nth_set_other, at_some, at_nth, at_other, at_same, holds_set}
use Rattle.tree.proofs.Balance.{same_even}
use Rattle.tree.proofs.Shrinking.{smaller, fuses, joined_shrunk}
use Rattle.tree.proofs.Order.{in_cons, in_first, often_row}
use Rattle.tree.proofs.Without.{row_shrunk}
use Rattle.tree.proofs.Writes.{one_same, one_other}
use Rattle.tree.proofs.Shape.{mark_one, shape_tree}
use Rattle.tree.proofs.Presence.{in_found, held_at, unused_mark, view_row, mark_at, marked_held, mark_low, present}

module _ {P : Type 0} where
  find_without : (j s : ℕ) (es : List (Entry P)) → find j (without s es) ≡ cond (eqb j s) None (find j es)
  find_without j s [] = go (eqb j s)
    where
      go : (b : Bool) → ◌≡◌ {A = Option P} None (cond b None None)
      go true = refl
      go false = refl
  find_without j s (e ∷ es) = go (eqb s e.set) refl (eqb j e.set) refl (eqb j s) refl (find_without j s es)
    where
      go : (a : Bool) → eqb s e.set ≡ a → (b : Bool) → eqb j e.set ≡ b → (c : Bool) → eqb j s ≡ c
          → find j (without s es) ≡ cond (eqb j s) None (find j es)
          → find j (cond a (without s es) (e ∷ without s es)) ≡ cond (eqb j s) None
          (cond b (Some e.place) (find j es))
      go true x true y true z ih =
          ih ∙ ap (λ t. cond t None (find j es)) z ∙ sym (ap (λ t. cond t None (Some e.place)) z)
      go true x true y false z ih = absurd (grind (arith, nat_tests))
      go true x false y c z ih = ih
      go false x true y true z ih = absurd (grind (arith, nat_tests))
      go false x true y false z ih =
          ap (λ t. cond t (Some e.place) (find j (without s es))) y ∙ sym (ap (λ t. cond t None (Some e.place)) z)
      go false x false y c z ih = ap (λ t. cond t (Some e.place) (find j (without s es))) y ∙ ih

  in_without : (f : Entry P) (s : ℕ) (es : List (Entry P)) → In f (without s es) → In f es
  in_without f s [] i = i
  in_without f s (e ∷ es) i = go (eqb s e.set) i (in_without f s es)
    where
      go : (b : Bool) → In f (cond b (without s es) (e ∷ without s es)) → (In f (without s es) → In f es)
          → In f (e ∷ es)
      go true i ih = later (ih i)
      go false i ih = ⊎_elim (λ q. in_first es q) (λ k. later (ih k)) (in_cons i)

  often_without : (s : ℕ) (es : List (Entry P)) → often s (without s es) ≡ 0
  often_without s [] = refl
  often_without s (e ∷ es) = go (eqb s e.set) refl (often_without s es)
    where
      go : (b : Bool) → eqb s e.set ≡ b → often s (without s es) ≡ 0
          → often s (cond b (without s es) (e ∷ without s es)) ≡ 0
      go true x ih = ih
      go false x ih = let a : one s e.set ≡ 0 = grind (arith, nat_tests) in omega arith

module _ {P R : Type 0} (m : Model P R) where
  -- Slot s is gone from the tree, or none is.
  abbrev Went : ℕ → Tree P R → Tree P R → Type 0
  Went s t u =
      (((j : ℕ) → times j t ≡ times j u + one j s) × (size t ≡ 1 + size u)) ⊎
      (((j : ℕ) → times j u ≡ times j t) × (size u ≡ size t))

  went_left : (s : ℕ) (l u : Tree P R) (k : ℕ) (q : P) (v : R) (r : Tree P R) → Went s l u
      → Went s (node l k q v r) (evened m u k q r)
  went_left s l u k q v r (inl w) =
      let x = same_even m u k q r in inl (λ j. omega (arith, w.0 j, x.slots j), omega (arith, w.1, x.sizes))
  went_left s l u k q v r (inr w) =
      let x = same_even m u k q r in inr (λ j. omega (arith, w.0 j, x.slots j), omega (arith, w.1, x.sizes))

  went_right : (s : ℕ) (l : Tree P R) (k : ℕ) (q : P) (v : R) (r u : Tree P R) → Went s r u
      → Went s (node l k q v r) (evened m l k q u)
  went_right s l k q v r u (inl w) =
      let x = same_even m l k q u in inl (λ j. omega (arith, w.0 j, x.slots j), omega (arith, w.1, x.sizes))
  went_right s l k q v r u (inr w) =
      let x = same_even m l k q u in inr (λ j. omega (arith, w.0 j, x.slots j), omega (arith, w.1, x.sizes))

  went : (p : P) (s : ℕ) (t : Tree P R) → Balanced t → Went s t (shrunk m p s t)
  went p s leaf b = inr (λ j. refl, refl)
  went p s (node l k q v r) b =
      go (eqb s k) refl (ahead m (entry s p) (entry k q)) (went p s l b.0) (went p s r b.1)
    where
      go : (c : Bool) → eqb s k ≡ c → (d : Bool) → Went s l (shrunk m p s l) → Went s r (shrunk m p s r)
          → Went s (node l k q v r)
          (cond c (fused m l r) (cond d (evened m (shrunk m p s l) k q r) (evened m l k q (shrunk m p s r))))
      go true is d x y =
          let e : s ≡ k = grind (arith, nat_tests) in
          let w = fuses m l r k q v b in
          inl (
            λ j. let a : one j k ≡ one j s = ap (one j) (sym e) in omega (arith, w.slots j),
            omega
                (arith, w.sizes),
          )
      go false is true x y = went_left s l (shrunk m p s l) k q v r x
      go false is false x y = went_right s l k q v r (shrunk m p s r) y

module _ {P R : Type 0} (m : Model P R) where
  sorted_without : (s : ℕ) (es : List (Entry P)) → Sorted m es → Sorted m (without s es)
  sorted_without s [] h = tt
  sorted_without s (e ∷ es) h = go (eqb s e.set) (sorted_without s es h.1)
    where
      go : (b : Bool) → Sorted m (without s es) → Sorted m (cond b (without s es) (e ∷ without s es))
      go true ih = ih
      go false ih = ((λ f i. h.0 f (in_without f s es i)), ih)

  admitted_without : (s : ℕ) (es : List (Entry P)) → AllAdmitted m es → AllAdmitted m (without s es)
  admitted_without s es h f i = h f (in_without f s es i)

module _ {P R : Type 0} (m : Model P R) (s : ℕ) (p : P) {ns ms : List (Node P R)} {root res : ℕ} {t : Tree P R}
    (y : ShapeAt ns root t) (there : place_in ns s ≡ Some p) (d : Done ns ms res (shrunk m p s t)) where
  once : times s t ≡ 1
  once = y.marked s ∙ ap (λ b. cond b 1 0) (present ns s p there)

  apart : (j : ℕ) → times j t ≤ 1
  apart j = omega (arith, y.marked j, mark_one ns j)

  at_kept : (j : ℕ) → times j (shrunk m p s t) ≡ 0 → at ms j ≡ at ns j
  at_kept j z = at_nth ns ms j (d.kept j z)

  -- Where no slot went, the shape stays.
  pub shape_stays : size (shrunk m p s t) ≡ size t → ShapeAt ms res (shrunk m p s t)
  shape_stays same = go (went m p s t y.balanced)
    where
      go : Went m s t (shrunk m p s t) → ShapeAt ms res (shrunk m p s t)
      go (inl w) = absurd (omega (arith, w.1))
      go (inr w) =
          record {
            root_is = d.root;
            held = d.held;
            balanced = (smaller m p s t y.balanced).balanced;
            marked = marked_held ms (shrunk m p s t) d.held (λ j. omega (arith, w.0 j, apart j))
                (λ j lt. mark_low ns j (omega (arith, w.0 j, y.marked j)))
                (λ j off. mark_at ns ms j (at_kept j off) ∙ sym (y.marked j) ∙ sym (w.0 j) ∙ off);
          }

  slots_went : (size (shrunk m p s t) ≡ size t → ⊥) → (j : ℕ) → times j t ≡ times j (shrunk m p s t) + one j s
  slots_went ne = go (went m p s t y.balanced)
    where
      go : Went m s t (shrunk m p s t) → (j : ℕ) → times j t ≡ times j (shrunk m p s t) + one j s
      go (inl w) = w.0
      go (inr w) = absurd (ne w.1)

  away : (size (shrunk m p s t) ≡ size t → ⊥) → times s (shrunk m p s t) ≡ 0
  away ne = omega (arith, slots_went ne s, once, one_same s)

  -- The node that was there.
  pub was : (size (shrunk m p s t) ≡ size t → ⊥) → (x : Node P R) × (at ms s ≡ Some x)
  was ne = let w = held_at ns t s y.held (omega (arith, once)) in (w.0, at_kept s (away ne) ∙ w.1)

  pub shape_went : (ne : size (shrunk m p s t) ≡ size t → ⊥)
      → ShapeAt (set ms s (idle (was ne).0)) res (shrunk m p s t)
  shape_went ne =
      let x = (was ne).0 in
      let pos = at_some ms s x (was ne).1 in
      let w = slots_went ne in
      let h : Holds (set ms s (idle x)) (shrunk m p s t) = holds_set ms s (idle x) (shrunk m p s t) (away ne) d.held
      in
      record {
        root_is = d.root;
        held = h;
        balanced = (smaller m p s t y.balanced).balanced;
        marked = marked_held (set ms s (idle x)) (shrunk m p s t) h (λ j. omega (arith, w j, apart j))
            (λ j lt. mark_low ns j (omega (arith, w j, y.marked j)))
            (λ j off. elim (ℕ_discrete j s) [
              | yes e ↦ (let z : count_of (at (set ms s (idle x)) j) ≡ 0 = ap (λ i. count_of (at (set ms s (idle x)) i)) e
                  ∙ ap count_of (at_same ms s (idle x) pos.0 pos.1) in grind (arith, nat_tests))
              | no e ↦ mark_at ns (set ms s (idle x)) j (at_other ms s j (idle x) (λ i. e (sym i)) ∙ at_kept j off)
                  ∙ sym (y.marked j) ∙ omega (arith, w j, one_other j s e)
            ]);
      }

  pub others_stay : (j : ℕ) → in_use ns j ≡ false → slice_get ms j ≡ slice_get ns j
  others_stay j off =
      d.kept j (omega (arith, (smaller m p s t y.balanced).slots j, y.marked j, unused_mark ns j off))

  pub others_went : (x : Node P R) (j : ℕ) → in_use ns j ≡ false → slice_get (set ms s x) j ≡ slice_get ns j
  others_went x j off =
      nth_set_other ms s j x (λ e. false≢true (sym off ∙ ap (in_use ns) (sym e) ∙ present ns s p there))
      ∙ others_stay j off

  module _ (laws : AheadLaws m) (ord : Orderly m ns root) where
    ord_t : OrderlyAt m t
    ord_t = subst (OrderlyAt m) (shape_tree ns root t y) ord

    pub row_went : row_of (shrunk m p s t) ≡ without s (row_of t)
    row_went =
        row_shrunk m laws p s t y.balanced apart ord_t.sorted ord_t.admitted
        (in_found s p (row_of t) (sym (view_row ns root t y s) ∙ there))

    -- The search finds what is present.
    pub found : size (shrunk m p s t) ≡ size t → ⊥
    found same = go (went m p s t y.balanced)
      where
        z : times s (shrunk m p s t) ≡ 0
        z = sym (often_row s (shrunk m p s t)) ∙ ap (often s) row_went ∙ often_without s (row_of t)

        go : Went m s t (shrunk m p s t) → ⊥
        go (inl w) = omega (arith, w.1)
        go (inr w) = omega (arith, w.0 s, z, once)

    pub view_went : (ns₂ : List (Node P R)) → ShapeAt ns₂ res (shrunk m p s t) → (j : ℕ)
        → place_in ns₂ j ≡ cond (eqb j s) None (place_in ns j)
    view_went ns₂ z j =
        view_row ns₂ res (shrunk m p s t) z j ∙ ap (find j) row_went ∙ find_without j s (row_of t)
        ∙ ap (λ o. cond (eqb j s) None o) (sym (view_row ns root t y j))

    pub order_went : (ns₂ : List (Node P R)) → ShapeAt ns₂ res (shrunk m p s t)
        → Orderly m ns₂ res × (row_in ns₂ res ≡ without s (row_in ns root))
    order_went ns₂ z =
        let eu = shape_tree ns₂ res (shrunk m p s t) z in
        let u : OrderlyAt m (shrunk m p s t) = record {
          sorted = subst (Sorted m) (sym row_went) (sorted_without m s (row_of t) ord_t.sorted);
          admitted = subst (AllAdmitted m) (sym row_went) (admitted_without m s (row_of t) ord_t.admitted);
          joined = joined_shrunk m p s t ord_t.joined;
        } in (
          subst (OrderlyAt m) (sym eu) u,
          ap row_of eu ∙ row_went
              ∙ ap (λ v. without s (row_of v)) (sym (shape_tree ns root t y)),
        )
