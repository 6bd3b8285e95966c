-- Who is present where.
use Rattle.std.proofs.Common.{◌≡◌, ℕ, ◌<◌, ◌≤◌, min, Bool, true, false, cond, ◌&&◌, eqb, ltb, List, [], ◌∷◌, ◌++◌, length, Some, None, Option, sym, refl, ap, ◌∙◌, subst, arith}
use native.Mathlib.Decide.{ℕ_discrete, dec_lt}
use Rattle.std.proofs.lemmas.Bool.Decides.{nat_tests}
use Rattle.kinds.specs.Rules.{Model}
use Rattle.tree.specs.declared.node.Node.{Node}
use Rattle.tree.specs.Slots.{at, count_of, held_place}
use Rattle.tree.specs.Tree.{Tree, leaf, node, row_of, times, stored, Holds}
use Rattle.tree.specs.Contracted.{one, TreeAt}
use Rattle.tree.specs.Rows.{often, find}
use Rattle.buckets.specs.Rows.{entry, In, later}
use Rattle.buckets.specs.declared.Entry.{Entry}
use Rattle.tree.specs.Whole.{capacity, in_use, place_in, mark, tree_in, row_in, ShapeAt}
use Rattle.tree.proofs.Balance.{low}
use Rattle.tree.proofs.Order.{in_first, often_row}
use Rattle.tree.proofs.Writes.{one_other}
use Rattle.tree.proofs.Shape.{count_past, mark_one, shape_few}

module _ {X : Type 0} where
  abbrev pub alt : Option X → Option X → Option X
  alt None y = y
  alt (Some x) y = Some x

module _ {P : Type 0} where
  pub find_append : (j : ℕ) (xs ys : List (Entry P)) → find j (xs ++ ys) ≡ alt (find j xs) (find j ys)
  find_append j [] ys = refl
  find_append j (x ∷ xs) ys = go (eqb j x.set) (find_append j xs ys)
    where
      go : (b : Bool) → find j (xs ++ ys) ≡ alt (find j xs) (find j ys)
          → cond b (Some x.place) (find j (xs ++ ys)) ≡ alt (cond b (Some x.place) (find j xs)) (find j ys)
      go true ih = refl
      go false ih = ih

  pub find_none : (j : ℕ) (es : List (Entry P)) → often j es ≡ 0 → find j es ≡ None
  find_none j [] z = refl
  find_none j (e ∷ es) z =
      let test : eqb j e.set ≡ false = grind (arith, nat_tests) in
      ap (λ b. cond b (Some e.place) (find j es)) test ∙ find_none j es (omega arith)

  pub in_found : (j : ℕ) (p : P) (es : List (Entry P)) → find j es ≡ Some p → In (entry j p) es
  in_found j p [] h = let z : ◌≡◌ {A = ℕ} 0 1 = cc in absurd (omega arith)
  in_found j p (e ∷ es) h = go (eqb j e.set) refl h (in_found j p es)
    where
      go : (b : Bool) → eqb j e.set ≡ b → cond b (Some e.place) (find j es) ≡ Some p
          → (find j es ≡ Some p → In (entry j p) es) → In (entry j p) (e ∷ es)
      go true x y ih =
          let a : p ≡ e.place = cc in
          let b : j ≡ e.set = grind (arith, nat_tests) in
          in_first es (λ k. entry (b k) (a k))
      go false x y ih = later (ih y)

module _ {P R : Type 0} where
  -- A slot of a held tree.
  pub held_at : (ns : List (Node P R)) (t : Tree P R) (j : ℕ) → Holds ns t → 0 < times j t
      → (x : Node P R) × (at ns j ≡ Some x) × (0 < x.count)
  held_at ns leaf j h lt = absurd (omega arith)
  held_at ns (node l s p v r) j h lt =
      go (dec_lt 0 (times j l)) (dec_lt 0 (times j r)) (held_at ns l j h.1) (held_at ns r j h.2)
    where
      go : Dec (0 < times j l) → Dec (0 < times j r)
          → (0 < times j l → (x : Node P R) × (at ns j ≡ Some x) × (0 < x.count))
          → (0 < times j r → (x : Node P R) × (at ns j ≡ Some x) × (0 < x.count))
          → (x : Node P R) × (at ns j ≡ Some x) × (0 < x.count)
      go (yes a) b f g = f a
      go (no a) (yes b) f g = g b
      go (no a) (no b) f g =
          let e : j ≡ s = grind (arith, nat_tests) in
          (stored l p v r, ap (at ns) e ∙ h.0, omega arith)

  find_held : (ns : List (Node P R)) (t : Tree P R) (j : ℕ) → Holds ns t → 0 < times j t
      → find j (row_of t) ≡ held_place (at ns j)
  find_held ns leaf j h lt = absurd (omega arith)
  find_held ns (node l s p v r) j h lt =
      find_append j (row_of l) (entry s p ∷ row_of r)
      ∙ go (dec_lt 0 (times j l)) (find_held ns l j h.1) (find_held ns r j h.2) (ℕ_discrete j s)
    where
      go : Dec (0 < times j l) → (0 < times j l → find j (row_of l) ≡ held_place (at ns j))
          → (0 < times j r → find j (row_of r) ≡ held_place (at ns j)) → Dec (j ≡ s)
          → alt (find j (row_of l)) (cond (eqb j s) (Some p) (find j (row_of r))) ≡ held_place (at ns j)
      go (yes a) f g d =
          let w = held_at ns l j h.1 a in
          let e : find j (row_of l) ≡ Some w.0.place = f a ∙ ap held_place w.1 in
          ap (λ o. alt o (cond (eqb j s) (Some p) (find j (row_of r)))) e ∙ sym (ap held_place w.1)
      go (no a) f g (yes d) =
          let test : eqb j s ≡ true = grind (arith, nat_tests) in
          ap (λ o. alt o (cond (eqb j s) (Some p) (find j (row_of r))))
          (find_none j (row_of l) (often_row j l ∙ omega arith))
          ∙ ap (λ b. cond b (Some p) (find j (row_of r))) test ∙ sym (ap held_place (ap (at ns) d ∙ h.0))
      go (no a) f g (no d) =
          let test : eqb j s ≡ false = grind (arith, nat_tests) in
          let z : one j s ≡ 0 = one_other j s d in
          ap (λ o. alt o (cond (eqb j s) (Some p) (find j (row_of r))))
          (find_none j (row_of l) (often_row j l ∙ omega arith))
          ∙ ap (λ b. cond b (Some p) (find j (row_of r))) test ∙ g (omega arith)

  use_of : (ns : List (Node P R)) (j : ℕ) (b : Bool) → in_use ns j ≡ b → mark ns j ≡ cond b 1 0
  use_of ns j b h = ap (λ t. cond t 1 0) h

  pub unused_mark : (ns : List (Node P R)) (j : ℕ) → in_use ns j ≡ false → mark ns j ≡ 0
  unused_mark ns j h = use_of ns j false h

  -- Who is present where is what the row says.
  pub view_row : (ns : List (Node P R)) (root : ℕ) (t : Tree P R) → ShapeAt ns root t → (j : ℕ)
      → place_in ns j ≡ find j (row_of t)
  view_row ns root t y j = go (in_use ns j) refl
    where
      go : (b : Bool) → in_use ns j ≡ b → cond (in_use ns j) (held_place (at ns j)) None ≡ find j (row_of t)
      go true is =
          ap (λ b. cond b (held_place (at ns j)) None) is
          ∙ sym (find_held ns t j y.held (omega (arith, y.marked j, use_of ns j true is)))
      go false is =
          ap (λ b. cond b (held_place (at ns j)) None) is
          ∙ sym (find_none j (row_of t) (often_row j t ∙ y.marked j ∙ use_of ns j false is))

  pub mark_at : (ns ms : List (Node P R)) (j : ℕ) → at ms j ≡ at ns j → mark ms j ≡ mark ns j
  mark_at ns ms j e = ap (λ o. cond (ltb j 4096 && ltb 0 (count_of o)) 1 0) e

  -- A held tree of slots below 4096 whose other slots are not marked.
  pub marked_held : (ms : List (Node P R)) (u : Tree P R) → Holds ms u → ((j : ℕ) → times j u ≤ 1)
      → ((j : ℕ) → 0 < times j u → j < 4096) → ((j : ℕ) → times j u ≡ 0 → mark ms j ≡ 0) → (j : ℕ)
      → times j u ≡ mark ms j
  marked_held ms u h apart low off j = go (dec_lt 0 (times j u))
    where
      go : Dec (0 < times j u) → times j u ≡ mark ms j
      go (yes lt) =
          let w = held_at ms u j h lt in
          let a : j < 4096 = low j lt in
          let b : 0 < count_of (at ms j) = subst (λ n. 0 < n) (sym (ap count_of w.1)) w.2 in
          let c : mark ms j ≡ 1 = grind (arith, nat_tests) in
          omega (arith, apart j)
      go (no ge) = let z : times j u ≡ 0 = omega arith in z ∙ sym (off j z)

  pub mark_low : (ns : List (Node P R)) (j : ℕ) → 0 < mark ns j → j < 4096
  mark_low ns j h = grind (arith, nat_tests)

  pub shape_tree_at : (m : Model P R) (ns : List (Node P R)) (root : ℕ) (t : Tree P R) → ShapeAt ns root t
      → 0 < length ns → TreeAt ns root t
  shape_tree_at m ns root t y pos =
      record {
        root_is = y.root_is;
        held = y.held;
        apart = λ j. omega (arith, y.marked j, mark_one ns j);
        few =
            shape_few ns root t y;
        balanced = y.balanced;
        some = pos;
      }

module _ {P R : Type 0} where
  pub present : (ns : List (Node P R)) (s : ℕ) (p : P) → place_in ns s ≡ Some p → in_use ns s ≡ true
  present ns s p h = go (in_use ns s) refl h
    where
      go : (b : Bool) → in_use ns s ≡ b → cond b (held_place (at ns s)) None ≡ Some p → b ≡ true
      go true is w = refl
      go false is w = let z : ◌≡◌ {A = ℕ} 0 1 = cc in absurd (omega arith)

module _ {P R : Type 0} where
  pub row_says : (ns : List (Node P R)) (root : ℕ) → ShapeAt ns root (tree_in ns root) → (j : ℕ)
      → (find j (row_in ns root) ≡ place_in ns j) × (often j (row_in ns root) ≤ 1)
  row_says ns root y j = (
    sym (view_row ns root (tree_in ns root) y j),
    omega
        (arith, often_row j (tree_in ns root), y.marked j, mark_one ns j),
  )

  -- A slot without a place is not in use.
  pub nowhere : (ns : List (Node P R)) (j : ℕ) → place_in ns j ≡ None → in_use ns j ≡ false
  nowhere ns j h = go (at ns j) refl (in_use ns j) refl
    where
      go : (o : Option (Node P R)) → at ns j ≡ o → (b : Bool) → in_use ns j ≡ b → in_use ns j ≡ false
      go o is false u = u
      go None is true u =
          let z : count_of (at ns j) ≡ 0 = ap count_of is in let w : 0 < count_of (at ns j) = grind (arith, nat_tests) in
          absurd (omega arith)
      go (Some x) is true u =
          let a : place_in ns j ≡ Some x.place = ap (λ b. cond b (held_place (at ns j)) None) u ∙ ap held_place is in
          let z : ◌≡◌ {A = ℕ} 0 1 = cc (sym h ∙ a) in absurd (omega arith)

  -- A slot whose count is 0 holds no set.
  pub uncounted : (ns : List (Node P R)) (j : ℕ) → count_of (at ns j) ≡ 0 → place_in ns j ≡ None
  uncounted ns j z =
      let off : in_use ns j ≡ false = grind (arith, nat_tests) in
      ap (λ b. cond b (held_place (at ns j)) None) off

  -- Nor does one past the slots that may be used.
  pub past : (ns : List (Node P R)) (j : ℕ) → min (length ns) 4096 ≤ j → place_in ns j ≡ None
  past ns j far = elim (dec_lt j 4096) [
    | yes low ↦ uncounted ns j (count_past ns j (omega arith))
    | no high ↦ (let off : in_use ns j ≡ false = grind (arith, nat_tests) in ap (λ b. cond b (held_place (at ns j)) None)
        off)
  ]

  -- A set that is present has a number from 1 to the capacity.
  pub in_room : (ns : List (Node P R)) (s : ℕ) (p : P) → place_in ns s ≡ Some p → (0 < s) × (s ≤ capacity ns)
  in_room ns s p there = go (dec_lt 0 s) (dec_lt s (min (length ns) 4096))
    where
      go : Dec (0 < s) → Dec (s < min (length ns) 4096) → (0 < s) × (s ≤ capacity ns)
      go (yes pos) (yes low) = (pos, omega arith)
      go a (no high) =
          let none = past ns s (omega arith) in let z : ◌≡◌ {A = ℕ} 0 1 = cc in absurd (omega arith)
      go (no zero) b =
          let is : s ≡ 0 = omega arith in
          let none = uncounted ns 0 refl in
          let same : place_in ns s ≡ place_in ns 0 = ap (place_in ns) is in
          let z : ◌≡◌ {A = ℕ} 0 1 = cc in absurd (omega arith)
