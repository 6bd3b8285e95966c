-- The row of the tree is the row of the present sets.
use Rattle.std.proofs.Common.{◌≡◌, ℕ, ◌<◌, ◌≤◌, true, false, cond, eqb, List, Some, sym, ap, ◌∙◌, arith}
use Rattle.std.proofs.lemmas.Bool.Decides.{nat_tests}
use Rattle.kinds.specs.Rules.{Model}
use Rattle.buckets.specs.Rows.{entry, In, here, later, row, IsRow, PlacesAdmitted, RowLaws}
use Rattle.buckets.specs.declared.Entry.{Entry}
use Rattle.tree.specs.declared.node.Node.{Node}
use Rattle.tree.specs.Tree.{Tree, row_of, times}
use Rattle.tree.specs.Rows.{often, find}
use Rattle.tree.specs.Whole.{capacity, place_in, OrderlyAt, ShapeAt}
use Rattle.tree.proofs.Held.{at_some}
use Rattle.tree.proofs.Order.{in_often, often_row}
use Rattle.tree.proofs.Shape.{mark_one}
use Rattle.tree.proofs.Presence.{in_found, held_at, view_row, mark_low}

module _ {P : Type 0} where
  found_in : {e : Entry P} {es : List (Entry P)} → In e es → often e.set es ≤ 1 → find e.set es ≡ Some e.place
  found_in {e} (here {xs}) once =
      let test : eqb e.set e.set ≡ true = grind (arith, nat_tests) in
      ap (λ b. cond b (Some e.place) (find e.set xs)) test
  found_in {e} (later {y} {xs} i) once =
      let some = in_often i in
      let test : eqb e.set y.set ≡ false = grind (arith, nat_tests) in
      ap (λ b. cond b (Some y.place) (find e.set xs)) test ∙ found_in i (omega arith)

module _ {P R : Type 0} (m : Model P R) (ns : List (Node P R)) (root : ℕ) (t : Tree P R) (y : ShapeAt ns root t)
    (o : OrderlyAt m t) where
  present_in : (n : ℕ) (p : P) → place_in ns n ≡ Some p → In (entry n p) (row_of t)
  present_in n p is = in_found n p (row_of t) (sym (view_row ns root t y n) ∙ is)

  stands : (e : Entry P) → In e (row_of t) → 0 < times e.set t
  stands e i = omega (arith, in_often i, often_row e.set t)

  in_present : (e : Entry P) → In e (row_of t) → place_in ns e.set ≡ Some e.place
  in_present e i =
      view_row ns root t y e.set
      ∙ found_in i (omega (arith, often_row e.set t, y.marked e.set, mark_one ns e.set))

  in_range : (e : Entry P) → In e (row_of t) → (1 ≤ e.set) × (e.set ≤ capacity ns)
  in_range e i =
      let w = held_at ns t e.set y.held (stands e i) in
      let a = at_some ns e.set w.0 w.1 in
      let b : e.set < 4096 = mark_low ns e.set (omega (arith, stands e i, y.marked e.set)) in
      (omega arith, omega arith)

  is_row : IsRow m (place_in ns) (capacity ns) (row_of t)
  is_row =
      record {
        sorted = o.sorted;
        holds = λ n p low high is. present_in n p is;
        only = λ e i. ((in_range e i).0, ((in_range e i).1, in_present e i));
      }

  places_admitted : PlacesAdmitted m (place_in ns)
  places_admitted n p is = o.admitted (entry n p) (present_in n p is)

  pub the_row : RowLaws m → row_of t ≡ row m (place_in ns) (capacity ns)
  the_row laws = laws.one_row (place_in ns) (capacity ns) (row_of t) places_admitted is_row
