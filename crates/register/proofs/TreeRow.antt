-- The row of the tree is the row of the sets that are present.
use Rattle.std.proofs.Common.{◌≡◌, ℕ, Bool, true, false, cond, eqb, List, [], ◌∷◌, Some, sym, refl, ap, ◌∙◌, subst, arith}
use Rattle.std.proofs.lemmas.Bool.Decides.{nat_tests}
use Rattle.kinds.specs.Rules.{Model}
use Rattle.buckets.specs.Rows.{entry, In, here, later, RowLaws, PlacesAdmitted, IsRow}
use Rattle.buckets.specs.declared.Entry.{Entry}
use Rattle.tree.specs.Rows.{find}
use Rattle.tree.specs.View as trees
use Rattle.kinds.specs.declared.kind.PlaceKind.{Ghosts}
use Rattle.register.specs.declared.register.Register.{Register}
use Rattle.register.specs.View.{capacity_of, place_of, row_of, TreeRowRight}

module _ {P : Type 0} where
  found_in : (n : ℕ) (es : List (Entry P)) (p : P) → find n es ≡ Some p → In (entry n p) es
  found_in n [] p h = let f : ◌≡◌ {A = ℕ} 0 1 = cc in absurd (omega arith)
  found_in n (e ∷ es) p h = go (eqb n e.set) refl h (found_in n es p)
    where
      go : (b : Bool) → eqb n e.set ≡ b → cond b (Some e.place) (find n es) ≡ Some p
          → (find n es ≡ Some p → In (entry n p) es) → In (entry n p) (e ∷ es)
      go true x w deep =
          let same : n ≡ e.set = grind (arith, nat_tests) in
          let there : e.place ≡ p = cc in
          let is : e ≡ entry n p = ap (λ k. entry k e.place) (sym same) ∙ ap (entry n) there in
          subst (λ y. In (entry n p) (y ∷ es)) (sym is) here
      go false x w deep = later (deep w)

module _ {P R : Type 0} {g : Ghosts P R} (m : Model P R) (self : Register P R g) where
  pub tree_row : RowLaws m → trees.InOrder m self.tree → trees.row_of self.tree ≡ row_of m self
      → ((j : ℕ) → find j (trees.row_of self.tree) ≡ place_of self j) → TreeRowRight m self
  tree_row laws o same view =
      let admitted : PlacesAdmitted m (place_of self) =
      λ n p at. o.admitted (entry n p) (found_in n (trees.row_of self.tree) p (view n ∙ at)) in
      record {
        same = same;
        is_row = subst (IsRow m (place_of self) (capacity_of self)) (sym same)
            (laws.row_is (place_of self) (capacity_of self) admitted);
      }
