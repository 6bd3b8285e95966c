-- Slots that are not in use.
use Rattle.std.proofs.Common.{◌≡◌, ℕ, zero, suc, ◌+◌, ◌<◌, ◌≤◌, min, List, [], ◌∷◌, length, set, Some, None, sym, refl, ap, ◌∙◌, subst, arith}
use native.Mathlib.Decide.{ℕ_discrete, dec_lt}
use Rattle.std.proofs.lemmas.Bool.Decides.{nat_tests}
use Rattle.std.specs.List.{slice_get}
use Rattle.kinds.specs.Rules.{Model}
use Rattle.tree.specs.declared.node.Node.{Node}
use Rattle.tree.specs.Slots.{at, count_of, idle}
use Rattle.tree.specs.Tree.{leaf, row_of}
use Rattle.tree.specs.Whole.{place_in, mark, row_in, ShapeAt, OrderlyAt, Orderly}
use Rattle.tree.proofs.Held.{nth_set_other, at_other, at_same}
use Rattle.tree.proofs.Shape.{mark_high, mark_past, shape_tree}
use Rattle.tree.proofs.Presence.{view_row}

nth_in : {X : Type 0} (xs : List X) (i : ℕ) → i < length xs → (x : X) × (slice_get xs i ≡ Some x)
nth_in [] i lt = absurd (omega arith)
nth_in (x ∷ xs) zero lt = (x, refl)
nth_in (x ∷ xs) (suc i) lt = nth_in xs i (omega arith)

-- The slots below i are not in use, and no other was written.
pub record Cleared {P R : Type 0} (old new : List (Node P R)) (i : ℕ) : Type 0 where
  pub off : (j : ℕ) → j < i → count_of (at new j) ≡ 0
  pub same : (j : ℕ) → (0 < j → i ≤ j) → slice_get new j ≡ slice_get old j

module _ {P R : Type 0} where
  at_in : (ns : List (Node P R)) (i : ℕ) → 0 < i → i < length ns → (x : Node P R) × (at ns i ≡ Some x)
  at_in ns zero pos lt = absurd (omega arith)
  at_in ns (suc i) pos lt = nth_in ns (suc i) lt

  pub cleared_more : (old ns ms : List (Node P R)) (i : ℕ) → 0 < i → i < length ns → Cleared old ns i
      → ((x : Node P R) → at ns i ≡ Some x → ms ≡ set ns i (idle x)) → Cleared old ms (i + 1)
  cleared_more old ns ms i pos lt c f =
      let w = at_in ns i pos lt in
      let x = idle w.0 in
      let is : ms ≡ set ns i x = f w.0 w.1 in
      subst (λ n. Cleared old n (i + 1)) (sym is) (record {
        off = λ j h. elim (ℕ_discrete j i) [
          | yes e ↦ ap (λ k. count_of (at (set ns i x) k)) e ∙ ap count_of (at_same ns i x pos lt)
          | no e ↦ ap count_of (at_other ns i j x (λ k. e (sym k))) ∙ c.off j (omega arith)
        ];
        same = λ j h. nth_set_other ns i j x (λ k. absurd (omega (arith, h (omega arith))))
            ∙ c.same j (λ p. omega (arith, h p));
      })

  module _ {old ns : List (Node P R)} {i : ℕ} (c : Cleared old ns i) (far : min (length ns) 4096 ≤ i) where
    pub clear_shape : ShapeAt ns 0 leaf
    clear_shape =
        record {
          root_is = refl;
          held = tt;
          balanced = tt;
          marked = λ j. elim (dec_lt j i) [
            | yes lt ↦ (let z = c.off j lt in sym (unmarked j z))
            | no ge ↦ elim (dec_lt j 4096)
                [ yes lt ↦ sym (mark_past ns j (omega arith)) | no h ↦ sym (mark_high ns j (omega arith)) ]
          ];
        }
      where
        unmarked : (j : ℕ) → count_of (at ns j) ≡ 0 → mark ns j ≡ 0
        unmarked j z = grind (arith, nat_tests)

    pub clear_view : (j : ℕ) → place_in ns j ≡ None
    clear_view j = view_row ns 0 leaf clear_shape j

    pub clear_order : (m : Model P R) → Orderly m ns 0 × (row_in ns 0 ≡ [])
    clear_order m =
        let e = shape_tree ns 0 leaf clear_shape in
        let o : OrderlyAt m leaf = record { sorted = tt; admitted = λ e i. elim i [ ]; joined = tt } in
        (subst (OrderlyAt m) (sym e) o, ap row_of e)

pub both_empty : {X : Type 0} (xs ys : List X) (j : ℕ) → length xs ≡ 0 → length ys ≡ 0 → slice_get xs j ≡ slice_get ys j
both_empty [] [] j a b = refl
both_empty [] (y ∷ ys) j a b = absurd (omega arith)
both_empty (x ∷ xs) ys j a b = absurd (omega arith)
