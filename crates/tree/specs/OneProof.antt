-- That a tree is in order has one proof at most, as a fact in a type must.
use Rattle.std.specs.Prelude.{List, [], ◌∷◌}
use Rattle.std.specs.Coded.{Coded, Coded-set, coded_bool, ×_prop, Unit-prop}
use Rattle.kinds.specs.Rules.{Model}
use Rattle.kinds.specs.declared.kind.PlaceKind.{Ghosts}
use Rattle.buckets.specs.declared.Entry.{Entry}
use Rattle.buckets.specs.Rows.{Sorted, AllAdmitted}
use Rattle.tree.specs.declared.ranked_tree.RankedTree.{RankedTree}
use Rattle.tree.specs.Tree.{Tree, leaf, node, onto, Joined}
use Rattle.tree.specs.Whole.{OrderlyAt}
use Rattle.tree.specs.View.{InOrder}

module _ {P R : Type 0} (m : Model P R) where
  sorted_prop : (es : List (Entry P)) → IsProp (Sorted m es)
  sorted_prop [] = Unit-prop
  sorted_prop (e ∷ es) = ×_prop (λ p q i f h. Coded-set coded_bool _ _ (p f h) (q f h) i) (sorted_prop es)

  admitted_prop : (es : List (Entry P)) → IsProp (AllAdmitted m es)
  admitted_prop es = λ p q i e h. Coded-set coded_bool _ _ (p e h) (q e h) i

  joined_prop : Coded R → (t : Tree P R) → IsProp (Joined m t)
  joined_prop code leaf = Unit-prop
  joined_prop code (node l s p v r) = λ a b i. (
    joined_prop code l a.0 b.0 i,
    joined_prop code r a.1 b.1 i,
    Coded-set code v (onto m (onto m (m.single p) l) r) a.2 b.2 i,
  )

  orderly_prop : Coded R → (t : Tree P R) → IsProp (OrderlyAt m t)
  orderly_prop code t = λ p q i. record {
    sorted = sorted_prop _ p.sorted q.sorted i;
    admitted = admitted_prop _ p.admitted q.admitted i;
    joined = joined_prop code t p.joined q.joined i;
  }

  pub in_order_prop : {g : Ghosts P R} → Coded R → (t : RankedTree P R g) → IsProp (InOrder m t)
  in_order_prop code t = orderly_prop code _
