-- Who stands first of two entries.
use Rattle.std.proofs.Common.{◌≡◌, ℕ, ◌<◌, Bool, true, false, cond, eqb, ltb, Ordering, Less, Equal, Greater, sym, refl, ap, ◌∙◌, subst, ⊎_elim, arith}
use mathlib.Core.Bool.{false≢true}
use Rattle.std.proofs.lemmas.Bool.{lt-ltb, ltb-true, cases_order}
use Rattle.std.specs.Ordering.{ordering_then, is_lt, ordering_reverse, nat_cmp}
use Rattle.kinds.specs.Rules.{Model, Admitted, Laws}
use Rattle.buckets.specs.Rows.{ahead, AheadLaws}
use Rattle.buckets.specs.declared.Entry.{Entry}

below_first : (x y : ℕ) → x < y → is_lt (nat_cmp x y) ≡ true
below_first x y l = rw (lt-ltb x y l)

first_below : (x y : ℕ) → is_lt (nat_cmp x y) ≡ true → x < y
first_below x y = go (ltb x y) refl (eqb x y)
  where
    go : (b : Bool) → ltb x y ≡ b → (c : Bool) → is_lt (cond b Less (cond c Equal Greater)) ≡ true → x < y
    go true e c h = ltb-true x y e
    go false e true h = absurd (false≢true h)
    go false e false h = absurd (false≢true h)

pub same_entry : {P : Type 0} (a b : Entry P) → a.set ≡ b.set → a.place ≡ b.place → a ≡ b
same_entry a b p q = λ i. record { set = p i; place = q i }

module _ {P R : Type 0} (m : Model P R) (laws : Laws m) where
  abbrev Fine : Entry P → Type 0
  Fine a = Admitted m a.place

  irreflexive : (a : Entry P) → Fine a → ahead m a a ≡ true → ⊥
  irreflexive a f = go (m.order a.place a.place) refl
    where
      flips : (o : Ordering) → o ≡ ordering_reverse o → is_lt o ≡ true → ⊥
      flips Less e h = let z : is_lt Greater ≡ true = ap is_lt (sym e) in false≢true z
      flips Equal e h = false≢true h
      flips Greater e h = false≢true h

      go : (o : Ordering) → m.order a.place a.place ≡ o → is_lt (ordering_then o (nat_cmp a.set a.set)) ≡ true → ⊥
      go Less e h =
          flips Less (sym e ∙ laws.order_antisymmetric a.place a.place f f ∙ ap ordering_reverse e) refl
      go Equal e h = omega (arith, first_below a.set a.set h)
      go Greater e h = false≢true h

  transitive : (a b c : Entry P) → Fine a → Fine b → Fine c → ahead m a b ≡ true → ahead m b c ≡ true → ahead m a c ≡ true
  transitive a b c fa fb fc = go (m.order a.place b.place) refl (m.order b.place c.place) refl
    where
      by : (o : Ordering) → m.order a.place c.place ≡ o → is_lt (ordering_then o (nat_cmp a.set c.set)) ≡ true
          → ahead m a c ≡ true
      by o e h = subst (λ u. is_lt (ordering_then u (nat_cmp a.set c.set)) ≡ true) (sym e) h

      go : (x : Ordering) → m.order a.place b.place ≡ x → (y : Ordering) → m.order b.place c.place ≡ y
          → is_lt (ordering_then x (nat_cmp a.set b.set)) ≡ true → is_lt (ordering_then y (nat_cmp b.set c.set)) ≡ true
          → ahead m a c ≡ true
      go Less ex Less ey p q = by Less (laws.order_transitive a.place b.place c.place fa fb fc ex ey) refl
      go Less ex Equal ey p q =
          by Less (subst (λ u. m.order a.place u ≡ Less) (laws.order_equal_same b.place c.place fb fc ey) ex) refl
      go Less ex Greater ey p q = absurd (false≢true q)
      go Equal ex Less ey p q =
          by Less (subst (λ u. m.order u c.place ≡ Less) (sym (laws.order_equal_same a.place b.place fa fb ex)) ey) refl
      go Equal ex Equal ey p q =
          by Equal (subst (λ u. m.order u c.place ≡ Equal) (sym (laws.order_equal_same a.place b.place fa fb ex)) ey)
          (below_first a.set c.set
          (omega (arith, first_below a.set b.set p, first_below b.set c.set q)))
      go Equal ex Greater ey p q = absurd (false≢true q)
      go Greater ex y ey p q = absurd (false≢true p)

  total : (a b : Entry P) → Fine a → Fine b → (a ≡ b → ⊥) → (ahead m a b ≡ true → ⊥) → ahead m b a ≡ true
  total a b fa fb ne nor = go (m.order b.place a.place) refl
    where
      no_at : (o : Ordering) → m.order b.place a.place ≡ o
          → is_lt (ordering_then (ordering_reverse o) (nat_cmp a.set b.set)) ≡ true → ⊥
      no_at o e h =
          nor (subst (λ u. is_lt (ordering_then u (nat_cmp a.set b.set)) ≡ true)
          (sym (laws.order_antisymmetric a.place b.place fa fb ∙ ap ordering_reverse e)) h)

      go : (o : Ordering) → m.order b.place a.place ≡ o → ahead m b a ≡ true
      go Less e = subst (λ u. is_lt (ordering_then u (nat_cmp b.set a.set)) ≡ true) (sym e) refl
      go Equal e =
          subst (λ u. is_lt (ordering_then u (nat_cmp b.set a.set)) ≡ true) (sym e)
          (⊎_elim
          (λ s. absurd (ne (same_entry a b s (sym (laws.order_equal_same b.place a.place fb fa e)))))
          (λ s. ⊎_elim (λ l. absurd (no_at Equal e (below_first a.set b.set l))) (below_first b.set a.set) s)
          (cases_order a.set b.set))
      go Greater e = absurd (no_at Greater e refl)

  pub ahead_laws : AheadLaws m
  ahead_laws = record { irreflexive = irreflexive; transitive = transitive; total = total }
