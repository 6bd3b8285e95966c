-- The bucket that the tree finds is the bucket of the row.
use Rattle.std.proofs.Common.{◌≡◌, ℕ, suc, ◌<◌, ◌≤◌, Bool, true, false, cond, eqb, ltb, leb, List, [], ◌∷◌, length, Some, None, Ok, Err, sym, refl, ap, ◌∙◌, subst, arith, length-drop, length-take}
use Rattle.std.proofs.lemmas.Bool.Decides.{nat_tests}
use Rattle.kinds.specs.Rules.{Model}
use Rattle.buckets.specs.declared.Ends.{Ends}
use Rattle.buckets.specs.Ends.{bucket_number, ends_of, ends_of_rank, EndsLaws}
use Rattle.buckets.specs.Regions.{members, bucket_of, region_of, region_over}
use Rattle.buckets.specs.Rows.{rank_of}
use Rattle.buckets.specs.declared.Entry.{Entry}
use Rattle.tree.specs.Rows.{find}
use Rattle.register.specs.declared.fault.RegisterFault.TheVariants.{TooFew}
use Rattle.register.specs.Answers.{if_true, told, bucket_in}

abbrev pub AllEnds : Type 0
AllEnds = (n k : ℕ) → 1 ≤ k → k ≤ n → EndsLaws n k

-- What it says that a rank has a bucket.
pub record Ended (n k r : ℕ) (e : Ends) : Type 0 where
  pub size : 1 ≤ k
  pub enough : k ≤ n
  pub low : r < n
  pub ends : e ≡ ends_of n k (bucket_number n k r)
  pub some : e.first ≤ e.last
  pub within : e.last < n

pub ended : AllEnds → (n k r : ℕ) (e : Ends) → Some e ≡ ends_of_rank n k r → Ended n k r e
ended laws n k r e h = go (ltb 0 k) refl (leb k n) refl (ltb r n) refl h
  where
    go : (a : Bool) → ltb 0 k ≡ a → (b : Bool) → leb k n ≡ b → (d : Bool) → ltb r n ≡ d
        → Some e ≡ cond a (cond b (cond d (Some (ends_of n k (bucket_number n k r))) None) None) None → Ended n k r e
    go true x true y true z w =
        let size : 1 ≤ k = grind (arith, nat_tests) in
        let enough : k ≤ n = grind (arith, nat_tests) in
        let low : r < n = grind (arith, nat_tests) in
        let is : e ≡ ends_of n k (bucket_number n k r) = cc in
        let law = laws n k size enough in
        let below = law.number_below r low in
        let least = law.least (bucket_number n k r) below in
        let within = law.within (bucket_number n k r) below in
        record {
          size = size;
          enough = enough;
          low = low;
          ends = is;
          some = subst (λ x. x.first ≤ x.last) (sym is) (omega arith);
          within = subst (λ x. x.last < n) (sym is) within;
        }
    go true x true y false z w = let f : ◌≡◌ {A = ℕ} 0 1 = cc in absurd (omega arith)
    go true x false y d z w = let f : ◌≡◌ {A = ℕ} 0 1 = cc in absurd (omega arith)
    go false x b y d z w = let f : ◌≡◌ {A = ℕ} 0 1 = cc in absurd (omega arith)

-- A rank below n has no bucket only where n is below the size.
pub too_few : (n k r : ℕ) → 1 ≤ k → r < n → None ≡ ends_of_rank n k r → leb k n ≡ false
too_few n k r size low h = go (ltb 0 k) refl (leb k n) refl (ltb r n) refl h
  where
    go : (a : Bool) → ltb 0 k ≡ a → (b : Bool) → leb k n ≡ b → (d : Bool) → ltb r n ≡ d
        → None ≡ cond a (cond b (cond d (Some (ends_of n k (bucket_number n k r))) None) None) None → leb k n ≡ false
    go a x false y d z w = y
    go true x true y true z w = let f : ◌≡◌ {A = ℕ} 0 1 = cc in absurd (omega arith)
    go true x true y false z w = absurd (grind (arith, nat_tests))
    go false x true y d z w = absurd (grind (arith, nat_tests))

module _ {P : Type 0} where
  -- A set that stands in a list has a rank in it.
  pub rank_within : (n : ℕ) (es : List (Entry P)) (p : P) → find n es ≡ Some p → rank_of n es < length es
  rank_within n [] p h = let f : ◌≡◌ {A = ℕ} 0 1 = cc in absurd (omega arith)
  rank_within n (e ∷ es) p h = go (eqb n e.set) refl h (rank_within n es p)
    where
      go : (b : Bool) → eqb n e.set ≡ b → cond b (Some e.place) (find n es) ≡ Some p
          → (find n es ≡ Some p → rank_of n es < length es)
          → cond (eqb e.set n) 0 (suc (rank_of n es)) < suc (length es)
      go true x w later = let y : eqb e.set n ≡ true = grind (arith, nat_tests) in rw y (omega arith)
      go false x w later =
          let y : eqb e.set n ≡ false = grind (arith, nat_tests) in
          let deep = later w in
          rw y (omega arith)

  some_of : (xs : List (Entry P)) → 0 < length xs → (x : Entry P) × (ys : List (Entry P)) × (xs ≡ x ∷ ys)
  some_of [] h = absurd (omega arith)
  some_of (x ∷ ys) h = (x, ys, refl)

  -- A run of ranks has members.
  pub members_some : (e : Ends) (es : List (Entry P)) → e.first ≤ e.last → e.last < length es
      → (x : Entry P) × (xs : List (Entry P)) × (members e es ≡ x ∷ xs)
  members_some e es some within = some_of (members e es) (simp (length-take, length-drop) (omega arith))

module _ {P R : Type 0} (m : Model P R) where
  pub bucket_told : AllEnds → (es : List (Entry P)) (n k r : ℕ) (e : Ends) (region : R) → r ≡ rank_of n es
      → Some e ≡ ends_of_rank (length es) k r
      → ((x : Entry P) (xs : List (Entry P)) → members e es ≡ x ∷ xs → region ≡ region_of m x xs)
      → Ok (record { ends = e; region = region }) ≡ bucket_in m n k es
  bucket_told laws es n k r e region rank is covered =
      let w = ended laws (length es) k r e is in
      let ends : e ≡ ends_of (length es) k (bucket_number (length es) k (rank_of n es)) =
      w.ends ∙ ap (λ x. ends_of (length es) k (bucket_number (length es) k x)) rank in
      let some = members_some e es w.some w.within in
      let over : region_over m (members e es) ≡ Some region =
      ap (region_over m) some.2 ∙ ap Some (sym (covered some.0 some.1 some.2)) in
      let enough : leb k (length es) ≡ true = let h = w.enough in grind (arith, nat_tests) in
      let there : Ok (record { ends = e; region = region }) ≡ told e (region_over m (members e es)) = rw over refl in
      let full : told e (region_over m (members e es)) ≡ bucket_in m n k es =
      ap (λ x. told x (region_over m (members x es))) ends
      ∙ sym (ap (λ b. if_true b TooFew (told (ends_of (length es) k (bucket_number (length es) k (rank_of n es)))
      (region_over m (bucket_of k n es)))) enough) in
      there ∙ full

  pub bucket_none : (es : List (Entry P)) (n k r : ℕ) → 1 ≤ k → r < length es → None ≡ ends_of_rank (length es) k r
      → Err TooFew ≡ bucket_in m n k es
  bucket_none es n k r size low h = rw (too_few (length es) k r size low h) refl
