-- The members of a bucket, from the laws of buckets.
use Rattle.std.proofs.Common.{◌≡◌, ℕ, zero, suc, ◌+◌, ◌-◌, ◌/◌, ◌<◌, ◌≤◌, Bool, true, false, cond, eqb, ◌⊎◌, List, [], ◌∷◌, length, take, drop, Some, sym, refl, ap, ◌∙◌, subst, inl, inr, ⊎_elim, true≢false, arith}
use Rattle.std.proofs.lemmas.Bool.{eq-eqb}
use Rattle.kinds.specs.Rules.{Model, Within}
use Rattle.buckets.specs.declared.Ends.{Ends}
use Rattle.buckets.specs.Ends.{bucket_number, ends_of, EndsLaws}
use Rattle.buckets.specs.Rows.{In, here, later, rank_of, OneEach}
use Rattle.buckets.specs.declared.Entry.{Entry}
use Rattle.buckets.specs.Regions.{members, bucket_of, MemberLaws, region_of, region_over, CoversAll, RegionLaws}
use Rattle.model.proofs.Counts.{in_cons}

-- What the laws of buckets say of every list of entries.
abbrev pub AllMemberLaws : Type 0 → Type 0
AllMemberLaws P = (k : ℕ) (es : List (Entry P)) → 1 ≤ k → k ≤ length es → OneEach es → MemberLaws k es

abbrev pub AllEndsLaws : Type 0
AllEndsLaws = (n k : ℕ) → 1 ≤ k → k ≤ n → EndsLaws n k

module _ {P : Type 0} where
  in_take : (x : Entry P) (n : ℕ) (es : List (Entry P)) → In x (take n es) → In x es
  in_take x zero es i = elim i [ ]
  in_take x (suc n) [] i = i
  in_take x (suc n) (y ∷ ys) i =
      ⊎_elim (λ e. subst (λ u. In u (y ∷ ys)) (sym e) here) (λ j. later (in_take x n ys j)) (in_cons i)

  in_drop : (x : Entry P) (n : ℕ) (es : List (Entry P)) → In x (drop n es) → In x es
  in_drop x zero es i = i
  in_drop x (suc n) [] i = i
  in_drop x (suc n) (y ∷ ys) i = later (in_drop x n ys i)

  -- A member stands in the list that the bucket is cut from.
  pub in_members : (x : Entry P) (e : Ends) (es : List (Entry P)) → In x (members e es) → In x es
  in_members x e es i = in_drop x e.first es (in_take x (e.last + 1 - e.first) (drop e.first es) i)

  each_take : (n : ℕ) (es : List (Entry P)) → OneEach es → OneEach (take n es)
  each_take zero es o = tt
  each_take (suc n) [] o = o
  each_take (suc n) (y ∷ ys) o = ((λ f i. o.0 f (in_take f n ys i)), each_take n ys o.1)

  each_drop : (n : ℕ) (es : List (Entry P)) → OneEach es → OneEach (drop n es)
  each_drop zero es o = o
  each_drop (suc n) [] o = o
  each_drop (suc n) (y ∷ ys) o = each_drop n ys o.1

  pub each_members : (e : Ends) (es : List (Entry P)) → OneEach es → OneEach (members e es)
  each_members e es o = each_take (e.last + 1 - e.first) (drop e.first es) (each_drop e.first es o)

  rank_below : (x : Entry P) (es : List (Entry P)) → In x es → rank_of x.set es < length es
  rank_below x [] i = elim i [ ]
  rank_below x (y ∷ ys) i = go (eqb y.set x.set) refl (in_cons i) (rank_below x ys)
    where
      go : (b : Bool) → eqb y.set x.set ≡ b → (x ≡ y) ⊎ In x ys → (In x ys → rank_of x.set ys < length ys)
          → cond b 0 (suc (rank_of x.set ys)) < suc (length ys)
      go true e j rest = omega arith
      go false e (inl q) rest =
          let z : eqb y.set x.set ≡ true = eq-eqb y.set x.set (ap (λ (u : Entry P). u.set) (sym q)) in
          absurd (true≢false (sym z ∙ e))
      go false e (inr j) rest = let r = rest j in omega arith

  module _ (ends : AllEndsLaws) (k : ℕ) (es : List (Entry P)) (some : 1 ≤ k) (enough : k ≤ length es) where
    pub number_below : (x : Entry P) → In x es → bucket_number (length es) k (rank_of x.set es) < length es / k
    number_below x i = (ends (length es) k some enough).number_below (rank_of x.set es) (rank_below x es i)

    -- A member's bucket is the bucket that it is a member of.
    pub same_bucket : MemberLaws k es → (x y : Entry P) → In x es → In y (bucket_of k x.set es)
        → bucket_of k x.set es ≡ bucket_of k y.set es
    same_bucket laws x y i j =
        let b = bucket_number (length es) k (rank_of x.set es) in
        ap (λ c. members (ends_of (length es) k c) es) (laws.no_other y b (number_below x i) j)

-- The region of a list of entries, where it has any.
pub record LeastRegion {P R : Type 0} (m : Model P R) (es : List (Entry P)) : Type 0 where
  pub region : R
  pub is : region_over m es ≡ Some region
  pub covers : CoversAll m region es
  pub least : (r : R) → CoversAll m r es → Within m region r

pub least_region : {P R : Type 0} (m : Model P R) → RegionLaws m → (es : List (Entry P)) → 1 ≤ length es → LeastRegion m es
least_region m laws [] l = absurd (omega arith)
least_region m laws (e ∷ es) l =
    record { region = region_of m e es; is = refl; covers = laws.covers e es; least = laws.least e es }
