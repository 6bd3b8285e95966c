-- Ranks and the members of a run of ranks.
use Rattle.std.proofs.Common.{◌≡◌, ℕ, zero, suc, ◌+◌, ◌-◌, ◌/◌, ◌<◌, ◌≤◌, List, [], ◌∷◌, length, take, drop, sym, refl, ap, subst, ⊎_elim, arith, length-drop}
use Rattle.std.proofs.lemmas.List.{length-take-le}
use Rattle.std.proofs.lemmas.Bool.{eq-eqb, ne_eqb}
use Rattle.buckets.specs.Ends.{bucket_number, ends_of, EndsLaws}
use Rattle.buckets.specs.Rows.{In, here, later, rank_of, OneEach}
use Rattle.buckets.specs.declared.Entry.{Entry}
use Rattle.buckets.specs.Regions.{members, MemberLaws}
use Rattle.buckets.proofs.RowLaws.{in_cons}
use Rattle.buckets.proofs.EndsLaws.{ends_laws}

module _ {P : Type 0} where
  in_drop : (e : Entry P) (n : ℕ) (es : List (Entry P)) → In e (drop n es) → In e es
  in_drop e zero es i = i
  in_drop e (suc n) [] i = i
  in_drop e (suc n) (f ∷ fs) i = later (in_drop e n fs i)

  in_take : (e : Entry P) (n : ℕ) (es : List (Entry P)) → In e (take n es) → In e es
  in_take e zero es i = elim i [ ]
  in_take e (suc n) [] i = i
  in_take e (suc n) (f ∷ fs) i =
      ⊎_elim (λ q. subst (λ u. In e (u ∷ fs)) q here) (λ j. later (in_take e n fs j)) (in_cons i)

  each_drop : (n : ℕ) (es : List (Entry P)) → OneEach es → OneEach (drop n es)
  each_drop zero es o = o
  each_drop (suc n) [] o = o
  each_drop (suc n) (f ∷ fs) o = each_drop n fs o.1

  -- The rank of an entry, and of one behind another.
  rank_here : (n : ℕ) (e : Entry P) (es : List (Entry P)) → e.set ≡ n → rank_of n (e ∷ es) ≡ 0
  rank_here n e es q = rw (eq-eqb e.set n q) refl

  rank_later : (n : ℕ) (f : Entry P) (fs : List (Entry P)) → (f.set ≡ n → ⊥) → rank_of n (f ∷ fs) ≡ suc (rank_of n fs)
  rank_later n f fs ne = rw (ne_eqb f.set n ne) refl

  rank_below : (e : Entry P) (es : List (Entry P)) → In e es → OneEach es → rank_of e.set es < length es
  rank_below e [] i o = elim i [ ]
  rank_below e (f ∷ fs) i o =
      ⊎_elim
      (λ q. omega (arith, rank_here e.set f fs (ap (λ (u : Entry P). u.set) (sym q))))
      (λ j. omega (arith, rank_later e.set f fs (o.0 e j), rank_below e fs j o.1))
      (in_cons i)

  rank_shift : (e : Entry P) (n : ℕ) (es : List (Entry P)) → In e (drop n es) → OneEach es
      → rank_of e.set es ≡ n + rank_of e.set (drop n es)
  rank_shift e zero es i o = omega arith
  rank_shift e (suc n) [] i o = elim i [ ]
  rank_shift e (suc n) (f ∷ fs) i o =
      omega (arith, rank_later e.set f fs (o.0 e (in_drop e n fs i)), rank_shift e n fs i o.1)

  rank_in_take : (e : Entry P) (n : ℕ) (es : List (Entry P)) → In e (take n es) → OneEach es → rank_of e.set es < n
  rank_in_take e zero es i o = elim i [ ]
  rank_in_take e (suc n) [] i o = elim i [ ]
  rank_in_take e (suc n) (f ∷ fs) i o =
      ⊎_elim
      (λ q. omega (arith, rank_here e.set f fs (ap (λ (u : Entry P). u.set) (sym q))))
      (λ j. omega (arith, rank_later e.set f fs (o.0 e (in_take e n fs j)), rank_in_take e n fs j o.1))
      (in_cons i)

  in_drop_from : (e : Entry P) (n : ℕ) (es : List (Entry P)) → In e es → OneEach es → n ≤ rank_of e.set es → In e (drop n es)
  in_drop_from e zero es i o l = i
  in_drop_from e (suc n) [] i o l = i
  in_drop_from e (suc n) (f ∷ fs) i o l =
      ⊎_elim
      (λ q. absurd (omega (arith, rank_here e.set f fs (ap (λ (u : Entry P). u.set) (sym q)))))
      (λ j. in_drop_from e n fs j o.1 (omega (arith, rank_later e.set f fs (o.0 e j))))
      (in_cons i)

  in_take_below : (e : Entry P) (n : ℕ) (es : List (Entry P)) → In e es → OneEach es → rank_of e.set es < n → In e (take n es)
  in_take_below e zero es i o l = absurd (omega arith)
  in_take_below e (suc n) [] i o l = i
  in_take_below e (suc n) (f ∷ fs) i o l =
      ⊎_elim
      (λ q. subst (λ u. In e (u ∷ take n fs)) q here)
      (λ j. later (in_take_below e n fs j o.1 (omega (arith, rank_later e.set f fs (o.0 e j)))))
      (in_cons i)

  module _ (k : ℕ) (es : List (Entry P)) (hk : 1 ≤ k) (hn : k ≤ length es) (o : OneEach es) where
    laws : EndsLaws (length es) k
    laws = ends_laws (length es) k hk hn

    size : (b : ℕ) → b < length es / k
        → length (members (ends_of (length es) k b) es)
        ≡ (ends_of (length es) k b).last + 1 - (ends_of (length es) k b).first
    size b l =
        let d = ends_of (length es) k b in
        length-take-le (d.last + 1 - d.first) (drop d.first es)
        (simp length-drop (omega (arith, laws.within b l)))

    own : (e : Entry P) → In e es
        → In e (members (ends_of (length es) k (bucket_number (length es) k (rank_of e.set es))) es)
    own e i =
        let r = rank_of e.set es in
        let d = ends_of (length es) k (bucket_number (length es) k r) in
        let t = laws.own r (rank_below e es i o) in
        let j = in_drop_from e d.first es i o t.from in
        let s = rank_shift e d.first es j o in
        in_take_below e (d.last + 1 - d.first) (drop d.first es) j (each_drop d.first es o)
        (omega (arith, t.from, t.upto))

    no_other : (e : Entry P) (b : ℕ) → b < length es / k → In e (members (ends_of (length es) k b) es)
        → b ≡ bucket_number (length es) k (rank_of e.set es)
    no_other e b l i =
        let d = ends_of (length es) k b in
        let z = d.last + 1 - d.first in
        let j = in_take e z (drop d.first es) i in
        let s = rank_shift e d.first es j o in
        let u = rank_in_take e z (drop d.first es) i (each_drop d.first es o) in
        laws.no_other (rank_of e.set es) b (rank_below e es (in_drop e d.first es j) o) l
        (record { from = omega arith; upto = omega (arith, laws.least b l) })

    pub member_laws : MemberLaws k es
    member_laws =
        record {
          least = λ b l. omega (arith, size b l, laws.least b l);
          most = λ b l. omega (arith, size b l, laws.most b l, laws.least b l);
          own = own;
          no_other = no_other;
        }
