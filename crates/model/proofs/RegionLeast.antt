-- The region is the least.
use Rattle.std.proofs.Common.{◌≡◌, ℕ, ◌-◌, ◌*◌, ◌≤◌, Bool, true, false, cond, eqb, leb, [], ◌∷◌, length, is_some, is_ok, Some, None, Ok, Err, Option, Result, sym, refl, ap, subst, arith}
use mathlib.Core.Bool.{false≢true}
use Rattle.std.proofs.lemmas.Bool.{eqb-true, leb-true, and_parts}
use Rattle.kinds.specs.declared.fault.KindFault.{KindFault}
use Rattle.kinds.specs.declared.fault.KindFault.TheVariants.{NotAdmitted}
use Rattle.kinds.specs.Rules.{Model, Admitted}
use Rattle.kinds.specs.Faults.{kind_refusal, checked}
use Rattle.buckets.specs.Ends.{bucket_number, ends_of}
use Rattle.buckets.specs.Rows.{entry, In, OneEach, RowLaws, rank_of}
use Rattle.buckets.specs.declared.Entry.{Entry}
use Rattle.buckets.specs.Regions.{RegionLaws}
use Rattle.register.specs.Answers.{numbered, size_allowed}
use Rattle.model.specs.Events.{Query, Event, entered, moved, left, asked, taken, collected, handed_over, returned, given_up, refused, History}
use Rattle.model.specs.Histories.{Box, place_change, placed_by, place_of, present, row, bucket, asked_in, message_with, message_of, with_message, sent}
use Rattle.model.specs.Outcomes.{Life}
use Rattle.model.specs.Laws.{HasBucket, RowHolds, ComesFrom, SendsLeast}
use Rattle.model.proofs.Checks.{accepted_passed, unless_passed, as_passed}
use Rattle.model.proofs.Members.{AllMemberLaws, AllEndsLaws, in_members, each_members, number_below, LeastRegion, least_region}

-- A place that the kind's check passes is admitted.
pub checked_admitted : {P R : Type 0} (m : Model P R) (p : P) → is_ok (checked m p) ≡ true → Admitted m p
checked_admitted m p = go (m.admitted p)
  where
    answer : Bool → Result (Unit {0}) KindFault
    answer b = cond b (Ok tt) (Err NotAdmitted)

    go : (b : Bool) → is_ok (answer b) ≡ true → b ≡ true
    go true e = refl
    go false e = e

pub some_of : {A : Type 0} (o : Option A) → is_some o ≡ true → (x : A) × (o ≡ Some x)
some_of None e = absurd (false≢true e)
some_of (Some x) e = (x, refl)

module _ {P R : Type 0} {m : Model P R} (box : Box m) where
  -- A set that a call places has a number of the register, and its place is admitted.
  abbrev Proper : ℕ → Option P → Type 0
  Proper n None = Unit {0}
  Proper n (Some p) = (numbered box.capacity n ≡ true) × Admitted m p

  abbrev ProperChange : Option (ℕ × Option P) → Type 0
  ProperChange None = Unit {0}
  ProperChange (Some w) = Proper w.0 w.1

  change_proper : (e : Event P) (h : History P) → Life box (e ∷ h) → ProperChange (place_change e)
  change_proper (entered n p) h l =
      let k = (accepted_passed box (entered n p) h refl l).0 in
      (unless_passed (numbered box.capacity n) _ k.0, checked_admitted m p (as_passed kind_refusal (checked m p) k.1.0))
  change_proper (moved n p) h l =
      let k = (accepted_passed box (moved n p) h refl l).0 in
      (unless_passed (numbered box.capacity n) _ k.0, checked_admitted m p (as_passed kind_refusal (checked m p) k.1.0))
  change_proper (left n) h l = tt
  change_proper (asked q) h l = tt
  change_proper (taken b c) h l = tt
  change_proper (collected s g) h l = tt
  change_proper (handed_over g n) h l = tt
  change_proper (returned g n) h l = tt
  change_proper (given_up s) h l = tt
  change_proper (refused c r b) h l = tt

  proper : (h : History P) → Life box h → (n : ℕ) → Proper n (place_of h n)
  proper [] l n = tt
  proper (e ∷ h) l n = go (place_change e) (change_proper e h l) (proper h l.1 n)
    where
      pick : (w : ℕ × Option P) → Proper w.0 w.1 → Proper n (place_of h n) → (b : Bool) → eqb n w.0 ≡ b
          → Proper n (cond b w.1 (place_of h n))
      pick w k r true e = subst (λ u. Proper u w.1) (sym (eqb-true n w.0 e)) k
      pick w k r false e = r

      go : (o : Option (ℕ × Option P)) → ProperChange o → Proper n (place_of h n) → Proper n (placed_by o n (place_of h n))
      go None k r = r
      go (Some w) k r = pick w k r (eqb n w.0) refl

  pub present_proper : (h : History P) → Life box h → (n : ℕ) (p : P) → place_of h n ≡ Some p
      → (numbered box.capacity n ≡ true) × Admitted m p
  present_proper h l n p e = subst (λ o. Proper n o) e (proper h l n)

  pub row_holds : RowLaws m → (h : History P) → Life box h → RowHolds box h
  row_holds rows h l =
      let a = λ (n : ℕ) (p : P) (e : place_of h n ≡ Some p). (present_proper h l n p e).1 in
      let r = rows.row_is (place_of h) box.capacity a in
      record {
        admitted = a;
        is_row = r;
        everyone = λ n p e.
            let k = and_parts (leb 1 n) (leb n box.capacity) (present_proper h l n p e).0 in
            r.holds n p (leb-true 1 n k.0) (leb-true n box.capacity k.1) e;
      }

  -- The bucket of a query that has one.
  pub record Bucketed (h : History P) (n k : ℕ) : Type 0 where
    pub present : (x : Entry P) → In x (bucket box h k n) → place_of h x.set ≡ Some x.place
    pub one_each : OneEach (bucket box h k n)
    pub asker : (p : P) × In (entry n p) (bucket box h k n)
    pub at_least : k ≤ length (bucket box h k n)
    pub at_most : length (bucket box h k n) ≤ 2 * k - 1
    pub region : LeastRegion m (bucket box h k n)

  module _ (rows : RowLaws m) (ends : AllEndsLaws) (laws : AllMemberLaws P) (regions : RegionLaws m) where
    pub bucketed : (h : History P) → Life box h → (n k : ℕ) → HasBucket box h n k → Bucketed h n k
    bucketed h l n k b =
        let es = row box h in
        let two = leb-true 2 k (and_parts (leb 2 k) (leb k 64) b.allowed).0 in
        let one : 1 ≤ k = omega arith in
        let holds = row_holds rows h l in
        let x = entry n b.place in
        let i : In x es = holds.everyone n b.place b.present in
        let each = rows.one_each (place_of h) box.capacity holds.admitted in
        let ml = laws k es one b.enough each in
        let number = bucket_number (length es) k (rank_of n es) in
        let below = number_below ends k es one b.enough x i in
        let few = ml.least number below in
        let many = ml.most number below in
        record {
          present = λ y j. (holds.is_row.only y (in_members y (ends_of (length es) k number) es j)).1.1;
          one_each = each_members (ends_of (length es) k number) es each;
          asker = (b.place, ml.own x i);
          at_least = few;
          at_most = omega arith;
          region = least_region m regions (bucket box h k n) (omega arith);
        }

    comes_from : (h : History P) (q : Query) → Life box (asked q ∷ h)
        → ComesFrom box q.size (2 * q.size - 1) h (asked q) q (bucket box h q.size q.set)
    comes_from h q l =
        let passed = (accepted_passed box (asked q) h refl l).0 in
        let at = some_of (place_of h q.set) (unless_passed (present h q.set) _ passed.1.1.1.1.0) in
        let b =
        bucketed h l.1 q.set q.size (record {
          place = at.0;
          present = at.1;
          allowed = unless_passed (size_allowed q.size) _ passed.1.0;
          enough = leb-true q.size (length (row box h)) (unless_passed (leb q.size (length (row box h))) _ passed.1.1.1.1.1.0);
        }) in
        record {
          present = b.present;
          one_each = b.one_each;
          asker = b.asker;
          at_least = b.at_least;
          at_most = b.at_most;
          region = b.region.region;
          covers = b.region.covers;
          least = b.region.least;
          sends = ap (λ o. with_message (message_with box q o) (sent box h)) b.region.is;
        }

    pub sends_least : (e : Event P) (h : History P) → Life box (e ∷ h) → SendsLeast box h e (asked_in e)
    sends_least (entered n p) h l = refl
    sends_least (moved n p) h l = refl
    sends_least (left n) h l = refl
    sends_least (asked q) h l = comes_from h q l
    sends_least (taken b c) h l = refl
    sends_least (collected s g) h l = refl
    sends_least (handed_over g n) h l = refl
    sends_least (returned g n) h l = refl
    sends_least (given_up s) h l = refl
    sends_least (refused c r b) h l = refl

  -- What is no accepted query sends nothing.
  pub sends_nothing : (e : Event P) (h : History P) → asked_in e ≡ None → sent box (e ∷ h) ≡ sent box h
  sends_nothing e h z = ap (λ (o : Option Query). with_message (message_of box h o) (sent box h)) z
