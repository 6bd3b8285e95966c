-- The answer of each call, from the capacity and from who is present where.
use Rattle.std.specs.Prelude.{ℕ, Bool, cond, ◌&&◌, List, length, Some, None, Ok, Err, Option, Result, ◌==◌, nat_le}
use Rattle.kinds.specs.Rules.{Model}
use Rattle.kinds.specs.declared.fault.KindFault.{KindFault}
use Rattle.kinds.specs.Faults.{checked}
use Rattle.buckets.specs.declared.Ends.{Ends}
use Rattle.buckets.specs.Ends.{bucket_number, ends_of}
use Rattle.buckets.specs.Regions.{bucket_of, region_over}
use Rattle.buckets.specs.Rows.{rank_of, row}
use Rattle.buckets.specs.declared.Entry.{Entry}
use Rattle.register.specs.declared.bucket.Bucket.{Bucket}
use Rattle.register.specs.declared.fault.RegisterFault.{RegisterFault}
use Rattle.register.specs.declared.fault.RegisterFault.TheVariants as fault

-- Sets have the numbers 1 to the capacity.
abbrev pub numbered : ℕ → ℕ → Bool
numbered capacity n = nat_le 1 n && nat_le n capacity

-- The sizes that a query may ask for.
abbrev pub size_allowed : ℕ → Bool
size_allowed k = nat_le 2 k && nat_le k 64

module _ {A : Type 0} where
  -- Refused where the kind refuses the place, by what the kind says; else what follows.
  abbrev pub if_admitted : Result (Unit {0}) KindFault → Result A RegisterFault → Result A RegisterFault
  if_admitted (Ok _) rest = rest
  if_admitted (Err e) rest = Err (fault.Kind e)

  -- Refused where a test fails; else what follows.
  abbrev pub if_true : Bool → RegisterFault → Result A RegisterFault → Result A RegisterFault
  if_true test e rest = cond test rest (Err e)

  abbrev pub if_present : {P : Type 0} → Option P → (P → Result A RegisterFault) → Result A RegisterFault
  if_present None rest = Err fault.NotPresent
  if_present (Some p) rest = rest p

  abbrev pub if_absent : {P : Type 0} → Option P → Result A RegisterFault → Result A RegisterFault
  if_absent None rest = rest
  if_absent (Some p) rest = Err fault.AlreadyPresent

  -- Who is present where after a call that was accepted: set n is at `place`, or absent, and the others are as they were. A
  -- refused call changes nothing.
  abbrev pub changed : {P : Type 0} → Result A RegisterFault → ℕ → Option P → (ℕ → Option P) → ℕ → Option P
  changed (Ok _) n place at j = cond (j == n) place (at j)
  changed (Err _) n place at j = at j

-- What is checked of a set and a size whoever is present.
abbrev pub asker_answer : ℕ → ℕ → ℕ → Result (Unit {0}) RegisterFault
asker_answer capacity n k = if_true (numbered capacity n) fault.NoSuchSet (if_true (size_allowed k) fault.Size (Ok tt))

module _ {P : Type 0} where
  abbrev pub leave_answer : ℕ → (ℕ → Option P) → ℕ → Result (Unit {0}) RegisterFault
  leave_answer capacity at n = if_true (numbered capacity n) fault.NoSuchSet (if_present (at n) (λ _. Ok tt))

module _ {P R : Type 0} (m : Model P R) (capacity : ℕ) (at : ℕ → Option P) where
  abbrev pub enter_answer : ℕ → P → Result (Unit {0}) RegisterFault
  enter_answer n p =
      if_true (numbered capacity n) fault.NoSuchSet (if_admitted (checked m p) (if_absent (at n) (Ok tt)))

  abbrev pub move_answer : ℕ → P → Result (Unit {0}) RegisterFault
  move_answer n p =
      if_true (numbered capacity n) fault.NoSuchSet (if_admitted (checked m p) (if_present (at n) (λ _. Ok tt)))

module _ {R : Type 0} where
  -- A bucket's two ends with its region. Every bucket has members, so it has one.
  abbrev pub told : Ends → Option R → Result (Bucket R) RegisterFault
  told e None = Err fault.TooFew
  told e (Some r) = Ok (record { ends = e; region = r })

module _ {P R : Type 0} (m : Model P R) where
  -- The bucket of set n in a row, at size k.
  abbrev pub bucket_in : ℕ → ℕ → List (Entry P) → Result (Bucket R) RegisterFault
  bucket_in n k es =
      if_true (nat_le k (length es)) fault.TooFew
      (told (ends_of (length es) k (bucket_number (length es) k (rank_of n es))) (region_over m (bucket_of k n es)))

  abbrev pub bucket_answer : ℕ → (ℕ → Option P) → ℕ → ℕ → Result (Bucket R) RegisterFault
  bucket_answer capacity at n k =
      if_true (numbered capacity n) fault.NoSuchSet
      (if_true (size_allowed k) fault.Size (if_present (at n) (λ _. bucket_in n k (row m at capacity))))
