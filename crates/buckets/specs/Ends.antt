-- A bucket's two ends, of n present sets at size k.
use Rattle.std.specs.Prelude.{◌≡◌, ℕ, ◌+◌, ◌-◌, ◌*◌, ◌/◌, ◌<◌, ◌≤◌, min, cond, Some, None, Option, ◌==◌, nat_le, nat_lt}
use Rattle.buckets.specs.declared.Ends.{Ends}

-- There are n / k buckets. The set of rank r is in bucket r / k, or in the last where there is no such bucket.
abbrev pub bucket_number : ℕ → ℕ → ℕ → ℕ
bucket_number n k r = min (r / k) (n / k - 1)

-- Bucket b starts at rank b k and ends at b k + k − 1, but the last one ends at n − 1.
abbrev pub ends_of : ℕ → ℕ → ℕ → Ends
ends_of n k b = record { first = b * k; last = cond (b == n / k - 1) (n - 1) (b * k + k - 1) }

-- The ends of the bucket of rank r. There is none where fewer than k sets are present, or none has that rank.
abbrev pub ends_of_rank : ℕ → ℕ → ℕ → Option Ends
ends_of_rank n k r =
    cond (nat_lt 0 k) (cond (nat_le k n) (cond (nat_lt r n) (Some (ends_of n k (bucket_number n k r))) None) None) None

-- Rank r lies in bucket b.
pub record Between (e : Ends) (r : ℕ) : Type 0 where
  pub from : e.first ≤ r
  pub upto : r ≤ e.last

-- Every bucket has k to 2k − 1 ranks, all of them below n; and each rank lies in its own bucket and in no other.
pub record EndsLaws (n k : ℕ) : Type 0 where
  pub within : (b : ℕ) → b < n / k → (ends_of n k b).last < n
  pub least : (b : ℕ) → b < n / k → (ends_of n k b).first + k ≤ (ends_of n k b).last + 1
  pub most : (b : ℕ) → b < n / k → (ends_of n k b).last + 1 < (ends_of n k b).first + 2 * k
  pub number_below : (r : ℕ) → r < n → bucket_number n k r < n / k
  pub own : (r : ℕ) → r < n → Between (ends_of n k (bucket_number n k r)) r
  pub no_other : (r b : ℕ) → r < n → b < n / k → Between (ends_of n k b) r → b ≡ bucket_number n k r
