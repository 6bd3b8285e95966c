-- The members of a bucket, and their region.
use Rattle.std.specs.Prelude.{◌≡◌, ℕ, ◌+◌, ◌-◌, ◌*◌, ◌/◌, ◌<◌, ◌≤◌, List, [], ◌∷◌, length, take, drop, Some, None, Option}
use Rattle.kinds.specs.Rules.{Model, Within, Covers}
use Rattle.buckets.specs.declared.Ends.{Ends}
use Rattle.buckets.specs.Ends.{bucket_number, ends_of}
use Rattle.buckets.specs.Rows.{In, rank_of}
use Rattle.buckets.specs.declared.Entry.{Entry}

-- The entries of a row from one rank to another.
abbrev pub members : {P : Type 0} → Ends → List (Entry P) → List (Entry P)
members e es = take (e.last + 1 - e.first) (drop e.first es)

-- The members of the bucket of a set, at size k.
abbrev pub bucket_of : {P : Type 0} → ℕ → ℕ → List (Entry P) → List (Entry P)
bucket_of k n es = members (ends_of (length es) k (bucket_number (length es) k (rank_of n es))) es

-- In a list of n entries, one a set, every bucket at size k has k to 2k − 1 members, and every entry is a member of its own
-- bucket, told by its rank, and of no other.
pub record MemberLaws {P : Type 0} (k : ℕ) (es : List (Entry P)) : Type 0 where
  pub least : (b : ℕ) → b < length es / k → k ≤ length (members (ends_of (length es) k b) es)
  pub most : (b : ℕ) → b < length es / k → length (members (ends_of (length es) k b) es) < 2 * k
  pub own : (e : Entry P) → In e es
      → In e (members (ends_of (length es) k (bucket_number (length es) k (rank_of e.set es))) es)
  pub no_other : (e : Entry P) (b : ℕ) → b < length es / k → In e (members (ends_of (length es) k b) es)
      → b ≡ bucket_number (length es) k (rank_of e.set es)

module _ {P R : Type 0} (m : Model P R) where
  -- A region joined with the one-place regions of all entries.
  abbrev pub joined_with : R → List (Entry P) → R
  joined_with r [] = r
  joined_with r (e ∷ es) = joined_with (m.joined r (m.single e.place)) es

  -- The join of the one-place regions of a first entry and others.
  abbrev pub region_of : Entry P → List (Entry P) → R
  region_of e es = joined_with (m.single e.place) es

  -- The region of a list of entries, where it has any.
  abbrev pub region_over : List (Entry P) → Option R
  region_over [] = None
  region_over (e ∷ es) = Some (region_of e es)

  -- A region covers the place of every entry.
  abbrev pub CoversAll : R → List (Entry P) → Type 0
  CoversAll r es = (e : Entry P) → In e es → Covers m r e.place

  -- The region of entries covers every one of them, and lies within every other region that does.
  pub record RegionLaws : Type 0 where
    pub covers : (e : Entry P) (es : List (Entry P)) → CoversAll (region_of e es) (e ∷ es)
    pub least : (e : Entry P) (es : List (Entry P)) (r : R) → CoversAll r (e ∷ es) → Within m (region_of e es) r
