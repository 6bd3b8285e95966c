-- The first record of a feed, its heading, says which kind of place the later records hold.
use Rattle.std.specs.Prelude.{ℕ, cond, List, Ok, Err, Result, ◌==◌}
use Rattle.refusals.specs.declared.Part.TheVariants as part
use Rattle.refusals.specs.declared.Refusal.{Refusal}
use Rattle.refusals.specs.Words.{refusal}
use Rattle.feed.specs.declared.Heading.{Heading}
use Rattle.feed.specs.declared.Heading.TheVariants.{Plane, Course, PlaneByWater, CourseByWater}
use Rattle.feed.specs.declared.ReadFault.{ReadFault}
use Rattle.feed.specs.declared.ReadFault.TheVariants.{Cut, WrongKind, WrongLength, NoPlaceKind}
use Rattle.feed.specs.Bytes.{word_at, record_length, record_kind, whole}

-- The refusal of each fault.
abbrev pub read_refusal : ReadFault → Refusal
read_refusal Cut = refusal 6 part.Feed
read_refusal WrongKind = refusal 7 part.Feed
read_refusal WrongLength = refusal 8 part.Feed
read_refusal NoPlaceKind = refusal 10 part.Feed

-- The place kind that a heading names by its number.
abbrev pub named : ℕ → Result Heading ReadFault
named n =
    cond (n == 1) (Ok Plane)
    (cond (n == 2) (Ok Course)
    (cond (n == 3) (Ok PlaneByWater)
    (cond (n == 4) (Ok CourseByWater)
    (Err NoPlaceKind))))

-- What the first record of the bytes says: the checks in their order, and then the place kind that it names.
abbrev pub heading_of : List ℕ → Result Heading ReadFault
heading_of bytes =
    cond (whole bytes)
    (cond (record_kind bytes == 0)
    (cond (record_length bytes == 6) (named (word_at bytes 4)) (Err WrongLength))
    (Err WrongKind))
    (Err Cut)
