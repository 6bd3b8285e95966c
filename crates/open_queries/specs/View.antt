-- The open queries as their calls speak of them: what stands under each serial, how many stand, and the next serial. Which of
-- the 64 slots holds a query is not told, and may vary.
use Rattle.std.specs.Prelude.{ℕ}
use Rattle.open_queries.specs.declared.open_queries.OpenQueries.{OpenQueries}
use Rattle.open_queries.specs.Table.{Status, table_status, in_use, next_number}

abbrev pub status_of : OpenQueries → ℕ → Status
status_of q serial = table_status q.entries serial

-- How many queries stand, open and in hand together.
abbrev pub standing : OpenQueries → ℕ
standing q = in_use q.entries

-- The serial that the next accepted query gets; 4,294,967,296 where the last was given.
abbrev pub next_of : OpenQueries → ℕ
next_of q = next_number q.next
