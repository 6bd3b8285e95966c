-- What a table of slots says of each serial, apart from which slot says it.
use Rattle.std.specs.Prelude.{ℕ, Bool, false, cond, is_some, unwrap_or, Some, None, List, [], ◌∷◌, Option, ◌==◌}
use Rattle.std.specs.List.{count_by}
use Rattle.open_queries.specs.declared.entry.Stage.{Stage}
use Rattle.open_queries.specs.declared.entry.Stage.TheVariants.{Open, InHand}
use Rattle.open_queries.specs.declared.entry.Entry.{Entry}

-- What stands under a serial: nothing, an open query, or one in hand, which was collected and is not yet handed over or put
-- back; a query with the set that asked.
pub data Status : Type 0 where
  absent : Status
  open_by : ℕ → Status
  in_hand_by : ℕ → Status

-- What a stage and a set stand for; no stage is that no query stands.
abbrev pub staged : Option Stage → ℕ → Status
staged None n = absent
staged (Some Open) n = open_by n
staged (Some InHand) n = in_hand_by n

-- What one slot says of a serial, and whether it has it.
abbrev pub slot_status : Option Entry → ℕ → Status
slot_status None serial = absent
slot_status (Some e) serial = cond (e.serial == serial) (staged (Some e.stage) e.set) absent

abbrev pub has : ℕ → Option Entry → Bool
has serial None = false
has serial (Some e) = e.serial == serial

abbrev pub or_else : Status → Status → Status
or_else absent y = y
or_else (open_by n) y = open_by n
or_else (in_hand_by n) y = in_hand_by n

-- What the table says of a serial.
abbrev pub table_status : List (Option Entry) → ℕ → Status
table_status [] serial = absent
table_status (o ∷ os) serial = or_else (slot_status o serial) (table_status os serial)

-- How many slots have a serial.
abbrev pub holders : List (Option Entry) → ℕ → ℕ
holders slots serial = count_by (has serial) slots

-- How many slots are in use.
abbrev pub in_use : List (Option Entry) → ℕ
in_use slots = count_by is_some slots

-- The next serial as a number: 4,294,967,296 where the last was given.
abbrev pub next_number : Option ℕ → ℕ
next_number next = unwrap_or next 4294967296
