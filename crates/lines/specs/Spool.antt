-- What the spool means: a ring over its slots. Free slots may hold anything.
use Rattle.std.specs.Prelude.{ℕ, ◌/◌, min, List, length}
use Rattle.lines.specs.declared.spool.Spool.{Spool}
use Rattle.lines.specs.Ring.{ring}

abbrev pub spool_waiting : Spool → List (List ℕ)
spool_waiting s = ring s.slots.now s.first s.count

abbrev pub spool_capacity : Spool → ℕ
spool_capacity s = length s.slots.now

-- The slots that so many bytes have room for, at most 1,024.
abbrev pub slots_in : ℕ → ℕ
slots_in size = min (size / 64) 1024
