-- A reply for a serial, and a lost one, which could not reach the set.
use Rattle.std.specs.Prelude.{ℕ, Ok, Err, Result}
use Rattle.open_queries.specs.declared.fault.OpenFault.{OpenFault}
use Rattle.open_queries.specs.declared.fault.OpenFault.TheVariants.{NotOpen}
use Rattle.open_queries.specs.Table.{Status, absent, open_by, in_hand_by}

-- Both name the set that asked.
abbrev pub reply_answer : Status → Result ℕ OpenFault
reply_answer absent = Err NotOpen
reply_answer (open_by n) = Ok n
reply_answer (in_hand_by n) = Err NotOpen
