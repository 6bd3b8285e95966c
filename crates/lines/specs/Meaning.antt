-- What a line means: the messages that wait in it, oldest first, and its capacity.
use Rattle.std.specs.Prelude.{ℕ, ◌-◌, cond, List, [], ◌∷◌, ◌++◌, length, Ok, Err, Result, ◌==◌}
use Rattle.lines.specs.declared.fault.LineFault.{LineFault}
use Rattle.lines.specs.declared.fault.LineFault.TheVariants.{Size, Full, Empty}

-- How many more messages a line can take.
abbrev pub spare_of : ℕ → List (List ℕ) → ℕ
spare_of capacity waiting = capacity - length waiting

-- The answer to a message that is sent: refused where it has not 64 bytes, then where nothing is spare.
abbrev pub send_answer : ℕ → List (List ℕ) → List ℕ → Result (Unit {0}) LineFault
send_answer capacity waiting message =
    cond (length message == 64)
    (cond (spare_of capacity waiting == 0) (Err Full) (Ok tt))
    (Err Size)

-- What waits then: an accepted message is added at the end.
abbrev pub after_send : Result (Unit {0}) LineFault → List (List ℕ) → List ℕ → List (List ℕ)
after_send (Ok _) waiting message = waiting ++ (message ∷ [])
after_send (Err _) waiting message = waiting

-- The answer to a take into the caller's space: refused where it has not 64 bytes, then where nothing waits.
abbrev pub take_answer : List (List ℕ) → List ℕ → Result (Unit {0}) LineFault
take_answer waiting space = cond (length space == 64) (cond (length waiting == 0) (Err Empty) (Ok tt)) (Err Size)

-- What waits then: the oldest message has left.
abbrev pub newer : List (List ℕ) → List (List ℕ)
newer [] = []
newer (m ∷ rest) = rest

abbrev pub after_take : Result (Unit {0}) LineFault → List (List ℕ) → List (List ℕ)
after_take (Ok _) waiting = newer waiting
after_take (Err _) waiting = waiting

-- The caller's space then: it holds the oldest message.
abbrev pub oldest : List (List ℕ) → List ℕ → List ℕ
oldest [] space = space
oldest (m ∷ rest) space = m

abbrev pub space_after : Result (Unit {0}) LineFault → List (List ℕ) → List ℕ → List ℕ
space_after (Ok _) waiting space = oldest waiting space
space_after (Err _) waiting space = space
