-- The answer of a query, from what the parts hold, and what the line then holds.
use Rattle.std.specs.Prelude.{◌≡◌, ℕ, true, false, cond, List, [], ◌∷◌, ◌++◌, Ok, Err, Option, Result, ◌==◌, nat_eq, nat_le}
use Rattle.kinds.specs.Rules.{Model}
use Rattle.kinds.specs.Faults.{fitted}
use Rattle.lines.specs.declared.fault.LineFault.TheVariants.{Full}
use Rattle.lines.specs.declared.fault.MessageFault.TheVariants.{Kind}
use Rattle.lines.specs.Meaning.{spare_of}
use Rattle.lines.specs.Message.{message, text_fits}
use Rattle.lines.specs.MessageFaults.{text_checked}
use Rattle.open_queries.specs.Calls.{add_answer}
use Rattle.register.specs.Answers.{asker_answer, bucket_answer}
use Rattle.calls.specs.declared.fault.CallFault.{CallFault}
use Rattle.calls.specs.declared.fault.CallFault.TheVariants as fault
use Rattle.calls.specs.declared.asking.Accepted.{Accepted}

-- One check after another: the first that refuses does so by its own fault.
abbrev pub then : {A B E F : Type 0} → (E → F) → Result A E → (A → Result B F) → Result B F
then wrap (Ok a) rest = rest a
then wrap (Err e) rest = Err (wrap e)

-- Refused where the line has room for no more messages.
abbrev pub if_spare : {A : Type 0} → ℕ → List (List ℕ) → A → Result A CallFault
if_spare capacity waiting a = cond (spare_of capacity waiting == 0) (Err (fault.Line Full)) (Ok a)

module _ {P R : Type 0} (m : Model P R) where
  -- The checks of a query in their order, over the register (its capacity, and who is present where), the open queries (how many
  -- stand, and the next serial) and the line (its capacity, and what waits). An accepted query has its asker's bucket and the
  -- next serial.
  abbrev pub query_checks : ℕ → (ℕ → Option P) → ℕ → ℕ → ℕ → List (List ℕ) → ℕ → ℕ → List ℕ → Result (Accepted R) CallFault
  query_checks capacity at standing next room waiting n k text =
      then fault.Register (asker_answer capacity n k)
      (λ _. then fault.Message (text_checked text)
      (λ _. then (λ e. fault.Message (Kind e)) (fitted m.width)
      (λ _. then fault.Register (bucket_answer m capacity at n k)
      (λ b. then fault.Open (add_answer standing next)
      (λ s. if_spare room waiting (record { bucket = b; serial = s }))))))

  -- What waits in the line then: one message more, with the region of that bucket.
  abbrev pub sent_after : Result (Accepted R) CallFault → List ℕ → List (List ℕ) → List (List ℕ)
  sent_after (Err e) text waiting = waiting
  sent_after (Ok a) text waiting = waiting ++ (message m a.serial a.bucket.region text ∷ [])

  -- What the parts of an accepted query will not refuse.
  pub record Sendable (standing next room : ℕ) (waiting : List (List ℕ)) (text : List ℕ) (serial : ℕ) : Type 0 where
    pub serial_is : add_answer standing next ≡ Ok serial
    pub text_is : text_fits text ≡ true
    pub width_is : nat_le m.width 24 ≡ true
    pub spare_is : nat_eq (spare_of room waiting) 0 ≡ false

module _ {R : Type 0} where
  -- An accepted query tells its serial.
  abbrev pub told : Result (Accepted R) CallFault → Result ℕ CallFault
  told (Err e) = Err e
  told (Ok a) = Ok a.serial
