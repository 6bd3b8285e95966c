-- The printed lines, without the line break at their end.
use Rattle.std.specs.Prelude.{ℕ, List, ◌++◌, Ok, Err, codes, decimal, Result}
use Rattle.refusals.specs.Words.{refusal_text}
use Rattle.feed.specs.declared.Heading.{Heading}
use Rattle.feed.specs.declared.ReadFault.{ReadFault}
use Rattle.feed.specs.declared.Stop.{Stop}
use Rattle.feed.specs.Heading.{read_refusal}

-- The line of a record that was accepted and answers nothing more.
abbrev pub accepted_text : ℕ → List ℕ
accepted_text number = decimal number ++ codes " ok"

-- The line of a stop: the record's number, the refusal, and the byte at which the record begins.
abbrev pub stop_text : Stop → List ℕ
stop_text s = decimal s.number ++ (codes " fault " ++ (refusal_text (read_refusal s.fault) ++ (codes " at " ++ decimal s.offset)))

-- The line of the first record, by what was read of it.
abbrev pub heading_text : Result Heading ReadFault → List ℕ
heading_text (Ok _) = accepted_text 0
heading_text (Err e) = stop_text (record { number = 0; offset = 0; fault = e })
