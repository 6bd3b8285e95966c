-- What a message is refused for, and what the line refuses.
use Rattle.std.specs.Prelude.{ℕ, cond, List, Ok, Err, Result, nat_le}
use Rattle.refusals.specs.declared.Part.TheVariants as part
use Rattle.refusals.specs.declared.Refusal.{Refusal}
use Rattle.refusals.specs.Words.{refusal}
use Rattle.kinds.specs.declared.fault.KindFault.TheVariants.{TooWide}
use Rattle.kinds.specs.Faults.{kind_refusal}
use Rattle.kinds.specs.Rules.{Model}
use Rattle.lines.specs.declared.fault.MessageFault.{MessageFault}
use Rattle.lines.specs.declared.fault.MessageFault.TheVariants as message_fault
use Rattle.lines.specs.declared.fault.LineFault.{LineFault}
use Rattle.lines.specs.declared.fault.LineFault.TheVariants as line_fault
use Rattle.lines.specs.Message.{message, text_fits}

abbrev pub message_refusal : MessageFault → Refusal
message_refusal message_fault.Text = refusal 4 part.Query
message_refusal (message_fault.Kind e) = kind_refusal e

abbrev pub line_refusal : LineFault → Refusal
line_refusal line_fault.Size = refusal 9 part.Line
line_refusal line_fault.Full = refusal 26 part.Line
line_refusal line_fault.Empty = refusal 29 part.Line

-- Whether a text can be sent.
abbrev pub text_checked : List ℕ → Result (Unit {0}) MessageFault
text_checked text = cond (text_fits text) (Ok tt) (Err message_fault.Text)

-- The message, or the first check that fails.
abbrev pub message_answer : {P R : Type 0} → Model P R → ℕ → R → List ℕ → Result (List ℕ) MessageFault
message_answer m serial region text =
    cond (text_fits text)
    (cond (nat_le m.width 24) (Ok (message m serial region text)) (Err (message_fault.Kind TooWide)))
    (Err message_fault.Text)
