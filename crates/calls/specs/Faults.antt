-- What the calls refuse. A wrapped fault has the refusal of what it wraps.
use Rattle.refusals.specs.declared.Refusal.{Refusal}
use Rattle.lines.specs.MessageFaults.{message_refusal, line_refusal}
use Rattle.open_queries.specs.Calls.{open_refusal}
use Rattle.register.specs.Faults.{register_refusal}
use Rattle.calls.specs.declared.fault.CallFault.{CallFault}
use Rattle.calls.specs.declared.fault.CallFault.TheVariants as fault

abbrev pub call_refusal : CallFault → Refusal
call_refusal (fault.Register e) = register_refusal e
call_refusal (fault.Message e) = message_refusal e
call_refusal (fault.Open e) = open_refusal e
call_refusal (fault.Line e) = line_refusal e
