-- What the register refuses.
use Rattle.refusals.specs.declared.Part.TheVariants as part
use Rattle.refusals.specs.declared.Refusal.{Refusal}
use Rattle.refusals.specs.Words.{refusal}
use Rattle.kinds.specs.Faults.{kind_refusal}
use Rattle.register.specs.declared.fault.RegisterFault.{RegisterFault}
use Rattle.register.specs.declared.fault.RegisterFault.TheVariants as fault

-- The refusal of each fault. A size is the query's to choose, so the query part refuses it.
abbrev pub register_refusal : RegisterFault → Refusal
register_refusal fault.NoSuchSet = refusal 1 part.Register
register_refusal (fault.Kind e) = kind_refusal e
register_refusal fault.Size = refusal 3 part.Query
register_refusal fault.AlreadyPresent = refusal 21 part.Register
register_refusal fault.NotPresent = refusal 22 part.Register
register_refusal fault.TooFew = refusal 23 part.Register
