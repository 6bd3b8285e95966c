-- What a kind refuses.
use Rattle.std.specs.Prelude.{ℕ, ◌-◌, cond, List, ◌++◌, replicate, Ok, Err, Result, nat_le}
use Rattle.refusals.specs.declared.Part.TheVariants as part
use Rattle.refusals.specs.declared.Refusal.{Refusal}
use Rattle.refusals.specs.Words.{refusal}
use Rattle.kinds.specs.declared.fault.KindFault.{KindFault}
use Rattle.kinds.specs.declared.fault.KindFault.TheVariants.{NotAdmitted, TooWide}
use Rattle.kinds.specs.Rules.{Model}

-- The refusal of each fault.
abbrev pub kind_refusal : KindFault → Refusal
kind_refusal NotAdmitted = refusal 2 part.Kind
kind_refusal TooWide = refusal 5 part.Kind

-- Whether a place is admitted.
abbrev pub checked : {P R : Type 0} → Model P R → P → Result (Unit {0}) KindFault
checked m p = cond (m.admitted p) (Ok tt) (Err NotAdmitted)

-- Whether a message has room for the kind's regions, 24 bytes.
abbrev pub fitted : ℕ → Result (Unit {0}) KindFault
fitted width = cond (nat_le width 24) (Ok tt) (Err TooWide)

-- The bytes of a region of this width, and zeros up to 24.
abbrev pub padded : ℕ → List ℕ → List ℕ
padded width bytes = bytes ++ replicate (24 - width) 0

-- A region as a message holds it, where it has room.
abbrev pub region_bytes : {P R : Type 0} → Model P R → R → Result (List ℕ) KindFault
region_bytes m region = cond (nat_le m.width 24) (Ok (padded m.width (m.bytes region))) (Err TooWide)
