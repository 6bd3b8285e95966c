use Rattle.lines.proofs.MessageLaws.{message_laws}
use Rattle.lines.proofs.messages.message_laws.Goals as goal

pub returns : goal.returns
returns g c = message_laws g.P.PlaceKind.model g.met.P.PlaceKind.lawful
