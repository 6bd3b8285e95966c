use Rattle.buckets.proofs.Ahead.{ahead_laws}
use Rattle.buckets.proofs.RowLaws.{row_laws}
use Rattle.buckets.proofs.row_laws.Goals as goal

pub returns : goal.returns
returns g c =
    row_laws g.P.PlaceKind.model (ahead_laws g.P.PlaceKind.model g.met.P.PlaceKind.lawful)
